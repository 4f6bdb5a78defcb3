use Rattle.leopard.specs.Index.{NamesUser}
use Rattle.leopard.specs.Groups.{MemberToGroup}
use Rattle.leopard.proofs.Finding.{found_as, if_ok}
use Rattle.leopard.proofs.answering.BuiltGroupSets.direct.Goals as goal

pub returns : goal.returns
returns c = if_ok _ _ c.direct_of.result
    (λ f are S told. found_as c.args.self.now.groups (NamesUser c.args.self.now c.args.user.now) (MemberToGroup S c.args.user.now) f.ids f.others.keys (λ n. told.0.direct c.args.user.now n) are)
    c.direct_of.ensures
