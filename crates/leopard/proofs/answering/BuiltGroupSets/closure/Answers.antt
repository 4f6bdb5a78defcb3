use Rattle.leopard.specs.Index.{LeadsTo}
use Rattle.leopard.specs.Groups.{GroupToGroup}
use Rattle.leopard.proofs.Finding.{found_as, if_ok}
use Rattle.leopard.proofs.answering.BuiltGroupSets.closure.Goals as goal

pub returns : goal.returns
returns c = if_ok _ _ c.closure_of.result
    (λ f are S told group. found_as c.args.self.now.groups (LeadsTo c.args.self.now c.args.group.now) (GroupToGroup S c.args.group.now) f.ids f.others.keys (λ n. told.0.closures c.args.group.now n group) are)
    c.closure_of.ensures
