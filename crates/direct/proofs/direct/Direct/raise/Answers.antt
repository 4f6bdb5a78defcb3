use Rattle.std.proofs.Common.{◌≡◌, nat_lt, refl, ap, ◌∙◌, rules}
use Rattle.std.specs.Prelude.{filter}
use Rattle.std.proofs.lemmas.Fn.{filter_same}
use Rattle.direct.specs.declared.noted.EarlierGroups.{EarlierGroups}
use Rattle.direct.specs.Before.{set_at}
use Rattle.direct.proofs.Past.{set_filtered, up_to_filtered}
use Rattle.direct.proofs.Revised.{direct_rebased}
use Rattle.direct.proofs.direct.Direct.raise.Goals as goal

pub invariant_of-self : goal.invariant_of-self
invariant_of-self c =
    let later : c.retain.new.self.items ≡ filter (λ (e : EarlierGroups). nat_lt c.args.rev e.rev) c.args.self.now.earlier.items = filter_same _ _ _ (λ x b f' k. search rules) _ _ c.retain.ensures.filtered in
    record { noted = up_to_filtered c.args.rev c.args.self.now.cursor c.args.self.now.earlier.items c.retain.new.self.items later c.args.self.now.noted }

pub returns-clause-direct : goal.returns-clause-direct
returns-clause-direct c =
    let later : c.retain.new.self.items ≡ filter (λ (e : EarlierGroups). nat_lt c.args.rev e.rev) c.args.self.now.earlier.items = filter_same _ _ _ (λ x b f' k. search rules) _ _ c.retain.ensures.filtered in
    λ snaps is above. direct_rebased c.args.self.now _ c.args.rev refl refl refl refl c.requires
    (λ sets user r le. ap (λ es. set_at es sets user r) later ∙ set_filtered c.args.rev c.args.self.now.earlier.items sets user r le) snaps is above
