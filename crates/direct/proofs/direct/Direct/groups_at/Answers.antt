use Rattle.std.proofs.Common.{ℕ, List, subst}
use Rattle.std.specs.Prelude.{Contains}
use Rattle.meaning.proofs.Lists.{contains_none}
use Rattle.leopard.specs.Groups.{MemberToGroup}
use Rattle.direct.specs.inside.Listing.{AreNamed}
use Rattle.direct.proofs.Revised.{named_answer, if_ok}
use Rattle.direct.proofs.direct.Direct.groups_at.Goals as goal

pub returns-in-Some : goal.returns-in-Some
returns-in-Some c = if_ok _ _ c.named.result
    (λ v named snaps of from to n. named_answer c.args.self.now.kept.groups c.in-Some.ids.now v.items (MemberToGroup (snaps c.args.rev) c.args.user.now)
    (subst (λ (xs : List ℕ). AreNamed c.args.self.now.kept.groups xs v.items) c.as_slice.ensures.ids named) (c.in-Some.ensures.kept snaps of from to) n)
    c.named.ensures

pub returns-in-None : goal.returns-in-None
returns-in-None c = λ snaps of from to n. (
  λ h. absurd (contains_none n (subst (λ xs. Contains xs n) c.new.ensures.items h)),
  λ m. absurd (c.in-None.ensures.none snaps of from to n m),
)
