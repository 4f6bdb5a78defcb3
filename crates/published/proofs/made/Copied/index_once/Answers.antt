use Rattle.std.proofs.Common.{subst, sym}
use Rattle.meaning.specs.Snap.{Snap}
use Rattle.rows.specs.Retained.{snap_at}
use Rattle.shown.specs.Adopting.{IsMadeOf}
use Rattle.shown.specs.Standing.{standing}
use Rattle.published.specs.Known.{Known}
use Rattle.published.specs.Copied.{IsMadeIn}
use Rattle.published.proofs.made.Copied.index_once.Goals as goal

pub invariant_of-result : goal.invariant_of-result
invariant_of-result g c =
    let rev = c.self.inside.rev in
    let index = c.in_ok-index.index in
    let made = c.in_ok-index.ensures in
    subst (λ (k : Known). IsMadeIn g.J.Naming.book k rev index) (sym c.again.ensures)
    (record {
      kept = c.self.invariant.kept;
      made = subst (λ (S : Snap). IsMadeOf S rev index) c.self.invariant.same (record { index_of = made.index; base = made.base; cursor = made.cursor });
    })
