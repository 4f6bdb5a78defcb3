use Rattle.std.proofs.Common.{sym, subst}
use Rattle.rows.specs.Retained.{Retained}
use Rattle.shown.specs.inside.Basing.{AreKeptSubjects}
use Rattle.shown.proofs.Taking.{sound_first}
use Rattle.shown.proofs.shown.Shown.open.Goals as goal

pub invariant_of-self : goal.invariant_of-self
invariant_of-self c = (
  sound_first c.in_ok-rows.rows c.newest-newest.result c.clear.new.self.items c.newest-newest.ensures.newest c.clear.ensures.items,
  subst (λ (r : Retained). AreKeptSubjects r c.subjects_of.result) (sym c.in_ok-rows.ensures) c.subjects_of.ensures,
)
