use Rattle.std.proofs.Common.{sym, subst}
use Rattle.rows.specs.Retained.{Retained}
use Rattle.shown.proofs.Following.{sound_above, above_floor}
use Rattle.shown.specs.inside.Basing.{AreKeptSubjects}
use Rattle.shown.proofs.shown.Shown.raise.Goals as goal

pub invariant_of-self : goal.invariant_of-self
invariant_of-self c =
    let raised = c.trim.ensures.raised (above_floor _ c.args.self.now c.args.floor c.self.view_is c.requires) in (
      sound_above _ c.args.self.now c.self.inside.groups c.raise.new.index c.self.inside.members c.args.floor c.trim.new.self c.self.view_is c.requires c.self.invariant.0 c.raise.ensures c.trim.ensures.raised,
      subst (λ (x : Retained). AreKeptSubjects x c.subjects_from.result) (sym raised) (c.subjects_from.ensures (subst (AreKeptSubjects c.self.inside.rows) (sym c.take.ensures.value) c.self.invariant.1)),
    )
