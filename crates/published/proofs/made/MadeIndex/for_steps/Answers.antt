use Rattle.std.proofs.Common.{◌≤◌, ℕ, subst, sym, arith}
use Rattle.meaning.specs.Snap.{Snap}
use Rattle.rows.specs.Retained.{IsRetained}
use Rattle.shown.specs.Adopting.{IsMadeOf}
use Rattle.shown.specs.Standing.{standing}
use Rattle.published.proofs.Rising.{rise}
use Rattle.published.proofs.made.MadeIndex.for_steps.Goals as goal

pub returns : goal.returns
returns g c =
    let m = c.self.inside in
    let steps = c.args.steps.now.steps in
    let kept = c.self.invariant.kept in
    let begins = c.if-not-begins.ensures in
    let rises = rise m.of.steps steps kept.judged c.requires.judged begins.1 in
    let below = kept.retained.not_above in
    let there = rises.newest_there in
    let later : IsRetained (standing steps).kept m.rev = record {
      not_below = subst (λ (n : ℕ). n ≤ m.rev) c.requires.floor c.if-self-floor.false;
      not_above = omega (arith, below, there);
    } in
    record {
      retained = later;
      made = subst (λ (S : Snap). IsMadeOf S m.rev m.index) (sym (rises.snaps m.rev kept.retained later)) c.self.invariant.made;
    }
