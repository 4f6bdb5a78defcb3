use Rattle.std.proofs.Common.{◌≡◌, refl, ap, sym, ◌∙◌}
use Rattle.std.specs.Prelude.{Bool, true, false, not}
use Rattle.meaning.specs.Snap.{Snap}
use Rattle.meaning.specs.TupleSet as set
use Rattle.by_subject.proofs.Forgotten.{kept_without}
use Rattle.by_subject.proofs.by_subject.BySubject.forget_event.Goals as goal

was_false : (b : Bool) → not b ≡ true → b ≡ false
was_false true h = sym h
was_false false h = refl

pub returns-then-not-contains : goal.returns-then-not-contains
returns-then-not-contains c =
    kept_without c.args.rows.now c.args.floor c.tuple-tuple.result
    (was_false _ (sym c.is_unchanged.ensures ∙ c.if-is_unchanged.true))
    (ap (λ (s : Snap). set.contains s.tuples c.tuple-tuple.result) (sym c.at.ensures) ∙ sym c.if-not-contains.ensures)
    c.args.self.now c.forget.new.self c.forget.ensures
