use Rattle.std.proofs.Common.{◌∙◌, sym, refl}
use Rattle.std.specs.Prelude.{codes}
use Rattle.names.proofs.Readings.{malformed_exit}
use Rattle.serde_json.specs.View.{view}
use Rattle.bodies.proofs.AskedConditions.{no_tuple, no_tuple_since, asks_exists, asks_absent, asks_unchanged, asks_badly}
use Rattle.bodies.proofs.conditions.read_condition.Goals.{in-Ok, in-Err}
use Rattle.bodies.proofs.conditions.read_condition.Goals as goal

pub returns-in_err-tuple-clause-err : goal.returns-in_err-tuple-clause-err
returns-in_err-tuple-clause-err c =
    malformed_exit c.from_residual.result c.in_err-tuple.field-0.0 c.from_residual.ensures.1
    (no_tuple (view c.args.value.now) c.in-Some.word.now c.in-Some.ensures (codes "exists") (sym c.eq.ensures ∙ c.if-eq.true) refl) c.in_err-tuple.ensures.err

pub returns-then-eq-clause-ok : goal.returns-then-eq-clause-ok
returns-then-eq-clause-ok c =
    asks_exists (view c.args.value.now) c.in-Some.word.now c.in-Some.ensures c.in_ok-tuple.tuple (sym c.eq.ensures ∙ c.if-eq.true) c.in_ok-tuple.ensures.ok

pub returns-in_err-tuple-2-clause-err : goal.returns-in_err-tuple-2-clause-err
returns-in_err-tuple-2-clause-err c =
    malformed_exit c.from_residual-in_err-tuple-2.result c.in_err-tuple-2.field-0.0 c.from_residual-in_err-tuple-2.ensures.1
    (no_tuple (view c.args.value.now) c.in-Some.word.now c.in-Some.ensures (codes "absent") (sym c.eq-2.ensures ∙ c.if-eq-2.true) refl) c.in_err-tuple-2.ensures.err

pub returns-then-eq-2-clause-ok : goal.returns-then-eq-2-clause-ok
returns-then-eq-2-clause-ok c =
    asks_absent (view c.args.value.now) c.in-Some.word.now c.in-Some.ensures c.in_ok-tuple-2.tuple (sym c.eq-2.ensures ∙ c.if-eq-2.true) c.in_ok-tuple-2.ensures.ok

pub returns-in_err-tuple-3-clause-err : goal.returns-in_err-tuple-3-clause-err
returns-in_err-tuple-3-clause-err c =
    malformed_exit c.from_residual-in_err-tuple-3.result c.in_err-tuple-3.field-0.0 c.from_residual-in_err-tuple-3.ensures.1
    (no_tuple_since (view c.args.value.now) c.in-Some.word.now c.in-Some.ensures (sym c.eq-3.ensures ∙ c.if-eq-3.true)) c.in_err-tuple-3.ensures.err

pub returns-then-eq-3-clause-ok : goal.returns-then-eq-3-clause-ok
returns-then-eq-3-clause-ok c =
    let d = view c.args.value.now in
    let there = c.in-Some.ensures in
    let t = c.in_ok-tuple-3.tuple in
    let of = c.in_ok-tuple-3.ensures.ok in
    elim c.match-zookie_of.branch [
      | in-Ok w ↦ rw w.result-is (asks_unchanged d c.in-Some.word.now there t c.in_ok-tuple-3.since.now (sym c.eq-3.ensures ∙ c.if-eq-3.true) of w.in-Ok.zookie w.in-Ok.ensures.ok)
      | in-Err w ↦ rw w.result-is (asks_badly d c.in-Some.word.now there t c.in_ok-tuple-3.since.now (sym c.eq-3.ensures ∙ c.if-eq-3.true) of w.in-Err.ensures.err.1)
    ]
