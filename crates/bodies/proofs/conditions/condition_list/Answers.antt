use Rattle.std.proofs.Common.{arith}
use Rattle.serde_json.specs.View.{view}
use Rattle.bodies.specs.inside.Conditions.{ListCause}
use Rattle.bodies.proofs.Causes.{exit}
use Rattle.bodies.proofs.AskedConditions.{listed_many, listed_cause, listed_asks}
use Rattle.bodies.proofs.conditions.condition_list.Goals as goal

pub returns-then-len-gt-MAX_CONDITIONS-clause-err : goal.returns-then-len-gt-MAX_CONDITIONS-clause-err
returns-then-len-gt-MAX_CONDITIONS-clause-err c =
    listed_many _ c.in-Some.items.now.items c.in-Some.ensures (grind (arith, c.len.ensures, c.if-len-gt-MAX_CONDITIONS.true, c.in-Some.items.now.ok))

pub returns-in_err-conditions-clause-err : goal.returns-in_err-conditions-clause-err
returns-in_err-conditions-clause-err c =
    exit (ListCause (view c.args.value.now)) c.from_residual.result c.in_err-conditions.field-0.0 c.from_residual.ensures.1
    (listed_cause _ c.in-Some.items.now.items c.in-Some.ensures (grind (arith, c.len.ensures, c.if-len-gt-MAX_CONDITIONS.false, c.in-Some.items.now.ok)) c.in_err-conditions.field-0.0 c.in_err-conditions.ensures.err)

pub returns-clause-ok : goal.returns-clause-ok
returns-clause-ok c =
    rw c.of.ensures (listed_asks _ c.in-Some.items.now.items c.in-Some.ensures (grind (arith, c.len.ensures, c.if-len-gt-MAX_CONDITIONS.false, c.in-Some.items.now.ok)) _ c.in_ok-conditions.ensures.ok)
