use Rattle.verdict.proofs.Judging.{expired, failing, holding}
use Rattle.verdict.proofs.conditions.judge_conditions.Goals as goal

pub returns-then-some_expired-clause-err : goal.returns-then-some_expired-clause-err
returns-then-some_expired-clause-err c =
    expired c.args.rows.now c.args.conditions.now _ _ _ _ _ _ c.some_foreign.ensures c.number.ensures c.if-some_foreign.false c.some_future.ensures c.newest.ensures.newest c.if-some_future.false
    c.some_expired.ensures c.floor.ensures c.if-some_expired.true

pub returns-in-Some-clause-err : goal.returns-in-Some-clause-err
returns-in-Some-clause-err c =
    failing c.args.rows.now c.args.conditions.now _ _ _ _ _ _ c.some_foreign.ensures c.number.ensures c.if-some_foreign.false c.some_future.ensures c.newest.ensures.newest c.if-some_future.false
    c.some_expired.ensures c.floor.ensures c.if-some_expired.false c.in-Some.place c.in-Some.ensures

pub returns-in-None-clause-ok : goal.returns-in-None-clause-ok
returns-in-None-clause-ok c =
    holding c.args.rows.now c.args.conditions.now _ _ _ _ _ _ c.some_foreign.ensures c.number.ensures c.if-some_foreign.false c.some_future.ensures c.newest.ensures.newest c.if-some_future.false
    c.some_expired.ensures c.floor.ensures c.if-some_expired.false c.in-None.ensures
