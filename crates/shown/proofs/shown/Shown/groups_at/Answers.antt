use Rattle.shown.proofs.Outcomes.{ok_then, if_ok, if_err}
use Rattle.shown.proofs.shown.Shown.groups_at.Goals as goal

pub returns-in-Some-clause-ok : goal.returns-in-Some-clause-ok
returns-in-Some-clause-ok c = ok_then _ c.first_groups.result (λ v h. h _ c.in-Some.ensures) c.first_groups.ensures.ok

pub returns-in-Some-clause-groups : goal.returns-in-Some-clause-groups
returns-in-Some-clause-groups c = if_ok _ _ c.first_groups.result (λ v h. h _ c.in-Some.ensures) c.first_groups.ensures.groups

pub returns-in-Some-clause-err : goal.returns-in-Some-clause-err
returns-in-Some-clause-err c = if_err _ _ c.first_groups.result (λ v h. h _ c.in-Some.ensures) c.first_groups.ensures.err
