use Rattle.tuple_keys.proofs.Sameness.{same_relation}
use Rattle.tuple_keys.proofs.subject_ref.is_relation.Goals as goal

pub returns-in-Some-Some : goal.returns-in-Some-Some
returns-in-Some-Some c = same_relation c.args.text c.args.relation.now c.in-Some-Some.text _ c.as_str.result.now c.eq.result c.in-Some-Some.is-0 c.in-Some-Some.is-1 c.as_str.ensures.text c.eq.ensures
