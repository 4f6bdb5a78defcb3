use Rattle.serde_json.specs.View.{view}
use Rattle.bodies.proofs.Asking.{no_part}
use Rattle.bodies.proofs.requests.catch_up_of.Goals as goal

pub returns-in_default-part_of-clause-err : goal.returns-in_default-part_of-clause-err
returns-in_default-part_of-clause-err c = no_part (view c.args.value.now) c.in-Some.word.now c.in-Some.ensures c.in_default-part_of.ensures
