use Rattle.std.specs.Prelude.{codes}
use Rattle.serde_json.specs.View.{view}
use Rattle.bodies.specs.Requests.{only_text}
use Rattle.bodies.specs.inside.Parts.{TextCause}
use Rattle.bodies.proofs.Causes.{exit, text_bad}
use Rattle.bodies.proofs.trimming.floor_of.Goals as goal

pub returns-in_err-zookie-in-Some-clause-err : goal.returns-in_err-zookie-in-Some-clause-err
returns-in_err-zookie-in-Some-clause-err c =
    let at = only_text (codes "floor") (view c.args.value.now) in
    exit (TextCause at) c.from_residual.result c.in_err-zookie-in-Some.field-0.0 c.from_residual.ensures.1
    (text_bad at c.in-Some.text.now c.in_err-zookie-in-Some.field-0.0 c.in-Some.ensures c.in_err-zookie-in-Some.ensures.err)
