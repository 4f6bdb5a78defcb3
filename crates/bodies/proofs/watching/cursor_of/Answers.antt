use Rattle.std.specs.Prelude.{codes}
use Rattle.serde_json.specs.View.{view}
use Rattle.config_text.specs.Objects.{text_at}
use Rattle.bodies.specs.inside.Parts.{TextCause}
use Rattle.bodies.proofs.Causes.{exit, text_bad}
use Rattle.bodies.proofs.watching.cursor_of.Goals as goal

pub returns-in_err-zookie-in-Some-clause-err : goal.returns-in_err-zookie-in-Some-clause-err
returns-in_err-zookie-in-Some-clause-err c =
    let at = text_at (codes "cursor") (view c.args.value.now) in
    exit (TextCause at) c.from_residual.result c.in_err-zookie-in-Some.field-0.0 c.from_residual.ensures.1
    (text_bad at c.in-Some.text.now c.in_err-zookie-in-Some.field-0.0 c.in-Some.ensures c.in_err-zookie-in-Some.ensures.err)
