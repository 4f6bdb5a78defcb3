use Rattle.std.proofs.Common.{Some}
use Rattle.serde_json.specs.View.{view}
use Rattle.bodies.specs.inside.Parts.{AtCause}
use Rattle.bodies.proofs.Causes.{exit}
use Rattle.bodies.proofs.Questions.{at_least_bad, exactly_bad}
use Rattle.bodies.proofs.requests.read_at.Goals as goal

pub returns-in_err-zookie-clause-err : goal.returns-in_err-zookie-clause-err
returns-in_err-zookie-clause-err c =
    exit (AtCause (Some (view c.args.at.now))) c.from_residual.result c.in_err-zookie.field-0.0 c.from_residual.ensures.1
    (at_least_bad (view c.args.at.now) c.in-Some-only_text.text.now _ c.in_err-zookie.ensures.err c.in-Some-only_text.ensures)

pub returns-in_err-zookie-2-clause-err : goal.returns-in_err-zookie-2-clause-err
returns-in_err-zookie-2-clause-err c =
    exit (AtCause (Some (view c.args.at.now))) c.from_residual-in_err-zookie-2.result c.in_err-zookie-2.field-0.0 c.from_residual-in_err-zookie-2.ensures.1
    (exactly_bad (view c.args.at.now) c.in-Some-only_text-2.text.now _ c.in_err-zookie-2.ensures.err c.in-Some-only_text-2.ensures)
