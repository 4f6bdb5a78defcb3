use Rattle.std.proofs.Common.{◌∙◌, sym}
use Rattle.rows.proofs.Known.{all_known}
use Rattle.rows.proofs.verdict.some_refused.Goals as goal

pub returns-clause-known : goal.returns-clause-known
returns-clause-known c = λ no. all_known c.args.config.now c.args.ops.now (sym c.some_untyped.ensures ∙ no)
