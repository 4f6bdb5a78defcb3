use Rattle.names.proofs.Readings.{read_exit}
use Rattle.config_text.specs.Texts.{config_texts}
use Rattle.config_text.proofs.Spelt.{no_namespaces}
use Rattle.config_text.proofs.parts.read_parts.Goals as goal

pub returns-in_err-namespaces-clause-err : goal.returns-in_err-namespaces-clause-err
returns-in_err-namespaces-clause-err c = read_exit c.from_residual.result c.in_err-namespaces.field-0.0 c.from_residual.ensures.1
    (no_namespaces (config_texts c.args.draft.now)) (rw c.deref.ensures.value at c.in_err-namespaces.ensures.err)
