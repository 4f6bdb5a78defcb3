use Rattle.config_text.specs.Parts.{configured}
use Rattle.config_text.proofs.Plain.{ok_text}
use Rattle.config_text.proofs.ReadBack.{ok_described}
use Rattle.config_text.proofs.canonical.text_of.Goals as goal

pub returns-clause-text : goal.returns-clause-text
returns-clause-text c = ok_text c.to_string.result (configured c.args.namespaces.now c.args.relations.now) _ c.in_ok-config_value.ensures c.to_string.ensures.text

pub returns-clause-read_back : goal.returns-clause-read_back
returns-clause-read_back c = ok_described c.to_string.result (configured c.args.namespaces.now c.args.relations.now) _ c.in_ok-config_value.ensures c.to_string.ensures.reads_back
