use Rattle.config_text.specs.Parts.{parts_of}
use Rattle.config_text.specs.Texts.{config_texts}
use Rattle.config_text.proofs.Described.{spelled_ordered, described_parts}
use Rattle.config_text.proofs.reading.read_configuration.Goals as goal

pub returns-in-Ok-clause-ordered : goal.returns-in-Ok-clause-ordered
returns-in-Ok-clause-ordered c = spelled_ordered (config_texts c.in_ok-draft.draft) (parts_of c.in-Ok.parts) c.in_ok-draft.ensures.ordered c.in-Ok.ensures.ok

pub returns-in-Ok-clause-parts : goal.returns-in-Ok-clause-parts
returns-in-Ok-clause-parts c = described_parts c.args.bytes.now (parts_of c.in-Ok.parts)
    (record { texts = config_texts c.in_ok-draft.draft; says = c.in_ok-draft.ensures.ok; spells = c.in-Ok.ensures.ok })
