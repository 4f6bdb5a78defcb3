use Rattle.std.proofs.Common.{take, map}
use Rattle.config_text.specs.Forms.{defined_of}
use Rattle.config_text.specs.Texts.{relation_texts}
use Rattle.config_text.specs.Spelling.{IsNamed, defined_texts, AreSpelled}
use Rattle.config_text.proofs.parts.read_relations.Given as goal

abbrev pub invariant-loop-draft : goal.invariant-loop-draft
invariant-loop-draft l = AreSpelled defined_texts IsNamed (map relation_texts (take l.draft-index l.drafts)) (map defined_of l.relations.items)
