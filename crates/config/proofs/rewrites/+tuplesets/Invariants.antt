use Rattle.std.proofs.Common.{◌≡◌, drop, map}
use Rattle.config.specs.Valid.{all_tuplesets_fit}
use Rattle.config_text.specs.Forms.{form_of, forms_of}
use Rattle.config_text.specs.Parts.{configured}
use Rattle.config.proofs.rewrites.+tuplesets.Given as goal

abbrev pub invariant-all_tuplesets_fit-loop-part : goal.invariant-all_tuplesets_fit-loop-part
invariant-all_tuplesets_fit-loop-part l = all_tuplesets_fit (configured l.namespaces l.relations) l.namespace (forms_of (map form_of (drop l.part-index l.parts))) ≡ all_tuplesets_fit (configured l.namespaces l.relations) l.namespace (forms_of (map form_of l.parts))
