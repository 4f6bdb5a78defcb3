use Rattle.std.proofs.Common.{◌≡◌, drop, map}
use Rattle.config.specs.Valid.{forms_indexable}
use Rattle.config_text.specs.Forms.{form_of, forms_of}
use Rattle.config_text.specs.Parts.{configured}
use Rattle.config.proofs.causes.+indexable.Given as goal

abbrev pub invariant-rewrites_are_indexable-loop-part : goal.invariant-rewrites_are_indexable-loop-part
invariant-rewrites_are_indexable-loop-part l = forms_indexable (configured l.namespaces l.relations) l.namespace (forms_of (map form_of (drop l.part-index l.parts))) ≡ forms_indexable (configured l.namespaces l.relations) l.namespace (forms_of (map form_of l.parts))
