use Rattle.std.proofs.Common.{◌≡◌, drop, map}
use Rattle.config.specs.Valid.{forms_compute}
use Rattle.config_text.specs.Forms.{form_of, forms_of}
use Rattle.config_text.specs.Parts.{configured}
use Rattle.config.proofs.rewrites.+computes.Given as goal

abbrev pub invariant-rewrites_compute-loop-part : goal.invariant-rewrites_compute-loop-part
invariant-rewrites_compute-loop-part l = forms_compute (configured l.namespaces l.relations) l.namespace (forms_of (map form_of (drop l.part-index l.parts))) ≡ forms_compute (configured l.namespaces l.relations) l.namespace (forms_of (map form_of l.parts))
