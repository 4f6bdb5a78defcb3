use Rattle.std.proofs.Common.{◌≡◌, drop, map}
use Rattle.config_text.specs.Forms.{form_of, forms_of}
use Rattle.lookup.specs.inside.Leading.{some_computes}
use Rattle.lookup.proofs.leading.+computes.Given as goal

abbrev pub invariant-some_computes-loop-part : goal.invariant-some_computes-loop-part
invariant-some_computes-loop-part l = some_computes l.relation (forms_of (map form_of (drop l.part-index l.parts))) ≡ some_computes l.relation (forms_of (map form_of l.parts))
