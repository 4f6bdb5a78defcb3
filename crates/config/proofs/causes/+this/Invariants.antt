use Rattle.std.proofs.Common.{◌≡◌, drop, map}
use Rattle.config.specs.Valid.{some_use_this}
use Rattle.config_text.specs.Forms.{form_of, forms_of}
use Rattle.config.proofs.causes.+this.Given as goal

abbrev pub invariant-some_use_this-loop-part : goal.invariant-some_use_this-loop-part
invariant-some_use_this-loop-part l = some_use_this (forms_of (map form_of (drop l.part-index l.parts))) ≡ some_use_this (forms_of (map form_of l.parts))
