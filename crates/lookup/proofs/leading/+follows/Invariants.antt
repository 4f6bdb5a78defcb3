use Rattle.std.proofs.Common.{◌≡◌, drop, map}
use Rattle.config_text.specs.Forms.{form_of, forms_of}
use Rattle.lookup.specs.inside.Leading.{some_follows}
use Rattle.lookup.proofs.leading.+follows.Given as goal

abbrev pub invariant-some_follows-loop-part : goal.invariant-some_follows-loop-part
invariant-some_follows-loop-part l = some_follows l.tupleset l.relation (forms_of (map form_of (drop l.part-index l.parts))) ≡ some_follows l.tupleset l.relation (forms_of (map form_of l.parts))
