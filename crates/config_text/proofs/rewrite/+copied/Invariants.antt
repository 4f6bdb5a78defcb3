use Rattle.std.proofs.Common.{◌≡◌, map, take}
use Rattle.config_text.specs.Forms.{form_of}
use Rattle.config_text.proofs.rewrite.+copied.Given as goal

abbrev pub invariant-all_copied-loop-part : goal.invariant-all_copied-loop-part
invariant-all_copied-loop-part l = map form_of l.copies.items ≡ map form_of (take l.part-index l.parts)
