use Rattle.std.proofs.Common.{◌≡◌, map, take, drop}
use Rattle.config_text.specs.Forms.{form_of, forms_of}
use Rattle.config_text.specs.Texts.{draft_form}
use Rattle.config_text.specs.Spelling.{forms_named}
use Rattle.config_text.proofs.named.+named.Given as goal

abbrev pub invariant-name_rewrites-loop-draft : goal.invariant-name_rewrites-loop-draft
invariant-name_rewrites-loop-draft l =
    (map form_of l.rewrites.items ≡ map draft_form (take l.draft-index l.drafts))
    × (forms_named (forms_of (map draft_form (drop l.draft-index l.drafts))) ≡ forms_named (forms_of (map draft_form l.drafts)))
