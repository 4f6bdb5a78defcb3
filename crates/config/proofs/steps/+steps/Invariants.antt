use Rattle.std.proofs.Common.{drop}
use Rattle.std.specs.Prelude.{◌↔◌, map}
use Rattle.meaning.specs.Config.{SomeStepsTo}
use Rattle.config_text.specs.Forms.{form_of, forms_of, defined_of}
use Rattle.config_text.specs.Parts.{parts_of}
use Rattle.config.proofs.steps.+steps.Given as goal

abbrev pub invariant-some_steps_to-loop-rewrite : goal.invariant-some_steps_to-loop-rewrite
invariant-some_steps_to-loop-rewrite l =
    SomeStepsTo (parts_of l.parts) (defined_of l.relation) (forms_of (map form_of (drop l.rewrite-index l.rewrites))) l.subtracted l.to ↔ SomeStepsTo (parts_of l.parts) (defined_of l.relation) (forms_of (map form_of l.rewrites)) l.subtracted l.to
