use Rattle.std.proofs.Common.{◌≡◌, ℕ, ◌<◌, get_or}
use Rattle.std.specs.Prelude.{Contains, None}
use Rattle.config_text.specs.declared.relation.Relation.{Relation}
use Rattle.config_text.specs.Forms.{defined_of}
use Rattle.config.proofs.steps.leads.Given as goal

abbrev pub invariant-loop-other : goal.invariant-loop-other
invariant-loop-other l = (k : ℕ) (e : Relation) → k < l.other-index → get_or l.parts.relations.items k e ≡ e → (defined_of e).rel ≡ record { namespace = l.relation.name.namespace; relation = l.tupleset } → Contains e.types.items (record { namespace = l.namespace; relation = None }) → ⊥
