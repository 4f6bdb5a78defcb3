-- Why a tuple is not admitted.
use Rattle.std.specs.Prelude.{◌≡◌, true, false}
use Rattle.names.specs.declared.tuple.Tuple.{Tuple}
use Rattle.names.specs.declared.refusal.Refusal.{Refusal}
use Rattle.names.specs.declared.refusal.Refusal.TheVariants.{UnknownRelation, TypeRefused}
use Rattle.meaning.specs.Config.{Configured, rel_of}
use Rattle.meaning.specs.Admits.{has_relation, admits}

-- its relation is not there; or it is, and declares no type of the subject
abbrev pub AdmitCause : Configured → Tuple → Refusal → Type 0
AdmitCause config t UnknownRelation = has_relation config (rel_of t.node) ≡ false
AdmitCause config t TypeRefused = (has_relation config (rel_of t.node) ≡ true) × (admits config t ≡ false)
AdmitCause config t _ = ⊥
