-- Why a lookup is refused.
use Rattle.std.specs.Prelude.{◌≡◌, false}
use Rattle.names.specs.declared.refusal.Refusal.{Refusal}
use Rattle.names.specs.declared.refusal.Refusal.TheVariants.{UnknownRelation, Memory}
use Rattle.meaning.specs.Admits.{has_relation}
use Rattle.meaning.specs.Snap.{Snap}
use Rattle.lookup.specs.declared.asked.Lookup.{Lookup}

-- the namespace lacks the relation, or there was no memory
abbrev pub LookupCause : Snap → Lookup → Refusal → Type 0
LookupCause S asked UnknownRelation = has_relation S.config asked.relation ≡ false
LookupCause S asked Memory = Unit {0}
LookupCause S asked _ = ⊥
