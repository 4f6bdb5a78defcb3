-- Why a question about a node is refused.
use Rattle.std.specs.Prelude.{◌≡◌, false}
use Rattle.names.specs.declared.node.Node.{Node}
use Rattle.names.specs.declared.refusal.Refusal.{Refusal}
use Rattle.names.specs.declared.refusal.Refusal.TheVariants.{UnknownRelation, Memory}
use Rattle.meaning.specs.Config.{rel_of}
use Rattle.meaning.specs.Admits.{has_relation}
use Rattle.meaning.specs.Snap.{Snap}

-- the node's relation is not in the configuration, or there was no memory
abbrev pub CheckCause : Snap → Node → Refusal → Type 0
CheckCause S n UnknownRelation = has_relation S.config (rel_of n) ≡ false
CheckCause S n Memory = Unit {0}
CheckCause S n _ = ⊥
