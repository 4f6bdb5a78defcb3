-- The nodes of a level.
use Rattle.std.specs.Prelude.{◌≡◌, ℕ, ◌<◌, ◌⊎◌, List, Contains, length, slice_index, slice_index_or}
use Rattle.names.specs.declared.object.Object.{Object}
use Rattle.names.specs.declared.node.Node.{Node}
use Rattle.meaning.specs.Config.{rel_of}
use Rattle.config_text.specs.declared.relation.Relation.{Relation}
use Rattle.plain.specs.declared.source.Source.{Source}

-- the node's relation stands at a place before i, with level k
abbrev pub IsPlaced : Source → ℕ → ℕ → Node → Type 0
IsPlaced s i k m = (j : ℕ) × (r : Relation) × (j < i) × (slice_index_or s.relations.now j r ≡ r) × (r.name ≡ rel_of m) × (slice_index s.levels.now j ≡ k)

-- the list has gained the nodes of the object whose relations stand before i, with level k
pub record GainsNodes (s : Source) (object : Object) (i k : ℕ) (old new : List Node) : Type 0 where
  pub remains : (m : Node) → Contains old m → Contains new m
  pub gained : (m : Node) → m.object ≡ object → IsPlaced s i k m → Contains new m
  pub only : (m : Node) → Contains new m → Contains old m ⊎ ((m.object ≡ object) × IsPlaced s i k m)

-- the list has gained the nodes of the object whose relations have level k
abbrev pub GainsLevel : Source → Object → ℕ → List Node → List Node → Type 0
GainsLevel s object k old new = GainsNodes s object (length s.relations.now) k old new

-- the list has the nodes of the objects before i whose relations have level k
pub record HasNodes (s : Source) (objects : List Object) (i k : ℕ) (nodes : List Node) : Type 0 where
  pub all : (o : Object) (j : ℕ) (m : Node) → j < i → slice_index_or objects j o ≡ o → m.object ≡ o → IsPlaced s (length s.relations.now) k m → Contains nodes m
  pub only : (m : Node) → Contains nodes m → Contains objects m.object × IsPlaced s (length s.relations.now) k m

-- the list has the nodes of the objects whose relations have level k
abbrev pub HasLevel : Source → List Object → ℕ → List Node → Type 0
HasLevel s objects k nodes = HasNodes s objects (length objects) k nodes
