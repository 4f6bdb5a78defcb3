-- What the rounds read, and what a tuple does.
use Rattle.std.specs.Prelude.{◌≡◌, ℕ, ◌<◌, ◌^◌, List, [], Bool, Option, Some, None, All, Contains, map}
use Rattle.std.specs.List.{list_any}
use Rattle.names.specs.declared.object.Object.{Object}
use Rattle.names.specs.declared.node.Node.{Node}
use Rattle.names.specs.declared.tuple.Tuple.{Tuple}
use Rattle.meaning.specs.TupleSet as set
use Rattle.meaning.specs.Admits.{is_relation}
use Rattle.meaning.specs.Config.{Configured, Has, IsWhole}
use Rattle.meaning.specs.Snap.{Snap, one}
use Rattle.config_text.specs.declared.relation.Relation.{Relation}
use Rattle.config.specs.Forms.{defined_of}
use Rattle.config.specs.Levels.{AreLevels}
use Rattle.plain.specs.declared.source.Source.{Source}

-- the relations, as a configuration; no membership depends on its namespaces
abbrev pub config_of : List Relation → Configured
config_of relations = record { namespaces = []; relations = map defined_of relations }

-- whether one of the relations is the namespace's of that name
abbrev pub defines : List Relation → List ℕ → List ℕ → Bool
defines relations namespace name = list_any (is_relation (record { namespace = namespace; relation = name })) (map defined_of relations)

-- the snapshot that is read
abbrev pub snap_of : Source → Snap
snap_of s = record { config = config_of s.relations.now; tuples = set.from_list s.tuples.now.keys }

-- the levels are right, and no intersection is empty
pub record IsReady (s : Source) : Type 0 where
  pub levels_right : AreLevels (snap_of s).config s.levels.now
  pub small : All (λ l. l < 2 ^ 32) s.levels.now
  pub whole : All (λ d. IsWhole d.form) (snap_of s).config.relations

-- the source is one of the snapshot
pub record IsSourceOf (S : Snap) (s : Source) : Type 0 where
  pub relations : map defined_of s.relations.now ≡ S.config.relations
  pub tuples : set.from_list s.tuples.now.keys ≡ S.tuples
  pub ready : IsReady s

-- the node of the object and the relation
abbrev pub node_of : Object → List ℕ → Node
node_of o relation = record { object = o; relation = relation }

-- the tuple is of a node of the object
abbrev pub IsOf : Object → Tuple → Type 0
IsOf o t = t.node.object ≡ o

-- the tuple's subject is the user
abbrev pub Names : Object → Tuple → Type 0
Names u t = t.subject ≡ one u

-- a subject gives the user, by itself or by a node that is held
abbrev pub GrantsBy : Object → List Node → Object → Option (List ℕ) → Type 0
GrantsBy u held o None = o ≡ u
GrantsBy u held o (Some r) = Contains held (record { object = o; relation = r })

-- a tuple gives the node the user
abbrev pub Grants : Node → Object → List Node → Tuple → Type 0
Grants n u held t = (t.node ≡ n) × GrantsBy u held t.subject.object t.subject.relation

-- a subject is an object of which the relation is held
abbrev pub LeadsBy : Configured → List ℕ → List Node → Object → Option (List ℕ) → Type 0
LeadsBy config c held p None = Has config (record { namespace = p.namespace; relation = c }) × Contains held (record { object = p; relation = c })
LeadsBy config c held p (Some r) = ⊥

-- a tuple leads from the tupleset's node to an object of which the relation is held
abbrev pub LeadsOn : List Relation → Object → List ℕ → List ℕ → List Node → Tuple → Type 0
LeadsOn relations o tupleset c held t = (t.node ≡ record { object = o; relation = tupleset }) × LeadsBy (config_of relations) c held t.subject.object t.subject.relation
