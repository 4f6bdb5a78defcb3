-- Configurations (Zanzibar, section 2.3), and how their relations depend on each other.
use Rattle.std.specs.Prelude.{◌≡◌, ℕ, List, [], Bool, true, false, Some, None, ◌⊎◌, Contains}
use Rattle.names.specs.declared.node.Node.{Node}
use Rattle.names.specs.declared.relation.RelationName.{RelationName}
use Rattle.names.specs.declared.relation.SubjectType.{SubjectType}
use Rattle.meaning.specs.Form.{Form, Forms, This, Computed, TupleTo, Union, Intersection, Exclusion, none, more}
use Rattle.meaning.specs.Levels.{IsLevel}

-- A relation of a configuration: its declared types (OpenFGA's type restrictions), its rewrite, and whether it is indexed.
pub record Defined : Type 0 where
  pub rel : RelationName
  pub types : List SubjectType
  pub form : Form
  pub indexed : Bool

-- A configuration: its namespaces, and the relations of all of them.
pub record Configured : Type 0 where
  pub namespaces : List (List ℕ)
  pub relations : List Defined

-- the configuration of revision 0
abbrev pub empty_config : Configured
empty_config = record { namespaces = []; relations = [] }

-- the relation of a node
abbrev pub rel_of : Node → RelationName
rel_of n = record { namespace = n.object.namespace; relation = n.relation }

abbrev pub relation_in : (namespace relation : List ℕ) → RelationName
relation_in namespace relation = record { namespace = namespace; relation = relation }

-- the type of a namespace's objects
abbrev pub object_type : (namespace : List ℕ) → SubjectType
object_type namespace = record { namespace = namespace; relation = None }

-- the type of a relation's nodes
abbrev pub node_type : RelationName → SubjectType
node_type r = record { namespace = r.namespace; relation = Some r.relation }

-- the configuration defines r as d
abbrev pub Defines : Configured → RelationName → Defined → Type 0
Defines config r d = Contains config.relations d × (d.rel ≡ r)

-- the namespace has the relation
abbrev pub Has : Configured → RelationName → Type 0
Has config r = (d : Defined) × Defines config r d

-- the tupleset relation of d's namespace declares the objects of a namespace
abbrev pub Leads : Configured → Defined → List ℕ → List ℕ → Type 0
Leads config d tupleset namespace =
    (e : Defined) × Defines config (relation_in d.rel.namespace tupleset) e × Contains e.types (object_type namespace)

-- w, in the definition d, has a step to r, which is subtracted where the sign is true
abbrev mutual
  pub StepsTo : Configured → Defined → Form → Bool → RelationName → Type 0
  StepsTo config d This sign r = (sign ≡ false) × Contains d.types (node_type r)
  StepsTo config d (Computed c) sign r = (sign ≡ false) × (r ≡ relation_in d.rel.namespace c)
  StepsTo config d (TupleTo t c) sign r = (sign ≡ false) × (r.relation ≡ c) × Has config r × Leads config d t r.namespace
  StepsTo config d (Union ws) sign r = SomeStepsTo config d ws sign r
  StepsTo config d (Intersection ws) sign r = SomeStepsTo config d ws sign r
  StepsTo config d (Exclusion a b) sign r = StepsTo config d a sign r ⊎ ((sign ≡ true) × ((s : Bool) × StepsTo config d b s r))

  pub SomeStepsTo : Configured → Defined → Forms → Bool → RelationName → Type 0
  SomeStepsTo config d none sign r = ⊥
  SomeStepsTo config d (more w ws) sign r = StepsTo config d w sign r ⊎ SomeStepsTo config d ws sign r

-- dependence
abbrev pub Step : Configured → RelationName → Bool → RelationName → Type 0
Step config from sign to = (d : Defined) × Defines config from d × StepsTo config d d.form sign to

-- the level of a node's relation
abbrev pub IsAt : Configured → Node → ℕ → Type 0
IsAt config n k = Has config (rel_of n) × IsLevel (Step config) (rel_of n) k

-- no intersection in the form is empty
abbrev mutual
  pub IsWhole : Form → Type 0
  IsWhole This = Unit {0}
  IsWhole (Computed c) = Unit {0}
  IsWhole (TupleTo t c) = Unit {0}
  IsWhole (Union ws) = AreWhole ws
  IsWhole (Intersection ws) = IsSome ws × AreWhole ws
  IsWhole (Exclusion a b) = IsWhole a × IsWhole b

  pub AreWhole : Forms → Type 0
  AreWhole none = Unit {0}
  AreWhole (more w ws) = IsWhole w × AreWhole ws

  pub IsSome : Forms → Type 0
  IsSome none = ⊥
  IsSome (more w ws) = Unit {0}
