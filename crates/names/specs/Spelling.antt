-- How names, object ids, objects, nodes, subjects and tuples are spelled: one spelling for each value.
-- After the tuples of Pang et al., "Zanzibar", USENIX ATC 2019, section 2.1; the alphabets and the lengths are this project's.
use Rattle.std.specs.Prelude.{◌≡◌, ℕ, ◌++◌, IsTrue, List, [], ◌∷◌, Option, Some, None}
use Rattle.names.specs.Names.{is_name, is_id}
use Rattle.names.specs.declared.object.Object.{Object}
use Rattle.names.specs.declared.node.Node.{Node}
use Rattle.names.specs.declared.subject.Subject.{Subject}
use Rattle.names.specs.declared.tuple.Tuple.{Tuple}
use Rattle.names.specs.declared.relation.RelationName.{RelationName}
use Rattle.names.specs.declared.relation.SubjectType.{SubjectType}

abbrev pub IsObject : Object → Type 0
IsObject o = IsTrue (is_name o.namespace) × IsTrue (is_id o.id)

abbrev pub IsNode : Node → Type 0
IsNode n = IsObject n.object × IsTrue (is_name n.relation)

-- where there is a name, it is one
abbrev pub IsNameOrNone : Option (List ℕ) → Type 0
IsNameOrNone (Some name) = IsTrue (is_name name)
IsNameOrNone None = Unit {0}

abbrev pub IsSubject : Subject → Type 0
IsSubject s = IsObject s.object × IsNameOrNone s.relation

abbrev pub IsTuple : Tuple → Type 0
IsTuple t = IsNode t.node × IsSubject t.subject

abbrev pub IsRelationName : RelationName → Type 0
IsRelationName r = IsTrue (is_name r.namespace) × IsTrue (is_name r.relation)

abbrev pub IsSubjectType : SubjectType → Type 0
IsSubjectType t = IsTrue (is_name t.namespace) × IsNameOrNone t.relation

-- `namespace:id`
abbrev pub object_text : Object → List ℕ
object_text o = o.namespace ++ 58 ∷ o.id

-- `namespace:id#relation`
abbrev pub node_text : Node → List ℕ
node_text n = object_text n.object ++ 35 ∷ n.relation

-- nothing, or `#relation`
abbrev pub relation_part : Option (List ℕ) → List ℕ
relation_part None = []
relation_part (Some relation) = 35 ∷ relation

-- an object's text, or a node's
abbrev pub subject_text : Subject → List ℕ
subject_text s = object_text s.object ++ relation_part s.relation

-- `node@subject`
abbrev pub tuple_text : Tuple → List ℕ
tuple_text t = node_text t.node ++ 64 ∷ subject_text t.subject

-- `namespace#relation`
abbrev pub relation_text : RelationName → List ℕ
relation_text r = r.namespace ++ 35 ∷ r.relation

-- `namespace`, or `namespace#relation`
abbrev pub type_text : SubjectType → List ℕ
type_text t = t.namespace ++ relation_part t.relation

pub record SpellsObject (text : List ℕ) (o : Object) : Type 0 where
  pub is : IsObject o
  pub spelling : object_text o ≡ text

pub record SpellsNode (text : List ℕ) (n : Node) : Type 0 where
  pub is : IsNode n
  pub spelling : node_text n ≡ text

pub record SpellsSubject (text : List ℕ) (s : Subject) : Type 0 where
  pub is : IsSubject s
  pub spelling : subject_text s ≡ text

pub record SpellsTuple (text : List ℕ) (t : Tuple) : Type 0 where
  pub is : IsTuple t
  pub spelling : tuple_text t ≡ text

pub record SpellsType (text : List ℕ) (t : SubjectType) : Type 0 where
  pub is : IsSubjectType t
  pub spelling : type_text t ≡ text
