-- A tuple as one text: its parts, in the order by which tuples are compared, with spaces between them. A space is
-- below every byte of a part, so the order of such texts by bytes is the order of tuples.
use Rattle.std.specs.Prelude.{◌≡◌, ℕ, ◌==◌, ◌++◌, List, [], ◌∷◌, Bool, false, cond, ◌||◌, Option, Some, None}
use Rattle.names.specs.Spelling.{IsSubject, IsTuple}
use Rattle.names.specs.declared.object.Object.{Object}
use Rattle.names.specs.declared.node.Node.{Node}
use Rattle.names.specs.declared.subject.Subject.{Subject}
use Rattle.names.specs.declared.tuple.Tuple.{Tuple}

-- nothing, or a space and the relation
abbrev pub spelled_relation : Option (List ℕ) → List ℕ
spelled_relation None = []
spelled_relation (Some relation) = 32 ∷ relation

-- a namespace, with a space after it
abbrev pub spelled_objects : List ℕ → List ℕ
spelled_objects namespace = namespace ++ 32 ∷ []

-- the parts of an object, each with a space after it
abbrev pub spelled_object : Object → List ℕ
spelled_object o = o.namespace ++ 32 ∷ (o.id ++ 32 ∷ [])

-- the same of a node
abbrev pub spelled_node : Node → List ℕ
spelled_node n = n.object.namespace ++ 32 ∷ (n.object.id ++ 32 ∷ (n.relation ++ 32 ∷ []))

-- the parts of a node and the namespace of a subject, each with a space after it
abbrev pub spelled_namespace : Node → List ℕ → List ℕ
spelled_namespace n namespace = spelled_node n ++ (namespace ++ 32 ∷ [])

-- the parts of a subject
abbrev pub spelled_subject : Subject → List ℕ
spelled_subject s = s.object.namespace ++ 32 ∷ (s.object.id ++ spelled_relation s.relation)

-- the parts of a tuple
abbrev pub spelled : Tuple → List ℕ
spelled t = t.node.object.namespace ++ 32 ∷ (t.node.object.id ++ 32 ∷ (t.node.relation ++ 32 ∷ (t.subject.object.namespace ++ 32 ∷ (t.subject.object.id ++ spelled_relation t.subject.relation))))

-- what comes before the first byte that ends a part, or all
abbrev pub before : ℕ → List ℕ → List ℕ
before end [] = []
before end (b ∷ bs) = cond (b == end) [] (b ∷ before end bs)

-- what comes after it
abbrev pub after : ℕ → List ℕ → List ℕ
after end [] = []
after end (b ∷ bs) = cond (b == end) bs (after end bs)

abbrev pub has : ℕ → List ℕ → Bool
has end [] = false
has end (b ∷ bs) = b == end || has end bs

-- what comes before the first space, or all
abbrev pub before_space : List ℕ → List ℕ
before_space text = before 32 text

-- what comes after it
abbrev pub after_space : List ℕ → List ℕ
after_space text = after 32 text

-- the same, if there is one
abbrev pub last_part : List ℕ → Option (List ℕ)
last_part text = cond (has 32 text) (Some (after_space text)) None

-- the subject that the parts after a node's spell
abbrev pub subject_in : List ℕ → Subject
subject_in text = record { object = record { namespace = before_space text; id = before_space (after_space text) }; relation = last_part (after_space text) }

-- the tuple that a text spells
abbrev pub tuple_of : List ℕ → Tuple
tuple_of text =
    let id = after_space text in
    let relation = after_space id in
    let subject = after_space relation in
    record {
      node = record { object = record { namespace = before_space text; id = before_space id }; relation = before_space relation };
      subject = subject_in subject;
    }

pub record IsSubjectSpelling (text : List ℕ) : Type 0 where
  pub is : IsSubject (subject_in text)
  pub same : spelled_subject (subject_in text) ≡ text

pub record IsSpelling (text : List ℕ) : Type 0 where
  pub is : IsTuple (tuple_of text)
  pub same : spelled (tuple_of text) ≡ text
