-- The tuples of one object, compared by their relation and subject.
use Rattle.std.proofs.Common.{◌≡◌, ℕ, ◌<◌, List, Bool, true, false, Option, Some, None, length, get_or, ap, ap₂, ◌∙◌, sym, subst, refl}
use Rattle.std.specs.Prelude.{◌↔◌, Contains, IsTrue, IfSome, Vec, filter, not, nat_eq}
use Rattle.std.specs.Bool.{one_answer}
use Rattle.std.specs.Option.{option_map, is_some}
use Rattle.std.specs.Global.{Global}
use Rattle.std.specs.Cmp.Lexicographic.{pointwise, same_text, nat_list_eq_equiv}
use Rattle.std.proofs.lemmas.Bool.{false≢true}
use Rattle.names.specs.declared.object.Object.{Object}
use Rattle.names.specs.declared.node.Node.{Node}
use Rattle.names.specs.declared.subject.Subject.{Subject}
use Rattle.names.specs.declared.tuple.Tuple.{Tuple}
use Rattle.meaning.specs.Snap.{one}
use Rattle.names.specs.Names.{is_name}
use Rattle.names.specs.Spelling.{IsTuple, IsSubject, IsNameOrNone}
use Rattle.tuple_keys.specs.Named.{is_at, is_of, user_tuple, object_in, node_in}
use Rattle.tuple_keys.specs.Spelled.{tuple_of, IsSpelling}
use Rattle.tuple_keys.proofs.Spellings.{same_object}
use Rattle.rows.proofs.Naming.{contains_kept, of_node, is_of_itself}
use Rattle.decide.proofs.Elements.{contains_at}
use Rattle.decide.proofs.Nodes.{node_parts}

-- the tuples are of the object
abbrev pub AreAt : Object → List Tuple → Type 0
AreAt o ts = (t : Tuple) → Contains ts t → t.node.object ≡ o

same_is : (xs ys : List ℕ) → xs ≡ ys → pointwise nat_eq xs ys ≡ true
same_is xs ys e = ap (λ (zs : List ℕ). pointwise nat_eq zs ys) e ∙ nat_list_eq_equiv.refl ys

-- a test of the relations is one of the nodes
pub of_relation : (n : Node) (t : Tuple) (relation asked : List ℕ) (answer : Bool) → t.node.object ≡ n.object → relation ≡ t.node.relation → asked ≡ n.relation
    → answer ≡ pointwise nat_eq relation asked → answer ≡ is_of n t
of_relation n t relation asked answer object read is says = one_answer {P = t.node ≡ n} answer (is_of n t) (
  λ yes. node_parts t.node n (ap (λ (o : Object). o.namespace) object) (ap (λ (o : Object). o.id) object)
      (sym read ∙ same_text relation asked (sym (sym says ∙ yes)) ∙ is),
  λ e. says ∙ same_is relation asked (read ∙ ap (λ (m : Node). m.relation) e ∙ sym is),
) (
  of_node n t,
  λ e. ap (λ (m : Node). is_of n (record { node = m; subject = t.subject })) e ∙ is_of_itself n t.subject,
)

-- a node's tuple is a user's where its subject is the user
pub of_user : (n : Node) (u : Object) (t : Tuple) (answer : Bool) → is_of n t ≡ true → IsTrue answer ↔ (t.subject ≡ one u) → IsTrue answer ↔ (t ≡ user_tuple n u)
of_user n u t answer is both = (
  λ yes. ap₂ (λ (m : Node) (s : Subject). record { node = m; subject = s }) (of_node n t is) (both.0 yes),
  λ e. both.1 (ap (λ (x : Tuple). x.subject) e),
)

pub of_another : (n : Node) (u : Object) (t : Tuple) → is_of n t ≡ false → IsTrue false ↔ (t ≡ user_tuple n u)
of_another n u t is = (
  λ no. absurd (false≢true no),
  λ e. absurd (false≢true (sym is ∙ ap (is_of n) e ∙ is_of_itself n (one u))),
)

differs : (xs ys : List ℕ) → not (pointwise nat_eq xs ys) ≡ true → xs ≡ ys → ⊥
differs xs ys ne e = false≢true (sym (ap not (same_is xs ys e)) ∙ ne)

agree : (b : Bool) → not b ≡ false → b ≡ true
agree true h = refl
agree false h = cc

pub agrees : (xs ys : List ℕ) → not (pointwise nat_eq xs ys) ≡ false → xs ≡ ys
agrees xs ys h = same_text xs ys (sym (agree (pointwise nat_eq xs ys) h))

-- a part of a subject that differs from an object's
pub another_id : (s : Subject) (o : Object) (answer : Bool) (a b : List ℕ) → a ≡ s.object.id → b ≡ o.id → answer ≡ not (pointwise nat_eq a b) → answer ≡ true → IsTrue false ↔ (s ≡ one o)
another_id s o answer a b left right says is = (
  λ no. absurd (false≢true no),
  λ e. absurd (differs a b (sym says ∙ is) (left ∙ ap (λ (x : Subject). x.object.id) e ∙ sym right)),
)

pub another_namespace : (s : Subject) (o : Object) (answer : Bool) (a b : List ℕ) → a ≡ s.object.namespace → b ≡ o.namespace → answer ≡ not (pointwise nat_eq a b) → answer ≡ true → IsTrue false ↔ (s ≡ one o)
another_namespace s o answer a b left right says is = (
  λ no. absurd (false≢true no),
  λ e. absurd (differs a b (sym says ∙ is) (left ∙ ap (λ (x : Subject). x.object.namespace) e ∙ sym right)),
)

-- a subject with an object's parts, and with a relation or none
pub one_by_parts : (s : Subject) (o : Object) → s.object.namespace ≡ o.namespace → s.object.id ≡ o.id → (answer : Bool) → IsTrue answer ↔ (s.relation ≡ None) → IsTrue answer ↔ (s ≡ one o)
one_by_parts s o namespace id answer both = (
  λ yes. ap₂ (λ (x : Object) (r : Option (List ℕ)). record { object = x; relation = r }) object (both.0 yes),
  λ e. both.1 (ap (λ (x : Subject). x.relation) e),
)
  where
    object : s.object ≡ o
    object = ap₂ (λ (n i : List ℕ). record { namespace = n; id = i }) namespace id

-- no relation is read where there is none
pub none_read : {A B : Type 0} (f : A → B) (o : Option A) (r : Option B) (answer : Bool) → option_map f o ≡ r → is_some o ≡ not answer → IsTrue answer ↔ (r ≡ None)
none_read f None r true read is = (λ yes. sym read, λ none. refl)
none_read f None r false read is = absurd (false≢true is)
none_read f (Some x) r true read is = absurd (false≢true (sym is))
none_read f (Some x) r false read is = (λ no. absurd (false≢true no), λ none. cc)

-- an object's tuples are of the object
pub kept_at : (o : Object) (all ts : List Tuple) → ts ≡ filter (is_at o) all → AreAt o ts
kept_at o all ts is t c = same_object t.node.object o (contains_kept (is_at o) all t (subst (λ (xs : List Tuple). Contains xs t) is c)).1

pub each_at : (o : Object) (ts : List Tuple) (i : ℕ) (t : Tuple) → AreAt o ts → i < length ts → t ≡ get_or ts i t → t.node.object ≡ o
each_at o ts i t are lt is = are t (contains_at ts i t (lt, sym is))

pub some_kept_at : (o : Object) (all : List Tuple) (few : Option (Vec Tuple Global)) → IfSome few (λ v. v.items ≡ filter (is_at o) all) → IfSome few (λ v. AreAt o v.items)
some_kept_at o all (Some v) is = kept_at o all v.items is
some_kept_at o all None is = tt

-- whom a tuple's text names is spelled
pub subject_is : (text : List ℕ) (t : Tuple) → IsSpelling text → tuple_of text ≡ t → IsSubject t.subject
subject_is text t spelling read = (subst IsTuple read spelling.is).1

pub name_there : (s : Subject) (r : List ℕ) → IsSubject s → Some r ≡ s.relation → IsTrue (is_name r)
name_there s r is there = subst IsNameOrNone (sym there) is.1

-- what a subject names, by its relation
pub named_one : (s : Subject) (o : Object) → o ≡ s.object → None ≡ s.relation → Some o ≡ object_in s
named_one s o same none = ap₂ (λ (x : Object) (r : Option (List ℕ)). object_in (record { object = x; relation = r })) same none

pub named_none : (s : Subject) (r : List ℕ) → Some r ≡ s.relation → None ≡ object_in s
named_none s r there = ap (λ (x : Option (List ℕ)). object_in (record { object = s.object; relation = x })) there

pub named_set : (s : Subject) (m : Node) (r : List ℕ) → m.object ≡ s.object → m.relation ≡ r → Some r ≡ s.relation → Some m ≡ node_in s
named_set s m r object relation there =
    ap₂ (λ (x : Object) (y : List ℕ). Some (record { object = x; relation = y })) object relation
    ∙ ap (λ (x : Option (List ℕ)). node_in (record { object = s.object; relation = x })) there

pub named_no_set : (s : Subject) → None ≡ s.relation → None ≡ node_in s
named_no_set s none = ap (λ (x : Option (List ℕ)). node_in (record { object = s.object; relation = x })) none
