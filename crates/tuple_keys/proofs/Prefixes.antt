-- What the texts of an object's tuples begin with, and of a node's, and those of these whose subjects are of one namespace.
-- What is after it.
use Rattle.std.proofs.Common.{◌≡◌, ℕ, ◌++◌, Bool, true, false, List, [], ◌∷◌, refl, sym, ap, subst, ◌∙◌, append_assoc, IsTrue}
use Rattle.std.specs.Prelude.{◌&&◌, nat_eq}
use Rattle.std.specs.List.{starts_with}
use Rattle.std.specs.Bool.{one_answer}
use Rattle.std.specs.Cmp.Lexicographic.{pointwise, same_text, slice_cmp, texts_ties, nat_list_eq_equiv}
use Rattle.std.proofs.Math.Dec.{eqb}
use Rattle.std.proofs.lemmas.Bool.Decides.{Decides-eqb}
use Rattle.std.proofs.lemmas.Slice.Eq.{starts_is}
use Rattle.std.specs.Ordering.{eq_by_cmp, nat_cmp}
use Rattle.names.specs.Order.{object_cmp}
use Rattle.names.specs.Names.{is_name}
use Rattle.names.specs.Spelling.{IsObject, IsNode}
use Rattle.names.specs.declared.object.Object.{Object}
use Rattle.names.specs.declared.node.Node.{Node}
use Rattle.names.specs.declared.subject.Subject.{Subject}
use Rattle.tuple_keys.specs.Spelled.{spelled_objects, spelled_object, spelled_node, spelled_namespace, spelled_relation, spelled_subject, before_space, after_space, subject_in, tuple_of, IsSubjectSpelling, IsSpelling}
use Rattle.tuple_keys.specs.Named.{is_in, is_at, is_of, is_within}
use Rattle.tuple_keys.specs.Texts.{IsStartOf}
use Rattle.tuple_keys.proofs.Parts.{before_joined, after_joined}
use Rattle.tuple_keys.proofs.Joining.{name_above, id_above, above_lacks}
use Rattle.tuple_keys.proofs.Spellings.{starts_of_node, same_object, object_itself, same_node, node_itself, node_of_joined, subject_of_joined, node_above, node_joined, subject_spelling}

-- ---- the tuples of a namespace's objects

objects_joined : (namespace rest : List ℕ) → spelled_objects namespace ++ rest ≡ namespace ++ 32 ∷ rest
objects_joined namespace rest = append_assoc namespace (32 ∷ []) rest

starts_objects : (namespace : List ℕ) → IsTrue (is_name namespace) → (a : List ℕ) → starts_with eqb a (spelled_objects namespace) ≡ true → (tuple_of a).node.object.namespace ≡ namespace
starts_objects namespace is a starts =
    ap before_space ((starts_is Decides-eqb a (spelled_objects namespace) (starts_with eqb a (spelled_objects namespace)) refl).0 starts ∙ objects_joined namespace _)
    ∙ before_joined 32 namespace _ (above_lacks namespace (name_above namespace is))

objects_start : (namespace a : List ℕ) → IsSpelling a → (tuple_of a).node.object.namespace ≡ namespace → starts_with eqb a (spelled_objects namespace) ≡ true
objects_start namespace a x e =
    let t = tuple_of a in
    let rest = t.node.object.id ++ 32 ∷ (t.node.relation ++ 32 ∷ spelled_subject t.subject) in
    (starts_is Decides-eqb a (spelled_objects namespace) (starts_with eqb a (spelled_objects namespace)) refl).1 rest
    (sym x.same ∙ ap (λ (l : List ℕ). l ++ 32 ∷ rest) e ∙ sym (objects_joined namespace rest))

pub objects_begin : (namespace : List ℕ) → IsTrue (is_name namespace) → IsStartOf (spelled_objects namespace) (is_in namespace)
objects_begin namespace is = λ a s.
    one_answer {P = (tuple_of a).node.object.namespace ≡ namespace} (starts_with eqb a (spelled_objects namespace)) (is_in namespace (tuple_of a)) (starts_objects namespace is a, objects_start namespace a s)
    (same_texts_by_order (tuple_of a).node.object.namespace namespace, λ e. ap (λ (l : List ℕ). eq_by_cmp (slice_cmp nat_cmp) l namespace) e ∙ text_itself namespace)
  where
    same_texts_by_order : (xs ys : List ℕ) → eq_by_cmp (slice_cmp nat_cmp) xs ys ≡ true → xs ≡ ys
    same_texts_by_order xs ys e = same_text xs ys (sym (texts_ties xs ys ∙ e))

    text_itself : (xs : List ℕ) → eq_by_cmp (slice_cmp nat_cmp) xs xs ≡ true
    text_itself xs = sym (texts_ties xs xs) ∙ nat_list_eq_equiv.refl xs

-- ---- the tuples of one object

-- what follows an object's text goes on from its id
object_joined : (o : Object) (rest : List ℕ) → spelled_object o ++ rest ≡ o.namespace ++ 32 ∷ (o.id ++ 32 ∷ rest)
object_joined o rest = append_assoc o.namespace _ rest ∙ ap (λ l. o.namespace ++ 32 ∷ l) (append_assoc o.id _ rest)

object_of_joined : (o : Object) → IsObject o → (rest : List ℕ) → (tuple_of (spelled_object o ++ rest)).node.object ≡ o
object_of_joined o is rest =
    let namespace_lacks = above_lacks o.namespace (name_above o.namespace is.0) in
    let id_lacks = above_lacks o.id (id_above o.id is.1) in
    let whole = object_joined o rest in
    let from_id = after_joined 32 o.namespace (o.id ++ 32 ∷ rest) namespace_lacks in
    let namespace = before_joined 32 o.namespace (o.id ++ 32 ∷ rest) namespace_lacks in
    let id = before_joined 32 o.id rest id_lacks in
    rw (whole, from_id, namespace, id) refl

starts_object : (o : Object) → IsObject o → (a : List ℕ) → starts_with eqb a (spelled_object o) ≡ true → (tuple_of a).node.object ≡ o
starts_object o is a starts = ap (λ (l : List ℕ). (tuple_of l).node.object) ((starts_is Decides-eqb a (spelled_object o) (starts_with eqb a (spelled_object o)) refl).0 starts) ∙ object_of_joined o is _

object_starts : (o : Object) (a : List ℕ) → IsSpelling a → (tuple_of a).node.object ≡ o → starts_with eqb a (spelled_object o) ≡ true
object_starts o a x e =
    let t = tuple_of a in
    let rest = t.node.relation ++ 32 ∷ spelled_subject t.subject in
    (starts_is Decides-eqb a (spelled_object o) (starts_with eqb a (spelled_object o)) refl).1 rest
    (sym x.same ∙ sym (object_joined t.node.object rest) ∙ ap (λ (p : Object). spelled_object p ++ rest) e)

pub object_begins : (o : Object) → IsObject o → IsStartOf (spelled_object o) (is_at o)
object_begins o is = λ a s.
    one_answer {P = (tuple_of a).node.object ≡ o} (starts_with eqb a (spelled_object o)) (is_at o (tuple_of a)) (starts_object o is a, object_starts o a s)
    (same_object (tuple_of a).node.object o, λ e. ap (λ (p : Object). eq_by_cmp object_cmp p o) e ∙ object_itself o)

-- ---- the tuples of one node

pub node_begins : (n : Node) → IsNode n → IsStartOf (spelled_node n) (is_of n)
node_begins n is = λ a s. starts_of_node a s n is

-- what is after a node's text is the subject's
pub subject_after : (n : Node) → IsNode n → (a rest : List ℕ) → a ≡ spelled_node n ++ rest → (tuple_of a).subject ≡ subject_in rest
subject_after n is a rest e = ap (λ (l : List ℕ). (tuple_of l).subject) e ∙ subject_of_joined n (node_above n is) rest

rest_of_joined : (n : Node) → IsNode n → (rest : List ℕ) → after_space (after_space (after_space (spelled_node n ++ rest))) ≡ rest
rest_of_joined n is rest =
    let a = node_above n is in
    ap (λ l. after_space (after_space (after_space l))) (node_joined n rest)
    ∙ ap (λ l. after_space (after_space l)) (after_joined 32 n.object.namespace (n.object.id ++ 32 ∷ (n.relation ++ 32 ∷ rest)) (above_lacks _ a.namespace))
    ∙ ap after_space (after_joined 32 n.object.id (n.relation ++ 32 ∷ rest) (above_lacks _ a.id))
    ∙ after_joined 32 n.relation rest (above_lacks _ a.relation)

-- and it spells the subject
pub subject_follows : (n : Node) (text rest : List ℕ) → IsNode n → IsSpelling text → text ≡ spelled_node n ++ rest → IsSubjectSpelling rest × (subject_in rest ≡ (tuple_of text).subject)
subject_follows n text rest is x e = (
  subst IsSubjectSpelling (ap (λ l. after_space (after_space (after_space l))) e ∙ rest_of_joined n is rest) (subject_spelling text x),
  sym (subject_after n is text rest e),
)

-- ---- the subjects of one namespace

module _ (n : Node) (is : IsNode n) (namespace : List ℕ) (name : IsTrue (is_name namespace)) where
  abbrev prefix : List ℕ
  prefix = spelled_namespace n namespace

  regrouped : (rest : List ℕ) → prefix ++ rest ≡ spelled_node n ++ (namespace ++ 32 ∷ rest)
  regrouped rest = append_assoc (spelled_node n) (namespace ++ 32 ∷ []) rest ∙ ap (λ l. spelled_node n ++ l) (append_assoc namespace (32 ∷ []) rest)

  subject_is : (rest : List ℕ) → (subject_in (namespace ++ 32 ∷ rest)).object.namespace ≡ namespace
  subject_is rest = before_joined 32 namespace rest (above_lacks namespace (name_above namespace name))

  abbrev IsWithin : List ℕ → Type 0
  IsWithin a = ((tuple_of a).node ≡ n) × ((tuple_of a).subject.object.namespace ≡ namespace)

  within_starts : (a : List ℕ) → starts_with eqb a prefix ≡ true → IsWithin a
  within_starts a starts =
      let e = (starts_is Decides-eqb a prefix (starts_with eqb a prefix) refl).0 starts in
      (ap (λ (l : List ℕ). (tuple_of l).node) (e ∙ regrouped _) ∙ node_of_joined n (node_above n is) _, ap (λ (s : Subject). s.object.namespace) (subject_after n is a _ (e ∙ regrouped _)) ∙ subject_is _)

  starts_within : (a : List ℕ) → IsSpelling a → IsWithin a → starts_with eqb a prefix ≡ true
  starts_within a x w =
      let s = (tuple_of a).subject in
      let rest = s.object.id ++ spelled_relation s.relation in
      let whole : a ≡ prefix ++ rest = sym x.same ∙ sym (node_joined (tuple_of a).node (spelled_subject s)) ∙ ap (λ (m : Node). spelled_node m ++ spelled_subject s) w.0
      ∙ ap (λ (l : List ℕ). spelled_node n ++ (l ++ 32 ∷ rest)) w.1 ∙ sym (regrouped rest) in
      (starts_is Decides-eqb a prefix (starts_with eqb a prefix) refl).1 rest whole

  passes_within : (a : List ℕ) → is_within n namespace (tuple_of a) ≡ true → IsWithin a
  passes_within a e =
      let parts = both (is_of n (tuple_of a)) (pointwise nat_eq (tuple_of a).subject.object.namespace namespace) e in
      (same_node (tuple_of a).node n parts.0, same_text (tuple_of a).subject.object.namespace namespace (sym parts.1))
    where
      both : (b c : Bool) → (b && c) ≡ true → (b ≡ true) × (c ≡ true)
      both true c h = (refl, h)
      both false c h = cc

  within_passes : (a : List ℕ) → IsWithin a → is_within n namespace (tuple_of a) ≡ true
  within_passes a w =
      ap (λ (m : Node). is_of n (record { node = m; subject = (tuple_of a).subject }) && pointwise nat_eq (tuple_of a).subject.object.namespace namespace) w.0
      ∙ ap (λ b. b && pointwise nat_eq (tuple_of a).subject.object.namespace namespace) (node_itself n)
      ∙ ap (λ (l : List ℕ). pointwise nat_eq l namespace) w.1
      ∙ nat_list_eq_equiv.refl namespace

  pub namespace_begins : IsStartOf prefix (is_within n namespace)
  namespace_begins = λ a s. one_answer {P = IsWithin a} (starts_with eqb a prefix) (is_within n namespace (tuple_of a)) (within_starts a, starts_within a s) (passes_within a, within_passes a)
