-- Texts of tuples: each is spelled in one way, and the order of the texts is that of the tuples.
use Rattle.std.proofs.Common.{◌≡◌, ℕ, ◌++◌, Bool, true, false, List, [], ◌∷◌, length, drop, refl, sym, ap, ap₂, subst, ◌∙◌, arith, true≢false, append_assoc}
use Rattle.std.specs.List.{starts_with}
use Rattle.std.specs.Option.{option_cmp}
use Rattle.std.specs.Bool.{one_answer}
use Rattle.std.specs.Ordering.{nat_cmp, ordering_then, eq_by_cmp, is_eq, is_lt}
use Rattle.std.specs.declared.cmp.Ordering.{Ordering}
use Rattle.std.specs.declared.cmp.Ordering.TheVariants.{Less, Equal, Greater}
use Rattle.std.specs.Cmp.Lexicographic.{slice_cmp, texts_ties, same_text, nat_list_eq_equiv}
use Rattle.std.proofs.Math.Dec.{eqb}
use Rattle.std.proofs.lemmas.Bool.Decides.{Decides-eqb}
use Rattle.std.proofs.lemmas.Slice.Eq.{starts_is}
use Rattle.names.specs.Order.{object_cmp, node_cmp, tuple_cmp}
use Rattle.names.specs.Spelling.{IsNode, IsTuple}
use Rattle.names.specs.declared.object.Object.{Object}
use Rattle.names.specs.declared.node.Node.{Node}
use Rattle.names.specs.declared.tuple.Tuple.{Tuple}
use Rattle.tuple_keys.proofs.Parts.{before_joined, after_joined}
use Rattle.tuple_keys.proofs.Joining.{Above, name_above, id_above, above_lacks, before_last, relation_last, then_associates, joined_order, last_order}
use Rattle.tuple_keys.specs.Spelled.{spelled_relation, spelled_node, spelled_subject, spelled, after_space, subject_in, tuple_of, IsSubjectSpelling, IsSpelling}

-- ---- the tuple of its text

-- the text from the node's id on, and from its relation on
abbrev from_relation : Tuple → List ℕ
from_relation t = t.node.relation ++ 32 ∷ spelled_subject t.subject

abbrev from_id : Tuple → List ℕ
from_id t = t.node.object.id ++ 32 ∷ from_relation t

-- each byte of a node's parts, and of a tuple's, is above a space
pub record NodeAbove (n : Node) : Type 0 where
  pub namespace : Above n.object.namespace
  pub id : Above n.object.id
  pub relation : Above n.relation

record TupleAbove (t : Tuple) : Type 0 where
  pub node : NodeAbove t.node
  pub namespace : Above t.subject.object.namespace
  pub id : Above t.subject.object.id

pub node_above : (n : Node) → IsNode n → NodeAbove n
node_above n is = record { namespace = name_above n.object.namespace is.0.0; id = id_above n.object.id is.0.1; relation = name_above n.relation is.1 }

tuple_above : (t : Tuple) → IsTuple t → TupleAbove t
tuple_above t is = record { node = node_above t.node is.0; namespace = name_above t.subject.object.namespace is.1.0.0; id = id_above t.subject.object.id is.1.0.1 }

-- what is after the spaces in turn
record CutAs (text id relation namespace subject : List ℕ) : Type 0 where
  pub id_is : after_space text ≡ id
  pub relation_is : after_space id ≡ relation
  pub namespace_is : after_space relation ≡ namespace
  pub subject_is : after_space namespace ≡ subject

cut_of : (t : Tuple) → TupleAbove t → CutAs (spelled t) (from_id t) (from_relation t) (spelled_subject t.subject) (t.subject.object.id ++ spelled_relation t.subject.relation)
cut_of t a = record {
  id_is = after_joined 32 t.node.object.namespace (from_id t) (above_lacks _ a.node.namespace);
  relation_is = after_joined 32 t.node.object.id (from_relation t) (above_lacks _ a.node.id);
  namespace_is = after_joined 32 t.node.relation (spelled_subject t.subject) (above_lacks _ a.node.relation);
  subject_is = after_joined 32 t.subject.object.namespace (t.subject.object.id ++ spelled_relation t.subject.relation) (above_lacks _ a.namespace);
}

pub tuple_of_spelled : (t : Tuple) → IsTuple t → tuple_of (spelled t) ≡ t
tuple_of_spelled t is =
    let a = tuple_above t is in
    let c = cut_of t a in
    let namespace = before_joined 32 t.node.object.namespace (from_id t) (above_lacks _ a.node.namespace) in
    let id = before_joined 32 t.node.object.id (from_relation t) (above_lacks _ a.node.id) in
    let relation = before_joined 32 t.node.relation (spelled_subject t.subject) (above_lacks _ a.node.relation) in
    let subject = before_joined 32 t.subject.object.namespace (t.subject.object.id ++ spelled_relation t.subject.relation) (above_lacks _ a.namespace) in
    let subject_id = before_last t.subject.object.id t.subject.relation (above_lacks _ a.id) in
    let subject_relation = relation_last t.subject.object.id t.subject.relation (above_lacks _ a.id) in
    rw (c.id_is, c.relation_is, c.namespace_is, c.subject_is, namespace, id, relation, subject, subject_id, subject_relation) refl

pub spelling_of : (t : Tuple) → IsTuple t → IsSpelling (spelled t)
spelling_of t is =
    let e = tuple_of_spelled t is in
    record { is = subst IsTuple (sym e) is; same = ap spelled e }

-- the last part of a tuple's text is the subject's
pub subject_spelling : (text : List ℕ) → IsSpelling text → IsSubjectSpelling (after_space (after_space (after_space text)))
subject_spelling text x =
    let t = tuple_of text in
    let c = cut_of t (tuple_above t x.is) in
    let rest = ap (λ l. after_space (after_space (after_space l))) (sym x.same) ∙ ap (λ l. after_space (after_space l)) c.id_is ∙ ap after_space c.relation_is ∙ c.namespace_is in
    record { is = x.is.1; same = sym rest }

-- ---- the order of the texts

regroup : (a b c d e f : Ordering)
    → ordering_then a (ordering_then b (ordering_then c (ordering_then d (ordering_then e f)))) ≡ ordering_then (ordering_then (ordering_then a b) c) (ordering_then (ordering_then d e) f)
regroup Less b c d e f = refl
regroup Equal b c d e f = ap (λ o. ordering_then b (ordering_then c o)) (sym (then_associates d e f)) ∙ sym (then_associates b c (ordering_then (ordering_then d e) f))
regroup Greater b c d e f = refl

spelled_order : (s t : Tuple) → TupleAbove s → TupleAbove t → slice_cmp nat_cmp (spelled s) (spelled t) ≡ tuple_cmp s t
spelled_order s t a b =
    let namespace = joined_order s.node.object.namespace t.node.object.namespace (from_id s) (from_id t) a.node.namespace b.node.namespace in
    let id = joined_order s.node.object.id t.node.object.id (from_relation s) (from_relation t) a.node.id b.node.id in
    let relation = joined_order s.node.relation t.node.relation (spelled_subject s.subject) (spelled_subject t.subject) a.node.relation b.node.relation in
    let last_s = s.subject.object.id ++ spelled_relation s.subject.relation in
    let last_t = t.subject.object.id ++ spelled_relation t.subject.relation in
    let subject = joined_order s.subject.object.namespace t.subject.object.namespace last_s last_t a.namespace b.namespace in
    let last = last_order s.subject.object.id t.subject.object.id s.subject.relation t.subject.relation a.id b.id in
    let regrouped = regroup (slice_cmp nat_cmp s.node.object.namespace t.node.object.namespace) (slice_cmp nat_cmp s.node.object.id t.node.object.id) (slice_cmp nat_cmp s.node.relation t.node.relation)
    (slice_cmp nat_cmp s.subject.object.namespace t.subject.object.namespace) (slice_cmp nat_cmp s.subject.object.id t.subject.object.id) (option_cmp (slice_cmp nat_cmp) s.subject.relation t.subject.relation) in
    rw (namespace, id, relation, subject, last) regrouped

-- the order of the texts is that of the tuples
pub texts_order : (a b : List ℕ) → IsSpelling a → IsSpelling b → slice_cmp nat_cmp a b ≡ tuple_cmp (tuple_of a) (tuple_of b)
texts_order a b x y = ap₂ (slice_cmp nat_cmp) (sym x.same) (sym y.same) ∙ spelled_order (tuple_of a) (tuple_of b) (tuple_above (tuple_of a) x.is) (tuple_above (tuple_of b) y.is)

pub same_texts : (a b : List ℕ) → IsSpelling a → IsSpelling b → tuple_of a ≡ tuple_of b → a ≡ b
same_texts a b x y e = sym x.same ∙ (ap spelled e ∙ y.same)

-- ---- the texts of one node

same_lists : (xs ys : List ℕ) → is_eq (slice_cmp nat_cmp xs ys) ≡ true → xs ≡ ys
same_lists xs ys e = same_text xs ys (sym (texts_ties xs ys ∙ e))

list_itself : (xs : List ℕ) → is_eq (slice_cmp nat_cmp xs xs) ≡ true
list_itself xs = sym (texts_ties xs xs) ∙ nat_list_eq_equiv.refl xs

both_equal : (a b : Ordering) → is_eq (ordering_then a b) ≡ true → (is_eq a ≡ true) × (is_eq b ≡ true)
both_equal Equal b e = (refl, e)
both_equal Less b e = absurd (true≢false (sym e))
both_equal Greater b e = absurd (true≢false (sym e))

equal_both : (a b : Ordering) → is_eq a ≡ true → is_eq b ≡ true → is_eq (ordering_then a b) ≡ true
equal_both Equal b e f = f
equal_both Less b e f = absurd (true≢false (sym e))
equal_both Greater b e f = absurd (true≢false (sym e))

pub same_object : (o p : Object) → eq_by_cmp object_cmp o p ≡ true → o ≡ p
same_object o p e =
    let parts = both_equal (slice_cmp nat_cmp o.namespace p.namespace) (slice_cmp nat_cmp o.id p.id) e in
    λ i. record { namespace = same_lists o.namespace p.namespace parts.0 i; id = same_lists o.id p.id parts.1 i }

pub object_itself : (o : Object) → eq_by_cmp object_cmp o o ≡ true
object_itself o = equal_both (slice_cmp nat_cmp o.namespace o.namespace) _ (list_itself o.namespace) (list_itself o.id)

pub same_node : (m n : Node) → eq_by_cmp node_cmp m n ≡ true → m ≡ n
same_node m n e =
    let parts = both_equal (object_cmp m.object n.object) (slice_cmp nat_cmp m.relation n.relation) e in
    λ i. record { object = same_object m.object n.object parts.0 i; relation = same_lists m.relation n.relation parts.1 i }

pub node_itself : (n : Node) → eq_by_cmp node_cmp n n ≡ true
node_itself n = equal_both (object_cmp n.object n.object) _ (object_itself n.object) (list_itself n.relation)

-- what follows a node's text goes on from its relation
pub node_joined : (n : Node) (s : List ℕ) → spelled_node n ++ s ≡ n.object.namespace ++ 32 ∷ (n.object.id ++ 32 ∷ (n.relation ++ 32 ∷ s))
node_joined n s =
    append_assoc n.object.namespace _ s ∙ ap (λ l. n.object.namespace ++ 32 ∷ l) (append_assoc n.object.id _ s ∙ ap (λ l. n.object.id ++ 32 ∷ l) (append_assoc n.relation _ s))

pub node_of_joined : (n : Node) → NodeAbove n → (s : List ℕ) → (tuple_of (spelled_node n ++ s)).node ≡ n
node_of_joined n a s =
    let whole = node_joined n s in
    let first = after_joined 32 n.object.namespace (n.object.id ++ 32 ∷ (n.relation ++ 32 ∷ s)) (above_lacks _ a.namespace) in
    let second = after_joined 32 n.object.id (n.relation ++ 32 ∷ s) (above_lacks _ a.id) in
    let namespace = before_joined 32 n.object.namespace (n.object.id ++ 32 ∷ (n.relation ++ 32 ∷ s)) (above_lacks _ a.namespace) in
    let id = before_joined 32 n.object.id (n.relation ++ 32 ∷ s) (above_lacks _ a.id) in
    let relation = before_joined 32 n.relation s (above_lacks _ a.relation) in
    rw (whole, first, second, namespace, id, relation) refl

pub subject_of_joined : (n : Node) → NodeAbove n → (s : List ℕ) → (tuple_of (spelled_node n ++ s)).subject ≡ subject_in s
subject_of_joined n a s =
    let whole = node_joined n s in
    let first = after_joined 32 n.object.namespace (n.object.id ++ 32 ∷ (n.relation ++ 32 ∷ s)) (above_lacks _ a.namespace) in
    let second = after_joined 32 n.object.id (n.relation ++ 32 ∷ s) (above_lacks _ a.id) in
    let third = after_joined 32 n.relation s (above_lacks _ a.relation) in
    rw (whole, first, second, third) refl

starts_node : (a : List ℕ) (n : Node) → IsNode n → starts_with eqb a (spelled_node n) ≡ true → (tuple_of a).node ≡ n
starts_node a n is starts =
    let e = (starts_is Decides-eqb a (spelled_node n) (starts_with eqb a (spelled_node n)) refl).0 starts in
    ap (λ l. (tuple_of l).node) e ∙ node_of_joined n (node_above n is) _

node_starts : (a : List ℕ) → IsSpelling a → (n : Node) → (tuple_of a).node ≡ n → starts_with eqb a (spelled_node n) ≡ true
node_starts a x n e =
    let whole : a ≡ spelled_node n ++ spelled_subject (tuple_of a).subject = sym x.same ∙ (sym (node_joined (tuple_of a).node _) ∙ ap (λ m. spelled_node m ++ spelled_subject (tuple_of a).subject) e) in
    (starts_is Decides-eqb a (spelled_node n) (starts_with eqb a (spelled_node n)) refl).1 _ whole

-- A text starts with a node exactly where its tuple is of the node. `starts_text` of `Rattle.std.proofs.lemmas.Str.Pattern`
-- says that the answer of `str::starts_with` is this `starts_with`.
pub starts_of_node : (a : List ℕ) → IsSpelling a → (n : Node) → IsNode n → starts_with eqb a (spelled_node n) ≡ eq_by_cmp node_cmp (tuple_of a).node n
starts_of_node a x n is =
    one_answer {P = (tuple_of a).node ≡ n} (starts_with eqb a (spelled_node n)) (eq_by_cmp node_cmp (tuple_of a).node n) (starts_node a n is, node_starts a x n)
    (same_node (tuple_of a).node n, λ e. ap (eq_by_cmp node_cmp (tuple_of a).node) (sym e) ∙ node_itself (tuple_of a).node)

not_less : (p r : List ℕ) → slice_cmp nat_cmp (p ++ r) p ≡ Less → ⊥
not_less [] [] e = true≢false (sym (ap is_lt e))
not_less [] (x ∷ r) e = true≢false (sym (ap is_lt e))
not_less (x ∷ p) r e =
    let same : nat_cmp x x ≡ Equal = grind arith in
    not_less p r (ap (λ o. ordering_then o (slice_cmp nat_cmp (p ++ r) p)) (sym same) ∙ e)

-- a text that starts with another is not below it
pub starts_not_below : (a p : List ℕ) → starts_with eqb a p ≡ true → slice_cmp nat_cmp a p ≡ Less → ⊥
starts_not_below a p starts below =
    let e = (starts_is Decides-eqb a p (starts_with eqb a p) refl).0 starts in
    not_less p (drop (length p) a) (ap (λ l. slice_cmp nat_cmp l p) (sym e) ∙ below)

heads_same : (y x : ℕ) → nat_cmp y x ≡ Equal → y ≡ x
heads_same y x e = grind arith

-- the step of the lemma below: y is the first byte of a, and x that of p
within_step : (y x : ℕ) (a p r : List ℕ) (o : Ordering) → nat_cmp y x ≡ o → (slice_cmp nat_cmp (y ∷ a) (x ∷ p) ≡ Less → ⊥) → ((s : List ℕ) → y ∷ a ≡ x ∷ (p ++ s) → ⊥)
    → slice_cmp nat_cmp (y ∷ a) (x ∷ (p ++ r)) ≡ Less → ((slice_cmp nat_cmp a p ≡ Less → ⊥) → ((s : List ℕ) → a ≡ p ++ s → ⊥) → slice_cmp nat_cmp a (p ++ r) ≡ Less → ⊥) → ⊥
within_step y x a p r Less h not_below past e more = not_below (ap (λ o. ordering_then o (slice_cmp nat_cmp a p)) h)
within_step y x a p r Equal h not_below past e more =
    more (λ k. not_below (ap (λ o. ordering_then o (slice_cmp nat_cmp a p)) h ∙ k)) (λ s k. past s (ap₂ (λ z l. z ∷ l) (heads_same y x h) k))
    (ap (λ o. ordering_then o (slice_cmp nat_cmp a (p ++ r))) (sym h) ∙ e)
within_step y x a p r Greater h not_below past e more = true≢false (sym (ap is_lt (ap (λ o. ordering_then o (slice_cmp nat_cmp a (p ++ r))) (sym h) ∙ e)))

-- a list that is not below p and does not start with it is not below any that starts with it
within : (p a r : List ℕ) → (slice_cmp nat_cmp a p ≡ Less → ⊥) → ((s : List ℕ) → a ≡ p ++ s → ⊥) → slice_cmp nat_cmp a (p ++ r) ≡ Less → ⊥
within [] a r not_below past e = past a refl
within (x ∷ p) [] r not_below past e = not_below refl
within (x ∷ p) (y ∷ a) r not_below past e = within_step y x a p r (nat_cmp y x) refl not_below past e (within p a r)

not_true : (b : Bool) → (b ≡ true → ⊥) → b ≡ false
not_true true h = absurd (h refl)
not_true false h = refl

-- above a text that is past those that start with another, none starts with it
pub none_starts_after : (a b p : List ℕ) → (slice_cmp nat_cmp a p ≡ Less → ⊥) → starts_with eqb a p ≡ false → slice_cmp nat_cmp a b ≡ Less → starts_with eqb b p ≡ false
none_starts_after a b p not_below past above =
    not_true (starts_with eqb b p) (λ starts.
    let e = (starts_is Decides-eqb b p (starts_with eqb b p) refl).0 starts in
    within p a (drop (length p) b) not_below (λ s k. true≢false (sym ((starts_is Decides-eqb a p (starts_with eqb a p) refl).1 s k) ∙ past)) (ap (slice_cmp nat_cmp a) (sym e) ∙ above))

-- ---- a text as it is written

spelled_parts : (t : Tuple) → spelled_node t.node ++ spelled_subject t.subject ≡ spelled t
spelled_parts t = node_joined t.node (spelled_subject t.subject)

-- a text of a node's parts and a subject's is the tuple's
pub written_is : (t : Tuple) (text : List ℕ) → text ≡ ([] ++ spelled_node t.node) ++ spelled_subject t.subject → text ≡ spelled t
written_is t text e = e ∙ spelled_parts t

pub spelling_is : (t : Tuple) (text : List ℕ) → text ≡ spelled t → IsTuple t → IsSpelling text
spelling_is t text e is = subst IsSpelling (sym e) (spelling_of t is)

pub spells : (t : Tuple) (text : List ℕ) → text ≡ spelled t → IsTuple t → tuple_of text ≡ t
spells t text e is = ap tuple_of e ∙ tuple_of_spelled t is
