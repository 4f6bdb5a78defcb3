-- What sets of tuples answer, and what their items are.
use Rattle.std.proofs.Common.{◌≡◌, ℕ, ◌+◌, ◌-◌, List, [], ◌∷◌, length, refl, ap, sym, ◌∙◌, Bool, true, false, cond}
use Rattle.std.specs.Prelude.{not, ◌&&◌, ◌||◌, is_some, map, Contains, ◌↔◌, Option, Some, None}
use Rattle.std.specs.List.{list_any}
use Rattle.std.specs.List.Sorted.{IsStrictlySortedBy}
use Rattle.std.specs.Cmp.{IsTotalOrder, eq_by_cmp_equiv}
use Rattle.std.specs.Cmp.Lexicographic.{slice_cmp, nat_list_cmp_total, options_total}
use Rattle.std.specs.Option.{option_cmp}
use Rattle.std.specs.Ordering.{eq_by_cmp, nat_cmp}
use Rattle.std.specs.FinMap as finite
use Rattle.std.specs.FinMap.Entries.{by_order}
use Rattle.std.proofs.Common.{arith}
use Rattle.std.proofs.lemmas.List.{length-map}
use Rattle.std.proofs.lemmas.Map.Views.{tells_apart, Contains-from_any, list_any-from_Contains}
use Rattle.std.proofs.lemmas.Cmp.{on_total, then_total}
use Rattle.std.proofs.lemmas.Map.Lookups.{CmpEqualImpliesEq, exact_pairs, exact_bytes}
use Rattle.names.specs.Order.{object_cmp, node_cmp, subject_cmp, tuple_cmp}
use Rattle.names.specs.declared.object.Object.{Object}
use Rattle.names.specs.declared.node.Node.{Node}
use Rattle.names.specs.declared.subject.Subject.{Subject}
use Rattle.names.specs.declared.tuple.Tuple.{Tuple}
use Rattle.meaning.specs.TupleSet as set
use Rattle.meaning.specs.TupleSet.{Tuples}

pub objects_total : IsTotalOrder object_cmp
objects_total = then_total (on_total (λ o. o.namespace) nat_list_cmp_total) (on_total (λ o. o.id) nat_list_cmp_total)

pub nodes_total : IsTotalOrder node_cmp
nodes_total = then_total (on_total (λ n. n.object) objects_total) (on_total (λ n. n.relation) nat_list_cmp_total)

pub subjects_total : IsTotalOrder subject_cmp
subjects_total = then_total (on_total (λ s. s.object) objects_total) (on_total (λ s. s.relation) (options_total nat_list_cmp_total))

pub tuples_total : IsTotalOrder tuple_cmp
tuples_total = then_total (on_total (λ t. t.node) nodes_total) (on_total (λ t. t.subject) subjects_total)

-- what compares alike is equal
exact_names : CmpEqualImpliesEq (option_cmp (slice_cmp nat_cmp))
exact_names None None e = refl
exact_names None (Some b) e = cc
exact_names (Some a) None e = cc
exact_names (Some a) (Some b) e = ap (λ n. Some n) (exact_bytes a b e)

pub exact_objects : CmpEqualImpliesEq object_cmp
exact_objects a b e = ap (λ (p : List ℕ × List ℕ). record { namespace = p.0; id = p.1 }) (exact_pairs (slice_cmp nat_cmp) (slice_cmp nat_cmp) exact_bytes exact_bytes (a.namespace, a.id) (b.namespace, b.id) e)

pub exact_nodes : CmpEqualImpliesEq node_cmp
exact_nodes a b e = ap (λ (p : Object × List ℕ). record { object = p.0; relation = p.1 }) (exact_pairs object_cmp (slice_cmp nat_cmp) exact_objects exact_bytes (a.object, a.relation) (b.object, b.relation) e)

pub exact_subjects : CmpEqualImpliesEq subject_cmp
exact_subjects a b e = ap (λ (p : Object × Option (List ℕ)). record { object = p.0; relation = p.1 }) (exact_pairs object_cmp (option_cmp (slice_cmp nat_cmp)) exact_objects exact_names (a.object, a.relation) (b.object, b.relation) e)

pub exact_tuples : CmpEqualImpliesEq tuple_cmp
exact_tuples a b e = ap (λ (p : Node × Subject). record { node = p.0; subject = p.1 }) (exact_pairs node_cmp subject_cmp exact_nodes exact_subjects (a.node, a.subject) (b.node, b.subject) e)

one_tuple : (x y : Tuple) → eq_by_cmp tuple_cmp x y ≡ true → x ≡ y
one_tuple = tells_apart exact_tuples

-- what a set answers
pub contains_items : (s : Tuples) (t : Tuple) → set.contains s t ≡ list_any (eq_by_cmp tuple_cmp t) (set.items s)
contains_items s t = finite.contains_key-keys s t

pub contains_iff : (s : Tuples) (t : Tuple) → (set.contains s t ≡ true) ↔ Contains (set.items s) t
contains_iff s t = (
  λ e. Contains-from_any one_tuple t (set.items s) (sym (contains_items s t) ∙ e),
  λ c. contains_items s t ∙ list_any-from_Contains (eq_by_cmp_equiv tuples_total) t (set.items s) c,
)

pub contains_empty : (t : Tuple) → set.contains set.empty t ≡ false
contains_empty t = ap is_some (finite.get-empty tuple_cmp t)

or_some : (b : Bool) (x : Option (Unit {0})) → is_some (cond b (Some tt) x) ≡ (b || is_some x)
or_some true x = refl
or_some false x = refl

and_some : (b : Bool) (x : Option (Unit {0})) → is_some (cond b None x) ≡ (not b && is_some x)
and_some true x = refl
and_some false x = refl

pub contains_insert : (s : Tuples) (t q : Tuple) → set.contains (set.insert s t) q ≡ (eq_by_cmp tuple_cmp q t || set.contains s q)
contains_insert s t q = ap is_some (finite.get-insert tuples_total s t tt q) ∙ or_some (eq_by_cmp tuple_cmp q t) (finite.get s q)

pub contains_remove : (s : Tuples) (t q : Tuple) → set.contains (set.remove s t) q ≡ (not (eq_by_cmp tuple_cmp q t) && set.contains s q)
contains_remove s t q = ap is_some (finite.get-remove tuples_total s t q) ∙ and_some (eq_by_cmp tuple_cmp q t) (finite.get s q)

pub contains_from_list : (ts : List Tuple) (q : Tuple) → set.contains (set.from_list ts) q ≡ list_any (eq_by_cmp tuple_cmp q) ts
contains_from_list [] q = contains_empty q
contains_from_list (t ∷ ts) q = contains_insert (set.from_list ts) t q ∙ ap (λ b. eq_by_cmp tuple_cmp q t || b) (contains_from_list ts q)

-- two sets that answer alike are equal
same_option : (x y : Option (Unit {0})) → is_some x ≡ is_some y → x ≡ y
same_option None None e = refl
same_option None (Some b) e = cc
same_option (Some a) None e = cc
same_option (Some a) (Some b) e = refl

pub same_tuples : (s t : Tuples) → ((q : Tuple) → set.contains s q ≡ set.contains t q) → s ≡ t
same_tuples s t h = finite.same_map tuples_total exact_tuples s t (λ q. same_option (finite.get s q) (finite.get t q) (h q))

-- the items of a set
pub len_items : (s : Tuples) → set.len s ≡ length (set.items s)
len_items s = finite.len-entries s ∙ sym (length-map (finite.entries s) (λ e. e.0))

nothing : {A : Type 0} (xs : List A) → length xs ≡ 0 → xs ≡ []
nothing [] e = refl
nothing (x ∷ xs) e = absurd (omega arith)

-- an entry of a set
abbrev entry : Tuple → Tuple × Unit {0}
entry t = (t, tt)

put_first : (t : Tuple) (ts : List Tuple) → IsStrictlySortedBy tuple_cmp (t ∷ ts) → finite.put tuple_cmp t tt (map entry ts) ≡ map entry (t ∷ ts)
unfolding IsStrictlySortedBy
put_first t [] h = refl
put_first t (x ∷ xs) h = ap (λ r. by_order r (entry t ∷ entry x ∷ map entry xs) (entry x ∷ map entry xs) (entry x ∷ finite.put tuple_cmp t tt (map entry xs))) h.0.0

entries_from_list : (ts : List Tuple) → IsStrictlySortedBy tuple_cmp ts → finite.entries (set.from_list ts) ≡ map entry ts
unfolding IsStrictlySortedBy
entries_from_list [] h = nothing (finite.entries set.empty) (sym (finite.len-entries set.empty) ∙ finite.len-empty tuple_cmp (Unit {0}))
entries_from_list (t ∷ ts) h = finite.entries-insert tuples_total (set.from_list ts) t tt ∙ ap (finite.put tuple_cmp t tt) (entries_from_list ts h.1) ∙ put_first t ts h

firsts : (ts : List Tuple) → map (λ e. e.0) (map entry ts) ≡ ts
firsts [] = refl
firsts (t ∷ ts) = ap (λ xs. t ∷ xs) (firsts ts)

-- a list in order is the items of its set
pub items_from_list : (ts : List Tuple) → IsStrictlySortedBy tuple_cmp ts → set.items (set.from_list ts) ≡ ts
items_from_list ts h = ap (map (λ e. e.0)) (entries_from_list ts h) ∙ firsts ts

pub len_insert : (s : Tuples) (t : Tuple) → set.len (set.insert s t) ≡ cond (set.contains s t) (set.len s) (set.len s + 1)
len_insert s t = finite.len-insert tuples_total s t tt

pub len_remove : (s : Tuples) (t : Tuple) → set.len (set.remove s t) ≡ cond (set.contains s t) (set.len s - 1) (set.len s)
len_remove s t = finite.len-remove tuples_total s t

-- a set is that of its items
pub from_items : (s : Tuples) → set.from_list (set.items s) ≡ s
from_items s = same_tuples (set.from_list (set.items s)) s (λ q. contains_from_list (set.items s) q ∙ sym (contains_items s q))

-- the set of a list has what the list has
pub items_contain : (ts : List Tuple) (t : Tuple) → Contains (set.items (set.from_list ts)) t ↔ Contains ts t
items_contain ts t = (
  λ c. Contains-from_any one_tuple t ts (sym (contains_from_list ts t) ∙ (contains_iff (set.from_list ts) t).1 c),
  λ c. (contains_iff (set.from_list ts) t).0 (contains_from_list ts t ∙ list_any-from_Contains (eq_by_cmp_equiv tuples_total) t ts c),
)
