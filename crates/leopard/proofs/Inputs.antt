-- The tuples of an input, in order.
use Rattle.std.proofs.Common.{◌≡◌, ℕ, ◌<◌, ◌≤◌, ◌+◌, ◌-◌, List, [], length, get_or, Bool, true, false, refl, ap, ap₂, sym, subst, ◌∙◌, inl, inr, ⊎_elim, arith}
use Rattle.std.specs.Prelude.{◌↔◌, ◌⊎◌, Any, Contains, Option, Some, None}
use Rattle.std.specs.List.{AllWithin, IsAllAdjacentAnswer, between}
use Rattle.std.specs.List.Sorted.{IsStrictlySortedBy, IsPartitionedBy}
use Rattle.std.specs.Ordering.{is_lt, is_le, ordering_then}
use Rattle.std.specs.declared.cmp.Ordering.{Ordering}
use Rattle.std.specs.declared.cmp.Ordering.TheVariants.{Less, Equal, Greater}
use Rattle.std.proofs.lemmas.Bool.{cases_lt, false≢true}
use Rattle.std.proofs.lemmas.Cmp.{tied_itself}
use Rattle.std.proofs.lemmas.List.Edits.{length-between, get_or-between}
use Rattle.std.proofs.lemmas.Map.Keys.{Less-from_sorted}
use Rattle.std.proofs.lemmas.Option.{none-some, same_Some}
use Rattle.names.specs.Order.{node_cmp, subject_cmp, tuple_cmp}
use Rattle.names.specs.declared.node.Node.{Node}
use Rattle.names.specs.declared.object.Object.{Object}
use Rattle.names.specs.declared.subject.Subject.{Subject}
use Rattle.names.specs.declared.tuple.Tuple.{Tuple}
use Rattle.meaning.specs.Config.{Configured}
use Rattle.meaning.specs.Admits.{admits}
use Rattle.meaning.specs.Membership.{HasSet}
use Rattle.meaning.specs.Snap.{Snap, set_of}
use Rattle.meaning.specs.TupleSet as set
use Rattle.meaning.specs.TupleSet.{Tuples}
use Rattle.meaning.proofs.TupleSets.{nodes_total, exact_nodes, tuples_total, contains_iff, items_from_list, from_items}
use Rattle.rows.specs.Retained.{AreAdmitted}
use Rattle.leopard.specs.Input.{AreTuplesOf}
use Rattle.leopard.proofs.Gather.{any_contains}
use Rattle.leopard.proofs.Ordered.{less_is, ordered_from}
use Rattle.leopard.proofs.Pages.{sorted_items}

-- ---- what makes an input

pub in_order : (ts : List Tuple) (answer : Bool) → IsAllAdjacentAnswer (λ t u b. b ≡ is_lt (tuple_cmp t u)) ts answer → answer ≡ true → IsStrictlySortedBy tuple_cmp ts
in_order ts true each e = ordered_from tuple_cmp tuples_total ts each
in_order ts false each e = absurd (false≢true e)

pub out_of_order : (ts : List Tuple) (answer : Bool) → IsAllAdjacentAnswer (λ t u b. b ≡ is_lt (tuple_cmp t u)) ts answer → answer ≡ false → IsStrictlySortedBy tuple_cmp ts → ⊥
out_of_order ts true each e sorted = absurd (false≢true (sym e))
out_of_order ts false (k, lt, none) e sorted =
    let dummy : Tuple = get_or ts k nobody in
    let less = Less-from_sorted tuple_cmp ts k (k + 1) dummy sorted (omega arith) lt in
    false≢true (none dummy ∙ ap is_lt less)
  where
    nobody : Tuple
    nobody = record { node = record { object = record { namespace = []; id = [] }; relation = [] }; subject = record { object = record { namespace = []; id = [] }; relation = None } }

pub admitted_are : (config : Configured) (ts : List Tuple) → AreTuplesOf config ts → AreAdmitted (record { config = config; tuples = set.from_list ts })
admitted_are config ts are t has = are.admitted t (subst (λ (us : List Tuple). Contains us t) (items_from_list ts are.ordered) ((contains_iff (set.from_list ts) t).0 has))

-- the tuples of a snapshot
pub tuples_are : (S : Snap) (config : Configured) (ts : List Tuple) → config ≡ S.config → AreAdmitted S → ts ≡ set.items S.tuples → AreTuplesOf config ts
tuples_are S config ts same admitted is = record {
  ordered = subst (IsStrictlySortedBy tuple_cmp) (sym is) (sorted_items S.tuples);
  admitted = λ t c. subst (λ (k : Configured). admits k t ≡ true) (sym same) (admitted t ((contains_iff S.tuples t).1 (subst (λ (us : List Tuple). Contains us t) is c)));
}

pub snap_is : (S : Snap) (config : Configured) (ts : List Tuple) → config ≡ S.config → ts ≡ set.items S.tuples → record { config = config; tuples = set.from_list ts } ≡ S
snap_is S config ts same is = ap₂ (λ (c : Configured) (us : Tuples). record { config = c; tuples = us }) same (ap set.from_list is ∙ from_items S.tuples)

-- ---- the tuples of a node stand together

-- a tuple before another is of its node or of an earlier one
no_later : (o p : Ordering) → ordering_then o p ≡ Less → (o ≡ Less) ⊎ (o ≡ Equal)
no_later Less p e = inl refl
no_later Equal p e = inr refl
no_later Greater p e = cc

node_before : (t u : Tuple) → tuple_cmp t u ≡ Less → (node_cmp t.node u.node ≡ Less) ⊎ (t.node ≡ u.node)
node_before t u less = ⊎_elim inl (λ e. inr (exact_nodes t.node u.node e)) (no_later (node_cmp t.node u.node) (subject_cmp t.subject u.subject) less)

is_le_cases : (o : Ordering) → is_le o ≡ true → (o ≡ Less) ⊎ (o ≡ Equal)
is_le_cases Less e = inl refl
is_le_cases Equal e = inr refl
is_le_cases Greater e = cc

module _ (ts : List Tuple) (n : Node) (sorted : IsStrictlySortedBy tuple_cmp ts) where
  pub below_first : IsPartitionedBy (λ (t : Tuple). is_lt (node_cmp t.node n)) ts
  below_first i j d le lt e = ⊎_elim
      (λ less.
      let t : Tuple = get_or ts i d in
      let u : Tuple = get_or ts j d in
      ⊎_elim
      (λ (l : node_cmp t.node u.node ≡ Less). ap is_lt (nodes_total.trans t.node u.node n l (less_is (node_cmp u.node n) e)))
      (λ (s : t.node ≡ u.node). subst (λ (m : Node). is_lt (node_cmp m n) ≡ true) (sym s) e)
      (node_before t u (Less-from_sorted tuple_cmp ts i j d sorted less lt)))
      (λ ge.
      let same : j ≡ i = omega (arith, le, ge) in
      subst (λ k. is_lt (node_cmp (get_or ts k d).node n) ≡ true) same e)
      (cases_lt i j)

  pub upto_last : IsPartitionedBy (λ (t : Tuple). is_le (node_cmp t.node n)) ts
  upto_last i j d le lt e = ⊎_elim
      (λ less.
      let t : Tuple = get_or ts i d in
      let u : Tuple = get_or ts j d in
      ⊎_elim
      (λ (l : node_cmp t.node u.node ≡ Less). ap is_le (⊎_elim
      (λ (f : node_cmp u.node n ≡ Less). nodes_total.trans t.node u.node n l f)
      (λ (f : node_cmp u.node n ≡ Equal). subst (λ (m : Node). node_cmp t.node m ≡ Less) (exact_nodes u.node n f) l)
      (is_le_cases (node_cmp u.node n) e)))
      (λ (s : t.node ≡ u.node). subst (λ (m : Node). is_le (node_cmp m n) ≡ true) (sym s) e)
      (node_before t u (Less-from_sorted tuple_cmp ts i j d sorted less lt)))
      (λ ge.
      let same : j ≡ i = omega (arith, le, ge) in
      subst (λ k. is_le (node_cmp (get_or ts k d).node n) ≡ true) same e)
      (cases_lt i j)

lt_is_le : (o : Ordering) → is_lt o ≡ true → is_le o ≡ true
lt_is_le Less e = refl
lt_is_le Equal e = cc
lt_is_le Greater e = cc

equal_is : (o : Ordering) → is_lt o ≡ false → is_le o ≡ true → o ≡ Equal
equal_is Less e f = cc
equal_is Equal e f = refl
equal_is Greater e f = cc

-- the places of a node's tuples
pub record IsPart (ts : List Tuple) (n : Node) (first last : ℕ) : Type 0 where
  pub within_first : first ≤ length ts
  pub within : last ≤ length ts
  pub before : AllWithin (λ (t : Tuple). is_lt (node_cmp t.node n) ≡ true) ts 0 first
  pub from : AllWithin (λ (t : Tuple). is_lt (node_cmp t.node n) ≡ false) ts first (length ts)
  pub upto : AllWithin (λ (t : Tuple). is_le (node_cmp t.node n) ≡ true) ts 0 last
  pub past : AllWithin (λ (t : Tuple). is_le (node_cmp t.node n) ≡ false) ts last (length ts)

pub part_order : (ts : List Tuple) (n : Node) (first last : ℕ) → IsPart ts n first last → first ≤ last
part_order ts n first last part = ⊎_elim
    (λ less.
    let d : Tuple = record { node = n; subject = set_of n } in
    let low = part.before last d (omega arith) less in
    let high = part.past last d (omega arith) (omega (arith, less, part.within_first)) in
    absurd (false≢true (sym high ∙ lt_is_le (node_cmp (get_or ts last d).node n) low)))
    (λ more. more)
    (cases_lt last first)

pub part_is : (ts : List Tuple) (n : Node) (first last : ℕ) → IsPart ts n first last → (t : Tuple) → Contains (between first last ts) t ↔ (Contains ts t × (t.node ≡ n))
part_is ts n first last part t = (inside, outside)
  where
    long : length (between first last ts) ≡ last - first
    long = length-between ts first last part.within

    inside : Contains (between first last ts) t → Contains ts t × (t.node ≡ n)
    inside (k, lt, e) =
        let le = part_order ts n first last part in
        let low : first + k < last = omega (arith, lt, long, le) in
        let lt_all : first + k < length ts = omega (arith, low, part.within) in
        let at : get_or ts (first + k) t ≡ t = sym (get_or-between ts first last k t low) ∙ e in
        let above = part.from (first + k) t (omega arith) lt_all in
        let below = part.upto (first + k) t (omega arith) low in
        let node : (get_or ts (first + k) t).node ≡ n = exact_nodes (get_or ts (first + k) t).node n (equal_is (node_cmp (get_or ts (first + k) t).node n) above below) in
        ((first + k, lt_all, at), subst (λ (u : Tuple). u.node ≡ n) at node)

    outside : Contains ts t × (t.node ≡ n) → Contains (between first last ts) t
    outside ((k, lt, e), is) =
        let le = part_order ts n first last part in
        let equal : node_cmp (get_or ts k t).node n ≡ Equal =
        subst (λ (m : Node). node_cmp m n ≡ Equal) (sym (ap (λ (u : Tuple). u.node) e ∙ is)) (tied_itself nodes_total n) in
        let low : first ≤ k = ⊎_elim (λ less. absurd (false≢true (ap is_lt (sym equal) ∙ part.before k t (omega arith) less))) (λ more. more) (cases_lt k first) in
        let high : k < last = ⊎_elim (λ less. less) (λ more. absurd (false≢true (sym (part.past k t more lt) ∙ ap is_le equal))) (cases_lt k last) in
        let back : first + (k - first) ≡ k = omega (arith, low) in
        let inside_part : first + (k - first) < last = omega (arith, back, high) in
        (k - first, omega (arith, long, low, high, le), get_or-between ts first last (k - first) t inside_part ∙ ap (λ q. get_or ts q t) back ∙ e)

-- ---- the usersets of a node

pub sets_of : (S : Snap) (n : Node) (part : List Tuple) (ends : List Node) → ((t : Tuple) → Contains part t ↔ (Contains (set.items S.tuples) t × (t.node ≡ n)))
    → ((m : Node) → Contains ends m ↔ Any (λ t. t.subject ≡ set_of m) part) → (m : Node) → Contains ends m ↔ HasSet S n m
sets_of S n part ends parts are m = (
  λ c.
      let (k, t, lt, e, subject) = (are m).0 c in
      let (there, node) = (parts t).0 (k, lt, e) in
      subst (Contains (set.items S.tuples)) (ap₂ (λ (a : Node) (s : Subject). record { node = a; subject = s }) node subject) there,
  λ h.
      let t : Tuple = record { node = n; subject = set_of m } in
      (are m).1 (any_contains (λ (q : Tuple). q.subject ≡ set_of m) part t ((parts t).1 (h, refl)) refl),
)

-- the node whose members the subject is
pub is_userset : (s : Subject) (r : List ℕ) (read n : Node) → s.relation ≡ Some r → read ≡ record { object = s.object; relation = r } → (n ≡ read) ↔ (s ≡ set_of n)
is_userset s r read n is e = (
  λ same. ap (λ (o : Option (List ℕ)). record { object = s.object; relation = o }) is ∙ ap set_of (sym (same ∙ e)),
  λ subject.
      let relation : r ≡ n.relation = same_Some r n.relation (sym is ∙ ap (λ (q : Subject). q.relation) subject) in
      let object : s.object ≡ n.object = ap (λ (q : Subject). q.object) subject in
      sym (e ∙ ap₂ (λ (o : Object) (k : List ℕ). record { object = o; relation = k }) object relation),
)

pub no_userset : (s : Subject) (n : Node) → s.relation ≡ None → s ≡ set_of n → ⊥
no_userset s n none subject = none-some n.relation (sym none ∙ ap (λ (q : Subject). q.relation) subject)
