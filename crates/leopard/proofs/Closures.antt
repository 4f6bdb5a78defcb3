-- Walks over ids are walks over groups.
use Rattle.std.proofs.Common.{◌≡◌, ℕ, zero, suc, ◌<◌, ◌+◌, List, [], ◌∷◌, ◌++◌, length, refl, ap, sym, subst, ◌∙◌, inl, inr, ⊎_elim, arith, length-append}
use Rattle.std.specs.Prelude.{◌↔◌, ◌⊎◌, Contains, Some}
use Rattle.std.specs.List.{slice_get}
use Rattle.std.proofs.lemmas.Bool.{cases_lt}
use Rattle.std.proofs.lemmas.List.{get_or_append_left, get_or_push}
use Rattle.std.proofs.lemmas.Option.{same_Some, slice_get_within}
use Rattle.names.specs.declared.node.Node.{Node}
use Rattle.meaning.specs.Snap.{Snap}
use Rattle.graphs.specs.Groups.{IsGroupArc, GroupWalk, here, on}
use Rattle.idsets.specs.Naming.{AreDistinct}
use Rattle.idsets.proofs.Numbering.{last_get}
use Rattle.leopard.specs.Build.{IsSetOf, AreSetsOf}
use Rattle.leopard.specs.inside.Closing.{IdWalk, stay, go, IsWalkSet, AreWalkSetsTo, AreWalkSets}
use Rattle.leopard.proofs.Ordered.{get_contains, contains_get}

-- ---- sets one behind the other

pub walks_none : (arcs sets : List (List ℕ)) → sets ≡ [] → AreWalkSetsTo arcs 0 sets
walks_none arcs sets none = record { count = ap length none; each = λ at lt. absurd (omega (arith, lt)) }

pub walks_more : (arcs sets : List (List ℕ)) (end : ℕ) (set : List ℕ) → AreWalkSetsTo arcs end sets → IsWalkSet arcs end set → AreWalkSetsTo arcs (end + 1) (sets ++ set ∷ [])
walks_more arcs sets end set so_far more = record {
  count = length-append sets (set ∷ []) ∙ ap (λ k. k + 1) so_far.count;
  each = λ at lt. ⊎_elim
      (λ l. subst (IsWalkSet arcs at) (sym (get_or_append_left sets (set ∷ []) [] at (omega (arith, l, so_far.count)))) (so_far.each at l))
      (λ r.
      let e : end ≡ at = omega (arith, lt, r) in
      subst (IsWalkSet arcs at) (sym (get_or_push sets set [] at (so_far.count ∙ e))) (subst (λ k. IsWalkSet arcs k set) e more))
      (cases_lt at end);
}

pub sets_none : {K : Type 0} (groups : List Node) (P : K → Node → Type 0) (keys : List K) (sets : List (List ℕ)) → keys ≡ [] → sets ≡ [] → AreSetsOf groups P keys sets
sets_none groups P keys sets no_key none = record {
  even = ap length none ∙ sym (ap length no_key);
  each = λ at k there. absurd (omega (arith, slice_get_within keys at k there, ap length no_key));
}

front_is : {K : Type 0} (xs ys : List K) (i : ℕ) → i < length xs → slice_get (xs ++ ys) i ≡ slice_get xs i
front_is [] ys i lt = absurd (omega (arith, lt))
front_is (x ∷ xs) ys zero lt = refl
front_is (x ∷ xs) ys (suc i) lt = front_is xs ys i (omega (arith, lt))

module _ {K : Type 0} (groups : List Node) (P : K → Node → Type 0) where
  key_cases : (keys : List K) (k : K) (at : ℕ) (x : K) → slice_get (keys ++ k ∷ []) at ≡ Some x → ((at < length keys) × (slice_get keys at ≡ Some x)) ⊎ ((at ≡ length keys) × (k ≡ x))
  key_cases keys k at x there = ⊎_elim
      (λ l. inl (l, sym (front_is keys (k ∷ []) at l) ∙ there))
      (λ r.
      let long = slice_get_within (keys ++ k ∷ []) at x there in
      let e : at ≡ length keys = omega (arith, r, long, length-append keys (k ∷ [])) in
      inr (e, same_Some k x (sym (last_get keys k) ∙ ap (slice_get (keys ++ k ∷ [])) (sym e) ∙ there)))
      (cases_lt at (length keys))

  pub sets_more : (keys : List K) (k : K) (sets : List (List ℕ)) (set : List ℕ) → AreSetsOf groups P keys sets → IsSetOf groups (P k) set → AreSetsOf groups P (keys ++ k ∷ []) (sets ++ set ∷ [])
  sets_more keys k sets set so_far more = record {
    even = length-append sets (set ∷ []) ∙ ap (λ n. n + 1) so_far.even ∙ sym (length-append keys (k ∷ []));
    each = λ at x there. ⊎_elim
        (λ (l, old). subst (IsSetOf groups (P x)) (sym (get_or_append_left sets (set ∷ []) [] at (omega (arith, l, so_far.even)))) (so_far.each at x old))
        (λ (e, same). subst (IsSetOf groups (P x)) (sym (get_or_push sets set [] at (so_far.even ∙ sym e))) (subst (λ y. IsSetOf groups (P y) set) same more))
        (key_cases keys k at x there);
  }

-- a set of ids, in other words
pub set_as : (groups : List Node) (P Q : Node → Type 0) (set : List ℕ) → ((n : Node) → P n ↔ Q n) → IsSetOf groups P set → IsSetOf groups Q set
set_as groups P Q set same is = record {
  ascending = is.ascending;
  ids = λ id. (
    λ h. let (n, at, p) = (is.ids id).0 h in (n, at, (same n).0 p),
    λ (n, at, q). (is.ids id).1 (n, at, (same n).1 q),
  );
}

-- ---- walks

module _ (S : Snap) (groups : List Node) (arcs : List (List ℕ)) (distinct : AreDistinct groups) (are : AreSetsOf groups (IsGroupArc S) groups arcs)
    (closed : (n m : Node) → Contains groups n → IsGroupArc S n m → Contains groups m) where
  walk_to : (at : ℕ) (g : Node) → slice_get groups at ≡ Some g → (id : ℕ) → IdWalk arcs at id → (n : Node) × (slice_get groups id ≡ Some n) × GroupWalk S g n
  walk_to at g there id stay = (g, there, here)
  walk_to at g there id (go {i = i} w arc) =
      let (m, m_at, m_walk) = walk_to at g there i w in
      let (n, n_at, m_arc) = ((are.each i m m_at).ids id).0 arc in
      (n, n_at, on m_walk m_arc)

  walk_in : (g n : Node) → Contains groups g → GroupWalk S g n → Contains groups n
  walk_in g n c here = c
  walk_in g n c (on {g = m} w arc) = closed m n (walk_in g m c w) arc

  walk_from : (at : ℕ) (g : Node) → slice_get groups at ≡ Some g → (n : Node) → GroupWalk S g n → (id : ℕ) → slice_get groups id ≡ Some n → IdWalk arcs at id
  walk_from at g there n here id is = subst (IdWalk arcs at) (distinct at id n there is) stay
  walk_from at g there n (on {g = m} w arc) id is =
      let (k, k_at) = contains_get groups m (walk_in g m (get_contains groups at g there) w) in
      go (walk_from at g there m w k k_at) (((are.each k m k_at).ids id).1 (n, is, arc))

  pub walks_are_closures : (sets : List (List ℕ)) → AreWalkSets arcs sets → AreSetsOf groups (GroupWalk S) groups sets
  walks_are_closures sets walks = record {
    even = walks.count ∙ are.even;
    each = λ at g there.
        let walk = walks.each at (omega (arith, slice_get_within groups at g there, are.even)) in
        record {
          ascending = walk.ascending;
          ids = λ id. (
            λ h. walk_to at g there id ((walk.ids id).0 h),
            λ (n, is, w). (walk.ids id).1 (walk_from at g there n w id is),
          );
        };
  }
