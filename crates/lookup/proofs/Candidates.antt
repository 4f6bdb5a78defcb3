-- The ids of the nodes that a walk reached.
use Rattle.std.proofs.Common.{◌≡◌, ℕ, suc, ◌+◌, ◌<◌, ◌≤◌, List, [], ◌∷◌, length, get_or, true, ap, sym, subst, ◌∙◌, ⊎_elim, arith}
use Rattle.std.specs.Prelude.{Contains, Some, None}
use Rattle.std.specs.List.{slice_get}
use Rattle.std.specs.List.Sorted.{IsSorted, IsPermutation}
use Rattle.std.specs.Cmp.Lexicographic.{slice_cmp, nat_list_cmp_total}
use Rattle.std.specs.Ordering.{nat_cmp, ordering_index}
use Rattle.std.specs.declared.cmp.Ordering.TheVariants.{Less}
use Rattle.std.proofs.lemmas.Bool.{cases_lt}
use Rattle.std.proofs.lemmas.Cmp.{tied_itself}
use Rattle.std.proofs.lemmas.List.Sorted.{Contains-permutation, searchable_from_sorted}
use Rattle.std.proofs.lemmas.Option.{none-some, same_Some, slice_get-get_or}
use Rattle.names.specs.declared.node.Node.{Node}
use Rattle.meaning.specs.TupleSet.{Tuples}
use Rattle.meaning.specs.Config.{Configured, Defined, IsWhole}
use Rattle.lookup.specs.declared.asked.Lookup.{Lookup}
use Rattle.lookup.specs.Found.{node_of, is_later}
use Rattle.lookup.specs.inside.Underway.{IsRising}
use Rattle.lookup.specs.inside.Walking.{HasReached, AreCandidates}
use Rattle.lookup.proofs.Reach.{members_are_reached}

-- the ids of the nodes before a place that are asked for are there
abbrev pub HasIds : Lookup → List Node → ℕ → List (List ℕ) → Type 0
HasIds asked nodes place ids = (k : ℕ) (id : List ℕ) → k < place → slice_get nodes k ≡ Some (node_of asked.relation id) → is_later asked.after id ≡ true → Contains ids id

module _ (asked : Lookup) (nodes : List Node) (place : ℕ) where
  pub one_node_more : (old new : List (List ℕ)) (node : Node) → slice_get nodes place ≡ Some node → ((id : List ℕ) → Contains old id → Contains new id)
      → ((id : List ℕ) → node ≡ node_of asked.relation id → is_later asked.after id ≡ true → Contains new id) → HasIds asked nodes place old → HasIds asked nodes (place + 1) new
  one_node_more old new node here kept added before k id less at later = ⊎_elim
      (λ l. kept id (before k id l at later))
      (λ l. added id (same_Some node (node_of asked.relation id) (sym here ∙ ap (slice_get nodes) (same l) ∙ at)) later)
      (cases_lt k place)
    where
      same : place ≤ k → place ≡ k
      same l = omega (arith, l, less)

  pub no_more_nodes : (ids : List (List ℕ)) → slice_get nodes place ≡ None → HasIds asked nodes place ids → HasIds asked nodes (place + 1) ids
  no_more_nodes ids none before k id less at later = ⊎_elim
      (λ l. before k id l at later)
      (λ l. absurd (none-some (node_of asked.relation id) (sym none ∙ ap (slice_get nodes) (same l) ∙ at)))
      (cases_lt k place)
    where
      same : place ≤ k → place ≡ k
      same l = omega (arith, l, less)

  pub all_ids : (ids : List (List ℕ)) → length nodes ≤ place → HasIds asked nodes place ids
      → (id : List ℕ) → Contains nodes (node_of asked.relation id) → is_later asked.after id ≡ true → Contains ids id
  all_ids ids end before id c later = before c.0 id (omega (arith, end, c.1)) (slice_get-get_or nodes c.0 (node_of asked.relation id) c.1 ∙ ap (λ x. Some x) c.2) later

rises : (ids : List (List ℕ)) → ((i j : ℕ) (d : List ℕ) → i ≤ j → j < length ids → slice_cmp nat_cmp (get_or ids j d) (get_or ids i d) ≡ Less → ⊥) → IsRising ids
rises [] far = tt
rises (x ∷ ids) far = (
  λ j c less. far 0 (suc c.0) j (omega arith) (omega (arith, c.1)) (subst (λ (y : List ℕ). slice_cmp nat_cmp y x ≡ Less) (sym c.2) less),
  rises ids (λ i j d a b. far (suc i) (suc j) d (omega (arith, a)) (omega (arith, b))),
)

-- what is sorted rises
pub sorted_is_rising : (ids : List (List ℕ)) → IsSorted (slice_cmp nat_cmp) ids → IsRising ids
sorted_is_rising ids sorted = rises ids (λ i j d a b less.
    omega (
      arith,
      searchable_from_sorted nat_list_cmp_total (λ y. y) ids (get_or ids i d) sorted i j d a b,
      ap ordering_index (tied_itself nat_list_cmp_total (get_or ids i d)),
      ap ordering_index less,
    ))

-- the ids of the reached nodes that are asked for, once they are sorted
pub are_candidates : (config : Configured) (subjects : Tuples) (asked : Lookup) (nodes : List Node) (ids sorted : List (List ℕ))
    → ((d : Defined) → Contains config.relations d → IsWhole d.form) → HasReached config subjects asked.user nodes
    → ((id : List ℕ) → Contains nodes (node_of asked.relation id) → is_later asked.after id ≡ true → Contains ids id)
    → IsPermutation ids sorted → IsSorted (slice_cmp nat_cmp) sorted → AreCandidates config subjects asked sorted
are_candidates config subjects asked nodes ids sorted whole reached kept same_ids in_order = record {
  rising = sorted_is_rising sorted in_order;
  there = λ S same covers id found.
      let whole_here = subst (λ (k : Configured). (d : Defined) → Contains k.relations d → IsWhole d.form) (sym same) whole in
      Contains-permutation ids sorted id same_ids
      (kept id (members_are_reached S asked.user (Contains nodes) whole_here (reached S same covers) (node_of asked.relation id) found.0) found.1);
}
