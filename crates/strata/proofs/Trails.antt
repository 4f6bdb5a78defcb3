-- A trail, step by step.
use Rattle.std.proofs.Common.{◌≡◌, ℕ, ◌<◌, List, [], ◌∷◌, ◌++◌, length, get_or, ap, ◌∙◌, sym, subst, inl, inr, ⊎_elim, arith, refl}
use Rattle.std.specs.Prelude.{Contains}
use Rattle.std.proofs.lemmas.Bool.{cases_lt}
use Rattle.std.proofs.lemmas.List.{get_or_default, get_or_append_left, get_or_push, length_push}
use Rattle.std.proofs.lemmas.List.Elements.{Contains-append_left, Contains-push}
use Rattle.strata.specs.declared.graph.Step.{Step}
use Rattle.strata.specs.declared.search.Seen.{Seen}
use Rattle.strata.specs.Graph.{HasStep, Walk, here, onward}
use Rattle.strata.specs.inside.Search.{HasNode, IsTrail, IsReached}

pub trail_one : (steps : List Step) (x : Seen) → IsTrail steps x.node (x ∷ [])
trail_one steps x = record {
  some = omega arith;
  first = λ d. refl;
  earlier = λ i d h l. absurd (omega (arith, h, l));
  by_step = λ i d h l. absurd (omega (arith, h, l));
  apart = λ i j d h l. absurd (omega (arith, h, l));
}

module _ (steps : List Step) (start : ℕ) (seen : List Seen) (trail : IsTrail steps start seen) (new : Seen) where
  below : (i : ℕ) (d : Seen) → i < length seen → get_or (seen ++ new ∷ []) i d ≡ get_or seen i d
  below i d h = get_or_append_left seen (new ∷ []) d i h

  last : (i : ℕ) (d : Seen) → length seen ≡ i → get_or (seen ++ new ∷ []) i d ≡ new
  last i d e = get_or_push seen new d i e

  node_at : (i : ℕ) (d : Seen) → i < length seen → HasNode seen (get_or seen i d).node
  node_at i d h = (get_or seen i d, (i, h, get_or_default seen i (get_or seen i d) d h), refl)

  pub trail_more : new.by < length seen → ((d : Seen) → HasStep steps (get_or seen new.by d).node new.subtracted new.node) → (HasNode seen new.node → ⊥) → IsTrail steps start (seen ++ new ∷ [])
  trail_more by step fresh = record {
    some = let e = length_push seen new in omega (arith, e);
    first = λ d. let h : 0 < length seen = trail.some in rw (below 0 d h) (trail.first d);
    earlier = λ i d h l. ⊎_elim
        (λ less. rw (below i d less) (trail.earlier i d h less))
        (λ more. let e : length seen ≡ i = let k = length_push seen new in omega (arith, k, l, more) in rw (last i d e) (subst (λ n. new.by < n) e by))
        (cases_lt i (length seen));
    by_step = λ i d h l. ⊎_elim
        (λ less.
        let earlier : (get_or seen i d).by < length seen = omega (arith, trail.earlier i d h less, less) in
        rw (below i d less) (rw (below (get_or seen i d).by d earlier) (trail.by_step i d h less)))
        (λ more.
        let e : length seen ≡ i = let k = length_push seen new in omega (arith, k, l, more) in
        rw (last i d e) (rw (below new.by d by) (step d)))
        (cases_lt i (length seen));
    apart = λ i j d h l. ⊎_elim
        (λ less. let low : i < length seen = omega (arith, h, less) in rw (below i d low) (rw (below j d less) (trail.apart i j d h less)))
        (λ more.
        let e : length seen ≡ j = let k = length_push seen new in omega (arith, k, l, more) in
        let low : i < length seen = omega (arith, h, e) in
        rw (below i d low) (rw (last j d e) (λ same. fresh (subst (HasNode seen) same (node_at i d low)))))
        (cases_lt j (length seen));
  }

-- all that a walk comes to
pub walked : (steps : List Step) (start : ℕ) (seen : List Seen) → IsReached steps start seen → {a b : ℕ} → Walk steps a b → HasNode seen a → HasNode seen b
walked steps start seen reached here h = h
walked steps start seen reached (onward {a = a} {b = b} {sign = sign} step w) h = walked steps start seen reached w (reached.closed a b sign step h)
