-- A path has no more subtracted steps than there are steps, where none of these has a walk back.
use Rattle.std.proofs.Common.{◌≡◌, ℕ, suc, ◌≤◌, ◌+◌, List, [], ◌∷◌, length, get_or, ap, sym, subst, ⊎_elim, arith, refl}
use Rattle.std.specs.Prelude.{Contains, map, true, false, nat_eq}
use Rattle.std.specs.List.{IsDistinct, AllByRecursion}
use Rattle.std.specs.Set.{is_member}
use Rattle.std.proofs.lemmas.Bool.{ne_eqb, eqb-true, eq-eqb}
use Rattle.std.proofs.lemmas.Cmp.{nat_eq_equiv}
use Rattle.std.proofs.lemmas.Map.Keys.{IsDistinct-cons}
use Rattle.std.proofs.lemmas.Map.Made.{length-le_from_is_member}
use Rattle.std.proofs.lemmas.Map.Views.{Contains-from_any}
use Rattle.std.proofs.lemmas.List.Folds.{list_any_at}
use Rattle.std.proofs.lemmas.List.{length-map}
use Rattle.meaning.proofs.Lists.{contains_here, contains_there, contains_cases, contains_none, contains_map}
use Rattle.meaning.specs.Levels.{Path, stop, plain, subtracted}
use Rattle.strata.specs.declared.graph.Step.{Step}
use Rattle.strata.specs.Graph.{HasStep, NoneBack, Walk, here, onward, sign_cost}

-- the starts of the subtracted steps of a path
record HasSources (steps : List Step) (r n : ℕ) (xs : List ℕ) : Type 0 where
  long : length xs ≡ n
  distinct : IsDistinct nat_eq xs
  walks : (q : ℕ) → Contains xs q → Walk steps r q
  starts : (q : ℕ) → Contains xs q → Contains (map (λ s. s.from) steps) q

apart_from : (r : ℕ) (xs : List ℕ) → (Contains xs r → ⊥) → AllByRecursion (λ y. nat_eq r y ≡ false) xs
apart_from r [] none = tt
apart_from r (x ∷ xs) none =
    (ne_eqb r x (λ e. none (subst (λ y. Contains (x ∷ xs) y) (sym e) (contains_here x xs))), apart_from r xs (λ c. none (contains_there x r xs c)))

none_distinct : IsDistinct nat_eq []
unfolding IsDistinct
none_distinct = tt

sources : (steps : List Step) → NoneBack steps → {r n : ℕ} → Path (HasStep steps) r n → (xs : List ℕ) × HasSources steps r n xs
sources steps none stop = ([], record { long = refl; distinct = none_distinct; walks = λ q c. absurd (contains_none q c); starts = λ q c. absurd (contains_none q c) })
sources steps none (plain {r = r} {s = s} {n = n} step p) =
    let x = sources steps none p in
    (x.0, record { long = x.1.long; distinct = x.1.distinct; walks = λ q c. onward step (x.1.walks q c); starts = x.1.starts })
sources steps none (subtracted {r = r} {s = s} {n = n} step p) =
    let x = sources steps none p in (
      r ∷ x.0,
      record {
        long = ap suc x.1.long;
        distinct = IsDistinct-cons nat_eq r x.0 (apart_from r x.0 (λ c. none r s step (x.1.walks r c))) x.1.distinct;
        walks = λ q c. ⊎_elim (λ e. subst (Walk steps r) e here) (λ d. onward step (x.1.walks q d)) (contains_cases r q x.0 c);
        starts = λ q c. ⊎_elim (λ e. subst (Contains (map (λ z. z.from) steps)) e (contains_map (λ z. z.from) steps (record { from = r; to = s; subtracted = true }) step)) (x.1.starts q) (contains_cases r q x.0 c);
      },
    )

member_from : (xs : List ℕ) (q : ℕ) → Contains xs q → is_member nat_eq xs q ≡ true
member_from xs q (k, h, e) = list_any_at (nat_eq q) xs k q h (eq-eqb q (get_or xs k q) (sym e))

member_to : (xs : List ℕ) (q : ℕ) → is_member nat_eq xs q ≡ true → Contains xs q
member_to xs q h = Contains-from_any (λ x y e. eqb-true x y e) q xs h

pub path_few : (steps : List Step) → NoneBack steps → (r n : ℕ) → Path (HasStep steps) r n → n ≤ length steps
path_few steps none r n p =
    let x = sources steps none p in
    let starts = map (λ (z : Step). z.from) steps in
    let few : length x.0 ≤ length starts = length-le_from_is_member nat_eq_equiv x.0 starts x.1.distinct (λ q h. member_from starts q (x.1.starts q (member_to x.0 q h))) in
    let long : length starts ≡ length steps = length-map steps (λ (z : Step). z.from) in
    omega (arith, few, long, x.1.long)

-- levels that meet each step are above each path
pub path_below : (steps : List Step) (levels : List ℕ) → ((s : Step) → Contains steps s → get_or levels s.to 0 + sign_cost s.subtracted ≤ get_or levels s.from 0) → {r n : ℕ} → Path (HasStep steps) r n → n ≤ get_or levels r 0
path_below steps levels met stop = omega arith
path_below steps levels met (plain {r = r} {s = s} {n = n} step p) =
    let h : n ≤ get_or levels s 0 = path_below steps levels met p in
    let m : get_or levels s 0 + 0 ≤ get_or levels r 0 = met (record { from = r; to = s; subtracted = false }) step in
    omega (arith, h, m)
path_below steps levels met (subtracted {r = r} {s = s} {n = n} step p) =
    let h : n ≤ get_or levels s 0 = path_below steps levels met p in
    let m : get_or levels s 0 + 1 ≤ get_or levels r 0 = met (record { from = r; to = s; subtracted = true }) step in
    omega (arith, h, m)
