-- Each step keeps the rule.
use Rattle.std.proofs.Common.{◌≡◌, ◌≢◌, ◌≤◌, ℕ, zero, suc, List, [], ◌∷◌, ◌++◌, length, set, true, false, true≢false, refl, sym, ap, ◌∙◌, subst, ⊎_elim, arith, length-append}
use mathlib.Core.Option.{some, some-ne-none, some-injective}
use mathlib.Core.List.{IsPrefix}
use lib.ListN.{get_elem?}
use Rattle.crossbeam_utils.specs.Register.{Turns, Forks, Merges}
use Rattle.atomic_table.proofs.Lists.{at_set, set_again}
use Rattle.one_history.specs.declared.entry.Entry.{Entry}
use Rattle.one_history.specs.declared.rule.View.{View}
use Rattle.one_history.specs.History.{signed, entries_by, knower, worker, holder, nobody, with_keeper, Fits, Kept, Added}
use Rattle.one_history.proofs.Lists.{at_end, within, length-set, longer, whole, entries-own, entries-other}

off : false ≡ true → ⊥
off e = true≢false (sym e)

module _ {E : Type 0} where
  abbrev Each : ℕ → List (Entry E) → List (View E) → Type 0
  Each seat log views = (by : ℕ) (v : View E) → get_elem? views by ≡ some v → Fits seat log by v

  abbrev Rest : List (Entry E) → List (View E) → Type 0
  Rest log views = (by : ℕ) → length views ≤ by → entries_by by log ≡ []

  each_set : (seat : ℕ) (log : List (Entry E)) (views : List (View E)) (by : ℕ) (w : View E)
      → ((j : ℕ) (u : View E) → j ≢ by → get_elem? views j ≡ some u → Fits seat log j u) → Fits seat log by w → Each seat log (set views by w)
  each_set seat log views by w others mine j u e =
      ⊎_elim
      (λ (x : (j ≡ by) × (w ≡ u)). subst (λ (y : ℕ × View E). Fits seat log y.0 y.1) (λ i. (sym x.0 i, x.1 i)) mine)
      (λ (x : (j ≢ by) × (get_elem? views j ≡ some u)). others j u x.0 x.1)
      (at_set views by j w u e)

  rest_set : (log : List (Entry E)) (views : List (View E)) (by : ℕ) (w : View E) → Rest log views → Rest log (set views by w)
  rest_set log views by w rest j h = rest j (subst (λ n. n ≤ j) (length-set views by w) h)

  rest_snoc : (log : List (Entry E)) (views : List (View E)) (w : View E) → Rest log views → Rest log (views ++ w ∷ [])
  rest_snoc log views w rest j h = rest j (omega (arith, length-append views (w ∷ [])))

  -- a pass with nothing to tell fits
  fits_nobody : (seat : ℕ) (log : List (Entry E)) (by : ℕ) → Fits seat log by nobody
  fits_nobody seat log by = ((λ k. absurd (off k)), (λ w. absurd (off w)))

  -- the history begins with nothing in it
  pub begins : (words : List ℕ) → Kept {E = E} words (knower [] ∷ [])
  begins words = (0, [], one, λ by h. refl)
    where
      one : (by : ℕ) (v : View E) → get_elem? (knower [] ∷ []) by ≡ some v → Fits 0 [] by v
      one zero v e = subst (Fits 0 [] 0) (some-injective _ _ e) ((λ _. (refl, refl)), (λ w. absurd (off w)))
      one (suc by) v e = absurd (some-ne-none v (sym e))

  -- a pass that knows nothing comes
  pub blanks : (by : ℕ) (v : View E) → Forks Kept by v v nobody
  blanks by v words views h at = (
    h.0,
    h.1,
    (λ j u e. ⊎_elim
        (λ was. h.2 j u (subst (λ l. get_elem? l j ≡ some u) (set_again views by v at) was))
        (λ (t : (j ≡ length (set views by v)) × (nobody ≡ u)). subst (Fits h.0 h.1 j) t.1 (fits_nobody h.0 h.1 j))
        (at_end (set views by v) nobody u j e)),
    rest_snoc h.1 (set views by v) nobody (rest_set h.1 views by v h.3),
  )

  -- a new worker comes, from the pass that knows all
  comes : (by : ℕ) (all : List (Entry E)) → Forks Kept by (knower all) (knower all) (worker all [])
  comes by all words views h at =
      let mine = (h.2 by (knower all) at).0 refl in (
        h.0,
        h.1,
        (λ j u e. ⊎_elim
            (λ was. h.2 j u (subst (λ l. get_elem? l j ≡ some u) (set_again views by (knower all) at) was))
            (λ (t : (j ≡ length (set views by (knower all))) × (worker all [] ≡ u)). subst (Fits h.0 h.1 j) t.1 (
              (λ k. absurd (off k)),
              (λ _. (subst (λ l. IsPrefix all l) mine.1 (whole all), rest_set h.1 views by (knower all) h.3 j (omega (arith, t.0)))),
            ))
            (at_end (set views by (knower all)) (worker all []) u j e)),
        rest_snoc h.1 (set views by (knower all)) (worker all []) (rest_set h.1 views by (knower all) h.3),
      )

  -- a worker takes the view that knows all
  takes : (by : ℕ) (all seen mine : List (Entry E)) (other : ℕ)
      → Merges Kept by (worker seen mine) other (knower all) (with_keeper (worker seen mine) (knower all)) nobody
  takes by all seen mine other words views h at apart there =
      let v = worker seen mine in
      let w = with_keeper v (knower all) in
      let was : get_elem? views other ≡ some (knower all) =
      ⊎_elim (λ (t : (other ≡ by) × (w ≡ knower all)). absurd (apart t.0)) (λ (t : (other ≢ by) × (get_elem? views other ≡ some (knower all))). t.1)
      (at_set views by other w (knower all) there) in
      let keeps = (h.2 other (knower all) was).0 refl in
      let works = (h.2 by v at).1 refl in (
        by,
        h.1,
        each_set by h.1 (set views by w) other nobody
            (λ j u far e. ⊎_elim
            (λ (t : (j ≡ by) × (w ≡ u)). subst (λ (y : ℕ × View E). Fits by h.1 y.0 y.1) (λ i. (sym t.0 i, t.1 i)) ((λ _. (refl, keeps.1)), (λ _. works)))
            (λ (t : (j ≢ by) × (get_elem? views j ≡ some u)). ((λ k. absurd (far (((h.2 j u t.1).0 k).0 ∙ sym keeps.0))), (h.2 j u t.1).1))
            (at_set views by j w u e))
            (fits_nobody by h.1 other),
        rest_set h.1 (set views by w) other nobody (rest_set h.1 views by w h.3),
      )

  -- a worker that knows all adds its entries
  adds : (by : ℕ) (all seen mine : List (Entry E)) (what : List E) → Turns Kept by (holder all seen mine) (λ x. x) (Added by what)
  adds by all seen mine what words views h at =
      let v = holder all seen mine in
      let more = signed by what in
      let keeps = (h.2 by v at).0 refl in
      let works = (h.2 by v at).1 refl in
      let w = holder (all ++ more) (all ++ more) (mine ++ more) in
      let log = h.1 ++ more in
      let whole_now : all ++ more ≡ log = ap (λ l. l ++ more) keeps.1 in
      let own : entries_by by log ≡ mine ++ more = entries-own by h.1 what ∙ ap (λ l. l ++ more) works.1 in (
        w,
        (
          by,
          log,
          each_set by log views by w
              (λ j u far e. (
                (λ k. absurd (far (((h.2 j u e).0 k).0 ∙ sym keeps.0))),
                (λ k. let old = (h.2 j u e).1 k in (longer u.seen h.1 more old.0, entries-other j by h.1 what far ∙ old.1)),
              ))
              ((λ _. (refl, whole_now)), (λ _. (subst (λ l. IsPrefix (all ++ more) l) whole_now (whole (all ++ more)), own))),
          (λ j far. let here = within views by v at in
              let far' : length views ≤ j = subst (λ n. n ≤ j) (length-set views by w) far in
              entries-other j by h.1 what (λ e. absurd (omega (arith, e, here, far'))) ∙ h.3 j far'),
        ),
        (
          subst (λ l. IsPrefix seen l) (sym keeps.1) works.0,
          refl,
          ap (entries_by by) whole_now ∙ own,
        ),
      )

  -- the view that knows all goes back
  gives : (by : ℕ) (all seen mine : List (Entry E)) → Forks Kept by (holder all seen mine) (worker seen mine) (knower all)
  gives by all seen mine words views h at =
      let v = holder all seen mine in
      let left = worker seen mine in
      let keeps = (h.2 by v at).0 refl in
      let works = (h.2 by v at).1 refl in
      let last = length (set views by left) in (
        last,
        h.1,
        (λ j u e. ⊎_elim
            (λ was. ⊎_elim
            (λ (t : (j ≡ by) × (left ≡ u)). subst (λ (y : ℕ × View E). Fits last h.1 y.0 y.1) (λ i. (sym t.0 i, t.1 i)) ((λ k. absurd (off k)), (λ _. works)))
            (λ (t : (j ≢ by) × (get_elem? views j ≡ some u)). ((λ k. absurd (t.0 (((h.2 j u t.1).0 k).0 ∙ sym keeps.0))), (h.2 j u t.1).1))
            (at_set views by j left u was))
            (λ (t : (j ≡ last) × (knower all ≡ u)). subst (Fits last h.1 j) t.1 ((λ _. (t.0, keeps.1)), (λ k. absurd (off k))))
            (at_end (set views by left) (knower all) u j e)),
        rest_snoc h.1 (set views by left) (knower all) (rest_set h.1 views by left h.3),
      )

  -- the view that knows all goes to a new pass
  moves : (by : ℕ) (all : List (Entry E)) → Forks Kept by (knower all) nobody (knower all)
  moves by all words views h at =
      let keeps = (h.2 by (knower all) at).0 refl in
      let last = length (set views by nobody) in (
        last,
        h.1,
        (λ j u e. ⊎_elim
            (λ was. ⊎_elim
            (λ (t : (j ≡ by) × (nobody ≡ u)). subst (Fits last h.1 j) t.1 (fits_nobody last h.1 j))
            (λ (t : (j ≢ by) × (get_elem? views j ≡ some u)). ((λ k. absurd (t.0 (((h.2 j u t.1).0 k).0 ∙ sym keeps.0))), (h.2 j u t.1).1))
            (at_set views by j nobody u was))
            (λ (t : (j ≡ last) × (knower all ≡ u)). subst (Fits last h.1 j) t.1 ((λ _. (t.0, keeps.1)), (λ k. absurd (off k))))
            (at_end (set views by nobody) (knower all) u j e)),
        rest_snoc h.1 (set views by nobody) (knower all) (rest_set h.1 views by nobody h.3),
      )

  -- the same at a view of which this is known

  pub comes_as : (by : ℕ) (v : View E) (all : List (Entry E)) → v ≡ knower all → Forks Kept by v v (worker v.all [])
  comes_as by v all is = subst (λ (x : View E). Forks Kept by x x (worker x.all [])) (sym is) (comes by all)

  pub moves_as : (by : ℕ) (v : View E) (all : List (Entry E)) → v ≡ knower all → Forks Kept by v nobody (knower v.all)
  moves_as by v all is = subst (λ (x : View E). Forks Kept by x nobody (knower x.all)) (sym is) (moves by all)

  pub takes_as : (by : ℕ) (v : View E) (seen mine : List (Entry E)) (other : ℕ) (u : View E) (all : List (Entry E)) → v ≡ worker seen mine → u ≡ knower all
      → Merges Kept by v other u (with_keeper v u) nobody
  takes_as by v seen mine other u all is there =
      subst (λ (x : View E × View E). Merges Kept by x.0 other x.1 (with_keeper x.0 x.1) nobody) (λ i. (sym is i, sym there i)) (takes by all seen mine other)

  pub adds_as : (by to : ℕ) (v : View E) (all seen mine : List (Entry E)) (what : List E) → v ≡ holder all seen mine → to ≡ by
      → Turns Kept by v (λ x. x) (Added to what)
  adds_as by to v all seen mine what is same =
      subst (λ (x : ℕ × View E). Turns Kept by x.1 (λ y. y) (Added x.0 what)) (λ i. (sym same i, sym is i)) (adds by all seen mine what)

  pub gives_as : (by : ℕ) (v : View E) (all seen mine : List (Entry E)) → v ≡ holder all seen mine → Forks Kept by v (worker v.seen v.mine) (knower v.all)
  gives_as by v all seen mine is = subst (λ (x : View E). Forks Kept by x (worker x.seen x.mine) (knower x.all)) (sym is) (gives by all seen mine)
