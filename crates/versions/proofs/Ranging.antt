-- The tuples of one revision whose texts begin alike, one after another.
use Rattle.std.proofs.Common.{◌≡◌, ℕ, List, [], ◌∷◌, refl, ap, sym, subst, ◌∙◌}
use Rattle.std.specs.Prelude.{Bool, true, false, cond, ◌&&◌, filter}
use Rattle.std.specs.List.{AllByRecursion}
use Rattle.std.specs.List.Sorted.{IsStrictlySortedBy}
use Rattle.std.specs.Map.{keys_of}
use Rattle.std.specs.BTreeMap.Range.{range_contains}
use Rattle.std.specs.Ordering.{is_le}
use Rattle.std.specs.declared.ops.Bound.TheVariants.{Included, Unbounded}
use Rattle.std.specs.declared.cmp.Ordering.TheVariants.{Less}
use Rattle.std.proofs.lemmas.Map.Keys.{sorted_tail}
use Rattle.names.specs.Order.{tuple_cmp}
use Rattle.names.specs.declared.tuple.Tuple.{Tuple}
use Rattle.shelf.specs.Texts.{text_cmp}
use Rattle.tuple_keys.specs.Spelled.{tuple_of, IsSpelling}
use Rattle.tuple_keys.specs.Texts.{begins, IsStartOf}
use Rattle.tuple_keys.proofs.Spellings.{texts_order, none_starts_after}
use Rattle.versions.specs.declared.version.Version.{Version}
use Rattle.versions.specs.Ranges.{is_from, standing_in, AreFrom, IsRange}
use Rattle.versions.specs.Texts.{Texts, entries_of, AreSpelled}
use Rattle.versions.specs.Versions.{Entries, keys, stands, tuples_at, IsRising, AreRising}
use Rattle.versions.proofs.Picking.{pick, picked_is, picked_both}
use Rattle.versions.proofs.Rising.{all_rising, from_rising}
use Rattle.versions.proofs.Together.{from, from_all, from_spelled, from_sorted, from_above}

abbrev stands_then : ℕ → Tuple × List Version → Bool
stands_then rev e = stands e.1 rev

-- ---- all of them

module _ (p : List ℕ) (g : Tuple → Bool) (begin : IsStartOf p g) (rev : ℕ) where
  standing_is : (es : Texts) → AreSpelled es → standing_in p rev es ≡ pick (λ e. stands e.1 rev && g e.0) (entries_of es)
  standing_is [] s = refl
  standing_is (e ∷ es) s =
      ap (λ b. cond (stands e.1 rev && b) (tuple_of e.0 ∷ standing_in p rev es) (standing_in p rev es)) (begin e.0 s.0)
      ∙ ap (λ (ts : List Tuple). cond (stands e.1 rev && g (tuple_of e.0)) (tuple_of e.0 ∷ ts) ts) (standing_is es s.1)

  pub all_standing : (es : Texts) → AreSpelled es → (m : Entries) → entries_of es ≡ m → IsStrictlySortedBy tuple_cmp (keys m)
      → standing_in p rev (from p es) ≡ filter g (tuples_at m rev)
  all_standing es s m is ordered =
      standing_is (from p es) (from_spelled p es s)
      ∙ from_all p g begin (stands_then rev) es s
      ∙ ap (pick (λ e. stands e.1 rev && g e.0)) is
      ∙ picked_both g (stands_then rev) m
      ∙ ap (filter g) (picked_is (λ ms. stands ms rev) m ordered)

pub range_first : (p : List ℕ) (es : Texts) → AreSpelled es → IsStrictlySortedBy text_cmp (keys_of es) → (m : Entries) → entries_of es ≡ m → AreRising m → IsRange p (from p es)
range_first p es s sorted m is r = record {
  spelled = from_spelled p es s;
  rising = from_rising p es (all_rising es s sorted m is r);
  sorted = from_sorted p es sorted;
  above = from_above p es;
}

-- ---- from a tuple on

module _ (p k : List ℕ) where
  from_still_above : (es : Texts) → AreFrom p es → AreFrom p (from k es)
  from_still_above [] a = tt
  from_still_above (e ∷ es) a = by_test (range_contains text_cmp (Included k) Unbounded e.0) (from_still_above es a.1)
    where
      by_test : (b : Bool) → AreFrom p (from k es) → AreFrom p (cond b (e ∷ from k es) (from k es))
      by_test true rest = (a.0, rest)
      by_test false rest = rest

  pub range_from : (es : Texts) → IsRange p es → IsRange p (from k es)
  range_from es r = record {
    spelled = from_spelled k es r.spelled;
    rising = from_rising k es r.rising;
    sorted = from_sorted k es r.sorted;
    above = from_still_above es r.above;
  }

  module _ (is : IsSpelling k) (rev : ℕ) where
    passed : (e : List ℕ × List Version) → IsSpelling e.0 → range_contains text_cmp (Included k) Unbounded e.0 ≡ is_from (tuple_of k) (tuple_of e.0)
    passed e s = bounded (is_le (text_cmp k e.0)) ∙ ap is_le (texts_order k e.0 is s)
      where
        bounded : (b : Bool) → (b && true) ≡ b
        bounded true = refl
        bounded false = refl

    pub standing_from : (es : Texts) → AreSpelled es → standing_in p rev (from k es) ≡ filter (is_from (tuple_of k)) (standing_in p rev es)
    standing_from [] s = refl
    standing_from (e ∷ es) s =
        ap (λ b. standing_in p rev (cond b (e ∷ from k es) (from k es))) (passed e s.0)
        ∙ by_tests (is_from (tuple_of k) (tuple_of e.0)) refl (stands e.1 rev && begins p e.0) refl (standing_from es s.1)
      where
        by_tests : (b : Bool) → is_from (tuple_of k) (tuple_of e.0) ≡ b → (c : Bool) → (stands e.1 rev && begins p e.0) ≡ c
            → standing_in p rev (from k es) ≡ filter (is_from (tuple_of k)) (standing_in p rev es)
            → standing_in p rev (cond b (e ∷ from k es) (from k es))
            ≡ filter (is_from (tuple_of k)) (cond (stands e.1 rev && begins p e.0) (tuple_of e.0 ∷ standing_in p rev es) (standing_in p rev es))
        by_tests true x true y rest =
            ap (λ b. cond b (tuple_of e.0 ∷ standing_in p rev (from k es)) (standing_in p rev (from k es))) y
            ∙ ap (λ (ts : List Tuple). tuple_of e.0 ∷ ts) rest
            ∙ sym (ap (λ b. filter (is_from (tuple_of k)) (cond b (tuple_of e.0 ∷ standing_in p rev es) (standing_in p rev es))) y
            ∙ ap (λ b. cond b (tuple_of e.0 ∷ filter (is_from (tuple_of k)) (standing_in p rev es)) (filter (is_from (tuple_of k)) (standing_in p rev es))) x)
        by_tests true x false y rest =
            ap (λ b. cond b (tuple_of e.0 ∷ standing_in p rev (from k es)) (standing_in p rev (from k es))) y
            ∙ rest
            ∙ sym (ap (λ b. filter (is_from (tuple_of k)) (cond b (tuple_of e.0 ∷ standing_in p rev es) (standing_in p rev es))) y)
        by_tests false x true y rest =
            rest
            ∙ sym (ap (λ b. filter (is_from (tuple_of k)) (cond b (tuple_of e.0 ∷ standing_in p rev es) (standing_in p rev es))) y
            ∙ ap (λ b. cond b (tuple_of e.0 ∷ filter (is_from (tuple_of k)) (standing_in p rev es)) (filter (is_from (tuple_of k)) (standing_in p rev es))) x)
        by_tests false x false y rest = rest ∙ sym (ap (λ b. filter (is_from (tuple_of k)) (cond b (tuple_of e.0 ∷ standing_in p rev es) (standing_in p rev es))) y)

-- ---- the first of them

module _ (p : List ℕ) (rev : ℕ) (it rest : Texts) (e : List ℕ × List Version) (steps : it ≡ e ∷ rest) (range : IsRange p it) where
  now : IsRange p (e ∷ rest)
  now = subst (IsRange p) steps range

  pub range_rest : IsRange p rest
  range_rest = record {
    spelled = now.spelled.1;
    rising = now.rising.1;
    sorted = sorted_tail text_cmp e.0 (keys_of rest) now.sorted;
    above = now.above.1;
  }

  pub first_spelled : IsSpelling e.0
  first_spelled = now.spelled.0

  pub first_rises : IsRising e.1
  first_rises = now.rising.0

  by_answer : (b : Bool) → (stands e.1 rev && begins p e.0) ≡ b → standing_in p rev it ≡ cond b (tuple_of e.0 ∷ standing_in p rev rest) (standing_in p rev rest)
  by_answer b is = ap (standing_in p rev) steps ∙ ap (λ b. cond b (tuple_of e.0 ∷ standing_in p rev rest) (standing_in p rev rest)) is

  -- its tuple stands
  pub first_stands : stands e.1 rev ≡ true → begins p e.0 ≡ true → standing_in p rev it ≡ tuple_of e.0 ∷ standing_in p rev rest
  first_stands stood starts = by_answer true (ap (λ b. b && begins p e.0) stood ∙ starts)

  -- it does not
  pub first_fell : stands e.1 rev ≡ false → standing_in p rev it ≡ standing_in p rev rest
  first_fell fell = by_answer false (ap (λ b. b && begins p e.0) fell)

  none_then : (b : Bool) → (b && false) ≡ false
  none_then true = refl
  none_then false = refl

  later : begins p e.0 ≡ false → (us : Texts) → AllByRecursion (λ k. text_cmp e.0 k ≡ Less) (keys_of us) → standing_in p rev us ≡ []
  later past [] h = refl
  later past (u ∷ us) h =
      ap (λ b. cond (stands u.1 rev && b) (tuple_of u.0 ∷ standing_in p rev us) (standing_in p rev us)) (none_starts_after e.0 u.0 p now.above.0 past h.0)
      ∙ ap (λ b. cond b (tuple_of u.0 ∷ standing_in p rev us) (standing_in p rev us)) (none_then (stands u.1 rev))
      ∙ later past us h.1

  -- its text does not begin so: nothing is left
  pub none_after : begins p e.0 ≡ false → standing_in p rev rest ≡ []
  unfolding IsStrictlySortedBy
  none_after past = later past rest now.sorted.0

  pub none_past : begins p e.0 ≡ false → standing_in p rev it ≡ []
  none_past past = by_answer false (ap (λ b. stands e.1 rev && b) past ∙ none_then (stands e.1 rev)) ∙ none_after past

-- what stands is among what is left
pub record IsLeft (p : List ℕ) (rev : ℕ) (old it : Texts) : Type 0 where
  pub range : IsRange p it
  pub same : standing_in p rev old ≡ standing_in p rev it
