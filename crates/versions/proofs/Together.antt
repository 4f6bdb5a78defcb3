-- The texts that begin alike stand together.
use Rattle.std.proofs.Common.{◌≡◌, ℕ, List, [], ◌∷◌, refl, ap, sym, subst, ◌∙◌}
use Rattle.std.specs.Prelude.{Bool, true, false, cond, ◌&&◌, filter}
use mathlib.Core.Bool.{true≢false}
use Rattle.std.proofs.Math.Dec.{eqb}
use Rattle.std.specs.List.{AllByRecursion, starts_with}
use Rattle.std.specs.List.Sorted.{IsStrictlySortedBy}
use Rattle.std.specs.Map.{keys_of}
use Rattle.std.specs.BTreeMap.Range.{entries_between, range_contains}
use Rattle.std.specs.Ordering.{is_le, is_eq, nat_cmp, ordering_reverse}
use Rattle.std.specs.declared.ops.Bound.TheVariants.{Included, Unbounded}
use Rattle.std.specs.Cmp.Lexicographic.{slice_cmp, nat_list_cmp_total}
use Rattle.std.specs.declared.cmp.Ordering.{Ordering}
use Rattle.std.specs.declared.cmp.Ordering.TheVariants.{Less, Equal, Greater}
use Rattle.std.proofs.lemmas.List.Kept.{IsStrictlySortedBy-filter}
use Rattle.names.specs.declared.tuple.Tuple.{Tuple}
use Rattle.versions.specs.declared.version.Version.{Version}
use Rattle.tuple_keys.specs.Texts.{IsStartOf}
use Rattle.tuple_keys.specs.Spelled.{tuple_of, IsSpelling}
use Rattle.versions.specs.Texts.{Texts, entry_of, entries_of, AreSpelled}
use Rattle.tuple_keys.proofs.Spellings.{starts_not_below, none_starts_after}
use Rattle.shelf.specs.Texts.{text_cmp}
use Rattle.versions.specs.Ranges.{AreFrom}
use Rattle.versions.proofs.Picking.{pick}

never : (b : Bool) → (b ≡ true → ⊥) → b ≡ false
never true h = absurd (h refl)
never false h = refl

-- the texts from a text on
module _ (least : List ℕ) where
  abbrev is_from : List ℕ → Bool
  is_from k = range_contains text_cmp (Included least) Unbounded k

  abbrev pub from : Texts → Texts
  from es = entries_between text_cmp (Included least) Unbounded es

  pub from_spelled : (es : Texts) → AreSpelled es → AreSpelled (from es)
  from_spelled [] s = s
  from_spelled (e ∷ es) s = by_test (is_from e.0) (from_spelled es s.1)
    where
      by_test : (b : Bool) → AreSpelled (from es) → AreSpelled (cond b (e ∷ from es) (from es))
      by_test true rest = (s.0, rest)
      by_test false rest = rest

  not_below : (o : Ordering) → (is_le o && true) ≡ true → ordering_reverse o ≡ Less → ⊥
  not_below Less h less = true≢false (ap is_le (sym less))
  not_below Equal h less = true≢false (ap is_eq less)
  not_below Greater h less = true≢false (sym h)

  below : (o : Ordering) → (is_le o && true) ≡ false → ordering_reverse o ≡ Less
  below Less h = absurd (true≢false h)
  below Equal h = absurd (true≢false h)
  below Greater h = refl

  turned : (k : List ℕ) → slice_cmp nat_cmp k least ≡ ordering_reverse (text_cmp least k)
  turned k = nat_list_cmp_total.antisymm k least

  pub from_above : (es : Texts) → AreFrom least (from es)
  from_above [] = tt
  from_above (e ∷ es) = by_test (is_from e.0) refl (from_above es)
    where
      by_test : (b : Bool) → is_from e.0 ≡ b → AreFrom least (from es) → AreFrom least (cond b (e ∷ from es) (from es))
      by_test true is rest = (λ less. not_below (text_cmp least e.0) is (sym (turned e.0) ∙ less), rest)
      by_test false is rest = rest

  keys_from : (es : Texts) → keys_of (from es) ≡ filter is_from (keys_of es)
  keys_from [] = refl
  keys_from (e ∷ es) = by_test (is_from e.0) (keys_from es)
    where
      by_test : (b : Bool) → keys_of (from es) ≡ filter is_from (keys_of es) → keys_of (cond b (e ∷ from es) (from es)) ≡ cond b (e.0 ∷ filter is_from (keys_of es)) (filter is_from (keys_of es))
      by_test true rest = ap (λ ks. e.0 ∷ ks) rest
      by_test false rest = rest

  pub from_sorted : (es : Texts) → IsStrictlySortedBy text_cmp (keys_of es) → IsStrictlySortedBy text_cmp (keys_of (from es))
  from_sorted es sorted = subst (IsStrictlySortedBy text_cmp) (sym (keys_from es)) (IsStrictlySortedBy-filter text_cmp is_from (keys_of es) sorted)

-- Those that begin so.
module _ (p : List ℕ) (g : Tuple → Bool) (begins : IsStartOf p g) (f : Tuple × List Version → Bool) where
  abbrev pub passes : Tuple × List Version → Bool
  passes e = f e && g e.0

  fails : (e : Tuple × List Version) → g e.0 ≡ false → passes e ≡ false
  fails e h = by_test (f e) (g e.0) h
    where
      by_test : (a b : Bool) → b ≡ false → (a && b) ≡ false
      by_test true b h = h
      by_test false b h = refl

  pub other : (e : List ℕ × List Version) → IsSpelling e.0 → starts_with eqb e.0 p ≡ false → passes (entry_of e) ≡ false
  other e s h = fails (entry_of e) (sym (begins e.0 s) ∙ h)

  pub both_pass : (e : List ℕ × List Version) → IsSpelling e.0 → f (entry_of e) ≡ true → starts_with eqb e.0 p ≡ true → passes (entry_of e) ≡ true
  both_pass e s holds h = ap (λ b. b && g (tuple_of e.0)) holds ∙ sym (begins e.0 s) ∙ h

  pub first_fails : (e : Tuple × List Version) → f e ≡ false → passes e ≡ false
  first_fails e misses = ap (λ b. b && g e.0) misses

  -- none is left out below
  pub from_all : (es : Texts) → AreSpelled es → pick passes (entries_of (from p es)) ≡ pick passes (entries_of es)
  from_all [] s = refl
  from_all (e ∷ es) s = by_test (is_from p e.0) refl (from_all es s.1)
    where
      starts : is_from p e.0 ≡ false → starts_with eqb e.0 p ≡ false
      starts out =
          never (starts_with eqb e.0 p) (λ yes.
          starts_not_below e.0 p yes (turned p e.0 ∙ below p (text_cmp p e.0) out))

      by_test : (b : Bool) → is_from p e.0 ≡ b → pick passes (entries_of (from p es)) ≡ pick passes (entries_of es)
          → pick passes (entries_of (cond b (e ∷ from p es) (from p es))) ≡ cond (passes (entry_of e)) (tuple_of e.0 ∷ pick passes (entries_of es)) (pick passes (entries_of es))
      by_test true out rest = ap (λ ts. cond (passes (entry_of e)) (tuple_of e.0 ∷ ts) ts) rest
      by_test false out rest = rest ∙ ap (λ b. cond b (tuple_of e.0 ∷ pick passes (entries_of es)) (pick passes (entries_of es))) (sym (other e s.0 (starts out)))

  -- after a text that begins otherwise there is none
  pub none_left : (e : List ℕ × List Version) (es : Texts) → AreSpelled (e ∷ es) → IsStrictlySortedBy text_cmp (keys_of (e ∷ es)) → (slice_cmp nat_cmp e.0 p ≡ Less → ⊥)
      → starts_with eqb e.0 p ≡ false → pick passes (entries_of (e ∷ es)) ≡ []
  unfolding IsStrictlySortedBy
  none_left e es s sorted above past =
      ap (λ b. cond b (tuple_of e.0 ∷ pick passes (entries_of es)) (pick passes (entries_of es))) (other e s.0 past) ∙ later es s.1 sorted.0
    where
      later : (us : Texts) → AreSpelled us → AllByRecursion (λ k. text_cmp e.0 k ≡ Less) (keys_of us) → pick passes (entries_of us) ≡ []
      later [] x h = refl
      later (u ∷ us) x h =
          ap (λ b. cond b (tuple_of u.0 ∷ pick passes (entries_of us)) (pick passes (entries_of us)))
          (other u x.0 (none_starts_after e.0 u.0 p above past h.0))
          ∙ later us x.1 h.1
