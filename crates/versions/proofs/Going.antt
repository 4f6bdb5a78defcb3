-- Going over the texts that begin alike: what was found, and what is left.
use Rattle.std.proofs.Common.{◌≡◌, ℕ, ◌≤◌, length, take, arith, List, [], ◌∷◌, ◌++◌, refl, ap, sym, subst, ◌∙◌, append_assoc, append-nil}
use Rattle.std.proofs.lemmas.List.{take_all}
use Rattle.std.proofs.Math.Seq.{take-append_seam}
use Rattle.std.specs.Prelude.{Bool, true, false, cond, ◌&&◌, filter, Option, Some, None}
use Rattle.std.specs.List.{filter_map, cons_option, starts_with}
use Rattle.std.specs.List.Sorted.{IsStrictlySortedBy}
use Rattle.std.specs.Map.{keys_of}
use Rattle.std.specs.Option.{option_to_list}
use Rattle.std.proofs.Math.Dec.{eqb}
use Rattle.std.proofs.lemmas.Bool.Decides.{Decides-eqb}
use Rattle.std.proofs.lemmas.Slice.Eq.{starts_is}
use Rattle.std.proofs.lemmas.Map.Keys.{sorted_tail}
use Rattle.names.specs.Order.{tuple_cmp}
use Rattle.names.specs.declared.tuple.Tuple.{Tuple}
use Rattle.versions.specs.declared.version.Version.{Version}
use Rattle.tuple_keys.specs.Texts.{IsStartOf}
use Rattle.tuple_keys.specs.Spelled.{tuple_of}
use Rattle.versions.specs.Versions.{Entries, keys, stands, tuples_at, IsRising, AreRising}
use Rattle.versions.specs.Texts.{Texts, entry_of, entries_of, AreSpelled}
use Rattle.shelf.specs.Texts.{text_cmp}
use Rattle.versions.specs.Ranges.{AllRising, AreFrom}
use Rattle.versions.proofs.Rising.{all_rising, from_rising}
use Rattle.versions.proofs.Picking.{pick, picked_is, picked_both, one_left}
use Rattle.versions.proofs.Together.{from, from_spelled, from_sorted, from_above, from_all, none_left, both_pass, first_fails}

-- the tuple stands at the revision
abbrev pub stands_then : ℕ → Tuple × List Version → Bool
stands_then rev e = stands e.1 rev

-- what h gives of the tuples that pass
abbrev pub given : {X : Type 0} → (Tuple → Option X) → (Tuple → Bool) → ℕ → Entries → List X
given h g rev es = filter_map h (pick (λ e. stands e.1 rev && g e.0) es)

-- What is left are texts that are not below p. What was found since the start, and what is left gives, is what all give.
pub record Left {X : Type 0} (h : Tuple → Option X) (p : List ℕ) (g : Tuple → Bool) (rev : ℕ) (m : Entries) (start found : List X) (it : Texts) : Type 0 where
  pub spelled : AreSpelled it
  pub rising : AllRising it
  pub sorted : IsStrictlySortedBy text_cmp (keys_of it)
  pub above : AreFrom p it
  pub all : found ++ given h g rev (entries_of it) ≡ start ++ given h g rev m

-- a text that goes on from p starts with it
pub joined_starts : (a p s : List ℕ) → a ≡ p ++ s → starts_with eqb a p ≡ true
joined_starts a p s reads = (starts_is Decides-eqb a p (starts_with eqb a p) refl).1 s reads

-- what is given of each is itself
pub all_given : {X : Type 0} (xs : List X) → filter_map Some xs ≡ xs
all_given [] = refl
all_given (x ∷ xs) = ap (λ ys. x ∷ ys) (all_given xs)

onto : {X : Type 0} (o : Option X) (xs : List X) → option_to_list o ++ xs ≡ cons_option o xs
onto (Some x) xs = refl
onto None xs = refl

module _ {X : Type 0} (h : Tuple → Option X) (p : List ℕ) (g : Tuple → Bool) (begins : IsStartOf p g) (rev : ℕ) where
  pub left_first : (es : Texts) → AreSpelled es → IsStrictlySortedBy text_cmp (keys_of es) → (m : Entries) → entries_of es ≡ m → AreRising m
      → (it : Texts) → from p es ≡ it → (start : List X) → Left h p g rev m start start it
  left_first es s sorted m is r it same start = record {
    spelled = subst AreSpelled same (from_spelled p es s);
    rising = subst AllRising same (from_rising p es (all_rising es s sorted m is r));
    sorted = subst (λ (us : Texts). IsStrictlySortedBy text_cmp (keys_of us)) same (from_sorted p es sorted);
    above = subst (AreFrom p) same (from_above p es);
    all =
        ap (λ (us : Texts). start ++ given h g rev (entries_of us)) (sym same)
        ∙ ap (λ (ts : List Tuple). start ++ filter_map h ts) (from_all p g begins (stands_then rev) es s)
        ∙ ap (λ (ds : Entries). start ++ given h g rev ds) is;
  }

  -- all that is given
  given_all : (m : Entries) → IsStrictlySortedBy tuple_cmp (keys m) → given h g rev m ≡ filter_map h (filter g (tuples_at m rev))
  given_all m ordered = ap (filter_map h) (picked_both g (stands_then rev) m ∙ ap (filter g) (picked_is (λ ms. stands ms rev) m ordered))

  module _ (m : Entries) (start found : List X) (it : Texts) (left : Left h p g rev m start found it) where
    at_end : given h g rev (entries_of it) ≡ [] → IsStrictlySortedBy tuple_cmp (keys m) → found ≡ start ++ filter_map h (filter g (tuples_at m rev))
    at_end none ordered = sym (append-nil found) ∙ ap (λ (xs : List X). found ++ xs) (sym none) ∙ left.all ∙ ap (λ (xs : List X). start ++ xs) (given_all m ordered)

    pub left_none : it ≡ [] → IsStrictlySortedBy tuple_cmp (keys m) → found ≡ start ++ filter_map h (filter g (tuples_at m rev))
    left_none none ordered = at_end (ap (λ (us : Texts). given h g rev (entries_of us)) none) ordered

    -- what was found is first
    pub left_first_found : IsStrictlySortedBy tuple_cmp (keys m) → found ++ given h g rev (entries_of it) ≡ start ++ filter_map h (filter g (tuples_at m rev))
    left_first_found ordered = left.all ∙ ap (λ (xs : List X). start ++ xs) (given_all m ordered)

    module _ (e : List ℕ × List Version) (rest : Texts) (steps : it ≡ e ∷ rest) where
      spelled_now : AreSpelled (e ∷ rest)
      spelled_now = subst AreSpelled steps left.spelled

      sorted_now : IsStrictlySortedBy text_cmp (keys_of (e ∷ rest))
      sorted_now = subst (λ (us : Texts). IsStrictlySortedBy text_cmp (keys_of us)) steps left.sorted

      rising_now : AllRising (e ∷ rest)
      rising_now = subst AllRising steps left.rising

      -- as the search of its versions asks
      pub first_rises : IsRising e.1
      first_rises = rising_now.0

      above_now : AreFrom p (e ∷ rest)
      above_now = subst (AreFrom p) steps left.above

      -- the first text does not begin so
      pub left_past : starts_with eqb e.0 p ≡ false → IsStrictlySortedBy tuple_cmp (keys m) → found ≡ start ++ filter_map h (filter g (tuples_at m rev))
      left_past past ordered =
          at_end (ap (λ (us : Texts). given h g rev (entries_of us)) steps
          ∙ ap (filter_map h) (none_left p g begins (stands_then rev) e rest spelled_now sorted_now above_now.0 past)) ordered

      -- it begins so, and its tuple stands
      pub left_more : starts_with eqb e.0 p ≡ true → stands e.1 rev ≡ true → (now : List X) → now ≡ found ++ option_to_list (h (tuple_of e.0)) → Left h p g rev m start now rest
      left_more starts stood now adds =
          let counts = both_pass p g begins (stands_then rev) e spelled_now.0 stood starts in
          let t = tuple_of e.0 in
          record {
            spelled = spelled_now.1;
            rising = rising_now.1;
            sorted = sorted_tail text_cmp e.0 (keys_of rest) sorted_now;
            above = above_now.1;
            all =
                ap (λ (xs : List X). xs ++ given h g rev (entries_of rest)) adds
                ∙ append_assoc found (option_to_list (h t)) (given h g rev (entries_of rest))
                ∙ ap (λ (xs : List X). found ++ xs) (onto (h t) (given h g rev (entries_of rest)))
                ∙ ap (λ b. found ++ filter_map h (cond b (t ∷ pick (λ x. stands x.1 rev && g x.0) (entries_of rest)) (pick (λ x. stands x.1 rev && g x.0) (entries_of rest)))) (sym counts)
                ∙ ap (λ (us : Texts). found ++ given h g rev (entries_of us)) (sym steps)
                ∙ left.all;
          }

      -- its tuple does not stand
      pub left_late : stands e.1 rev ≡ false → Left h p g rev m start found rest
      left_late fell = record {
        spelled = spelled_now.1;
        rising = rising_now.1;
        sorted = sorted_tail text_cmp e.0 (keys_of rest) sorted_now;
        above = above_now.1;
        all =
            ap (λ (ts : List Tuple). found ++ filter_map h ts)
            (one_left (λ x. stands x.1 rev && g x.0) (entries_of it) (entries_of rest) (entry_of e) (ap entries_of steps) (first_fails p g begins (stands_then rev) (entry_of e) fell))
            ∙ left.all;
      }

-- ---- the first of some

pub first_all : {X : Type 0} (most : ℕ) (found all : List X) → length found ≤ most → found ≡ all → found ≡ take most all
first_all most found all few same = same ∙ sym (take_all most all (subst (λ xs. length xs ≤ most) same few))

pub first_enough : {X : Type 0} (most : ℕ) (found rest all : List X) → length found ≤ most → most ≤ length found → found ++ rest ≡ all → found ≡ take most all
first_enough most found rest all few enough same =
    let exactly : length found ≡ most = omega (arith, few, enough) in
    sym (take-append_seam found rest) ∙ ap (λ n. take n (found ++ rest)) exactly ∙ ap (take most) same
