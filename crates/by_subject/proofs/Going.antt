-- Going over the texts that begin alike: what was found, and what is left.
use Rattle.std.proofs.Common.{◌≡◌, ℕ, List, [], ◌∷◌, ◌++◌, refl, ap, sym, subst, ◌∙◌, append_assoc, append-nil}
use Rattle.std.specs.Prelude.{Bool, true, false, cond, ◌&&◌, filter, Option, Some, None}
use mathlib.Core.Bool.{true≢false}
use Rattle.std.specs.List.{AllByRecursion, filter_map, cons_option, starts_with}
use Rattle.std.specs.List.Sorted.{IsStrictlySortedBy}
use Rattle.std.specs.Map.{keys_of}
use Rattle.std.specs.Option.{option_to_list}
use Rattle.std.specs.BTreeMap.Range.{entries_between, range_contains}
use Rattle.std.specs.Ordering.{is_le, is_eq, nat_cmp, ordering_reverse}
use Rattle.std.specs.Cmp.Lexicographic.{slice_cmp, nat_list_cmp_total}
use Rattle.std.specs.declared.ops.Bound.TheVariants.{Included, Unbounded}
use Rattle.std.specs.declared.cmp.Ordering.{Ordering}
use Rattle.std.specs.declared.cmp.Ordering.TheVariants.{Less, Equal, Greater}
use Rattle.std.proofs.Math.Dec.{eqb}
use Rattle.std.proofs.lemmas.Bool.Decides.{Decides-eqb}
use Rattle.std.proofs.lemmas.Slice.Eq.{starts_is}
use Rattle.std.proofs.lemmas.List.Kept.{IsStrictlySortedBy-filter}
use Rattle.std.proofs.lemmas.Map.Keys.{sorted_tail}
use Rattle.names.specs.Order.{tuple_cmp}
use Rattle.names.specs.declared.node.Node.{Node}
use Rattle.names.specs.declared.tuple.Tuple.{Tuple}
use Rattle.meaning.specs.TupleSet as set
use Rattle.meaning.specs.TupleSet.{Tuples}
use Rattle.meaning.proofs.TupleSets.{items_from_list}
use Rattle.shelf.specs.Texts.{text_cmp}
use Rattle.tuple_keys.specs.Spelled.{tuple_of, IsSpelling}
use Rattle.tuple_keys.specs.Texts.{IsStartOf}
use Rattle.tuple_keys.proofs.Spellings.{texts_order, starts_not_below, none_starts_after}
use Rattle.by_subject.specs.inside.Texts.{Texts, tuples_of, found_in, AreSpelled}

-- no text is below this
abbrev pub AreFrom : List ℕ → Texts → Type 0
AreFrom start [] = Unit {0}
AreFrom start (e ∷ es) = (text_cmp e.0 start ≡ Less → ⊥) × AreFrom start es

never : (b : Bool) → (b ≡ true → ⊥) → b ≡ false
never true h = absurd (h refl)
never false h = refl

-- ---- the texts from a text on

module _ (least : List ℕ) where
  abbrev is_from : List ℕ → Bool
  is_from k = range_contains text_cmp (Included least) Unbounded k

  abbrev pub from : Texts → Texts
  from es = entries_between text_cmp (Included least) Unbounded es

  from_spelled : (es : Texts) → AreSpelled es → AreSpelled (from es)
  from_spelled [] s = s
  from_spelled (e ∷ es) s = by_test (is_from e.0) (from_spelled es s.1)
    where
      by_test : (b : Bool) → AreSpelled (from es) → AreSpelled (cond b (e ∷ from es) (from es))
      by_test true rest = (s.0, rest)
      by_test false rest = rest

  not_below : (o : Ordering) → (is_le o && true) ≡ true → ordering_reverse o ≡ Less → ⊥
  not_below Less h less = true≢false (ap is_le (sym less))
  not_below Equal h less = true≢false (ap is_eq less)
  not_below Greater h less = true≢false (sym h)

  below : (o : Ordering) → (is_le o && true) ≡ false → ordering_reverse o ≡ Less
  below Less h = absurd (true≢false h)
  below Equal h = absurd (true≢false h)
  below Greater h = refl

  reversed : (k : List ℕ) → slice_cmp nat_cmp k least ≡ ordering_reverse (text_cmp least k)
  reversed k = nat_list_cmp_total.antisymm k least

  from_above : (es : Texts) → AreFrom least (from es)
  from_above [] = tt
  from_above (e ∷ es) = by_test (is_from e.0) refl (from_above es)
    where
      by_test : (b : Bool) → is_from e.0 ≡ b → AreFrom least (from es) → AreFrom least (cond b (e ∷ from es) (from es))
      by_test true is rest = (λ less. not_below (text_cmp least e.0) is (sym (reversed e.0) ∙ less), rest)
      by_test false is rest = rest

  keys_from : (es : Texts) → keys_of (from es) ≡ filter is_from (keys_of es)
  keys_from [] = refl
  keys_from (e ∷ es) = by_test (is_from e.0) (keys_from es)
    where
      by_test : (b : Bool) → keys_of (from es) ≡ filter is_from (keys_of es) → keys_of (cond b (e ∷ from es) (from es)) ≡ cond b (e.0 ∷ filter is_from (keys_of es)) (filter is_from (keys_of es))
      by_test true rest = ap (λ ks. e.0 ∷ ks) rest
      by_test false rest = rest

  from_sorted : (es : Texts) → IsStrictlySortedBy text_cmp (keys_of es) → IsStrictlySortedBy text_cmp (keys_of (from es))
  from_sorted es sorted = subst (IsStrictlySortedBy text_cmp) (sym (keys_from es)) (IsStrictlySortedBy-filter text_cmp is_from (keys_of es) sorted)

-- the tuples are in order, as the texts are
pub sorted_tuples : (es : Texts) → AreSpelled es → IsStrictlySortedBy text_cmp (keys_of es) → IsStrictlySortedBy tuple_cmp (tuples_of es)
unfolding IsStrictlySortedBy
sorted_tuples [] s sorted = sorted
sorted_tuples (e ∷ es) s sorted = (above es s.1 sorted.0, sorted_tuples es s.1 sorted.1)
  where
    above : (fs : Texts) → AreSpelled fs → AllByRecursion (λ k. text_cmp e.0 k ≡ Less) (keys_of fs) → AllByRecursion (λ t. tuple_cmp (tuple_of e.0) t ≡ Less) (tuples_of fs)
    above [] x h = h
    above (f ∷ fs) x h = (sym (texts_order e.0 f.0 s.0 x.0) ∙ h.0, above fs x.1 h.1)

-- ---- those that begin so

-- a text that goes on from p starts with it
pub joined_starts : (a p s : List ℕ) → a ≡ p ++ s → starts_with eqb a p ≡ true
joined_starts a p s reads = (starts_is Decides-eqb a p (starts_with eqb a p) refl).1 s reads

onto : (o : Option Node) (xs : List Node) → option_to_list o ++ xs ≡ cons_option o xs
onto (Some x) xs = refl
onto None xs = refl

-- the nodes that h gives of the tuples that pass
abbrev pub given : (Tuple → Option Node) → (Tuple → Bool) → List Tuple → List Node
given h g ts = filter_map h (filter g ts)

-- What is left are texts that are not below p. What was found, and what is left gives, is what all give.
pub record Left (h : Tuple → Option Node) (p : List ℕ) (g : Tuple → Bool) (self : Tuples) (found : List Node) (it : Texts) : Type 0 where
  pub spelled : AreSpelled it
  pub sorted : IsStrictlySortedBy text_cmp (keys_of it)
  pub above : AreFrom p it
  pub same : found ++ given h g (tuples_of it) ≡ given h g (set.items self)

module _ (h : Tuple → Option Node) (p : List ℕ) (g : Tuple → Bool) (begins : IsStartOf p g) where
  other : (e : List ℕ × Unit {0}) → IsSpelling e.0 → starts_with eqb e.0 p ≡ false → g (tuple_of e.0) ≡ false
  other e s past = sym (begins e.0 s) ∙ past

  -- none is left out below
  pub from_all : (es : Texts) → AreSpelled es → filter g (tuples_of (from p es)) ≡ filter g (tuples_of es)
  from_all [] s = refl
  from_all (e ∷ es) s = by_test (is_from p e.0) refl (from_all es s.1)
    where
      starts : is_from p e.0 ≡ false → starts_with eqb e.0 p ≡ false
      starts out = never (starts_with eqb e.0 p) (λ yes. starts_not_below e.0 p yes (reversed p e.0 ∙ below p (text_cmp p e.0) out))

      by_test : (b : Bool) → is_from p e.0 ≡ b → filter g (tuples_of (from p es)) ≡ filter g (tuples_of es)
          → filter g (tuples_of (cond b (e ∷ from p es) (from p es))) ≡ cond (g (tuple_of e.0)) (tuple_of e.0 ∷ filter g (tuples_of es)) (filter g (tuples_of es))
      by_test true out rest = ap (λ (ts : List Tuple). cond (g (tuple_of e.0)) (tuple_of e.0 ∷ ts) ts) rest
      by_test false out rest = rest ∙ ap (λ b. cond b (tuple_of e.0 ∷ filter g (tuples_of es)) (filter g (tuples_of es))) (sym (other e s.0 (starts out)))

  -- after a text that begins otherwise there is none
  none_left : (e : List ℕ × Unit {0}) (es : Texts) → AreSpelled (e ∷ es) → IsStrictlySortedBy text_cmp (keys_of (e ∷ es)) → (text_cmp e.0 p ≡ Less → ⊥)
      → starts_with eqb e.0 p ≡ false → filter g (tuples_of (e ∷ es)) ≡ []
  unfolding IsStrictlySortedBy
  none_left e es s sorted above past =
      ap (λ b. cond b (tuple_of e.0 ∷ filter g (tuples_of es)) (filter g (tuples_of es))) (other e s.0 past) ∙ later es s.1 sorted.0
    where
      later : (us : Texts) → AreSpelled us → AllByRecursion (λ k. text_cmp e.0 k ≡ Less) (keys_of us) → filter g (tuples_of us) ≡ []
      later [] x all = refl
      later (u ∷ us) x all =
          ap (λ b. cond b (tuple_of u.0 ∷ filter g (tuples_of us)) (filter g (tuples_of us))) (other u x.0 (none_starts_after e.0 u.0 p above past all.0))
          ∙ later us x.1 all.1

  pub left_first : (es : Texts) → AreSpelled es → IsStrictlySortedBy text_cmp (keys_of es) → (self : Tuples) → found_in es ≡ self
      → (it : Texts) → from p es ≡ it → (none : List Node) → none ≡ [] → Left h p g self none it
  left_first es s sorted self all it is none nothing = record {
    spelled = subst AreSpelled is (from_spelled p es s);
    sorted = subst (λ (us : Texts). IsStrictlySortedBy text_cmp (keys_of us)) is (from_sorted p es sorted);
    above = subst (AreFrom p) is (from_above p es);
    same =
        ap (λ (xs : List Node). xs ++ given h g (tuples_of it)) nothing
        ∙ ap (λ (us : Texts). given h g (tuples_of us)) (sym is)
        ∙ ap (filter_map h) (from_all es s)
        ∙ ap (given h g) (sym (items_from_list (tuples_of es) (sorted_tuples es s sorted)) ∙ ap (λ (ts : Tuples). set.items ts) all);
  }

  module _ (self : Tuples) (found : List Node) (it : Texts) (left : Left h p g self found it) where
    at_end : given h g (tuples_of it) ≡ [] → found ≡ given h g (set.items self)
    at_end none = sym (append-nil found) ∙ ap (λ (xs : List Node). found ++ xs) (sym none) ∙ left.same

    pub left_none : it ≡ [] → found ≡ given h g (set.items self)
    left_none none = at_end (ap (λ (us : Texts). given h g (tuples_of us)) none)

    module _ (e : List ℕ × Unit {0}) (rest : Texts) (steps : it ≡ e ∷ rest) where
      pub spelled_now : AreSpelled (e ∷ rest)
      spelled_now = subst AreSpelled steps left.spelled

      sorted_now : IsStrictlySortedBy text_cmp (keys_of (e ∷ rest))
      sorted_now = subst (λ (us : Texts). IsStrictlySortedBy text_cmp (keys_of us)) steps left.sorted

      above_now : AreFrom p (e ∷ rest)
      above_now = subst (AreFrom p) steps left.above

      -- the first text does not begin so
      pub left_past : starts_with eqb e.0 p ≡ false → found ≡ given h g (set.items self)
      left_past past = at_end (ap (λ (us : Texts). given h g (tuples_of us)) steps ∙ ap (filter_map h) (none_left e rest spelled_now sorted_now above_now.0 past))

      -- it does
      pub left_more : starts_with eqb e.0 p ≡ true → (now : List Node) → now ≡ found ++ option_to_list (h (tuple_of e.0)) → Left h p g self now rest
      left_more starts now adds =
          let t = tuple_of e.0 in
          record {
            spelled = spelled_now.1;
            sorted = sorted_tail text_cmp e.0 (keys_of rest) sorted_now;
            above = above_now.1;
            same =
                ap (λ (xs : List Node). xs ++ given h g (tuples_of rest)) adds
                ∙ append_assoc found (option_to_list (h t)) (given h g (tuples_of rest))
                ∙ ap (λ (xs : List Node). found ++ xs) (onto (h t) (given h g (tuples_of rest)))
                ∙ ap (λ b. found ++ filter_map h (cond b (t ∷ filter g (tuples_of rest)) (filter g (tuples_of rest)))) (sym (sym (begins e.0 spelled_now.0) ∙ starts))
                ∙ ap (λ (us : Texts). found ++ given h g (tuples_of us)) (sym steps)
                ∙ left.same;
          }
