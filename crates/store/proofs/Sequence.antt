-- Of spans in turn, the events of a revision and the tuples that are there are in the order of tuples, each tuple once.
use Rattle.std.proofs.Common.{◌≡◌, ℕ, ◌<◌, ◌≤◌, ◌⊎◌, inl, inr, List, [], ◌∷◌, ◌++◌, refl, ap, sym, ◌∙◌, arith}
use Rattle.std.specs.Prelude.{Bool, true, false, cond, not, ◌&&◌, ◌||◌, ◌==◌, filter, map, All}
use Rattle.std.specs.declared.cmp.Ordering.TheVariants.{Less}
use Rattle.std.specs.List.{AllByRecursion}
use Rattle.std.specs.List.Sorted.{IsStrictlySortedBy}
use Rattle.std.specs.Ordering.{is_eq}
use Rattle.std.proofs.lemmas.Bool.{true≢false, or_right, and_parts, and_from, eqb-true, eq-eqb}
use Rattle.std.proofs.lemmas.List.Elements.{All-head, All-tail}
use Rattle.names.specs.Order.{tuple_cmp, is_same_tuple}
use Rattle.names.specs.declared.tuple.Tuple.{Tuple}
use Rattle.meaning.proofs.TupleSets.{tuples_total}
use Rattle.store.specs.Written.{TupleSpan, IsSpan, is_alive, is_moved}
use Rattle.store.specs.inside.Moves.{moves, tuples_in, event_if, put_of, del_of, goes_on}
use Rattle.store.specs.inside.Following.{Precedes}
use Rattle.store.proofs.Apart.{InTurn}
use Rattle.store.proofs.Living.{alive_says, moved_says}
use Rattle.store.proofs.Moving.{same_self}
use Rattle.store.proofs.Picking.{In, all_in}

less_not_same : (a b : Tuple) → tuple_cmp a b ≡ Less → a ≡ b → ⊥
less_not_same a b less e = true≢false (sym (same_self a) ∙ ap (is_same_tuple a) e ∙ ap is_eq less)

module _ (floor newest rev : ℕ) (some : 0 < rev) where
  -- a span that begins above the revision neither begins nor ends there
  later_than : (m : TupleSpan) → IsSpan floor newest m → rev < m.added → is_moved rev m ≡ true → ⊥
  later_than m span after moved = by_which (moved_says rev m moved) span.ends
    where
      by_which : (m.added ≡ rev) ⊎ (m.removed ≡ rev) → (m.removed ≡ 0) ⊎ ((m.added < m.removed) × (floor < m.removed) × (m.removed ≤ newest)) → ⊥
      by_which (inl e) ends = omega (arith, e, after)
      by_which (inr e) (inl z) = omega (arith, e, z, some)
      by_which (inr e) (inr z) = let s = z.0 in omega (arith, e, s, after)

  -- one that begins or ends there, and not before it, begins there
  begins_at : (m : TupleSpan) → IsSpan floor newest m → rev ≤ m.added → is_moved rev m ≡ true → m.added ≡ rev
  begins_at m span after moved = by_which (moved_says rev m moved) span.ends
    where
      by_which : (m.added ≡ rev) ⊎ (m.removed ≡ rev) → (m.removed ≡ 0) ⊎ ((m.added < m.removed) × (floor < m.removed) × (m.removed ≤ newest)) → m.added ≡ rev
      by_which (inl e) ends = e
      by_which (inr e) (inl z) = absurd (omega (arith, e, z, some))
      by_which (inr e) (inr z) = let s = z.0 in absurd (omega (arith, e, s, after))

  -- ---- events

  later_moves : (P : Tuple → Type 0) (ls : List TupleSpan) → ((m : TupleSpan) → In m ls → is_moved rev m ≡ true → P m.tuple) → AllByRecursion P (tuples_in (moves rev ls))
  later_moves P [] h = tt
  later_moves P (m ∷ ms) h = by_put (m.added == rev) refl (by_del ((m.removed == rev) && not (goes_on m ms)) refl (later_moves P ms (λ x i. h x (inr i))))
    where
      by_del : (b : Bool) → ((m.removed == rev) && not (goes_on m ms)) ≡ b → AllByRecursion P (tuples_in (moves rev ms)) → AllByRecursion P (tuples_in (event_if b (del_of m) ++ moves rev ms))
      by_del true e rest = (h m (inl refl) (or_right (m.added == rev) (m.removed == rev) (and_parts (m.removed == rev) (not (goes_on m ms)) e).0), rest)
      by_del false e rest = rest

      by_put : (b : Bool) → (m.added == rev) ≡ b → AllByRecursion P (tuples_in (event_if ((m.removed == rev) && not (goes_on m ms)) (del_of m) ++ moves rev ms))
          → AllByRecursion P (tuples_in (event_if b (put_of m) ++ (event_if ((m.removed == rev) && not (goes_on m ms)) (del_of m) ++ moves rev ms)))
      by_put true e rest = (h m (inl refl) (ap (λ b. b || (m.removed == rev)) e), rest)
      by_put false e rest = rest

  after_put : (l m : TupleSpan) → IsSpan floor newest l → IsSpan floor newest m → l.added ≡ rev → Precedes l m → is_moved rev m ≡ true → tuple_cmp l.tuple m.tuple ≡ Less
  after_put l m span_l span_m at (inl less) moved = less
  after_put l m span_l span_m at (inr p) moved = absurd (later_than m span_m (after span_l.ends) moved)
    where
      after : (l.removed ≡ 0) ⊎ ((l.added < l.removed) × (floor < l.removed) × (l.removed ≤ newest)) → rev < m.added
      after (inl z) = let s = p.1 in absurd (omega (arith, z, s))
      after (inr z) = let s = z.0 in let t = p.2 in omega (arith, at, s, t)

  -- a span of the same tuple between two
  none_between : (l h m : TupleSpan) → IsSpan floor newest h → l.tuple ≡ m.tuple → l.removed ≡ rev → m.added ≡ rev → Precedes l h → Precedes h m → ⊥
  none_between l h m span same end begin (inl p) (inl q) = less_not_same l.tuple m.tuple (tuples_total.trans l.tuple h.tuple m.tuple p q) same
  none_between l h m span same end begin (inl p) (inr q) = less_not_same l.tuple h.tuple p (same ∙ sym q.0)
  none_between l h m span same end begin (inr p) (inl q) = less_not_same h.tuple m.tuple q (sym p.0 ∙ same)
  none_between l h m span same end begin (inr p) (inr q) = by_end span.ends
    where
      by_end : (h.removed ≡ 0) ⊎ ((h.added < h.removed) × (floor < h.removed) × (h.removed ≤ newest)) → ⊥
      by_end (inl z) = let s = q.1 in omega (arith, z, s)
      by_end (inr z) = let s = z.0 in let t = q.2 in let u = p.2 in omega (arith, s, t, u, end, begin)

  after_del : (l : TupleSpan) (ls : List TupleSpan) → All (Precedes l) ls → InTurn ls → All (IsSpan floor newest) ls → l.removed ≡ rev → goes_on l ls ≡ false
      → (m : TupleSpan) → In m ls → is_moved rev m ≡ true → tuple_cmp l.tuple m.tuple ≡ Less
  after_del l [] turn rest are end off m i moved = absurd i
  after_del l (h ∷ hs) turn rest are end off m i moved = by_tuple (all_in (Precedes l) (h ∷ hs) turn m i)
    where
      next : In m (h ∷ hs) → l.tuple ≡ m.tuple → m.added ≡ rev → ⊥
      next (inl e) same begin = true≢false (
          sym (and_from (is_same_tuple l.tuple h.tuple) (h.added == l.removed) (ap (λ (x : TupleSpan). is_same_tuple l.tuple x.tuple) (sym e) ∙ ap (is_same_tuple l.tuple) (sym same) ∙ same_self l.tuple)
          (eq-eqb h.added l.removed (ap (λ (x : TupleSpan). x.added) (sym e) ∙ begin ∙ sym end)))
          ∙ off)
      next (inr j) same begin =
          none_between l h m (All-head (IsSpan floor newest) h hs are) same end begin (All-head (Precedes l) h hs turn) (all_in (Precedes h) hs rest.0 m j)

      by_tuple : Precedes l m → tuple_cmp l.tuple m.tuple ≡ Less
      by_tuple (inl less) = less
      by_tuple (inr p) = let t = p.2 in absurd (next i p.0 (begins_at m (all_in (IsSpan floor newest) (h ∷ hs) are m i) (omega (arith, t, end)) moved))

  pub moves_sorted : (ls : List TupleSpan) → InTurn ls → All (IsSpan floor newest) ls → IsStrictlySortedBy tuple_cmp (tuples_in (moves rev ls))
  unfolding IsStrictlySortedBy
  moves_sorted [] turn are = tt
  moves_sorted (l ∷ ls) turn are =
      by_event (l.added == rev) refl ((l.removed == rev) && not (goes_on l ls)) refl (moves_sorted ls turn.1 (All-tail (IsSpan floor newest) l ls are))
    where
      span_l : IsSpan floor newest l
      span_l = All-head (IsSpan floor newest) l ls are

      not_both : l.added ≡ rev → l.removed ≡ rev → (l.removed ≡ 0) ⊎ ((l.added < l.removed) × (floor < l.removed) × (l.removed ≤ newest)) → ⊥
      not_both a b (inl z) = omega (arith, b, z, some)
      not_both a b (inr z) = let s = z.0 in omega (arith, a, b, s)

      off : (b : Bool) → goes_on l ls ≡ b → not b ≡ true → goes_on l ls ≡ false
      off true e h = absurd (true≢false (sym h))
      off false e h = e

      by_event : (a : Bool) → (l.added == rev) ≡ a → (d : Bool) → ((l.removed == rev) && not (goes_on l ls)) ≡ d → IsStrictlySortedBy tuple_cmp (tuples_in (moves rev ls))
          → IsStrictlySortedBy tuple_cmp (tuples_in (event_if a (put_of l) ++ (event_if d (del_of l) ++ moves rev ls)))
      by_event true e true f rest = absurd (not_both (eqb-true l.added rev e) (eqb-true l.removed rev (and_parts (l.removed == rev) (not (goes_on l ls)) f).0) span_l.ends)
      by_event true e false f rest = (
        later_moves (λ t. tuple_cmp l.tuple t ≡ Less) ls
            (λ m i moved. after_put l m span_l (all_in (IsSpan floor newest) ls (All-tail (IsSpan floor newest) l ls are) m i) (eqb-true l.added rev e) (all_in (Precedes l) ls turn.0 m i) moved),
        rest,
      )
      by_event false e true f rest =
          let p = and_parts (l.removed == rev) (not (goes_on l ls)) f in (
            later_moves (λ t. tuple_cmp l.tuple t ≡ Less) ls
                (after_del l ls turn.0 turn.1 (All-tail (IsSpan floor newest) l ls are) (eqb-true l.removed rev p.0) (off (goes_on l ls) refl p.1)),
            rest,
          )
      by_event false e false f rest = rest

-- ---- tuples

later_alive : (rev : ℕ) (P : Tuple → Type 0) (ls : List TupleSpan) → ((m : TupleSpan) → In m ls → is_alive rev m ≡ true → P m.tuple) → AllByRecursion P (map (λ l. l.tuple) (filter (is_alive rev) ls))
later_alive rev P [] h = tt
later_alive rev P (m ∷ ms) h = by_alive (is_alive rev m) refl (later_alive rev P ms (λ x i. h x (inr i)))
  where
    by_alive : (b : Bool) → is_alive rev m ≡ b → AllByRecursion P (map (λ l. l.tuple) (filter (is_alive rev) ms)) → AllByRecursion P (map (λ l. l.tuple) (cond b (m ∷ filter (is_alive rev) ms) (filter (is_alive rev) ms)))
    by_alive true e rest = (h m (inl refl) e, rest)
    by_alive false e rest = rest

never_both : (rev : ℕ) (a b : TupleSpan) → Precedes a b → is_alive rev a ≡ true → is_alive rev b ≡ true → tuple_cmp a.tuple b.tuple ≡ Less
never_both rev a b (inl less) x y = less
never_both rev a b (inr p) x y = absurd (by_end (alive_says rev a x).1 (alive_says rev b y).0)
  where
    by_end : (a.removed ≡ 0) ⊎ (rev < a.removed) → b.added ≤ rev → ⊥
    by_end (inl z) le = let s = p.1 in omega (arith, z, s)
    by_end (inr z) le = let s = p.2 in omega (arith, z, s, le)

pub alive_sorted : (rev : ℕ) (ls : List TupleSpan) → InTurn ls → IsStrictlySortedBy tuple_cmp (map (λ l. l.tuple) (filter (is_alive rev) ls))
unfolding IsStrictlySortedBy
alive_sorted rev [] turn = tt
alive_sorted rev (l ∷ ls) turn = by_alive (is_alive rev l) refl (alive_sorted rev ls turn.1)
  where
    by_alive : (b : Bool) → is_alive rev l ≡ b → IsStrictlySortedBy tuple_cmp (map (λ l. l.tuple) (filter (is_alive rev) ls))
        → IsStrictlySortedBy tuple_cmp (map (λ l. l.tuple) (cond b (l ∷ filter (is_alive rev) ls) (filter (is_alive rev) ls)))
    by_alive true e rest = (later_alive rev (λ t. tuple_cmp l.tuple t ≡ Less) ls (λ m i alive. never_both rev l m (all_in (Precedes l) ls turn.0 m i) e alive), rest)
    by_alive false e rest = rest
