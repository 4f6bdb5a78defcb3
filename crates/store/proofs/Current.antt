-- What is there at the newest revision is what has not ended.
use Rattle.std.proofs.Common.{◌≡◌, ℕ, ◌+◌, ◌<◌, ◌≤◌, List, [], ◌∷◌, length, suc, refl, sym, ap, ◌∙◌, inl, inr, arith}
use Rattle.std.specs.Prelude.{Bool, true, false, cond, ◌==◌, ◌⊎◌, map, filter, All}
use Rattle.std.proofs.lemmas.Bool.{and_parts, eqb-true, eq-eqb}
use Rattle.std.proofs.lemmas.List.Elements.{All-head, All-tail}
use Rattle.std.proofs.lemmas.List.Sums.{length-filter}
use Rattle.names.specs.Order.{is_same_tuple}
use Rattle.meaning.specs.TupleSet as set
use Rattle.meaning.specs.Snap.{Snap}
use Rattle.meaning.proofs.TupleSets.{len_insert}
use Rattle.rows.specs.Retained.{newest_of}
use Rattle.store.specs.Written.{TupleSpan, IsSpan, Pairwise, is_alive, tuples_of, are_apart, history_of}
use Rattle.store.specs.inside.Reading.{as_span, as_written, current}
use Rattle.store.specs.declared.parts.ReadSpan.{ReadSpan}
use Rattle.store.specs.declared.parts.ReadConfig.{ReadConfig}
use Rattle.store.specs.declared.parts.Head.{Head}
use Rattle.store.proofs.Picking.{In, same_bool, found, all_in}
use Rattle.store.proofs.Living.{is_of, contains_of, alive_says, alive_from, apart_says}
use Rattle.store.proofs.Beginning.{len_none}
use Rattle.store.proofs.Held.{IsWhole, held_newest}

-- ---- spans that are alive at one revision are of distinct tuples

never_both : (rev : ℕ) (a b : TupleSpan) → is_same_tuple a.tuple b.tuple ≡ true → are_apart a b ≡ true → is_alive rev a ≡ true → is_alive rev b ≡ true → ⊥
never_both rev a b same apart x y = by_order (apart_says a b same apart) (alive_says rev a x) (alive_says rev b y)
  where
    by_order : ((0 < a.removed) × (a.removed ≤ b.added)) ⊎ ((0 < b.removed) × (b.removed ≤ a.added)) → (a.added ≤ rev) × ((a.removed ≡ 0) ⊎ (rev < a.removed))
        → (b.added ≤ rev) × ((b.removed ≡ 0) ⊎ (rev < b.removed)) → ⊥
    by_order (inl o) (p, inl e) q = let s = o.0 in omega (arith, s, e)
    by_order (inl o) (p, inr e) q = let s = o.1 in let t = q.0 in omega (arith, s, e, t)
    by_order (inr o) p (q, inl e) = let s = o.0 in omega (arith, s, e)
    by_order (inr o) p (q, inr e) = let s = o.1 in let t = p.0 in omega (arith, s, e, t)

pub len_alive : (rev : ℕ) (spans : List TupleSpan) → Pairwise are_apart spans → set.len (tuples_of (is_alive rev) spans) ≡ length (filter (is_alive rev) spans)
len_alive rev [] apart = len_none
len_alive rev (l ∷ ls) apart = by_alive (is_alive rev l) refl (len_alive rev ls apart.1)
  where
    new : is_alive rev l ≡ true → set.contains (tuples_of (is_alive rev) ls) l.tuple ≡ false
    new alive = by_value (set.contains (tuples_of (is_alive rev) ls) l.tuple) refl
      where
        by_found : (m : TupleSpan) × In m ls × (is_of l.tuple (is_alive rev) m ≡ true) → ⊥
        by_found (m, i, h) =
            let p = and_parts (is_same_tuple l.tuple m.tuple) (is_alive rev m) h in
            never_both rev l m p.0 (all_in (λ y. are_apart l y ≡ true) ls apart.0 m i) alive p.1

        by_value : (b : Bool) → set.contains (tuples_of (is_alive rev) ls) l.tuple ≡ b → set.contains (tuples_of (is_alive rev) ls) l.tuple ≡ false
        by_value true e = absurd (by_found (found (is_of l.tuple (is_alive rev)) ls (sym (contains_of (is_alive rev) ls l.tuple) ∙ e)))
        by_value false e = e

    by_alive : (b : Bool) → is_alive rev l ≡ b → set.len (tuples_of (is_alive rev) ls) ≡ length (filter (is_alive rev) ls)
        → set.len (set.from_list (map (λ m. m.tuple) (cond b (l ∷ filter (is_alive rev) ls) (filter (is_alive rev) ls)))) ≡ length (cond b (l ∷ filter (is_alive rev) ls) (filter (is_alive rev) ls))
    by_alive true e rest =
        len_insert (tuples_of (is_alive rev) ls) l.tuple
        ∙ ap (λ b. cond b (set.len (tuples_of (is_alive rev) ls)) (set.len (tuples_of (is_alive rev) ls) + 1)) (new e)
        ∙ more rest
      where
        more : set.len (tuples_of (is_alive rev) ls) ≡ length (filter (is_alive rev) ls) → set.len (tuples_of (is_alive rev) ls) + 1 ≡ length (l ∷ filter (is_alive rev) ls)
        more h = omega (arith, h)
    by_alive false e rest = rest

-- ---- at the newest revision

alive_newest : (floor newest : ℕ) (l : TupleSpan) → IsSpan floor newest l → is_alive newest l ≡ (l.removed == 0)
alive_newest floor newest l span = same_bool (is_alive newest l) (l.removed == 0)
    (λ h. open_still span.ends (alive_says newest l h).1)
    (λ h. alive_from newest l span.begun (inl (eqb-true l.removed 0 h)))
  where
    open_still : (l.removed ≡ 0) ⊎ ((l.added < l.removed) × (floor < l.removed) × (l.removed ≤ newest)) → (l.removed ≡ 0) ⊎ (newest < l.removed) → (l.removed == 0) ≡ true
    open_still (inl e) h = eq-eqb l.removed 0 e
    open_still (inr e) (inl z) = eq-eqb l.removed 0 z
    open_still (inr e) (inr z) = let m = e.2 in absurd (omega (arith, m, z))

alive_open : (floor newest : ℕ) (spans : List ReadSpan) → All (IsSpan floor newest) (map as_span spans)
    → length (filter (is_alive newest) (map as_span spans)) ≡ length (filter (λ s. s.removed == 0) spans)
alive_open floor newest [] are = refl
alive_open floor newest (s ∷ ss) are =
    ap (λ b. length (cond b (as_span s ∷ filter (is_alive newest) (map as_span ss)) (filter (is_alive newest) (map as_span ss))))
    (alive_newest floor newest (as_span s) (All-head (IsSpan floor newest) (as_span s) (map as_span ss) are))
    ∙ by_open (s.removed == 0) (alive_open floor newest ss (All-tail (IsSpan floor newest) (as_span s) (map as_span ss) are))
  where
    by_open : (b : Bool) → length (filter (is_alive newest) (map as_span ss)) ≡ length (filter (λ s. s.removed == 0) ss)
        → length (cond b (as_span s ∷ filter (is_alive newest) (map as_span ss)) (filter (is_alive newest) (map as_span ss))) ≡ length (cond b (s ∷ filter (λ s. s.removed == 0) ss) (filter (λ s. s.removed == 0) ss))
    by_open true rest = ap (λ n. suc n) rest
    by_open false rest = rest

pub len_current : (head : Head) (spans : List ReadSpan) (configs : List ReadConfig) → IsWhole (as_written head spans configs)
    → set.len (newest_of (history_of (as_written head spans configs))).held.tuples ≡ current spans
len_current head spans configs whole =
    ap (λ (s : Snap). set.len s.tuples) (held_newest (as_written head spans configs) whole)
    ∙ len_alive head.newest (map as_span spans) whole.apart
    ∙ alive_open head.floor head.newest spans whole.spans_are
    ∙ length-filter (λ s. s.removed == 0) spans
