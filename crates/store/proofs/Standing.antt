-- That an event leaves spans as they should be, and what comes and goes with it.
use Rattle.std.proofs.Common.{◌≡◌, ℕ, ◌<◌, ◌≤◌, List, [], ◌∷◌, refl, sym, ap, ◌∙◌, inl, inr, arith}
use Rattle.std.specs.Prelude.{Bool, true, false, cond, ◌&&◌, ◌||◌, ◌==◌, ◌⊎◌, map, All, nat_le, nat_lt}
use Rattle.std.specs.List.{list_any}
use Rattle.std.proofs.lemmas.Bool.{true≢false, or_cases, or_left, or_right, and_parts, and_from, and_left, ltb-true, lt-ltb, le-leb, lt-leb, eq-eqb}
use Rattle.std.proofs.lemmas.List.Elements.{All-cons, All-map}
use Rattle.names.specs.Spelling.{IsTuple}
use Rattle.names.specs.Order.{is_same_tuple}
use Rattle.names.specs.declared.tuple.Tuple.{Tuple}
use Rattle.names.specs.declared.commit.Event.{Event}
use Rattle.names.specs.declared.commit.EventKind.{EventKind}
use Rattle.names.specs.declared.commit.EventKind.TheVariants.{Put, Del}
use Rattle.meaning.specs.Config.{Configured}
use Rattle.meaning.specs.Admits.{admits}
use Rattle.store.specs.Written.{TupleSpan, IsSpan, Pairwise, is_alive, is_moved, is_put_at, are_apart, is_before}
use Rattle.store.proofs.Picking.{In, found, any_in, all_in, all_from, any_same, any_no}
use Rattle.store.proofs.Living.{is_of, one_tuple}
use Rattle.store.proofs.Events.{ended, begun, with_kind, with_event, Stand, ended_either, ended_tuple, ended_added, any_map, removed_most, alive_open, ended_alive}

-- ---- what comes or goes

module _ (floor rev : ℕ) (spans : List TupleSpan) (stand : Stand floor rev spans) where
  moved_other : (t q : Tuple) → is_same_tuple q t ≡ false → list_any (is_of q (is_moved rev)) (map (ended rev t) spans) ≡ list_any (is_of q (is_moved rev)) spans
  moved_other t q other = any_map (ended rev t) (is_of q (is_moved rev)) spans ∙ any_same (λ l. is_of q (is_moved rev) (ended rev t l)) (is_of q (is_moved rev)) spans (λ l _. each l)
    where
      each : (l : TupleSpan) → is_of q (is_moved rev) (ended rev t l) ≡ is_of q (is_moved rev) l
      each l = ended_either (λ m. is_of q (is_moved rev) m ≡ is_of q (is_moved rev) l) rev t l
          (λ same _. let unlike : is_same_tuple q l.tuple ≡ false = ap (is_same_tuple q) (sym (one_tuple t l.tuple same)) ∙ other in
          and_left (is_same_tuple q l.tuple) _ unlike ∙ sym (and_left (is_same_tuple q l.tuple) (is_moved rev l) unlike))
          (λ _. refl)

  -- the open span of the tuple has ended
  moved_same : (t : Tuple) → list_any (is_of t (is_alive rev)) spans ≡ true → list_any (is_of t (is_moved rev)) (map (ended rev t) spans) ≡ true
  moved_same t alive = by_found (found (is_of t (is_alive rev)) spans alive)
    where
      by_found : (l : TupleSpan) × In l spans × (is_of t (is_alive rev) l ≡ true) → list_any (is_of t (is_moved rev)) (map (ended rev t) spans) ≡ true
      by_found (l, i, h) =
          let p = and_parts (is_same_tuple t l.tuple) (is_alive rev l) h in
          any_map (ended rev t) (is_of t (is_moved rev)) spans
          ∙ any_in (λ m. is_of t (is_moved rev) (ended rev t m)) spans l i (at_end p.0 (alive_open floor rev l (all_in (IsSpan floor rev) spans stand.are l i) p.1))
        where
          at_end : is_same_tuple t l.tuple ≡ true → l.removed ≡ 0 → is_of t (is_moved rev) (ended rev t l) ≡ true
          at_end same z = ended_either (λ m. is_of t (is_moved rev) m ≡ true) rev t l
              (λ _ _. and_from (is_same_tuple t l.tuple) _ same (or_right (l.added == rev) (rev == rev) (eq-eqb rev rev refl)))
              (λ other. absurd (other same z))

  pub moved_now : (e : Event) (q : Tuple) → (e.kind ≡ Del → list_any (is_of e.tuple (is_alive rev)) spans ≡ true)
      → list_any (is_of q (is_moved rev)) (with_event rev spans e) ≡ (is_same_tuple q e.tuple || list_any (is_of q (is_moved rev)) spans)
  moved_now e q there = by_same (is_same_tuple q e.tuple) refl e.kind there
    where
      new : is_moved rev (begun rev e.tuple) ≡ true
      new = or_left (rev == rev) (0 == rev) (eq-eqb rev rev refl)

      by_same : (s : Bool) → is_same_tuple q e.tuple ≡ s → (k : EventKind) → (k ≡ Del → list_any (is_of e.tuple (is_alive rev)) spans ≡ true)
          → list_any (is_of q (is_moved rev)) (with_kind k rev e.tuple spans) ≡ (s || list_any (is_of q (is_moved rev)) spans)
      by_same true same Put there = or_left _ (list_any (is_of q (is_moved rev)) (map (ended rev e.tuple) spans)) (and_from (is_same_tuple q e.tuple) _ same new)
      by_same false other Put there = ap (λ b. (b && is_moved rev (begun rev e.tuple)) || list_any (is_of q (is_moved rev)) (map (ended rev e.tuple) spans)) other ∙ moved_other e.tuple q other
      by_same true same Del there =
          ap (λ v. list_any (is_of v (is_moved rev)) (map (ended rev e.tuple) spans)) (one_tuple q e.tuple same) ∙ moved_same e.tuple (there refl)
      by_same false other Del there = moved_other e.tuple q other

-- ---- the spans

ended_span : (floor rev : ℕ) (t : Tuple) (l : TupleSpan) → floor < rev → IsSpan floor rev l → (is_same_tuple t l.tuple ≡ true → l.added ≡ rev → ⊥) → IsSpan floor rev (ended rev t l)
ended_span floor rev t l above span older = ended_either (IsSpan floor rev) rev t l
    (λ same _. record { spelled = span.spelled; begins = span.begins; begun = span.begun; ends = inr (below span.begun (older same), above, omega arith) })
    (λ _. span)
  where
    below : l.added ≤ rev → (l.added ≡ rev → ⊥) → l.added < rev
    below a b = omega (arith, a, b)

before_ended : (rev : ℕ) (t : Tuple) (a b : TupleSpan) → is_before a b ≡ true → is_before (ended rev t a) (ended rev t b) ≡ true
before_ended rev t a b h = ended_either (λ m. is_before m (ended rev t b) ≡ true) rev t a
    (λ _ z. absurd (ended_not z (and_parts (nat_lt 0 a.removed) (nat_le a.removed b.added) h).0))
    (λ _. ap (λ n. nat_lt 0 a.removed && nat_le a.removed n) (ended_added rev t b) ∙ h)
  where
    ended_not : a.removed ≡ 0 → nat_lt 0 a.removed ≡ true → ⊥
    ended_not z s = let x = ltb-true 0 a.removed s in omega (arith, x, z)

apart_ended : (rev : ℕ) (t : Tuple) (a b : TupleSpan) → are_apart a b ≡ true → are_apart (ended rev t a) (ended rev t b) ≡ true
apart_ended rev t a b h =
    ap (λ v. cond (is_same_tuple v (ended rev t b).tuple) (is_before (ended rev t a) (ended rev t b) || is_before (ended rev t b) (ended rev t a)) true) (ended_tuple rev t a)
    ∙ ap (λ v. cond (is_same_tuple a.tuple v) (is_before (ended rev t a) (ended rev t b) || is_before (ended rev t b) (ended rev t a)) true) (ended_tuple rev t b)
    ∙ by_same (is_same_tuple a.tuple b.tuple) h
  where
    by_same : (s : Bool) → cond s (is_before a b || is_before b a) true ≡ true → cond s (is_before (ended rev t a) (ended rev t b) || is_before (ended rev t b) (ended rev t a)) true ≡ true
    by_same false h = refl
    by_same true h = by_which (or_cases (is_before a b) (is_before b a) h)
      where
        by_which : (is_before a b ≡ true) ⊎ (is_before b a ≡ true) → (is_before (ended rev t a) (ended rev t b) || is_before (ended rev t b) (ended rev t a)) ≡ true
        by_which (inl x) = or_left _ (is_before (ended rev t b) (ended rev t a)) (before_ended rev t a b x)
        by_which (inr x) = or_right (is_before (ended rev t a) (ended rev t b)) _ (before_ended rev t b a x)

pub pair_map : {A B : Type 0} (f : A → B) (p : A → A → Bool) (q : B → B → Bool) (xs : List A) → ((x y : A) → p x y ≡ true → q (f x) (f y) ≡ true) → Pairwise p xs → Pairwise q (map f xs)
pair_map f p q [] h ps = tt
pair_map f p q (x ∷ xs) h ps =
    (All-map (λ v. q (f x) v ≡ true) f xs (all_from (λ y. q (f x) (f y) ≡ true) xs (λ y i. h x y (all_in (λ z. p x z ≡ true) xs ps.0 y i))), pair_map f p q xs h ps.1)

-- what begins lies apart from all that has ended
begun_apart : (floor rev : ℕ) (t : Tuple) (l : TupleSpan) → 0 < rev → IsSpan floor rev l → are_apart (begun rev t) (ended rev t l) ≡ true
begun_apart floor rev t l some span =
    ap (λ v. cond (is_same_tuple t v) (is_before (begun rev t) (ended rev t l) || is_before (ended rev t l) (begun rev t)) true) (ended_tuple rev t l)
    ∙ by_same (is_same_tuple t l.tuple) refl
  where
    ended_before : is_same_tuple t l.tuple ≡ true → is_before (ended rev t l) (begun rev t) ≡ true
    ended_before same = ended_either (λ m. is_before m (begun rev t) ≡ true) rev t l
        (λ _ _. and_from (nat_lt 0 rev) (nat_le rev rev) (lt-ltb 0 rev some) (le-leb rev rev (omega arith)))
        (λ other. let most = removed_most floor rev l span in let ne = other same in and_from (nat_lt 0 l.removed) (nat_le l.removed rev) (lt-ltb 0 l.removed (omega (arith, ne))) (le-leb l.removed rev most))

    by_same : (s : Bool) → is_same_tuple t l.tuple ≡ s → cond s (is_before (begun rev t) (ended rev t l) || is_before (ended rev t l) (begun rev t)) true ≡ true
    by_same true same = or_right (is_before (begun rev t) (ended rev t l)) _ (ended_before same)
    by_same false other = refl

pub stand_now : (floor rev : ℕ) (spans : List TupleSpan) → Stand floor rev spans → floor < rev → (e : Event) → IsTuple e.tuple → is_put_at rev spans e.tuple ≡ false → Stand floor rev (with_event rev spans e)
stand_now floor rev spans stand above e spelled fresh = by_kind e.kind
  where
    older : (l : TupleSpan) → In l spans → is_same_tuple e.tuple l.tuple ≡ true → l.added ≡ rev → ⊥
    older l i same at = true≢false (sym (and_from (is_same_tuple e.tuple l.tuple) (l.added == rev) same (eq-eqb l.added rev at)) ∙ any_no (λ m. is_same_tuple e.tuple m.tuple && (m.added == rev)) spans fresh l i)

    are : All (IsSpan floor rev) (map (ended rev e.tuple) spans)
    are = All-map (IsSpan floor rev) (ended rev e.tuple) spans (all_from (λ l. IsSpan floor rev (ended rev e.tuple l)) spans (λ l i. ended_span floor rev e.tuple l above (all_in (IsSpan floor rev) spans stand.are l i) (older l i)))

    apart : Pairwise are_apart (map (ended rev e.tuple) spans)
    apart = pair_map (ended rev e.tuple) are_apart are_apart spans (apart_ended rev e.tuple) stand.apart

    new : IsSpan floor rev (begun rev e.tuple)
    new = record { spelled = spelled; begins = omega arith; begun = omega arith; ends = inl refl }

    new_apart : All (λ y. are_apart (begun rev e.tuple) y ≡ true) (map (ended rev e.tuple) spans)
    new_apart = All-map (λ y. are_apart (begun rev e.tuple) y ≡ true) (ended rev e.tuple) spans
        (all_from (λ l. are_apart (begun rev e.tuple) (ended rev e.tuple l) ≡ true) spans (λ l i. begun_apart floor rev e.tuple l (omega arith) (all_in (IsSpan floor rev) spans stand.are l i)))

    by_kind : (k : EventKind) → Stand floor rev (with_kind k rev e.tuple spans)
    by_kind Put = record { are = All-cons (IsSpan floor rev) (begun rev e.tuple) (map (ended rev e.tuple) spans) new are; apart = (new_apart, apart) }
    by_kind Del = record { are = are; apart = apart }

-- ---- which tuples are admitted

-- each tuple that is there at a revision is admitted
abbrev pub Admitted : Configured → ℕ → List TupleSpan → Type 0
Admitted config at spans = All (λ l. is_alive at l ≡ true → admits config l.tuple ≡ true) spans

pub admitted_older : (config : Configured) (rev at : ℕ) (e : Event) (spans : List TupleSpan) → at < rev → Admitted config at spans → Admitted config at (with_event rev spans e)
admitted_older config rev at e spans old h = by_kind e.kind
  where
    rest : Admitted config at (map (ended rev e.tuple) spans)
    rest = All-map (λ l. is_alive at l ≡ true → admits config l.tuple ≡ true) (ended rev e.tuple) spans
        (all_from (λ l. is_alive at (ended rev e.tuple l) ≡ true → admits config (ended rev e.tuple l).tuple ≡ true) spans
        (λ l i a. ap (admits config) (ended_tuple rev e.tuple l) ∙ all_in (λ l. is_alive at l ≡ true → admits config l.tuple ≡ true) spans h l i (sym (ended_alive rev at e.tuple l old) ∙ a)))

    by_kind : (k : EventKind) → Admitted config at (with_kind k rev e.tuple spans)
    by_kind Put = All-cons (λ l. is_alive at l ≡ true → admits config l.tuple ≡ true) (begun rev e.tuple) (map (ended rev e.tuple) spans)
        (λ a. absurd (true≢false (sym a ∙ and_left (nat_le rev at) _ (lt-leb rev at old)))) rest
    by_kind Del = rest

pub admitted_now : (config : Configured) (floor rev : ℕ) (e : Event) (spans : List TupleSpan) → 0 < rev → Stand floor rev spans → admits config e.tuple ≡ true → Admitted config rev spans → Admitted config rev (with_event rev spans e)
admitted_now config floor rev e spans some stand good h = by_kind e.kind
  where
    each : (l : TupleSpan) → In l spans → is_alive rev (ended rev e.tuple l) ≡ true → admits config (ended rev e.tuple l).tuple ≡ true
    each l i = ended_either (λ m. is_alive rev m ≡ true → admits config m.tuple ≡ true) rev e.tuple l
        (λ same _ _. ap (admits config) (sym (one_tuple e.tuple l.tuple same)) ∙ good)
        (λ _ a. all_in (λ l. is_alive rev l ≡ true → admits config l.tuple ≡ true) spans h l i a)

    rest : Admitted config rev (map (ended rev e.tuple) spans)
    rest = All-map (λ l. is_alive rev l ≡ true → admits config l.tuple ≡ true) (ended rev e.tuple) spans (all_from (λ l. is_alive rev (ended rev e.tuple l) ≡ true → admits config (ended rev e.tuple l).tuple ≡ true) spans each)

    by_kind : (k : EventKind) → Admitted config rev (with_kind k rev e.tuple spans)
    by_kind Put = All-cons (λ l. is_alive rev l ≡ true → admits config l.tuple ≡ true) (begun rev e.tuple) (map (ended rev e.tuple) spans) (λ _. good) rest
    by_kind Del = rest
