-- What the events of a commit make of the spans.
use Rattle.std.proofs.Common.{◌≡◌, ℕ, ◌<◌, ◌≤◌, List, [], ◌∷◌, refl, sym, ap, subst, ◌∙◌, inl, inr, arith}
use Rattle.std.specs.Prelude.{Bool, true, false, cond, not, ◌&&◌, ◌||◌, ◌==◌, ◌⊎◌, map, All, nat_le, nat_lt}
use Rattle.std.specs.List.{list_any}
use Rattle.std.proofs.lemmas.Bool.{true≢false, or_left, or_right, or_from, and_parts, and_from, and_left, and_right, eqb-true, lt-ltb, le-ltb, lt-leb, eq-eqb, ne_eqb}
use Rattle.names.specs.Order.{is_same_tuple}
use Rattle.names.specs.declared.tuple.Tuple.{Tuple}
use Rattle.names.specs.declared.commit.Event.{Event}
use Rattle.names.specs.declared.commit.EventKind.{EventKind}
use Rattle.names.specs.declared.commit.EventKind.TheVariants.{Put, Del}
use Rattle.meaning.specs.History.{after_event}
use Rattle.meaning.proofs.TupleSets.{same_tuples}
use Rattle.store.specs.Written.{TupleSpan, IsSpan, Pairwise, is_alive, is_moved, tuples_of, is_put_at, are_apart}
use Rattle.store.proofs.Picking.{In, all_in, any_same}
use Rattle.store.proofs.Living.{is_of, one_tuple, contains_of, alive_says, alive_from}
use Rattle.store.proofs.Held.{puts, after_kind_has}

-- the open span of the tuple ends
abbrev pub ended : ℕ → Tuple → TupleSpan → TupleSpan
ended rev t l = cond (is_same_tuple t l.tuple && (l.removed == 0)) (record { tuple = l.tuple; added = l.added; removed = rev }) l

abbrev pub begun : ℕ → Tuple → TupleSpan
begun rev t = record { tuple = t; added = rev; removed = 0 }

abbrev pub with_kind : EventKind → ℕ → Tuple → List TupleSpan → List TupleSpan
with_kind Put rev t spans = begun rev t ∷ map (ended rev t) spans
with_kind Del rev t spans = map (ended rev t) spans

abbrev pub with_event : ℕ → List TupleSpan → Event → List TupleSpan
with_event rev spans e = with_kind e.kind rev e.tuple spans

abbrev pub with_events : ℕ → List Event → List TupleSpan → List TupleSpan
with_events rev [] spans = spans
with_events rev (e ∷ es) spans = with_events rev es (with_event rev spans e)

pub same_itself : (t : Tuple) → (q : Tuple) → t ≡ q → is_same_tuple t t ≡ true → is_same_tuple t q ≡ true
same_itself t q e h = ap (is_same_tuple t) (sym e) ∙ h

-- ---- one span

-- what ending does, by cases
pub ended_cases : (rev : ℕ) (t : Tuple) (l : TupleSpan) → ((is_same_tuple t l.tuple ≡ true) × (l.removed ≡ 0) × (ended rev t l ≡ record { tuple = l.tuple; added = l.added; removed = rev }))
    ⊎ (((is_same_tuple t l.tuple ≡ true) → l.removed ≡ 0 → ⊥) × (ended rev t l ≡ l))
ended_cases rev t l = by_test (is_same_tuple t l.tuple && (l.removed == 0)) refl
  where
    by_test : (b : Bool) → (is_same_tuple t l.tuple && (l.removed == 0)) ≡ b
        → ((is_same_tuple t l.tuple ≡ true) × (l.removed ≡ 0) × (cond b (record { tuple = l.tuple; added = l.added; removed = rev }) l ≡ record { tuple = l.tuple; added = l.added; removed = rev }))
        ⊎ (((is_same_tuple t l.tuple ≡ true) → l.removed ≡ 0 → ⊥) × (cond b (record { tuple = l.tuple; added = l.added; removed = rev }) l ≡ l))
    by_test true e = let p = and_parts (is_same_tuple t l.tuple) (l.removed == 0) e in inl (p.0, eqb-true l.removed 0 p.1, refl)
    by_test false e = inr (λ s r. true≢false (sym (and_from (is_same_tuple t l.tuple) (l.removed == 0) s (eq-eqb l.removed 0 r)) ∙ e), refl)

-- a fact of both the span and what it is when it ends is one of what it is
pub ended_either : (P : TupleSpan → Type 0) (rev : ℕ) (t : Tuple) (l : TupleSpan)
    → (is_same_tuple t l.tuple ≡ true → l.removed ≡ 0 → P (record { tuple = l.tuple; added = l.added; removed = rev }))
    → (((is_same_tuple t l.tuple ≡ true) → l.removed ≡ 0 → ⊥) → P l) → P (ended rev t l)
ended_either P rev t l a b = by_case (ended_cases rev t l)
  where
    by_case : ((is_same_tuple t l.tuple ≡ true) × (l.removed ≡ 0) × (ended rev t l ≡ record { tuple = l.tuple; added = l.added; removed = rev }))
        ⊎ (((is_same_tuple t l.tuple ≡ true) → l.removed ≡ 0 → ⊥) × (ended rev t l ≡ l)) → P (ended rev t l)
    by_case (inl h) = subst P (sym h.2) (a h.0 h.1)
    by_case (inr h) = subst P (sym h.1) (b h.0)

pub ended_tuple : (rev : ℕ) (t : Tuple) (l : TupleSpan) → (ended rev t l).tuple ≡ l.tuple
ended_tuple rev t l = ended_either (λ m. m.tuple ≡ l.tuple) rev t l (λ _ _. refl) (λ _. refl)

pub ended_added : (rev : ℕ) (t : Tuple) (l : TupleSpan) → (ended rev t l).added ≡ l.added
ended_added rev t l = ended_either (λ m. m.added ≡ l.added) rev t l (λ _ _. refl) (λ _. refl)

-- at older revisions nothing changes
pub ended_alive : (rev at : ℕ) (t : Tuple) (l : TupleSpan) → at < rev → is_alive at (ended rev t l) ≡ is_alive at l
ended_alive rev at t l old = ended_either (λ m. is_alive at m ≡ is_alive at l) rev t l (λ _ zero_is. ap (λ b. nat_le l.added at && b) (open_there zero_is)) (λ _. refl)
  where
    open_there : l.removed ≡ 0 → ((rev == 0) || nat_lt at rev) ≡ ((l.removed == 0) || nat_lt at l.removed)
    open_there z = or_right (rev == 0) (nat_lt at rev) (lt-ltb at rev old) ∙ sym (or_left (l.removed == 0) (nat_lt at l.removed) (eq-eqb l.removed 0 z))

pub ended_moved : (rev at : ℕ) (t : Tuple) (l : TupleSpan) → at < rev → 0 < at → is_moved at (ended rev t l) ≡ is_moved at l
ended_moved rev at t l old some = ended_either (λ m. is_moved at m ≡ is_moved at l) rev t l (λ _ zero_is. ap (λ b. (l.added == at) || b) (never zero_is)) (λ _. refl)
  where
    differ : rev ≡ at → ⊥
    differ e = omega (arith, e, old)

    differ_zero : l.removed ≡ 0 → l.removed ≡ at → ⊥
    differ_zero z e = omega (arith, z, e, some)

    never : l.removed ≡ 0 → (rev == at) ≡ (l.removed == at)
    never z = ne_eqb rev at differ ∙ sym (ne_eqb l.removed at (differ_zero z))

-- ---- one event: what tests find

pub any_map : {A B : Type 0} (f : A → B) (p : B → Bool) (xs : List A) → list_any p (map f xs) ≡ list_any (λ x. p (f x)) xs
any_map f p [] = refl
any_map f p (x ∷ xs) = ap (λ b. p (f x) || b) (any_map f p xs)

-- a test that does not see the end finds what it found
pub any_ended : (test : TupleSpan → Bool) (rev : ℕ) (t : Tuple) (spans : List TupleSpan) → ((l : TupleSpan) → In l spans → test (ended rev t l) ≡ test l) → list_any test (map (ended rev t) spans) ≡ list_any test spans
any_ended test rev t spans h = any_map (ended rev t) test spans ∙ any_same (λ l. test (ended rev t l)) test spans h

-- a test that is false of what begins finds what it found
pub any_older : (test : TupleSpan → Bool) (rev : ℕ) (e : Event) (spans : List TupleSpan) → ((l : TupleSpan) → In l spans → test (ended rev e.tuple l) ≡ test l) → test (begun rev e.tuple) ≡ false
    → list_any test (with_event rev spans e) ≡ list_any test spans
any_older test rev e spans h new = by_kind e.kind
  where
    by_kind : (k : EventKind) → list_any test (with_kind k rev e.tuple spans) ≡ list_any test spans
    by_kind Put = ap (λ b. b || list_any test (map (ended rev e.tuple) spans)) new ∙ any_ended test rev e.tuple spans h
    by_kind Del = any_ended test rev e.tuple spans h

pub alive_older : (rev at : ℕ) (e : Event) (spans : List TupleSpan) (q : Tuple) → at < rev → list_any (is_of q (is_alive at)) (with_event rev spans e) ≡ list_any (is_of q (is_alive at)) spans
alive_older rev at e spans q old = any_older (is_of q (is_alive at)) rev e spans (λ l _. ap (λ t. is_same_tuple q t && is_alive at (ended rev e.tuple l)) (ended_tuple rev e.tuple l) ∙ ap (λ b. is_same_tuple q l.tuple && b) (ended_alive rev at e.tuple l old))
    (and_right (is_same_tuple q e.tuple) _ (and_left (nat_le rev at) _ (lt-leb rev at old)))

pub moved_older : (rev at : ℕ) (e : Event) (spans : List TupleSpan) (q : Tuple) → at < rev → 0 < at → list_any (is_of q (is_moved at)) (with_event rev spans e) ≡ list_any (is_of q (is_moved at)) spans
moved_older rev at e spans q old some = any_older (is_of q (is_moved at)) rev e spans (λ l _. ap (λ t. is_same_tuple q t && is_moved at (ended rev e.tuple l)) (ended_tuple rev e.tuple l) ∙ ap (λ b. is_same_tuple q l.tuple && b) (ended_moved rev at e.tuple l old some))
    (and_right (is_same_tuple q e.tuple) _ (or_from (rev == at) (0 == at) (ne_eqb rev at (λ x. omega (arith, x, old))) (ne_eqb 0 at (λ x. omega (arith, x, some)))))

pub any_moved_older : (rev at : ℕ) (e : Event) (spans : List TupleSpan) → at < rev → 0 < at → list_any (is_moved at) (with_event rev spans e) ≡ list_any (is_moved at) spans
any_moved_older rev at e spans old some = any_older (is_moved at) rev e spans (λ l _. ended_moved rev at e.tuple l old some)
    (or_from (rev == at) (0 == at) (ne_eqb rev at (λ x. omega (arith, x, old))) (ne_eqb 0 at (λ x. omega (arith, x, some))))

-- whether some span of the tuple begins at a revision
ended_put : (rev at : ℕ) (t q : Tuple) (l : TupleSpan) → (is_same_tuple q (ended rev t l).tuple && ((ended rev t l).added == at)) ≡ (is_same_tuple q l.tuple && (l.added == at))
ended_put rev at t q l = ended_either (λ m. (is_same_tuple q m.tuple && (m.added == at)) ≡ (is_same_tuple q l.tuple && (l.added == at))) rev t l (λ _ _. refl) (λ _. refl)

pub put_older : (rev at : ℕ) (e : Event) (spans : List TupleSpan) (q : Tuple) → at < rev → is_put_at at (with_event rev spans e) q ≡ is_put_at at spans q
put_older rev at e spans q old = any_older (λ l. is_same_tuple q l.tuple && (l.added == at)) rev e spans (λ l _. ended_put rev at e.tuple q l) (and_right (is_same_tuple q e.tuple) _ (ne_eqb rev at (λ x. omega (arith, x, old))))

pub put_now : (rev : ℕ) (e : Event) (spans : List TupleSpan) (q : Tuple) → is_put_at rev (with_event rev spans e) q ≡ ((is_same_tuple q e.tuple && puts e.kind) || is_put_at rev spans q)
put_now rev e spans q = by_kind e.kind
  where
    test : TupleSpan → Bool
    test l = is_same_tuple q l.tuple && (l.added == rev)

    rest : list_any (λ l. is_same_tuple q l.tuple && (l.added == rev)) (map (ended rev e.tuple) spans) ≡ is_put_at rev spans q
    rest = any_ended (λ l. is_same_tuple q l.tuple && (l.added == rev)) rev e.tuple spans (λ l _. ended_put rev rev e.tuple q l)

    never : (a b : Bool) → b ≡ ((a && false) || b)
    never true b = refl
    never false b = refl

    by_kind : (k : EventKind) → is_put_at rev (with_kind k rev e.tuple spans) q ≡ ((is_same_tuple q e.tuple && puts k) || is_put_at rev spans q)
    by_kind Put = ap (λ b. (is_same_tuple q e.tuple && b) || list_any (λ l. is_same_tuple q l.tuple && (l.added == rev)) (map (ended rev e.tuple) spans)) (eq-eqb rev rev refl) ∙ ap (λ b. (is_same_tuple q e.tuple && true) || b) rest
    by_kind Del = rest ∙ never (is_same_tuple q e.tuple) (is_put_at rev spans q)

-- ---- one event: which spans stand

-- every span is as it should be, and those of one tuple lie apart
pub record Stand (floor rev : ℕ) (spans : List TupleSpan) : Type 0 where
  pub are : All (IsSpan floor rev) spans
  pub apart : Pairwise are_apart spans

pub removed_most : (floor rev : ℕ) (l : TupleSpan) → IsSpan floor rev l → l.removed ≤ rev
removed_most floor rev l span = by_end span.ends
  where
    by_end : (l.removed ≡ 0) ⊎ ((l.added < l.removed) × (floor < l.removed) × (l.removed ≤ rev)) → l.removed ≤ rev
    by_end (inl z) = omega (arith, z)
    by_end (inr e) = e.2

-- at the revision itself
pub alive_open : (floor rev : ℕ) (l : TupleSpan) → IsSpan floor rev l → is_alive rev l ≡ true → l.removed ≡ 0
alive_open floor rev l span h = by_end (alive_says rev l h).1 (removed_most floor rev l span)
  where
    by_end : (l.removed ≡ 0) ⊎ (rev < l.removed) → l.removed ≤ rev → l.removed ≡ 0
    by_end (inl z) most = z
    by_end (inr x) most = omega (arith, x, most)

not_alive : (rev : ℕ) (l : TupleSpan) → 0 < l.removed → l.removed ≤ rev → is_alive rev l ≡ false
not_alive rev l some most = and_right (nat_le l.added rev) _ (or_from (l.removed == 0) (nat_lt rev l.removed) (ne_eqb l.removed 0 (λ x. omega (arith, x, some))) (le-ltb rev l.removed most))

module _ (floor rev : ℕ) (spans : List TupleSpan) (stand : Stand floor rev spans) where
  -- what is alive after the event
  ended_now : 0 < rev → (t q : Tuple) (l : TupleSpan) → In l spans → is_of q (is_alive rev) (ended rev t l) ≡ (not (is_same_tuple q t) && is_of q (is_alive rev) l)
  ended_now some t q l i = ended_either (λ m. is_of q (is_alive rev) m ≡ (not (is_same_tuple q t) && is_of q (is_alive rev) l)) rev t l ends stays
    where
      span : IsSpan floor rev l
      span = all_in (IsSpan floor rev) spans stand.are l i

      dead : is_alive rev (record { tuple = l.tuple; added = l.added; removed = rev }) ≡ false
      dead = not_alive rev (record { tuple = l.tuple; added = l.added; removed = rev }) some (omega arith)

      ends : is_same_tuple t l.tuple ≡ true → l.removed ≡ 0 → (is_same_tuple q l.tuple && is_alive rev (record { tuple = l.tuple; added = l.added; removed = rev })) ≡ (not (is_same_tuple q t) && (is_same_tuple q l.tuple && is_alive rev l))
      ends same z = and_right (is_same_tuple q l.tuple) _ dead ∙ sym (none (is_same_tuple q l.tuple) (ap (is_same_tuple q) (one_tuple t l.tuple same)))
        where
          none : (s : Bool) → is_same_tuple q t ≡ s → (not (is_same_tuple q t) && (s && is_alive rev l)) ≡ false
          none true e = ap (λ b. not b && (true && is_alive rev l)) e
          none false e = and_right (not (is_same_tuple q t)) _ refl

      stays : (is_same_tuple t l.tuple ≡ true → l.removed ≡ 0 → ⊥) → (is_same_tuple q l.tuple && is_alive rev l) ≡ (not (is_same_tuple q t) && (is_same_tuple q l.tuple && is_alive rev l))
      stays other = by_same (is_same_tuple q t) refl
        where
          by_same : (s : Bool) → is_same_tuple q t ≡ s → (is_same_tuple q l.tuple && is_alive rev l) ≡ (not s && (is_same_tuple q l.tuple && is_alive rev l))
          by_same false e = refl
          by_same true e = by_alive (is_same_tuple q l.tuple && is_alive rev l) refl
            where
              by_alive : (b : Bool) → (is_same_tuple q l.tuple && is_alive rev l) ≡ b → b ≡ false
              by_alive false h = refl
              by_alive true h =
                  let p = and_parts (is_same_tuple q l.tuple) (is_alive rev l) h in
                  absurd (other (ap (λ v. is_same_tuple v l.tuple) (sym (one_tuple q t e)) ∙ p.0) (alive_open floor rev l span p.1))

  pub alive_now : 0 < rev → (e : Event) (q : Tuple) → list_any (is_of q (is_alive rev)) (with_event rev spans e) ≡ cond (is_same_tuple q e.tuple) (puts e.kind) (list_any (is_of q (is_alive rev)) spans)
  alive_now some e q = by_kind e.kind
    where
      any_and : (b : Bool) (p : TupleSpan → Bool) (ls : List TupleSpan) → list_any (λ l. b && p l) ls ≡ (b && list_any p ls)
      any_and true p [] = refl
      any_and false p [] = refl
      any_and true p (l ∷ ls) = ap (λ c. p l || c) (any_and true p ls)
      any_and false p (l ∷ ls) = any_and false p ls

      rest : list_any (is_of q (is_alive rev)) (map (ended rev e.tuple) spans) ≡ (not (is_same_tuple q e.tuple) && list_any (is_of q (is_alive rev)) spans)
      rest =
          any_map (ended rev e.tuple) (is_of q (is_alive rev)) spans
          ∙ any_same (λ l. is_of q (is_alive rev) (ended rev e.tuple l)) (λ l. not (is_same_tuple q e.tuple) && is_of q (is_alive rev) l) spans (λ l i. ended_now some e.tuple q l i)
          ∙ any_and (not (is_same_tuple q e.tuple)) (is_of q (is_alive rev)) spans

      new : is_alive rev (begun rev e.tuple) ≡ true
      new = alive_from rev (begun rev e.tuple) (omega arith) (inl refl)

      by_kind : (k : EventKind) → list_any (is_of q (is_alive rev)) (with_kind k rev e.tuple spans) ≡ cond (is_same_tuple q e.tuple) (puts k) (list_any (is_of q (is_alive rev)) spans)
      by_kind Put =
          ap (λ b. (is_same_tuple q e.tuple && b) || list_any (is_of q (is_alive rev)) (map (ended rev e.tuple) spans)) new
          ∙ ap (λ b. (is_same_tuple q e.tuple && true) || b) rest
          ∙ by_same (is_same_tuple q e.tuple)
        where
          by_same : (s : Bool) → ((s && true) || (not s && list_any (is_of q (is_alive rev)) spans)) ≡ cond s true (list_any (is_of q (is_alive rev)) spans)
          by_same true = refl
          by_same false = refl
      by_kind Del = rest ∙ by_same (is_same_tuple q e.tuple)
        where
          by_same : (s : Bool) → (not s && list_any (is_of q (is_alive rev)) spans) ≡ cond s false (list_any (is_of q (is_alive rev)) spans)
          by_same true = refl
          by_same false = refl

  pub tuples_now : 0 < rev → (e : Event) → tuples_of (is_alive rev) (with_event rev spans e) ≡ after_event (tuples_of (is_alive rev) spans) e
  tuples_now some e = same_tuples _ _ (λ q.
      contains_of (is_alive rev) (with_event rev spans e) q
      ∙ alive_now some e q
      ∙ ap (λ b. cond (is_same_tuple q e.tuple) (puts e.kind) b) (sym (contains_of (is_alive rev) spans q))
      ∙ sym (after_kind_has (tuples_of (is_alive rev) spans) e.kind e.tuple q))
