-- Where a tuple is not there, none of its spans is open, and to end it changes nothing.
use Rattle.std.proofs.Common.{◌≡◌, ℕ, ◌<◌, List, [], ◌∷◌, refl, sym, ap, ◌∙◌, inl, inr, arith}
use Rattle.std.specs.Prelude.{Bool, true, false, cond, ◌&&◌, ◌==◌, map}
use Rattle.std.specs.List.{list_any}
use Rattle.std.proofs.lemmas.Bool.{true≢false, or_parts, or_from, and_parts, and_from, and_left, and_right, eqb-true, ne_eqb, not-true}
use Rattle.names.specs.Order.{is_same_tuple}
use Rattle.names.specs.declared.tuple.Tuple.{Tuple}
use Rattle.names.specs.declared.commit.Event.{Event}
use Rattle.names.specs.declared.commit.EventKind.{EventKind}
use Rattle.names.specs.declared.commit.EventKind.TheVariants.{Put, Del}
use Rattle.names.specs.declared.commit.Commit.TheVariants.{Tuples}
use Rattle.meaning.specs.TupleSet as set
use Rattle.rows.specs.Retained.{newest_of}
use Rattle.tables.specs.Storing.{PutsAbsent, is_put, puts_again}
use Rattle.tables.specs.declared.puts.Puts.{Puts}
use Rattle.tables.specs.declared.puts.Puts.TheVariants.{Absent}
use Rattle.store.specs.Written.{TupleSpan, Written, IsSpan, IsSound, Pairwise, is_alive, history_of}
use Rattle.store.proofs.Picking.{In, all_in, any_no, any_in, any_none}
use Rattle.store.proofs.Living.{is_of, contains_of, alive_from}
use Rattle.store.proofs.Events.{ended, begun, with_kind, with_event, ended_either}
use Rattle.store.proofs.Together.{are_other, same_turned}
use Rattle.store.proofs.Following.{held_tuples}

abbrev pub is_open_of : Tuple → TupleSpan → Bool
is_open_of t l = is_same_tuple t l.tuple && (l.removed == 0)

-- no span of the tuple is open
abbrev pub IsShut : Tuple → List TupleSpan → Type 0
IsShut t ls = list_any (is_open_of t) ls ≡ false

pub ended_none : (rev : ℕ) (t : Tuple) (ls : List TupleSpan) → IsShut t ls → map (ended rev t) ls ≡ ls
ended_none rev t [] h = refl
ended_none rev t (l ∷ ls) h =
    let p = or_parts (is_open_of t l) (list_any (is_open_of t) ls) h in
    ap (λ (m : TupleSpan). m ∷ map (ended rev t) ls) (stays p.0) ∙ ap (λ (ms : List TupleSpan). l ∷ ms) (ended_none rev t ls p.1)
  where
    stays : is_open_of t l ≡ false → ended rev t l ≡ l
    stays e = ap (λ (b : Bool). cond b (record { tuple = l.tuple; added = l.added; removed = rev }) l) e

-- ---- an event of another tuple opens none

ended_shut : (rev : ℕ) (u t : Tuple) (l : TupleSpan) → 0 < rev → is_open_of t l ≡ false → is_open_of t (ended rev u l) ≡ false
ended_shut rev u t l some h = ended_either (λ m. is_open_of t m ≡ false) rev u l (λ _ _. and_right (is_same_tuple t l.tuple) (rev == 0) (ne_eqb rev 0 (λ x. omega (arith, x, some)))) (λ _. h)

all_shut : (rev : ℕ) (u t : Tuple) (ls : List TupleSpan) → 0 < rev → IsShut t ls → IsShut t (map (ended rev u) ls)
all_shut rev u t [] some h = refl
all_shut rev u t (l ∷ ls) some h =
    let p = or_parts (is_open_of t l) (list_any (is_open_of t) ls) h in
    or_from (is_open_of t (ended rev u l)) (list_any (is_open_of t) (map (ended rev u) ls)) (ended_shut rev u t l some p.0) (all_shut rev u t ls some p.1)

pub shut_next : (rev : ℕ) (e : Event) (t : Tuple) (ls : List TupleSpan) → 0 < rev → is_same_tuple e.tuple t ≡ false → IsShut t ls → IsShut t (with_event rev ls e)
shut_next rev e t ls some other h = by_kind e.kind
  where
    by_kind : (k : EventKind) → IsShut t (with_kind k rev e.tuple ls)
    by_kind Put = or_from (is_open_of t (begun rev e.tuple)) _ (and_left (is_same_tuple t e.tuple) true (same_turned t e.tuple ∙ other)) (all_shut rev e.tuple t ls some h)
    by_kind Del = all_shut rev e.tuple t ls some h

-- ---- what is not there at the newest revision has no open span

pub shut_absent : (w : Written) (sound : IsSound w) (t : Tuple) → set.contains (newest_of (history_of w)).held.tuples t ≡ false → IsShut t w.spans
shut_absent w sound t absent = any_none (is_open_of t) w.spans (λ l i. by_value l i (is_open_of t l) refl)
  where
    none : list_any (is_of t (is_alive w.newest)) w.spans ≡ false
    none = sym (contains_of (is_alive w.newest) w.spans t) ∙ ap (λ s. set.contains s t) (sym (held_tuples w sound)) ∙ absent

    by_value : (l : TupleSpan) → In l w.spans → (b : Bool) → is_open_of t l ≡ b → is_open_of t l ≡ false
    by_value l i false e = e
    by_value l i true e =
        let p = and_parts (is_same_tuple t l.tuple) (l.removed == 0) e in
        let span = all_in (IsSpan w.floor w.newest) w.spans sound.spans_are l i in
        absurd (true≢false (sym (any_in (is_of t (is_alive w.newest)) w.spans l i (and_from (is_same_tuple t l.tuple) (is_alive w.newest l) p.0 (alive_from w.newest l span.begun (inl (eqb-true l.removed 0 p.1))))) ∙ none))

-- where the puts are said to be absent, no event puts a tuple that has an open span
abbrev pub AreShut : Puts → List Event → List TupleSpan → Type 0
AreShut puts es ls = puts ≡ Absent → (e : Event) → In e es → e.kind ≡ Put → IsShut e.tuple ls

pub shut_puts : (w : Written) (sound : IsSound w) (puts : Puts) (es : List Event) → (puts ≡ Absent → PutsAbsent (history_of w) (Tuples es)) → AreShut puts es w.spans
shut_puts w sound puts es absent is e i put = shut_absent w sound e.tuple (by_kind e.kind put (any_no (puts_again (newest_of (history_of w)).held.tuples) es (absent is) e i))
  where
    by_kind : (k : EventKind) → k ≡ Put → (is_put k && set.contains (newest_of (history_of w)).held.tuples e.tuple) ≡ false → set.contains (newest_of (history_of w)).held.tuples e.tuple ≡ false
    by_kind Put _ h = h
    by_kind Del d h = cc

pub shut_rest : (rev : ℕ) (puts : Puts) (e : Event) (es : List Event) (ls : List TupleSpan) → 0 < rev → Pairwise are_other (e ∷ es) → AreShut puts (e ∷ es) ls → AreShut puts es (with_event rev ls e)
shut_rest rev puts e es ls some once shut is f i put =
    shut_next rev e f.tuple ls some (not-true (is_same_tuple e.tuple f.tuple) (all_in (λ g. are_other e g ≡ true) es once.0 f i)) (shut is f (inr i) put)
