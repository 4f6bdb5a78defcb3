-- A commit that is not refused has room.
use Rattle.std.proofs.Common.{◌≡◌, ℕ, ◌+◌, ◌-◌, ◌≤◌, ◌||◌, Bool, true, false, not, List, [], ◌∷◌, map, refl, sym, ◌∙◌, subst, arith, Option, Some, None, nat_lt}
use Rattle.std.specs.List.{list_any, find}
use Rattle.std.proofs.lemmas.Bool.Decides.{nat_tests}
use Rattle.names.specs.declared.tuple.Tuple.{Tuple}
use Rattle.names.specs.declared.commit.Event.{Event}
use Rattle.names.specs.declared.commit.EventKind.{EventKind}
use Rattle.names.specs.declared.commit.EventKind.TheVariants.{Put, Del}
use Rattle.names.specs.declared.write.Op.{Op}
use Rattle.names.specs.declared.commit.Commit.{Commit}
use Rattle.names.specs.declared.commit.Commit.TheVariants.{Tuples, Config}
use Rattle.names.specs.declared.refusal.Refusal.{Refusal}
use Rattle.names.specs.declared.refusal.Refusal.TheVariants.{Malformed, UnknownRelation, TypeRefused, TwiceInOneWrite, AlreadyThere, NotThere, Full}
use Rattle.meaning.specs.Config.{Configured}
use Rattle.meaning.specs.TupleSet as set
use Rattle.meaning.specs.Admits.{admits}
use Rattle.meaning.specs.History.{replay, puts_in}
use Rattle.meaning.specs.Verdict.{Newest, or_else, refused_if, event_of, is_full, is_in_range, is_unknown, is_untyped, is_twice, at_place, first_from, inserts_again, deletes_nothing, in_the_way, write_cause}
use Rattle.rows.specs.Retained.{Retained, newest, newest_of, spans_of, AreAdmitted, HasRoom}
use Rattle.std.specs.Prelude.{is_some}
use Rattle.names.specs.declared.limits.TheConstants.{MAX_REV, MAX_ROWS, MAX_TUPLES}
use Rattle.rows.specs.Ordered.{is_in_order}
use Rattle.rows.specs.Follows.{commit_cause, touch_of, touch_kind, IsNext}
use Rattle.rows.proofs.Admitting.{within_events, within_config}
use Rattle.rows.proofs.Ordering.{ordered_write}

pub later_none : {A : Type 0} (a b : Option A) → or_else a b ≡ None → b ≡ None
later_none (Some x) b h = absurd cc
later_none None b h = h

pub first_none : {A : Type 0} (a b : Option A) → or_else a b ≡ None → a ≡ None
first_none (Some x) b h = absurd cc
first_none None b h = refl

pub not_refused : (why : Refusal) (b : Bool) → refused_if why b ≡ None → b ≡ false
not_refused why true h = absurd cc
not_refused why false h = refl

pub right_false : (a b : Bool) → (a || b) ≡ false → b ≡ false
right_false true b h = absurd cc
right_false false b h = h

pub left_false : (a b : Bool) → (a || b) ≡ false → a ≡ false
left_false true b h = absurd cc
left_false false b h = refl

at_most : (m n : ℕ) → nat_lt m n ≡ false → n ≤ m
at_most m n h = grind (arith, nat_tests)

-- a write that is not refused stays within the limits
never_full : (n : Newest) (ops : List Op) → write_cause n ops ≡ None → is_full n (map event_of ops) ≡ false
never_full n ops h =
    let a = later_none (refused_if Malformed (not (is_in_range ops))) _ h in
    let b = later_none (refused_if UnknownRelation (list_any (is_unknown n.held.config) ops)) _ a in
    let c = later_none (refused_if TypeRefused (list_any (is_untyped n.held.config) ops)) _ b in
    let d = later_none (refused_if TwiceInOneWrite (is_twice ops)) _ c in
    let e = later_none (at_place (λ i. AlreadyThere i) (first_from (inserts_again n.held.tuples) 0 ops)) _ d in
    let f = later_none (at_place (λ i. NotThere i) (first_from (deletes_nothing n.held.tuples) 0 ops)) _ e in
    not_refused Full (is_full n (map event_of ops)) f

-- nor does it put a tuple that is not admitted
never_untyped : (n : Newest) (ops : List Op) → write_cause n ops ≡ None → list_any (is_untyped n.held.config) ops ≡ false
never_untyped n ops h =
    let a = later_none (refused_if Malformed (not (is_in_range ops))) _ h in
    let b = later_none (refused_if UnknownRelation (list_any (is_unknown n.held.config) ops)) _ a in
    not_refused TypeRefused (list_any (is_untyped n.held.config) ops) (first_none _ _ b)

no_way : (o : Option Tuple) → in_the_way o ≡ None → o ≡ None
no_way (Some t) h = absurd cc
no_way None h = refl

-- touches give back the events
touched : (k : EventKind) (t : Tuple) → event_of (record { kind = touch_kind k; tuple = t }) ≡ record { tuple = t; kind = k }
touched Put t = refl
touched Del t = refl

pub touches_give : (events : List Event) → map event_of (map touch_of events) ≡ events
touches_give [] = refl
touches_give (e ∷ es) = λ i. touched e.kind e.tuple i ∷ touches_give es i

room : (spans puts : ℕ) → spans + puts ≤ MAX_ROWS → puts ≤ MAX_ROWS - spans
room spans puts fits = omega (arith, fits)

room_for_none : (spans : ℕ) → 0 ≤ MAX_ROWS - spans
room_for_none spans = omega arith

holds : (b : Bool) → not b ≡ false → b ≡ true
holds true h = refl
holds false h = absurd cc

-- the events of a commit that is not refused are in order
in_order : (o : Option Refusal) (events : List Event) → or_else (refused_if Malformed (not (is_in_order events))) o ≡ None → is_in_order events ≡ true
in_order o events h = holds (is_in_order events) (not_refused Malformed (not (is_in_order events)) (first_none (refused_if Malformed (not (is_in_order events))) o h))

-- and there are some
in_range : (n : Newest) (ops : List Op) → write_cause n ops ≡ None → is_in_range ops ≡ true
in_range n ops h = holds (is_in_range ops) (not_refused Malformed (not (is_in_range ops)) (first_none (refused_if Malformed (not (is_in_range ops))) _ h))

pub has_room : (r : Retained) (c : Commit Configured) → AreAdmitted (newest_of r).held → IsNext r c → HasRoom r c
has_room r (Tuples events) old h =
    let n = newest_of r in
    let written = later_none (refused_if Malformed (not (is_in_order events))) _ h in
    let full = never_full n (map touch_of events) written in
    let short : is_full n events ≡ false = subst (λ (es : List Event). is_full n es ≡ false) (touches_give events) full in
    let many = nat_lt MAX_TUPLES (set.len (replay n.held.tuples events)) in
    let long = nat_lt MAX_ROWS (n.rows + puts_in events) in
    let late = nat_lt MAX_REV (n.rev + 1) in
    let fits : spans_of r + puts_in events ≤ MAX_ROWS = at_most MAX_ROWS (spans_of r + puts_in events) (right_false many long (left_false (many || long) late short)) in
    record {
      revs = at_most MAX_REV (newest r + 1) (right_false (many || long) late short);
      rows = room (spans_of r) (puts_in events) fits;
      admitted = within_events n.held.config n.held.tuples events old (never_untyped n (map touch_of events) written);
      ordered = ordered_write events (in_order _ events h) (in_range n (map touch_of events) written);
    }
has_room r (Config config) old h =
    let n = newest_of r in
    let full = not_refused Full (nat_lt MAX_REV (n.rev + 1)) (later_none (in_the_way (find (λ t. not (admits config t)) (set.items n.held.tuples))) _ h) in
    record {
      revs = at_most MAX_REV (newest r + 1) full;
      rows = room_for_none (spans_of r);
      admitted = within_config config n.held.tuples (no_way _ (first_none _ _ h));
      ordered = refl;
    }

-- the same of what the code tells
pub room_unless_refused : (r : Retained) (c : Commit Configured) (refuses : Bool) → AreAdmitted (newest_of r).held → refuses ≡ is_some (commit_cause (newest_of r) c) → refuses ≡ false → HasRoom r c
room_unless_refused r c refuses old is not_so = has_room r c old (none (commit_cause (newest_of r) c) (sym is ∙ not_so))
  where
    none : (o : Option Refusal) → is_some o ≡ false → o ≡ None
    none None h = refl
    none (Some why) h = absurd cc
