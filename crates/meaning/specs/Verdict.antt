-- Why a write or a configuration is refused: each cause is looked for over the whole request before the next.
use Rattle.std.specs.Prelude.{ℕ, ◌+◌, ◌&&◌, ◌||◌, List, [], ◌∷◌, map, length, Bool, true, false, cond, not, Option, Some, None, nat_lt, nat_le}
use Rattle.std.specs.List.{list_any, find}
use Rattle.names.specs.declared.limits.TheConstants.{MAX_OPS, MAX_REV, MAX_ROWS, MAX_TUPLES}
use Rattle.meaning.specs.TupleSet as set
use Rattle.names.specs.Order.{is_same_tuple}
use Rattle.names.specs.declared.tuple.Tuple.{Tuple}
use Rattle.names.specs.declared.write.Op.{Op}
use Rattle.names.specs.declared.write.OpKind.{OpKind}
use Rattle.names.specs.declared.write.OpKind.TheVariants.{Insert, Touch, Delete}
use Rattle.names.specs.declared.commit.Event.{Event}
use Rattle.names.specs.declared.commit.EventKind.{EventKind}
use Rattle.names.specs.declared.commit.EventKind.TheVariants.{Put, Del}
use Rattle.names.specs.declared.refusal.Refusal.{Refusal}
use Rattle.names.specs.declared.refusal.Refusal.TheVariants.{Malformed, UnknownRelation, TypeRefused, TwiceInOneWrite, AlreadyThere, NotThere, Full, TupleInTheWay}
use Rattle.meaning.specs.Config.{Configured, rel_of}
use Rattle.meaning.specs.Snap.{Snap, Tuples}
use Rattle.meaning.specs.Admits.{has_relation, admits}
use Rattle.meaning.specs.History.{replay, puts_in}

-- What a change is judged on: the newest revision, how many rows the history has, and what the revision holds.
pub record Newest : Type 0 where
  pub rev : ℕ
  pub rows : ℕ
  pub held : Snap

-- an insert and a touch put their tuple, a delete takes it away
abbrev pub kind_of : OpKind → EventKind
kind_of Insert = Put
kind_of Touch = Put
kind_of Delete = Del

abbrev pub event_of : Op → Event
event_of o = record { tuple = o.tuple; kind = kind_of o.kind }

abbrev pub is_insert : OpKind → Bool
is_insert Insert = true
is_insert Touch = false
is_insert Delete = false

abbrev pub is_delete : OpKind → Bool
is_delete Insert = false
is_delete Touch = false
is_delete Delete = true

-- the relation of the operation's tuple is not in the configuration
abbrev pub is_unknown : Configured → Op → Bool
is_unknown config o = not (has_relation config (rel_of o.tuple.node))

-- the configuration does not admit the operation's tuple
abbrev pub is_untyped : Configured → Op → Bool
is_untyped config o = not (admits config o.tuple)

-- a tuple stands in two operations
abbrev pub is_twice : List Op → Bool
is_twice [] = false
is_twice (o ∷ os) = list_any (λ p. is_same_tuple o.tuple p.tuple) os || is_twice os

-- the operation inserts a tuple that is there
abbrev pub inserts_again : Tuples → Op → Bool
inserts_again tuples o = is_insert o.kind && set.contains tuples o.tuple

-- the operation deletes a tuple that is not there
abbrev pub deletes_nothing : Tuples → Op → Bool
deletes_nothing tuples o = is_delete o.kind && not (set.contains tuples o.tuple)

-- a limit would be passed
abbrev pub is_full : Newest → List Event → Bool
is_full n events = nat_lt MAX_TUPLES (set.len (replay n.held.tuples events)) || nat_lt MAX_ROWS (n.rows + puts_in events) || nat_lt MAX_REV (n.rev + 1)

-- the first place at which a test is true, counted from n
abbrev pub first_from : {A : Type 0} → (A → Bool) → ℕ → List A → Option ℕ
first_from p n [] = None
first_from p n (x ∷ xs) = cond (p x) (Some n) (first_from p (n + 1) xs)

-- the first, else the second
abbrev pub or_else : {A : Type 0} → Option A → Option A → Option A
or_else (Some a) o = Some a
or_else None o = o

-- the refusal, where the test is true
abbrev pub refused_if : Refusal → Bool → Option Refusal
refused_if why b = cond b (Some why) None

abbrev pub at_place : (ℕ → Refusal) → Option ℕ → Option Refusal
at_place why (Some n) = Some (why n)
at_place why None = None

-- there are 1 to 256 operations
abbrev pub is_in_range : List Op → Bool
is_in_range ops = nat_le 1 (length ops) && nat_le (length ops) MAX_OPS

-- why the operations are refused, or nothing
abbrev pub write_cause : Newest → List Op → Option Refusal
write_cause n ops =
    or_else (refused_if Malformed (not (is_in_range ops))) (
    or_else (refused_if UnknownRelation (list_any (is_unknown n.held.config) ops)) (
    or_else (refused_if TypeRefused (list_any (is_untyped n.held.config) ops)) (
    or_else (refused_if TwiceInOneWrite (is_twice ops)) (
    or_else (at_place (λ i. AlreadyThere i) (first_from (inserts_again n.held.tuples) 0 ops)) (
    or_else (at_place (λ i. NotThere i) (first_from (deletes_nothing n.held.tuples) 0 ops)) (
    refused_if Full (is_full n (map event_of ops))))))))

abbrev pub in_the_way : Option Tuple → Option Refusal
in_the_way (Some t) = Some (TupleInTheWay t)
in_the_way None = None

-- why a valid configuration is refused, or nothing: the first current tuple that it does not admit, or a limit
abbrev pub config_cause : Newest → Configured → Option Refusal
config_cause n config =
    or_else (in_the_way (find (λ t. not (admits config t)) (set.items n.held.tuples))) (refused_if Full (nat_lt MAX_REV (n.rev + 1)))
