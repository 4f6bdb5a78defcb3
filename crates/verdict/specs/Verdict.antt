-- Why a write is refused, with its conditions: each cause is looked for over the whole write before the next.
use Rattle.std.specs.Prelude.{◌≡◌, ℕ, List, length, map, Bool, false, not, Option, Some, None, nat_eq, nat_lt, nat_le}
use Rattle.std.specs.List.{list_any}
use Rattle.names.specs.declared.tuple.Tuple.{Tuple}
use Rattle.names.specs.declared.write.Condition.{Condition}
use Rattle.names.specs.declared.write.Condition.TheVariants.{Exists, Absent, Unchanged}
use Rattle.names.specs.declared.write.Write.{Write}
use Rattle.names.specs.declared.refusal.Refusal.{Refusal}
use Rattle.names.specs.declared.refusal.Refusal.TheVariants.{Malformed, UnknownRelation, TypeRefused, TwiceInOneWrite, ForeignZookie, Future, Expired, ConditionFailed, AlreadyThere, NotThere, Full}
use Rattle.meaning.specs.TupleSet as set
use Rattle.meaning.specs.Verdict.{or_else, refused_if, at_place, first_from, is_in_range, is_unknown, is_untyped, is_twice, inserts_again, deletes_nothing, is_full, event_of}
use Rattle.zookie.specs.declared.Zookie.{Zookie}
use Rattle.rows.specs.Retained.{Retained, newest, newest_of, is_touched_after}
use Rattle.verdict.specs.declared.limits.TheConstants.{MAX_CONDITIONS}

-- the condition has a zookie, which passes the test
abbrev pub has_zookie : (Zookie → Bool) → Condition Zookie → Bool
has_zookie test (Unchanged t z) = test z
has_zookie test condition = false

-- The condition does not hold at the newest revision: its tuple is not there, is there, or some commit after the zookie's
-- revision has an event on it.
abbrev pub fails : Retained → Condition Zookie → Bool
fails r (Exists t) = not (set.contains (newest_of r).held.tuples t)
fails r (Absent t) = set.contains (newest_of r).held.tuples t
fails r (Unchanged t z) = is_touched_after r t z.rev

-- why the conditions are refused, or nothing: a zookie is another store's, above the newest revision, or below the floor
abbrev pub condition_cause : Retained → List (Condition Zookie) → Option Refusal
condition_cause r conditions =
    or_else (refused_if ForeignZookie (list_any (has_zookie (λ z. not (nat_eq z.store r.number))) conditions)) (
    or_else (refused_if Future (list_any (has_zookie (λ z. nat_lt (newest r) z.rev)) conditions)) (
    or_else (refused_if Expired (list_any (has_zookie (λ z. nat_lt z.rev r.floor)) conditions)) (
    at_place (λ i. ConditionFailed i) (first_from (fails r) 0 conditions))))

-- why the write is refused, or nothing
abbrev pub verdict : Retained → Write Zookie → Option Refusal
verdict r write =
    let n = newest_of r in
    or_else (refused_if Malformed (not (is_in_range write.ops))) (
    or_else (refused_if Malformed (not (nat_le (length write.conditions) MAX_CONDITIONS))) (
    or_else (refused_if UnknownRelation (list_any (is_unknown n.held.config) write.ops)) (
    or_else (refused_if TypeRefused (list_any (is_untyped n.held.config) write.ops)) (
    or_else (refused_if TwiceInOneWrite (is_twice write.ops)) (
    or_else (condition_cause r write.conditions) (
    or_else (at_place (λ i. AlreadyThere i) (first_from (inserts_again n.held.tuples) 0 write.ops)) (
    or_else (at_place (λ i. NotThere i) (first_from (deletes_nothing n.held.tuples) 0 write.ops)) (
    refused_if Full (is_full n (map event_of write.ops))))))))))

-- nothing speaks against the write
abbrev pub AcceptsWrite : Retained → Write Zookie → Type 0
AcceptsWrite r write = verdict r write ≡ None

-- this is the first cause
abbrev pub RefusesWrite : Retained → Write Zookie → Refusal → Type 0
RefusesWrite r write why = verdict r write ≡ Some why
