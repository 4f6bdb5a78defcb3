-- Why a floor, a marking and a base of the index are refused.
use Rattle.std.specs.Prelude.{◌≡◌, ℕ, Bool, not, ◌||◌, Option, Some, nat_eq, nat_lt}
use Rattle.names.specs.declared.refusal.Refusal.{Refusal}
use Rattle.names.specs.declared.refusal.Refusal.TheVariants.{ForeignZookie, Future, InUse}
use Rattle.meaning.specs.Verdict.{or_else, refused_if}
use Rattle.names.specs.declared.marking.Marking.{Marking}
use Rattle.rows.specs.Retained.{newest, newest_of}
use Rattle.zookie.specs.declared.Zookie.{Zookie}
use Rattle.shown.specs.Marks.{marking_cause}
use Rattle.shown.specs.Standing.{Standing, base_cause}

-- the revision is above a cursor
abbrev pub is_in_use : Standing → ℕ → Bool
is_in_use s rev = nat_lt s.index rev || nat_lt s.hot rev

-- Why the floor cannot be raised to the zookie's revision, or nothing: the zookie is another store's, its revision is above
-- the newest, or above a cursor.
abbrev pub floor_cause : Standing → Zookie → Option Refusal
floor_cause s zookie =
    or_else (refused_if ForeignZookie (not (nat_eq zookie.store s.kept.number))) (
    or_else (refused_if Future (nat_lt (newest s.kept) zookie.rev)) (
    refused_if InUse (is_in_use s zookie.rev)))

-- this is the first cause
abbrev pub RefusesFloor : Standing → Zookie → Refusal → Type 0
RefusesFloor s zookie why = floor_cause s zookie ≡ Some why

abbrev pub RefusesMarking : Standing → Marking → Refusal → Type 0
RefusesMarking s marking why =
    marking_cause (newest_of s.kept).held.config s.marks marking ≡ Some why

abbrev pub RefusesBase : Standing → ℕ → Refusal → Type 0
RefusesBase s rev why = base_cause s rev ≡ Some why
