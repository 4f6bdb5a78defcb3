-- Why a session's question is refused.
use Rattle.std.specs.Prelude.{◌≡◌, ℕ, Option, None}
use Rattle.names.specs.declared.refusal.Refusal.{Refusal}
use Rattle.names.specs.declared.refusal.Refusal.TheVariants.{Reopen}
use Rattle.shown.specs.declared.answer.Refused.{Refused}
use Rattle.zookie.specs.declared.Zookie.{Zookie}
use Rattle.shown.specs.Standing.{standing}
use Rattle.shown.specs.Watching.{WatchRefused}
use Rattle.published.specs.Known.{Known}

-- The store has to be opened again: the session knows what it knew, and no revision was chosen. Any other
-- refusal has the cause that is given.
abbrev pub IsRefusedFor : Refusal → Known → Known → Type 0 → Option ℕ → Type 0
IsRefusedFor Reopen old new cause at = (new ≡ old) × (at ≡ None)
IsRefusedFor _ old new cause at = cause

abbrev pub IsRefusedIn : Known → Known → (Refused → Type 0) → Refused → Type 0
IsRefusedIn old new cause refused = IsRefusedFor refused.why old new (cause refused) refused.at

-- The same of a session that was to watch: any other refusal is by what it then knows.
abbrev pub IsWatchRefusedIn : Known → Known → Zookie → Refusal → Type 0
IsWatchRefusedIn old new cursor Reopen = new ≡ old
IsWatchRefusedIn old new cursor why = WatchRefused (standing new.steps) cursor why
