-- What a commit makes of sets, and what it notes.
use Rattle.std.specs.Prelude.{ℕ, ◌≡◌, ◌⊎◌, ◌++◌, Bool, true, false, List, Some, Contains, is_some, map, nat_eq}
use Rattle.std.specs.List.{slice_get, IsDistinct}
use Rattle.std.specs.Ordering.{nat_cmp}
use Rattle.std.specs.BTreeMap.{BTreeMap, get}
use Rattle.names.specs.declared.commit.Event.{Event}
use Rattle.names.specs.declared.commit.EventKind.{EventKind}
use Rattle.names.specs.declared.commit.EventKind.TheVariants.{Put, Del}
use Rattle.meaning.specs.Config.{Configured}
use Rattle.region.specs.Tables.{ids_or}
use Rattle.direct.specs.Named.{IsDirect}
use Rattle.direct.specs.Before.{set_in}
use Rattle.direct.specs.declared.memberships.Memberships.{Memberships}
use Rattle.direct.specs.declared.noted.EarlierGroups.{EarlierGroups}

abbrev pub is_put : EventKind → Bool
is_put Put = true
is_put Del = false

-- the renewed set of a user, or else what is kept
abbrev pub set_or : BTreeMap ℕ (List ℕ) → List (List ℕ) → ℕ → List ℕ
set_or renewed sets user = ids_or (get nat_cmp renewed user) (set_in sets user)

-- by the event's tuple a group names the user with this number
abbrev pub IsNumberOf : Configured → Memberships → Event → ℕ → Type 0
IsNumberOf config kept e user = IsDirect config e.tuple × (slice_get kept.users user ≡ Some e.tuple.subject.object)

-- at the end it was noted with a revision, of each user once, whose set is renewed and differs, and what it was
pub record IsNoted (rev : ℕ) (renewed : BTreeMap ℕ (List ℕ)) (old new : List (List ℕ)) (es es' : List EarlierGroups) : Type 0 where
  pub more : List EarlierGroups
  pub noted : es' ≡ es ++ more
  pub once : IsDistinct nat_eq (map (λ (e : EarlierGroups). e.user) more)
  pub each : (e : EarlierGroups) → Contains more e → (e.rev ≡ rev) × (is_some (get nat_cmp renewed e.user) ≡ true)
  pub was : (e : EarlierGroups) → Contains more e → (e.groups ≡ set_in old e.user) × ¬ (set_in new e.user ≡ e.groups)
  pub others : (user : ℕ) → ((e : EarlierGroups) × Contains more e × (e.user ≡ user)) ⊎ (set_in new user ≡ set_in old user)
