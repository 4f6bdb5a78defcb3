-- What holds after any events.
use Rattle.std.specs.Prelude.{◌≡◌, ◌≤◌, ℕ, Bool, List, [], ◌∷◌, ◌++◌, length, take, map, All, Result, if◌then◌else◌}
use mathlib.Core.List.{IsPrefix}
use Rattle.std.specs.Prelude.{nat_eq, true, false}
use Rattle.std.specs.List.{list_any}
use Rattle.rows.specs.Retained.{Retained, IsRetained, after_trim}
use Rattle.rows.specs.Loads.{retained_of}
use Rattle.shown.specs.Standing.{nothing_kept, standing}
use Rattle.meaning.specs.History.{History}
use Rattle.shown.specs.declared.answer.Refused.{Refused}
use Rattle.shown.specs.declared.question.Question.{Question}
use Rattle.shown.specs.declared.question.Told.{Told}
use Rattle.shown.specs.declared.step.Step.{Step}
use Rattle.rows.specs.declared.loaded.Loaded.{Loaded}
use Rattle.shown.specs.declared.step.Step.TheVariants.{Open, Commit, Take, Trim, Marking, Rebase}
use Rattle.publication.specs.declared.event.Event.{Event}
use Rattle.publication.specs.declared.event.Event.TheVariants.{Entered, Notified}
use Rattle.publication.specs.declared.event.Outcome.{Outcome}
use Rattle.publication.specs.declared.event.Outcome.TheVariants.{Done, Answered}
use Rattle.publication.specs.World.{State, start, after_event, HasOutcome, IsReply, Happening, published_steps}

-- the state after the events
abbrev pub after_events : State → List Event → State
after_events s [] = s
after_events s (e ∷ events) = after_events (after_event s e) events

-- each event has its outcome, one after the other
abbrev pub IsRun : State → List Happening → Type 0
IsRun s [] = Unit {0}
IsRun s (h ∷ run) = HasOutcome s h.event h.outcome × IsRun (after_event s h.event) run

-- how many steps the seat knows of by what happened: those by which it was answered, or of which it was
-- told
abbrev pub known_by : ℕ → Event → Outcome → ℕ
known_by seat (Entered other question) (Answered steps reply) =
    if nat_eq seat other then steps else 0
known_by seat (Notified other steps) Done = if nat_eq seat other then steps else 0
known_by seat _ _ = 0

-- the seat knows of no more steps than these
abbrev pub KnowsNoMore : ℕ → List Happening → ℕ → Type 0
KnowsNoMore seat run steps = All (λ h. known_by seat h.event h.outcome ≤ steps) run

-- After any run, if the seat's question is answered, it is by the standing of a beginning of the posted
-- steps, no shorter than what the seat knew.
abbrev pub AnswersRise : List Happening → ℕ → Question → Type 0
AnswersRise run seat question =
    let s = after_events start (map (λ h. h.event) run) in
    (steps : ℕ) (reply : Result Told Refused)
    → IsRun start run → HasOutcome s (Entered seat question) (Answered steps reply)
    → IsReply (take steps s.posted) question reply
    × (steps ≤ length s.posted) × KnowsNoMore seat run steps

-- the commits among the steps
abbrev pub commits_of : List Step → History
commits_of [] = []
commits_of (Open loaded ∷ steps) = commits_of steps
commits_of (Commit commit ∷ steps) = commit ∷ commits_of steps
commits_of (Take part commits ∷ steps) = commits_of steps
commits_of (Trim floor ∷ steps) = commits_of steps
commits_of (Marking marking ∷ steps) = commits_of steps
commits_of (Rebase rev ∷ steps) = commits_of steps

-- the floor after the steps: the last to which one of them raises it
abbrev pub floor_after : ℕ → List Step → ℕ
floor_after floor [] = floor
floor_after floor (Open loaded ∷ steps) = floor_after floor steps
floor_after floor (Commit commit ∷ steps) = floor_after floor steps
floor_after floor (Take part commits ∷ steps) = floor_after floor steps
floor_after floor (Trim higher ∷ steps) = floor_after higher steps
floor_after floor (Marking marking ∷ steps) = floor_after floor steps
floor_after floor (Rebase rev ∷ steps) = floor_after floor steps

abbrev pub is_opening : Step → Bool
is_opening (Open loaded) = true
is_opening (Commit commit) = false
is_opening (Take part commits) = false
is_opening (Trim floor) = false
is_opening (Marking marking) = false
is_opening (Rebase rev) = false

-- the history with more commits
abbrev pub with_commits : Retained → History → Retained
with_commits r h =
    record { number = r.number; floor = r.floor; base = r.base; commits = r.commits ++ h }

-- what was loaded, and then the commits among the steps
abbrev pub all_after : Loaded → List Step → Retained
all_after loaded steps = with_commits (retained_of loaded) (commits_of steps)

-- that, from the last floor on to which one of the steps raises it
abbrev pub kept_after : Loaded → List Step → Retained
kept_after loaded steps = after_trim (all_after loaded steps) (floor_after loaded.floor steps)

-- The first step is the opening, and no other is one. The posted steps leave what was loaded and the commits among them, in
-- their order and none left out, from a floor on that is one of their revisions. What is stored is that, and then the commits
-- that wait.
pub record ComeInOrder (s : State) : Type 0 where
  pub loaded : Loaded
  pub later : List Step
  pub waits : History
  pub steps : s.posted ≡ Open loaded ∷ later
  pub once : list_any is_opening later ≡ false
  pub floor : IsRetained (all_after loaded later) (floor_after loaded.floor later)
  pub left : (standing s.posted).kept ≡ kept_after loaded later
  pub stored : s.stored ≡ with_commits (kept_after loaded later) waits

abbrev pub IsOrdered : List Step → State → Type 0
IsOrdered [] s = s.stored ≡ nothing_kept
IsOrdered (step ∷ steps) s = ComeInOrder s

-- After any events nothing is stored where nothing is posted, and else the posted steps come in order. What
-- is published is a beginning of them.
abbrev pub PostsStored : List Event → Type 0
PostsStored events =
    let s = after_events start events in
    IsOrdered s.posted s × (s.shown ≤ length s.posted) × IsPrefix (published_steps s) s.posted
