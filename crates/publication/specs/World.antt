-- The machine of publication: what is stored, what is posted and what is published, and what comes of each
-- event.
use Rattle.std.specs.Prelude.{◌≡◌, ◌≢◌, ◌+◌, ℕ, Bool, true, false, List, [], ◌∷◌, ◌++◌, length, take, drop, map, is_some, not, ◌&&◌, Result, Ok, Err, nat_le, nat_lt, if◌then◌else◌}
use Rattle.names.specs.declared.refusal.Refusal.TheVariants.{Memory}
use Rattle.std.specs.List.{list_all}
use Rattle.std.specs.Ordering.{is_lt}
use Rattle.names.specs.declared.limits.TheConstants.{MAX_CATCH_UP, MAX_REV, MAX_ROWS}
use Rattle.names.specs.Order.{tuple_cmp}
use Rattle.names.specs.declared.tuple.Tuple.{Tuple}
use Rattle.names.specs.declared.marking.Marking.{Marking}
use Rattle.meaning.specs.TupleSet as set
use Rattle.meaning.specs.Snap.{Snap}
use Rattle.meaning.specs.Admits.{admits}
use Rattle.meaning.specs.History.{History, after_commit}
use Rattle.rows.specs.Ordered.{is_ordered}
use Rattle.rows.specs.Retained.{Retained, newest, newest_of, spans_of, with_commit, after_trim}
use Rattle.rows.specs.Loads.{retained_of}
use Rattle.rows.specs.Follows.{commit_cause}
use Rattle.rows.specs.declared.loaded.Loaded.{Loaded}
use Rattle.shown.specs.declared.answer.Refused.{Refused}
use Rattle.shown.specs.declared.question.Question.{Question}
use Rattle.shown.specs.declared.question.Told.{Told}
use Rattle.shown.specs.declared.step.Step.{Step}
use Rattle.shown.specs.declared.step.Step.TheVariants.{Open, Commit, Take, Trim, Marking as MarkingStep, Rebase}
use Rattle.publication.specs.declared.event.Event.{Event}
use Rattle.publication.specs.declared.event.Event.TheVariants.{Stored, Posted, Published, Entered, Notified}
use Rattle.publication.specs.declared.event.Posting.TheVariants.{Opening, NextCommit, Taking, Trimming, Marking as MarkingPosted, Rebasing}
use Rattle.publication.specs.declared.event.Outcome.{Outcome}
use Rattle.publication.specs.declared.event.Outcome.TheVariants.{No, Done, Answered}
use Rattle.shown.specs.Standing.{Standing, nothing_kept, standing, base_cause}
use Rattle.shown.specs.Marks.{marking_cause}
use Rattle.shown.specs.Raising.{is_in_use}
use Rattle.shown.specs.Asked.{IsTold, RefusesQuestion}

-- what is stored, the posted steps, and how many of these are published
pub record State : Type 0 where
  pub stored : Retained
  pub posted : List Step
  pub shown : ℕ

abbrev pub start : State
start = record { stored = nothing_kept; posted = []; shown = 0 }

-- the opening was posted
abbrev pub has_begun : List Step → Bool
has_begun [] = false
has_begun (step ∷ steps) = true

abbrev pub published_steps : State → List Step
published_steps s = take s.shown s.posted

-- the stored commits whose steps are not posted
abbrev pub waiting_commits : State → History
waiting_commits s = drop (length (standing s.posted).kept.commits) s.stored.commits

-- the step of the first of them, if there is one
abbrev pub next_step : State → List Step
next_step s = map (λ c. Commit c) (take 1 (waiting_commits s))

-- the tuple is below the first of the others
abbrev pub is_below : Tuple → List Tuple → Bool
is_below t [] = true
is_below t (u ∷ us) = is_lt (tuple_cmp t u)

-- each tuple is below the next
abbrev pub is_rising : List Tuple → Bool
is_rising [] = true
is_rising (t ∷ ts) = is_below t ts && is_rising ts

-- the tuples of the floor are in order, each once, and the limits of revisions and rows hold
abbrev pub is_limited : Loaded → Bool
is_limited l =
    is_rising l.tuples
    && (nat_le (newest (retained_of l)) MAX_REV && nat_le (spans_of (retained_of l)) MAX_ROWS)

-- the configuration admits each tuple
abbrev pub is_admitted : Snap → Bool
is_admitted s = list_all (admits s.config) (set.items s.tuples)

-- so it is before the commits, and after each
abbrev pub are_admitted : Snap → History → Bool
are_admitted s [] = is_admitted s
are_admitted s (c ∷ cs) = is_admitted s && are_admitted (after_commit s c) cs

-- and each commit's events are in order, and each retained revision's tuples are admitted
abbrev pub is_within : Loaded → Bool
is_within l = is_limited l && (list_all is_ordered l.commits && are_admitted (retained_of l).base l.commits)

-- the revision is above the floor, it is there, and no cursor is below it
abbrev pub can_raise : Standing → ℕ → Bool
can_raise s floor = nat_lt s.kept.floor floor && (nat_le floor (newest s.kept) && not (is_in_use s floor))

-- nothing speaks against the marking
abbrev pub can_mark : Standing → Marking → Bool
can_mark s marking = not (is_some (marking_cause (newest_of s.kept).held.config s.marks marking))

-- nothing speaks against a base of the revision
abbrev pub can_rebase : Standing → ℕ → Bool
can_rebase s rev = not (is_some (base_cause s rev))

-- The opening comes first, and once. Then a commit that is not refused can be stored, the step of a stored one
-- be posted, a part take commits, the floor be raised, a node be marked or its mark taken away, the base of the index be
-- made anew, what waits be published, a session be told of what is published, and a question be asked where something is
-- published.
abbrev pub can_come : State → Event → Bool
can_come s (Stored commit) =
    has_begun s.posted && not (is_some (commit_cause (newest_of s.stored) commit))
can_come s (Posted (Opening loaded)) = not (has_begun s.posted) && is_within loaded
can_come s (Posted NextCommit) = has_begun s.posted && nat_le 1 (length (waiting_commits s))
can_come s (Posted (Taking part commits)) = has_begun s.posted && nat_le commits MAX_CATCH_UP
can_come s (Posted (Trimming floor)) = has_begun s.posted && can_raise (standing s.posted) floor
can_come s (Posted (MarkingPosted marking)) = has_begun s.posted && can_mark (standing s.posted) marking
can_come s (Posted (Rebasing rev)) = has_begun s.posted && can_rebase (standing s.posted) rev
can_come s (Published steps) = nat_le 1 steps && nat_le (s.shown + steps) (length s.posted)
can_come s (Entered seat question) = nat_le 1 s.shown
can_come s (Notified seat steps) = has_begun s.posted && nat_le steps s.shown

-- the state after an event that can come: where the floor is raised, it is so in what is stored too
abbrev pub after_coming : State → Event → State
after_coming s (Stored commit) =
    record { stored = with_commit s.stored commit; posted = s.posted; shown = s.shown }
after_coming s (Posted (Opening loaded)) =
    record { stored = retained_of loaded; posted = Open loaded ∷ []; shown = s.shown }
after_coming s (Posted NextCommit) =
    record { stored = s.stored; posted = s.posted ++ next_step s; shown = s.shown }
after_coming s (Posted (Taking part commits)) =
    record { stored = s.stored; posted = s.posted ++ Take part commits ∷ []; shown = s.shown }
after_coming s (Posted (Trimming floor)) =
    record { stored = after_trim s.stored floor; posted = s.posted ++ Trim floor ∷ []; shown = s.shown }
after_coming s (Posted (MarkingPosted marking)) =
    record { stored = s.stored; posted = s.posted ++ MarkingStep marking ∷ []; shown = s.shown }
after_coming s (Posted (Rebasing rev)) =
    record { stored = s.stored; posted = s.posted ++ Rebase rev ∷ []; shown = s.shown }
after_coming s (Published steps) =
    record { stored = s.stored; posted = s.posted; shown = s.shown + steps }
after_coming s (Entered seat question) = s
after_coming s (Notified seat steps) = s

-- an event that cannot come changes nothing
abbrev pub after_event : State → Event → State
after_event s e = if can_come s e then after_coming s e else s

-- the question is answered or refused by the standing of the steps
abbrev pub IsReply : List Step → Question → Result Told Refused → Type 0
IsReply steps question (Ok told) = IsTold (standing steps) question told
IsReply steps question (Err refused) = RefusesQuestion (standing steps) question refused × (refused.why ≢ Memory)

-- what comes of an event that can come: a question is answered by the standing of the published
-- steps
abbrev pub IsComing : State → Event → Outcome → Type 0
IsComing s (Entered seat question) (Answered steps reply) =
    (steps ≡ s.shown) × IsReply (published_steps s) question reply
IsComing s (Entered seat question) No = ⊥
IsComing s (Entered seat question) Done = ⊥
IsComing s (Stored commit) outcome = outcome ≡ Done
IsComing s (Posted posting) outcome = outcome ≡ Done
IsComing s (Published steps) outcome = outcome ≡ Done
IsComing s (Notified seat steps) outcome = outcome ≡ Done

pub record HasOutcome (s : State) (e : Event) (outcome : Outcome) : Type 0 where
  pub comes : can_come s e ≡ true → IsComing s e outcome
  pub cannot : can_come s e ≡ false → outcome ≡ No

-- an event, what comes of it, and the state after it
abbrev pub Happens : State → Event → Outcome → State → Type 0
Happens s e outcome t = HasOutcome s e outcome × (t ≡ after_event s e)

-- an event and what came of it
pub record Happening : Type 0 where
  pub event : Event
  pub outcome : Outcome
