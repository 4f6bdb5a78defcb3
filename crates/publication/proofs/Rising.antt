-- What was answered or told of never falls.
use Rattle.std.proofs.Common.{true, false, ◌≡◌, ◌≤◌, ◌+◌, ℕ, Bool, List, [], ◌∷◌, length, take, map, All, refl, ap, sym, subst, arith, length-append, nat_eq, nat_le, if◌then◌else◌, le_refl, Result}
use Rattle.std.specs.Prelude.{not, ◌&&◌}
use Rattle.std.proofs.lemmas.Bool.Decides.{nat_tests}
use Rattle.std.proofs.lemmas.List.Elements.{All-nil, All-cons}
use mathlib.Core.Bool.{true≢false}
use Rattle.shown.specs.declared.answer.Refused.{Refused}
use Rattle.shown.specs.declared.question.Question.{Question}
use Rattle.shown.specs.declared.question.Told.{Told}
use Rattle.shown.specs.declared.step.Step.{Step}
use Rattle.shown.specs.declared.step.Step.TheVariants.{Take, Trim, Marking as MarkingStep, Rebase}
use Rattle.publication.specs.declared.event.Event.{Event}
use Rattle.publication.specs.declared.event.Event.TheVariants.{Stored, Posted, Published, Entered, Notified}
use Rattle.publication.specs.declared.event.Posting.TheVariants.{Opening, NextCommit, Taking, Trimming, Marking as MarkingPosted, Rebasing}
use Rattle.publication.specs.declared.event.Outcome.{Outcome}
use Rattle.publication.specs.declared.event.Outcome.TheVariants.{No, Done, Answered}
use Rattle.publication.specs.World.{State, start, has_begun, next_step, can_come, after_coming, after_event, IsComing, HasOutcome, IsReply, Happening, published_steps}
use Rattle.publication.specs.Runs.{after_events, IsRun, known_by, KnowsNoMore, AnswersRise}

-- no more is published than is posted
abbrev pub IsWithinPosted : State → Type 0
IsWithinPosted s = s.shown ≤ length s.posted

pub and_left : (a b : Bool) → (a && b) ≡ true → a ≡ true
and_left true b h = refl
and_left false b h = absurd (true≢false (sym h))

pub and_right : (a b : Bool) → (a && b) ≡ true → b ≡ true
and_right true b h = h
and_right false b h = absurd (true≢false (sym h))

pub at_most : (m n : ℕ) → nat_le m n ≡ true → m ≤ n
at_most m n h = grind (arith, nat_tests)

unbegun : (posted : List Step) → not (has_begun posted) ≡ true → length posted ≡ 0
unbegun [] h = refl
unbegun (x ∷ posted) h = absurd (true≢false (sym h))

-- an event that can come keeps what is published
comes_on : (s : State) (e : Event) → can_come s e ≡ true → IsWithinPosted s → IsWithinPosted (after_coming s e) × (s.shown ≤ (after_coming s e).shown)
comes_on s (Stored commit) can held = (held, le_refl s.shown)
comes_on s (Posted (Opening loaded)) can held =
    let none = unbegun s.posted (and_left _ _ can) in (omega (arith, none, held), le_refl s.shown)
comes_on s (Posted NextCommit) can held = (omega (arith, held, length-append s.posted (next_step s)), le_refl s.shown)
comes_on s (Posted (Taking part commits)) can held = (omega (arith, held, length-append s.posted (Take part commits ∷ [])), le_refl s.shown)
comes_on s (Posted (Trimming floor)) can held = (omega (arith, held, length-append s.posted (Trim floor ∷ [])), le_refl s.shown)
comes_on s (Posted (MarkingPosted marking)) can held = (omega (arith, held, length-append s.posted (MarkingStep marking ∷ [])), le_refl s.shown)
comes_on s (Posted (Rebasing rev)) can held = (omega (arith, held, length-append s.posted (Rebase rev ∷ [])), le_refl s.shown)
comes_on s (Published steps) can held =
    (at_most (s.shown + steps) (length s.posted) (and_right (nat_le 1 steps) (nat_le (s.shown + steps) (length s.posted)) can), omega arith)
comes_on s (Entered seat question) can held = (held, le_refl s.shown)
comes_on s (Notified seat steps) can held = (held, le_refl s.shown)

goes_on : (s : State) (e : Event) → IsWithinPosted s → IsWithinPosted (after_event s e) × (s.shown ≤ (after_event s e).shown)
goes_on s e held = by_test (can_come s e) refl
  where
    by_test : (b : Bool) → can_come s e ≡ b → let t : State = (if b then after_coming s e else s) in IsWithinPosted t × (s.shown ≤ t.shown)
    by_test true is = comes_on s e is held
    by_test false is = (held, le_refl s.shown)

chosen : (b : Bool) (m n : ℕ) → m ≤ n → (if b then m else 0) ≤ n
chosen true m n le = le
chosen false m n le = omega arith

-- what a seat learns by an event is published then
learns : (seat : ℕ) (s : State) (e : Event) (outcome : Outcome) → can_come s e ≡ true → IsComing s e outcome → known_by seat e outcome ≤ s.shown
learns seat s (Stored commit) outcome can is = omega arith
learns seat s (Posted posting) outcome can is = omega arith
learns seat s (Published steps) outcome can is = omega arith
learns seat s (Entered other question) (Answered steps reply) can is = chosen (nat_eq seat other) steps s.shown (omega (arith, is.0))
learns seat s (Entered other question) No can is = omega arith
learns seat s (Entered other question) Done can is = omega arith
learns seat s (Notified other steps) Done can is = chosen (nat_eq seat other) steps s.shown (at_most steps s.shown (and_right (has_begun s.posted) (nat_le steps s.shown) can))
learns seat s (Notified other steps) No can is = omega arith
learns seat s (Notified other steps) (Answered n reply) can is = omega arith

nothing_learnt : (seat : ℕ) (e : Event) (n : ℕ) → known_by seat e No ≤ n
nothing_learnt seat (Stored commit) n = omega arith
nothing_learnt seat (Posted posting) n = omega arith
nothing_learnt seat (Published steps) n = omega arith
nothing_learnt seat (Entered other question) n = omega arith
nothing_learnt seat (Notified other steps) n = omega arith

learnt_below : (seat : ℕ) (s : State) (e : Event) (outcome : Outcome) → HasOutcome s e outcome → known_by seat e outcome ≤ s.shown
learnt_below seat s e outcome has = by_test (can_come s e) refl
  where
    by_test : (b : Bool) → can_come s e ≡ b → known_by seat e outcome ≤ s.shown
    by_test true is = learns seat s e outcome is (has.comes is)
    by_test false is = subst (λ (o : Outcome). known_by seat e o ≤ s.shown) (sym (has.cannot is)) (nothing_learnt seat e s.shown)

abbrev events_of : List Happening → List Event
events_of run = map (λ h. h.event) run

pub within_after : (s : State) (events : List Event) → IsWithinPosted s → IsWithinPosted (after_events s events) × (s.shown ≤ (after_events s events).shown)
within_after s [] held = (held, le_refl s.shown)
within_after s (e ∷ events) held =
    let on = goes_on s e held in let rest = within_after (after_event s e) events on.0 in (rest.0, omega (arith, on.1, rest.1))

known_after : (seat : ℕ) (s : State) (run : List Happening) → IsWithinPosted s → IsRun s run → All (λ (h : Happening). known_by seat h.event h.outcome ≤ (after_events s (events_of run)).shown) run
known_after seat s [] held is = All-nil _
known_after seat s (h ∷ run) held is =
    let on = goes_on s h.event held in
    let rest = within_after (after_event s h.event) (events_of run) on.0 in
    let here : known_by seat h.event h.outcome ≤ (after_events (after_event s h.event) (events_of run)).shown = let l = learnt_below seat s h.event h.outcome is.0 in omega (arith, l, on.1, rest.1) in
    All-cons (λ (g : Happening). known_by seat g.event g.outcome ≤ (after_events (after_event s h.event) (events_of run)).shown) h run here (known_after seat (after_event s h.event) run on.0 is.1)

abbrev is_no : Outcome → Bool
is_no No = true
is_no Done = false
is_no (Answered steps reply) = false

-- an answer comes by what is published
answered : (s : State) (seat : ℕ) (question : Question) (steps : ℕ) (reply : Result Told Refused) → HasOutcome s (Entered seat question) (Answered steps reply)
    → (steps ≡ s.shown) × IsReply (published_steps s) question reply
answered s seat question steps reply has = by_test (can_come s (Entered seat question)) refl
  where
    by_test : (b : Bool) → can_come s (Entered seat question) ≡ b → (steps ≡ s.shown) × IsReply (published_steps s) question reply
    by_test true is = has.comes is
    by_test false is = absurd (true≢false (sym (ap is_no (has.cannot is))))

pub answers_rise : (run : List Happening) (seat : ℕ) (question : Question) → AnswersRise run seat question
answers_rise run seat question steps reply is has =
    let s = after_events start (events_of run) in
    let by = answered s seat question steps reply has in
    let P : ℕ → Type 0 = λ n. IsReply (take n s.posted) question reply × (n ≤ length s.posted) × KnowsNoMore seat run n in
    subst P (sym by.0) (by.1, (within_after start (events_of run) (omega arith)).0, known_after seat start run (omega arith) is)
