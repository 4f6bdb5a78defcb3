-- What comes of events, said of the parts of the machine.
use Rattle.std.proofs.Common.{true, false, ◌≡◌, ℕ, Bool, List, [], ◌∷◌, ◌++◌, length, take, drop, map, refl, ap, sym, ◌∙◌, nat_le, if◌then◌else◌, arith}
use Rattle.std.proofs.lemmas.Bool.Decides.{nat_tests}
use Rattle.std.specs.Prelude.{◌&&◌, not, is_some, Option, Some, None}
use mathlib.Core.Bool.{true≢false}
use Rattle.names.specs.declared.commit.Commit.{Commit as CommitOf}
use Rattle.names.specs.declared.marking.Marking.{Marking}
use Rattle.meaning.specs.Config.{Configured}
use Rattle.meaning.specs.History.{History}
use Rattle.rows.specs.Retained.{Retained, after_trim}
use Rattle.rows.specs.Loads.{retained_of}
use Rattle.rows.specs.declared.loaded.Loaded.{Loaded}
use Rattle.shown.specs.declared.step.Step.{Step}
use Rattle.shown.specs.declared.step.Step.TheVariants.{Open, Commit, Trim, Marking as MarkingStep, Rebase}
use Rattle.publication.specs.declared.event.Event.{Event}
use Rattle.publication.specs.declared.event.Event.TheVariants.{Posted}
use Rattle.publication.specs.declared.event.Posting.TheVariants.{NextCommit, Opening, Trimming, Marking as MarkingPosted, Rebasing}
use Rattle.publication.specs.declared.event.Outcome.{Outcome}
use Rattle.publication.specs.declared.event.Outcome.TheVariants.{Done}
use Rattle.shown.specs.Standing.{Standing, standing}
use Rattle.publication.specs.World.{State, has_begun, is_within, waiting_commits, can_raise, can_mark, can_rebase, can_come, after_coming, IsComing, Happens}
use Rattle.publication.specs.WorldParts.{Fit}
use Rattle.shown.specs.Standing.{CanRaise}
use Rattle.publication.proofs.Raising.{raises_where}
use Rattle.publication.proofs.Waiting.{waiting_of}

pub happens : (s : State) (e : Event) (outcome : Outcome) (t : State) → can_come s e ≡ true → IsComing s e outcome → t ≡ after_coming s e → Happens s e outcome t
happens s e outcome t can is next =
    (record { comes = λ _. is; cannot = λ h. absurd (true≢false (sym can ∙ h)) }, next ∙ sym (ap (λ (b : Bool). if b then after_coming s e else s) can))

both_true : (a b : Bool) → a ≡ true → b ≡ true → (a && b) ≡ true
both_true true b h k = k
both_true false b h k = absurd (true≢false (sym h))

is_more : History → Bool
is_more [] = false
is_more (c ∷ waits) = true

pub begun : (posted : List Step) (c : CommitOf Configured) (waits : History) → (posted ≡ [] → c ∷ waits ≡ []) → has_begun posted ≡ true
unfolding is_more
begun [] c waits unopened = absurd (true≢false (ap is_more (unopened refl)))
begun (x ∷ posted) c waits unopened = refl

some_left : (c : CommitOf Configured) (waits : History) → nat_le 1 (length (c ∷ waits)) ≡ true
some_left c waits = grind (arith, nat_tests)

-- the next commit is posted
pub post_next : (posted posted' : List Step) (waits waits' : History) (c : CommitOf Configured) (newest : Retained) (shown : ℕ) (published : Standing)
    → Fit posted waits newest shown published → waits ≡ c ∷ waits' → posted' ≡ posted ++ Commit c ∷ []
    → Happens (record { stored = newest; posted = posted; shown = shown }) (Posted NextCommit) Done (record { stored = newest; posted = posted'; shown = shown })
post_next posted posted' waits waits' c newest shown published fit first more =
    let s : State = record { stored = newest; posted = posted; shown = shown } in
    let left : waiting_commits s ≡ c ∷ waits' = ap (λ (r : Retained). drop (length (standing posted).kept.commits) r.commits) fit.stored ∙ waiting_of posted waits ∙ first in
    let can : can_come s (Posted NextCommit) ≡ true =
    both_true (has_begun posted) (nat_le 1 (length (waiting_commits s))) (begun posted c waits' (λ empty. sym first ∙ fit.unopened empty)) (ap (λ (h : History). nat_le 1 (length h)) left ∙ some_left c waits') in
    let steps : posted' ≡ posted ++ map (λ d. Commit d) (take 1 (waiting_commits s)) = more ∙ ap (λ (h : History). posted ++ map (λ d. Commit d) (take 1 h)) (sym left) in
    happens s (Posted NextCommit) Done _ can refl (ap (λ (xs : List Step). record { stored = newest; posted = xs; shown = shown }) steps)

-- the floor is raised
pub raise_next : (posted posted' : List Step) (floor : ℕ) (newest newest' : Retained) (shown : ℕ) → has_begun posted ≡ true → CanRaise (standing posted) floor
    → posted' ≡ posted ++ Trim floor ∷ [] → newest' ≡ after_trim newest floor
    → Happens (record { stored = newest; posted = posted; shown = shown }) (Posted (Trimming floor)) Done (record { stored = newest'; posted = posted'; shown = shown })
raise_next posted posted' floor newest newest' shown begun can more raised =
    let s : State = record { stored = newest; posted = posted; shown = shown } in
    happens s (Posted (Trimming floor)) Done _ (both_true (has_begun posted) (can_raise (standing posted) floor) begun ((raises_where (standing posted) floor).1 can)) refl
    (λ i. record { stored = raised i; posted = more i; shown = shown })

-- a node is marked, or its mark is taken away
pub mark_next : (posted posted' : List Step) (marking : Marking) (newest : Retained) (shown : ℕ) → has_begun posted ≡ true → can_mark (standing posted) marking ≡ true
    → posted' ≡ posted ++ MarkingStep marking ∷ []
    → Happens (record { stored = newest; posted = posted; shown = shown }) (Posted (MarkingPosted marking)) Done (record { stored = newest; posted = posted'; shown = shown })
mark_next posted posted' marking newest shown begun can more =
    let s : State = record { stored = newest; posted = posted; shown = shown } in
    happens s (Posted (MarkingPosted marking)) Done _ (both_true (has_begun posted) (can_mark (standing posted) marking) begun can) refl
    (ap (λ (xs : List Step). record { stored = newest; posted = xs; shown = shown }) more)

-- the base of the index is made anew
pub rebase_next : (posted posted' : List Step) (rev : ℕ) (newest : Retained) (shown : ℕ) → has_begun posted ≡ true → can_rebase (standing posted) rev ≡ true
    → posted' ≡ posted ++ Rebase rev ∷ []
    → Happens (record { stored = newest; posted = posted; shown = shown }) (Posted (Rebasing rev)) Done (record { stored = newest; posted = posted'; shown = shown })
rebase_next posted posted' rev newest shown begun can more =
    let s : State = record { stored = newest; posted = posted; shown = shown } in
    happens s (Posted (Rebasing rev)) Done _ (both_true (has_begun posted) (can_rebase (standing posted) rev) begun can) refl
    (ap (λ (xs : List Step). record { stored = newest; posted = xs; shown = shown }) more)

not_both : (a b : Bool) → a ≡ false → b ≡ true → (not a && b) ≡ true
not_both true b h k = absurd (true≢false h)
not_both false b h k = k

-- the opening is posted
pub open_first : (posted posted' : List Step) (loaded : Loaded) (newest newest' : Retained) (shown : ℕ) → has_begun posted ≡ false → is_within loaded ≡ true → posted ≡ [] → posted' ≡ posted ++ Open loaded ∷ [] → newest' ≡ retained_of loaded
    → Happens (record { stored = newest; posted = posted; shown = shown }) (Posted (Opening loaded)) Done (record { stored = newest'; posted = posted'; shown = shown })
open_first posted posted' loaded newest newest' shown unbegun within empty more brings =
    let s : State = record { stored = newest; posted = posted; shown = shown } in
    let steps : posted' ≡ Open loaded ∷ [] = more ∙ ap (λ (xs : List Step). xs ++ Open loaded ∷ []) empty in
    happens s (Posted (Opening loaded)) Done _ (not_both (has_begun posted) (is_within loaded) unbegun within) refl (λ i. record { stored = brings i; posted = steps i; shown = shown })

-- nothing speaks against what is not refused
pub is_none : {A : Type 0} (o : Option A) → is_some o ≡ false → o ≡ None
is_none None h = refl
is_none (Some x) h = absurd cc

-- what nothing speaks against
pub none_told : {A : Type 0} (o : Option A) → not (is_some o) ≡ true → o ≡ None
none_told None h = refl
none_told (Some x) h = absurd (true≢false (sym h))
