-- Posted steps, and the commits that wait after them.
use mathlib.Core.Bool.{true≢false}
use Rattle.std.proofs.Common.{true, false, ◌≡◌, ◌≤◌, ℕ, List, [], ◌∷◌, ◌++◌, length, take, drop, map, refl, ap, sym, ◌∙◌, subst, append_assoc, append-nil, arith, length-append}
use Rattle.std.proofs.lemmas.List.Sums.{fold-append}
use Rattle.std.specs.List.{fold, list_any}
use Rattle.std.proofs.Math.Seq.{drop-append_seam}
use Rattle.std.proofs.lemmas.List.{take-append-drop, take-append-le}
use Rattle.names.specs.declared.commit.Commit.{Commit as CommitOf}
use Rattle.meaning.specs.Config.{Configured}
use Rattle.meaning.specs.History.{History}
use Rattle.rows.specs.Retained.{Retained, newest as last, with_commit, after_trim}
use Rattle.rows.specs.Follows.{IsNext}
use Rattle.rows.specs.Loads.{IsWithin, retained_of}
use Rattle.rows.specs.declared.loaded.Loaded.{Loaded}
use Rattle.names.specs.declared.part.Part.{Part}
use Rattle.names.specs.declared.part.Part.TheVariants.{Index, Hot}
use Rattle.names.specs.declared.marking.Marking.{Marking}
use Rattle.shown.specs.declared.step.Step.{Step}
use Rattle.shown.specs.declared.step.Step.TheVariants.{Open, Commit, Take, Trim, Marking as MarkingStep, Rebase}
use Rattle.shown.specs.Standing.{Standing, nothing, after_step, after_take, standing, CanRaise, HasRoom}
use Rattle.publication.specs.World.{has_begun}
use Rattle.publication.specs.WorldParts.{HaveRoom, all_steps, Fit}
use Rattle.publication.specs.Runs.{with_commits, commits_of, floor_after, is_opening}
use Rattle.publication.proofs.Raising.{trim_commit, trim_more, trim_next}

pub standing_next : (steps : List Step) (step : Step) → standing (steps ++ step ∷ []) ≡ after_step (standing steps) step
standing_next steps step = fold-append after_step nothing steps (step ∷ [])

pub with_none : (r : Retained) → with_commits r [] ≡ r
with_none r = ap (λ (h : History). record { number = r.number; floor = r.floor; base = r.base; commits = h }) (append-nil r.commits)

pub with_next : (r : Retained) (c : CommitOf Configured) (h : History) → with_commits (with_commit r c) h ≡ with_commits r (c ∷ h)
with_next r c h = ap (λ (g : History). record { number = r.number; floor = r.floor; base = r.base; commits = g }) (append_assoc r.commits (c ∷ []) h)

pub kept_after : (s : Standing) (waiting : History) → (fold after_step s (map (λ c. Commit c) waiting)).kept ≡ with_commits s.kept waiting
kept_after s [] = sym (with_none s.kept)
kept_after s (c ∷ waiting) = kept_after (after_step s (Commit c)) waiting ∙ with_next s.kept c waiting

-- what is stored: what is posted, and what waits
pub kept_all : (posted : List Step) (waiting : History) → (standing (all_steps posted waiting)).kept ≡ with_commits (standing posted).kept waiting
kept_all posted waiting =
    ap (λ (s : Standing). s.kept) (fold-append after_step nothing posted (map (λ c. Commit c) waiting)) ∙ kept_after (standing posted) waiting

pub waiting_of : (posted : List Step) (waiting : History) → drop (length (standing posted).kept.commits) (standing (all_steps posted waiting)).kept.commits ≡ waiting
waiting_of posted waiting =
    ap (λ (r : Retained). drop (length (standing posted).kept.commits) r.commits) (kept_all posted waiting) ∙ drop-append_seam (standing posted).kept.commits waiting

steps_more : (waiting : History) (c : CommitOf Configured) → map (λ d. Commit d) (waiting ++ c ∷ []) ≡ map (λ d. Commit d) waiting ++ Commit c ∷ []
steps_more [] c = refl
steps_more (d ∷ waiting) c = ap (λ (steps : List Step). Commit d ∷ steps) (steps_more waiting c)

pub all_more : (posted : List Step) (waiting : History) (c : CommitOf Configured) → all_steps posted (waiting ++ c ∷ []) ≡ all_steps posted waiting ++ Commit c ∷ []
all_more posted waiting c =
    ap (λ (steps : List Step). posted ++ steps) (steps_more waiting c) ∙ sym (append_assoc posted (map (λ d. Commit d) waiting) (Commit c ∷ []))

pub all_same : (posted : List Step) (waiting : History) (c : CommitOf Configured) → all_steps (posted ++ Commit c ∷ []) waiting ≡ all_steps posted (c ∷ waiting)
all_same posted waiting c = append_assoc posted (Commit c ∷ []) (map (λ d. Commit d) waiting)

-- room
pub room_more : (s : Standing) (steps : List Step) (step : Step) → HaveRoom s steps → HasRoom (fold after_step s steps) step → HaveRoom s (steps ++ step ∷ [])
room_more s [] step have has = (has, tt)
room_more s (x ∷ steps) step have has = (have.0, room_more (after_step s x) steps step have.1 has)

pub room_before : (s : Standing) (steps more : List Step) → HaveRoom s (steps ++ more) → HaveRoom s steps
room_before s [] more have = tt
room_before s (x ∷ steps) more have = (have.0, room_before (after_step s x) steps more have.1)

room_later : (s : Standing) (steps more : List Step) → HaveRoom s (steps ++ more) → HaveRoom (fold after_step s steps) more
room_later s [] more have = have
room_later s (x ∷ steps) more have = room_later (after_step s x) steps more have.1

room_both : (s : Standing) (steps more : List Step) → HaveRoom s steps → HaveRoom (fold after_step s steps) more → HaveRoom s (steps ++ more)
room_both s [] more have rest = rest
room_both s (x ∷ steps) more have rest = (have.0, room_both (after_step s x) steps more have.1 rest)

pub room_first : (n : ℕ) (s : Standing) (steps : List Step) → HaveRoom s steps → HaveRoom s (take n steps)
room_first n s steps have = room_before s (take n steps) (drop n steps) (subst (λ (xs : List Step). HaveRoom s xs) (sym (take-append-drop n steps)) have)

-- what is to be published has room
pub shown_room : (n : ℕ) (posted steps : List Step) (waiting : History) → steps ≡ posted → HaveRoom nothing (all_steps posted waiting) → HaveRoom nothing (take n steps)
shown_room n posted steps waiting same have =
    subst (λ (xs : List Step). HaveRoom nothing (take n xs)) (sym same) (room_first n nothing posted (room_before nothing posted (map (λ c. Commit c) waiting) have))

-- commits have room where they have it after another standing of the same history
room_same : (s t : Standing) (waiting : History) → s.kept ≡ t.kept → HaveRoom s (map (λ c. Commit c) waiting) → HaveRoom t (map (λ c. Commit c) waiting)
room_same s t [] same have = tt
room_same s t (c ∷ waiting) same have =
    (subst (λ (r : Retained). IsNext r c) same have.0, room_same (after_step s (Commit c)) (after_step t (Commit c)) waiting (ap (λ (r : Retained). with_commit r c) same) have.1)

takes_none : (s : Standing) (part : Part) (n : ℕ) → (after_take s part n).kept ≡ s.kept
takes_none s Index n = refl
takes_none s Hot n = refl

-- the step leaves the history as it is
pub record IsBeside (step : Step) : Type 0 where
  pub none : commits_of (step ∷ []) ≡ []
  pub later : list_any is_opening (step ∷ []) ≡ false
  pub floor : (n : ℕ) → floor_after n (step ∷ []) ≡ n
  pub kept : (s : Standing) → (after_step s step).kept ≡ s.kept

pub take_beside : (part : Part) (n : ℕ) → IsBeside (Take part n)
take_beside part n = record { none = refl; later = refl; floor = λ _. refl; kept = λ s. takes_none s part n }

pub marking_beside : (marking : Marking) → IsBeside (MarkingStep marking)
marking_beside marking = record { none = refl; later = refl; floor = λ _. refl; kept = λ _. refl }

pub rebase_beside : (rev : ℕ) → IsBeside (Rebase rev)
rebase_beside rev = record { none = refl; later = refl; floor = λ _. refl; kept = λ _. refl }

still_unopened : (posted : List Step) (waiting : History) → has_begun posted ≡ true → posted ≡ [] → waiting ≡ []
still_unopened posted waiting begun empty = absurd (true≢false (sym begun ∙ ap (λ (xs : List Step). has_begun xs) empty))

no_less : (posted posted' : List Step) (step : Step) (shown : ℕ) → posted' ≡ posted ++ step ∷ [] → shown ≤ length posted → shown ≤ length posted'
no_less posted posted' step shown more within =
    let long = length-append posted (step ∷ []) in
    let same = ap (λ (xs : List Step). length xs) more in
    omega (arith, long, same, within)

same_shown : (posted posted' : List Step) (step : Step) (shown : ℕ) → posted' ≡ posted ++ step ∷ [] → shown ≤ length posted → standing (take shown posted) ≡ standing (take shown posted')
same_shown posted posted' step shown more within =
    ap (λ (xs : List Step). standing xs) (sym (take-append-le shown posted (step ∷ []) within) ∙ ap (λ (xs : List Step). take shown xs) (sym more))

-- what is fit stays so after a commit is stored
pub fit_stored : (posted : List Step) (waiting waiting' : History) (c : CommitOf Configured) (newest newest' : Retained) (shown : ℕ) (published : Standing)
    → Fit posted waiting newest shown published → waiting' ≡ waiting ++ c ∷ [] → has_begun posted ≡ true → IsNext newest c → newest' ≡ with_commit newest c → Fit posted waiting' newest' shown published
fit_stored posted waiting waiting' c newest newest' shown published fit more begun next adds =
    let all = all_steps posted waiting in
    let is : all_steps posted waiting' ≡ all ++ Commit c ∷ [] = ap (λ (h : History). all_steps posted h) more ∙ all_more posted waiting c in
    record {
      room = subst (λ (xs : List Step). HaveRoom nothing xs) (sym is) (room_more nothing all (Commit c) fit.room (subst (λ (r : Retained). IsNext r c) fit.stored next));
      stored = adds ∙ ap (λ (r : Retained). with_commit r c) fit.stored ∙ ap (λ (s : Standing). s.kept) (sym (standing_next all (Commit c))) ∙ ap (λ (xs : List Step). (standing xs).kept) (sym is);
      unopened = still_unopened posted waiting' begun;
      within = fit.within;
      stands = fit.stands;
    }

-- after the next commit is posted
pub fit_posted : (posted posted' : List Step) (waiting waiting' : History) (c : CommitOf Configured) (newest : Retained) (shown : ℕ) (published : Standing)
    → Fit posted waiting newest shown published → waiting ≡ c ∷ waiting' → posted' ≡ posted ++ Commit c ∷ [] → has_begun posted' ≡ true → Fit posted' waiting' newest shown published
fit_posted posted posted' waiting waiting' c newest shown published fit first more begun =
    let same : all_steps posted waiting ≡ all_steps posted' waiting' =
    ap (λ (h : History). all_steps posted h) first ∙ sym (all_same posted waiting' c) ∙ ap (λ (xs : List Step). all_steps xs waiting') (sym more) in
    record {
      room = subst (λ (xs : List Step). HaveRoom nothing xs) same fit.room;
      stored = fit.stored ∙ ap (λ (xs : List Step). (standing xs).kept) same;
      unopened = still_unopened posted' waiting' begun;
      within = no_less posted posted' (Commit c) shown more fit.within;
      stands = fit.stands ∙ same_shown posted posted' (Commit c) shown more fit.within;
    }

begun_on : (posted : List Step) (step : Step) → has_begun posted ≡ true → has_begun (posted ++ step ∷ []) ≡ true
begun_on [] step begun = absurd (true≢false (sym begun))
begun_on (x ∷ posted) step begun = refl

-- after a step that leaves the history as it is
pub fit_beside : (posted posted' : List Step) (waiting : History) (step : Step) (newest : Retained) (shown : ℕ) (published : Standing)
    → Fit posted waiting newest shown published → posted' ≡ posted ++ step ∷ [] → has_begun posted ≡ true → IsBeside step → HasRoom (standing posted) step → Fit posted' waiting newest shown published
fit_beside posted posted' waiting step newest shown published fit more begun beside has =
    let rest = map (λ c. Commit c) waiting in
    let steps = posted ++ step ∷ [] in
    let kept : (standing steps).kept ≡ (standing posted).kept = ap (λ (s : Standing). s.kept) (standing_next posted step) ∙ beside.kept (standing posted) in
    let later = room_same (standing posted) (standing steps) waiting (sym kept) (room_later nothing posted rest fit.room) in
    let before = room_more nothing posted step (room_before nothing posted rest fit.room) has in
    record {
      room = subst (λ (xs : List Step). HaveRoom nothing (all_steps xs waiting)) (sym more) (room_both nothing steps rest before later);
      stored = fit.stored ∙ kept_all posted waiting ∙ ap (λ (r : Retained). with_commits r waiting) (sym kept) ∙ sym (kept_all steps waiting) ∙ ap (λ (xs : List Step). (standing (all_steps xs waiting)).kept) (sym more);
      unopened = still_unopened posted' waiting (ap (λ (xs : List Step). has_begun xs) more ∙ begun_on posted step begun);
      within = no_less posted posted' step shown more fit.within;
      stands = fit.stands ∙ same_shown posted posted' step shown more fit.within;
    }

-- commits have room where they had it before the floor was raised
room_above : (s t : Standing) (floor : ℕ) (waiting : History) → s.kept.floor ≤ floor → floor ≤ last s.kept → after_trim s.kept floor ≡ t.kept
    → HaveRoom s (map (λ c. Commit c) waiting) → HaveRoom t (map (λ c. Commit c) waiting)
room_above s t floor [] above there same have = tt
room_above s t floor (c ∷ waiting) above there same have =
    let one = length-append s.kept.commits (c ∷ []) in
    let on : after_trim (with_commit s.kept c) floor ≡ with_commit t.kept c = trim_commit s.kept floor c there ∙ ap (λ (r : Retained). with_commit r c) same in (
      subst (λ (r : Retained). IsNext r c) same (trim_next s.kept floor c above there have.0),
      room_above (after_step s (Commit c)) (after_step t (Commit c)) floor waiting above (omega (arith, one, there)) on have.1,
    )

-- what is posted has room
pub posted_room : (posted steps : List Step) (waiting : History) → steps ≡ posted → HaveRoom nothing (all_steps posted waiting) → HaveRoom nothing steps
posted_room posted steps waiting same have = subst (λ (xs : List Step). HaveRoom nothing xs) (sym same) (room_before nothing posted (map (λ c. Commit c) waiting) have)

-- where the floor can be raised above what is posted, it can be in what is stored
pub raise_stored : (posted : List Step) (waiting : History) (stored : Retained) (shown : ℕ) (published : Standing) (floor : ℕ) → Fit posted waiting stored shown published → CanRaise (standing posted) floor
    → (stored.floor ≤ floor) × (floor ≤ last stored)
raise_stored posted waiting stored shown published floor fit can =
    let kept = (standing posted).kept in
    let above = can.above in
    let there = can.there in
    let more = length-append kept.commits waiting in
    subst (λ (r : Retained). (r.floor ≤ floor) × (floor ≤ last r)) (sym (fit.stored ∙ kept_all posted waiting)) (omega (arith, above), omega (arith, there, more))

-- after the floor is raised
pub fit_trimmed : (posted posted' : List Step) (waiting : History) (floor : ℕ) (newest newest' : Retained) (shown : ℕ) (published : Standing)
    → Fit posted waiting newest shown published → posted' ≡ posted ++ Trim floor ∷ [] → has_begun posted ≡ true → CanRaise (standing posted) floor → newest' ≡ after_trim newest floor
    → Fit posted' waiting newest' shown published
fit_trimmed posted posted' waiting floor newest newest' shown published fit more begun can raised =
    let s = standing posted in
    let rest = map (λ c. Commit c) waiting in
    let steps = posted ++ Trim floor ∷ [] in
    let low : s.kept.floor ≤ floor = let above = can.above in omega (arith, above) in
    let kept : after_trim s.kept floor ≡ (standing steps).kept = ap (λ (t : Standing). t.kept) (sym (standing_next posted (Trim floor))) in
    let later = room_above s (standing steps) floor waiting low can.there kept (room_later nothing posted rest fit.room) in
    let before = room_more nothing posted (Trim floor) (room_before nothing posted rest fit.room) can in
    record {
      room = subst (λ (xs : List Step). HaveRoom nothing (all_steps xs waiting)) (sym more) (room_both nothing steps rest before later);
      stored = raised ∙ ap (λ (r : Retained). after_trim r floor) (fit.stored ∙ kept_all posted waiting) ∙ trim_more s.kept floor waiting can.there
          ∙ ap (λ (r : Retained). with_commits r waiting) kept ∙ sym (kept_all steps waiting) ∙ ap (λ (xs : List Step). (standing (all_steps xs waiting)).kept) (sym more);
      unopened = still_unopened posted' waiting (ap (λ (xs : List Step). has_begun xs) more ∙ begun_on posted (Trim floor) begun);
      within = no_less posted posted' (Trim floor) shown more fit.within;
      stands = fit.stands ∙ same_shown posted posted' (Trim floor) shown more fit.within;
    }

pub none_posted : (posted : List Step) → has_begun posted ≡ false → posted ≡ []
none_posted [] h = refl
none_posted (x ∷ posted) h = absurd (true≢false h)

-- after the opening
pub fit_opened : (posted posted' : List Step) (waiting : History) (loaded : Loaded) (newest newest' : Retained) (shown : ℕ) (published : Standing)
    → Fit posted waiting newest shown published → has_begun posted ≡ false → posted' ≡ posted ++ Open loaded ∷ [] → IsWithin loaded → newest' ≡ retained_of loaded → Fit posted' waiting newest' shown published
fit_opened posted posted' waiting loaded newest newest' shown published fit unbegun more within brings =
    let empty = none_posted posted unbegun in
    let waits = fit.unopened empty in
    let is : posted' ≡ Open loaded ∷ [] = more ∙ ap (λ (xs : List Step). xs ++ Open loaded ∷ []) empty in
    let all : Open loaded ∷ [] ≡ all_steps posted' waiting = sym (ap (λ (xs : List Step). all_steps xs waiting) is ∙ ap (λ (h : History). all_steps (Open loaded ∷ []) h) waits) in
    record {
      room = subst (λ (xs : List Step). HaveRoom nothing xs) all (within, tt);
      stored = brings ∙ ap (λ (xs : List Step). (standing xs).kept) all;
      unopened = λ _. waits;
      within = no_less posted posted' (Open loaded) shown more fit.within;
      stands = fit.stands ∙ same_shown posted posted' (Open loaded) shown more fit.within;
    }
