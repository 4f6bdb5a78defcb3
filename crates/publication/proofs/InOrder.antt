-- Posted steps come in order.
use Rattle.std.proofs.Common.{true, false, ◌≡◌, ◌≤◌, ℕ, Bool, List, [], ◌∷◌, ◌++◌, length, take, drop, map, refl, ap, sym, subst, ◌∙◌, append_assoc, append-nil, length-append, if◌then◌else◌, arith}
use Rattle.std.proofs.Math.Seq.{drop-append_seam}
use Rattle.std.proofs.lemmas.List.{take-append-drop}
use Rattle.std.specs.List.{list_any}
use mathlib.Core.Bool.{true≢false}
use Rattle.names.specs.declared.commit.Commit.{Commit as CommitOf}
use Rattle.meaning.specs.Config.{Configured}
use Rattle.meaning.specs.History.{History}
use Rattle.rows.specs.Retained.{Retained, IsRetained, newest, with_commit, after_trim}
use Rattle.rows.specs.Loads.{retained_of}
use Rattle.rows.specs.declared.loaded.Loaded.{Loaded}
use Rattle.shown.specs.declared.step.Step.{Step}
use Rattle.shown.specs.declared.step.Step.TheVariants.{Open, Commit, Take, Trim, Marking as MarkingStep, Rebase}
use Rattle.publication.specs.declared.event.Event.{Event}
use Rattle.publication.specs.declared.event.Event.TheVariants.{Stored, Posted, Published, Entered, Notified}
use Rattle.publication.specs.declared.event.Posting.TheVariants.{Opening, NextCommit, Taking, Trimming, Marking as MarkingPosted, Rebasing}
use Rattle.shown.specs.Standing.{Standing, standing, CanRaise}
use Rattle.publication.specs.World.{State, start, has_begun, waiting_commits, next_step, can_come, can_raise, after_coming, after_event}
use Rattle.publication.specs.Runs.{after_events, commits_of, floor_after, is_opening, with_commits, all_after, kept_after, ComeInOrder, IsOrdered, PostsStored}
use Rattle.publication.proofs.Raising.{trim_none, trim_more, trim_again, newest_stays, raises_where}
use Rattle.publication.proofs.Waiting.{standing_next, with_none, kept_all, IsBeside, take_beside, marking_beside, rebase_beside}
use Rattle.publication.proofs.Rising.{and_left, and_right, within_after}

come_in_order : (posted : List Step) (s : State) → has_begun posted ≡ true → IsOrdered posted s → ComeInOrder s
come_in_order [] s begun is = absurd (true≢false (sym begun))
come_in_order (x ∷ posted) s begun is = is

ordered : (posted : List Step) (s : State) → has_begun posted ≡ true → ComeInOrder s → IsOrdered posted s
ordered [] s begun is = absurd (true≢false (sym begun))
ordered (x ∷ posted) s begun is = is

begun_on : (posted more : List Step) → has_begun posted ≡ true → has_begun (posted ++ more) ≡ true
begun_on [] more begun = absurd (true≢false (sym begun))
begun_on (x ∷ posted) more begun = refl

-- ---- the steps after the opening, and more of them

commits_on : (steps more : List Step) → commits_of (steps ++ more) ≡ commits_of steps ++ commits_of more
commits_on [] more = refl
commits_on (Open loaded ∷ steps) more = commits_on steps more
commits_on (Commit commit ∷ steps) more = ap (λ (h : History). commit ∷ h) (commits_on steps more)
commits_on (Take part n ∷ steps) more = commits_on steps more
commits_on (Trim floor ∷ steps) more = commits_on steps more
commits_on (MarkingStep marking ∷ steps) more = commits_on steps more
commits_on (Rebase rev ∷ steps) more = commits_on steps more

commits_back : (h : History) → commits_of (map (λ c. Commit c) h) ≡ h
commits_back [] = refl
commits_back (c ∷ h) = ap (λ (g : History). c ∷ g) (commits_back h)

floor_on : (floor : ℕ) (steps more : List Step) → floor_after floor (steps ++ more) ≡ floor_after (floor_after floor steps) more
floor_on floor [] more = refl
floor_on floor (Open loaded ∷ steps) more = floor_on floor steps more
floor_on floor (Commit commit ∷ steps) more = floor_on floor steps more
floor_on floor (Take part n ∷ steps) more = floor_on floor steps more
floor_on floor (Trim higher ∷ steps) more = floor_on higher steps more
floor_on floor (MarkingStep marking ∷ steps) more = floor_on floor steps more
floor_on floor (Rebase rev ∷ steps) more = floor_on floor steps more

floor_same : (floor : ℕ) (h : History) → floor_after floor (map (λ c. Commit c) h) ≡ floor
floor_same floor [] = refl
floor_same floor (c ∷ h) = floor_same floor h

none_opens : (h : History) → list_any is_opening (map (λ c. Commit c) h) ≡ false
none_opens [] = refl
none_opens (c ∷ h) = none_opens h

once_on : (steps more : List Step) → list_any is_opening steps ≡ false → list_any is_opening more ≡ false → list_any is_opening (steps ++ more) ≡ false
once_on [] more h k = k
once_on (Open loaded ∷ steps) more h k = absurd (true≢false h)
once_on (Commit commit ∷ steps) more h k = once_on steps more h k
once_on (Take part n ∷ steps) more h k = once_on steps more h k
once_on (Trim floor ∷ steps) more h k = once_on steps more h k
once_on (MarkingStep marking ∷ steps) more h k = once_on steps more h k
once_on (Rebase rev ∷ steps) more h k = once_on steps more h k

-- commits, one list after the other
with_both : (r : Retained) (g h : History) → with_commits (with_commits r g) h ≡ with_commits r (g ++ h)
with_both r g h = ap (λ (x : History). record { number = r.number; floor = r.floor; base = r.base; commits = x }) (append_assoc r.commits g h)

module _ (loaded : Loaded) (later : List Step) where
  -- no step raises the floor, where commits are added
  floor_stays : (h : History) → floor_after loaded.floor (later ++ map (λ c. Commit c) h) ≡ floor_after loaded.floor later
  floor_stays h = floor_on loaded.floor later (map (λ c. Commit c) h) ∙ floor_same (floor_after loaded.floor later) h

  commits_more : (h : History) → commits_of (later ++ map (λ c. Commit c) h) ≡ commits_of later ++ h
  commits_more h = commits_on later (map (λ c. Commit c) h) ∙ ap (λ (g : History). commits_of later ++ g) (commits_back h)

  kept_more : (h : History) → floor_after loaded.floor later ≤ newest (all_after loaded later) → kept_after loaded (later ++ map (λ c. Commit c) h) ≡ with_commits (kept_after loaded later) h
  kept_more h there =
      let floor = floor_after loaded.floor later in
      ap (λ (g : History). after_trim (with_commits (retained_of loaded) g) (floor_after loaded.floor (later ++ map (λ c. Commit c) h))) (commits_more h)
      ∙ ap (λ (n : ℕ). after_trim (with_commits (retained_of loaded) (commits_of later ++ h)) n) (floor_stays h)
      ∙ ap (λ (r : Retained). after_trim r floor) (sym (with_both (retained_of loaded) (commits_of later) h)) ∙ trim_more (all_after loaded later) floor h there

  retained_more : (h : History) → IsRetained (all_after loaded later) (floor_after loaded.floor later)
      → IsRetained (all_after loaded (later ++ map (λ c. Commit c) h)) (floor_after loaded.floor (later ++ map (λ c. Commit c) h))
  retained_more h is =
      let same = floor_stays h in
      let more = ap (λ (g : History). length g) (commits_more h) in
      let long = length-append (commits_of later) h in
      let low = is.not_below in
      let high = is.not_above in
      let one = length-append loaded.commits (commits_of later) in
      let two = length-append loaded.commits (commits_of (later ++ map (λ c. Commit c) h)) in
      record { not_below = omega (arith, same, low); not_above = omega (arith, same, high, more, long, one, two) }

  -- the last step is no commit
  all_same : (step : Step) → commits_of (step ∷ []) ≡ [] → all_after loaded (later ++ step ∷ []) ≡ all_after loaded later
  all_same step none = ap (λ (g : History). with_commits (retained_of loaded) g) (commits_on later (step ∷ []) ∙ ap (λ (g : History). commits_of later ++ g) none ∙ append-nil (commits_of later))

  kept_same : (step : Step) → commits_of (step ∷ []) ≡ [] → kept_after loaded (later ++ step ∷ []) ≡ after_trim (all_after loaded later) (floor_after (floor_after loaded.floor later) (step ∷ []))
  kept_same step none =
      ap (λ (r : Retained). after_trim r (floor_after loaded.floor (later ++ step ∷ []))) (all_same step none)
      ∙ ap (λ (n : ℕ). after_trim (all_after loaded later) n) (floor_on loaded.floor later (step ∷ []))

-- ---- each event

-- the commits that wait are those beyond the posted steps
waits_are : (s : State) (is : ComeInOrder s) → waiting_commits s ≡ is.waits
waits_are s is =
    let kept = kept_after is.loaded is.later in
    ap (λ (t : Retained). drop (length t.commits) s.stored.commits) is.left
    ∙ ap (λ (t : Retained). drop (length kept.commits) t.commits) is.stored
    ∙ drop-append_seam kept.commits is.waits

-- a commit is stored
stored_in_order : (s : State) (commit : CommitOf Configured) (is : ComeInOrder s) → ComeInOrder (record { stored = with_commit s.stored commit; posted = s.posted; shown = s.shown })
stored_in_order s commit is = record {
  loaded = is.loaded;
  later = is.later;
  waits = is.waits ++ commit ∷ [];
  steps = is.steps;
  once = is.once;
  floor = is.floor;
  left = is.left;
  stored = ap (λ (t : Retained). with_commit t commit) is.stored ∙ with_both (kept_after is.loaded is.later) is.waits (commit ∷ []);
}

-- commits that wait are posted
commits_in_order : (s : State) (h waits : History) (is : ComeInOrder s) → h ++ waits ≡ is.waits
    → ComeInOrder (record { stored = s.stored; posted = s.posted ++ map (λ c. Commit c) h; shown = s.shown })
commits_in_order s h waits is first =
    let steps = map (λ c. Commit c) h in
    let kept = kept_after is.loaded is.later in
    let more = kept_more is.loaded is.later h is.floor.not_above in
    record {
      loaded = is.loaded;
      later = is.later ++ steps;
      waits = waits;
      steps = ap (λ (xs : List Step). xs ++ steps) is.steps;
      once = once_on is.later steps is.once (none_opens h);
      floor = retained_more is.loaded is.later h is.floor;
      left = kept_all s.posted h ∙ ap (λ (r : Retained). with_commits r h) is.left ∙ sym more;
      stored = is.stored ∙ ap (λ (g : History). with_commits kept g) (sym first) ∙ sym (with_both kept h waits) ∙ ap (λ (r : Retained). with_commits r waits) (sym more);
    }

-- a step comes that leaves the history as it is
beside_in_order : (s : State) (step : Step) (is : ComeInOrder s) → IsBeside step → ComeInOrder (record { stored = s.stored; posted = s.posted ++ step ∷ []; shown = s.shown })
beside_in_order s step is beside =
    let steps = step ∷ [] in
    let whole = all_after is.loaded is.later in
    let floor = floor_after is.loaded.floor is.later in
    let all = all_same is.loaded is.later step beside.none in
    let stays = beside.floor floor in
    let kept : kept_after is.loaded (is.later ++ steps) ≡ kept_after is.loaded is.later = kept_same is.loaded is.later step beside.none ∙ ap (λ (n : ℕ). after_trim whole n) stays in
    record {
      loaded = is.loaded;
      later = is.later ++ steps;
      waits = is.waits;
      steps = ap (λ (xs : List Step). xs ++ steps) is.steps;
      once = once_on is.later steps is.once beside.later;
      floor = subst (λ (n : ℕ). IsRetained (all_after is.loaded (is.later ++ steps)) n) (sym (floor_on is.loaded.floor is.later steps ∙ stays))
          (subst (λ (r : Retained). IsRetained r floor) (sym all) is.floor);
      left = ap (λ (t : Standing). t.kept) (standing_next s.posted step) ∙ beside.kept (standing s.posted) ∙ is.left ∙ sym kept;
      stored = is.stored ∙ ap (λ (r : Retained). with_commits r is.waits) (sym kept);
    }

ordered_beside : (s : State) (step : Step) → has_begun s.posted ≡ true → IsOrdered s.posted s → IsBeside step
    → let t : State = record { stored = s.stored; posted = s.posted ++ step ∷ []; shown = s.shown } in IsOrdered t.posted t
ordered_beside s step begun is beside =
    ordered (s.posted ++ step ∷ []) _ (begun_on s.posted (step ∷ []) begun) (beside_in_order s step (come_in_order s.posted s begun is) beside)

-- the floor is raised
trimmed_in_order : (s : State) (floor : ℕ) (is : ComeInOrder s) → CanRaise (standing s.posted) floor
    → ComeInOrder (record { stored = after_trim s.stored floor; posted = s.posted ++ Trim floor ∷ []; shown = s.shown })
trimmed_in_order s floor is can =
    let steps = Trim floor ∷ [] in
    let before = floor_after is.loaded.floor is.later in
    let whole = all_after is.loaded is.later in
    let kept = kept_same is.loaded is.later (Trim floor) refl in
    let all = all_same is.loaded is.later (Trim floor) refl in
    let below = ap (λ (r : Retained). r.floor) is.left in
    let above = can.above in
    let low = is.floor.not_below in
    let high : floor ≤ newest (kept_after is.loaded is.later) = subst (λ (r : Retained). floor ≤ newest r) is.left can.there in
    let there : floor ≤ newest whole = subst (λ (n : ℕ). floor ≤ n) (newest_stays whole before low is.floor.not_above) high in
    let higher : before ≤ floor = omega (arith, below, above) in
    let again : kept_after is.loaded (is.later ++ steps) ≡ after_trim (kept_after is.loaded is.later) floor = kept ∙ sym (trim_again whole before floor low higher) in
    let retained : IsRetained whole floor = record { not_below = omega (arith, low, higher); not_above = there } in
    record {
      loaded = is.loaded;
      later = is.later ++ steps;
      waits = is.waits;
      steps = ap (λ (xs : List Step). xs ++ steps) is.steps;
      once = once_on is.later steps is.once refl;
      floor = subst (λ (n : ℕ). IsRetained (all_after is.loaded (is.later ++ steps)) n) (sym (floor_on is.loaded.floor is.later steps))
          (subst (λ (r : Retained). IsRetained r floor) (sym all) retained);
      left = ap (λ (t : Standing). t.kept) (standing_next s.posted (Trim floor)) ∙ ap (λ (r : Retained). after_trim r floor) is.left ∙ sym again;
      stored = ap (λ (r : Retained). after_trim r floor) is.stored ∙ trim_more (kept_after is.loaded is.later) floor is.waits high ∙ ap (λ (r : Retained). with_commits r is.waits) (sym again);
    }

-- the opening is posted
opened_in_order : (loaded : Loaded) (shown : ℕ) → ComeInOrder (record { stored = retained_of loaded; posted = Open loaded ∷ []; shown = shown })
opened_in_order loaded shown =
    let kept : retained_of loaded ≡ kept_after loaded [] = sym (ap (λ (r : Retained). after_trim r loaded.floor) (with_none (retained_of loaded)) ∙ trim_none (retained_of loaded)) in
    record {
      loaded = loaded;
      later = [];
      waits = [];
      steps = refl;
      once = refl;
      floor = record { not_below = omega arith; not_above = omega arith };
      left = kept;
      stored = kept ∙ sym (with_none (kept_after loaded []));
    }

comes_ordered : (s : State) (e : Event) → can_come s e ≡ true → IsOrdered s.posted s → IsOrdered (after_coming s e).posted (after_coming s e)
comes_ordered s (Stored commit) can is =
    let begun = and_left (has_begun s.posted) _ can in ordered s.posted _ begun (stored_in_order s commit (come_in_order s.posted s begun is))
comes_ordered s (Posted (Opening loaded)) can is = opened_in_order loaded s.shown
comes_ordered s (Posted NextCommit) can is =
    let begun = and_left (has_begun s.posted) _ can in
    let here = come_in_order s.posted s begun is in
    let first = take-append-drop 1 (waiting_commits s) ∙ waits_are s here in
    ordered (s.posted ++ next_step s) _ (begun_on s.posted (next_step s) begun) (commits_in_order s (take 1 (waiting_commits s)) (drop 1 (waiting_commits s)) here first)
comes_ordered s (Posted (Taking part commits)) can is =
    let begun = and_left (has_begun s.posted) _ can in
    ordered_beside s (Take part commits) begun is (take_beside part commits)
comes_ordered s (Posted (Trimming floor)) can is =
    let begun = and_left (has_begun s.posted) _ can in
    let raised = (raises_where (standing s.posted) floor).0 (and_right (has_begun s.posted) (can_raise (standing s.posted) floor) can) in
    ordered (s.posted ++ Trim floor ∷ []) _ (begun_on s.posted (Trim floor ∷ []) begun) (trimmed_in_order s floor (come_in_order s.posted s begun is) raised)
comes_ordered s (Posted (MarkingPosted marking)) can is = ordered_beside s (MarkingStep marking) (and_left (has_begun s.posted) _ can) is (marking_beside marking)
comes_ordered s (Posted (Rebasing rev)) can is = ordered_beside s (Rebase rev) (and_left (has_begun s.posted) _ can) is (rebase_beside rev)
comes_ordered s (Published steps) can is = same_steps s.posted is
  where
    same_steps : (posted : List Step) → IsOrdered posted s → IsOrdered posted (after_coming s (Published steps))
    same_steps [] is = is
    same_steps (x ∷ posted) is = record { loaded = is.loaded; later = is.later; waits = is.waits; steps = is.steps; once = is.once; floor = is.floor; left = is.left; stored = is.stored }
comes_ordered s (Entered seat question) can is = is
comes_ordered s (Notified seat steps) can is = is

stays_ordered : (s : State) (e : Event) → IsOrdered s.posted s → IsOrdered (after_event s e).posted (after_event s e)
stays_ordered s e is = by_test (can_come s e) refl
  where
    by_test : (b : Bool) → can_come s e ≡ b → let t : State = (if b then after_coming s e else s) in IsOrdered t.posted t
    by_test true can = comes_ordered s e can is
    by_test false can = is

ordered_after : (s : State) (events : List Event) → IsOrdered s.posted s → IsOrdered (after_events s events).posted (after_events s events)
ordered_after s [] is = is
ordered_after s (e ∷ events) is = ordered_after (after_event s e) events (stays_ordered s e is)

pub posts_stored : (events : List Event) → PostsStored events
posts_stored events =
    let s = after_events start events in
    (ordered_after start events refl, (within_after start events (omega arith)).0, (drop s.shown s.posted, take-append-drop s.shown s.posted))
