-- A step that had room is posted by events.
use Rattle.std.proofs.Common.{◌≡◌, ◌≤◌, ℕ, true, List, [], ◌∷◌, ◌++◌, length, take, map, nat_le, refl, ap, sym, ◌∙◌}
use Rattle.std.specs.Prelude.{fold, not, is_some, Option, None}
use Rattle.std.proofs.Math.Seq.{drop-append_seam}
use Rattle.names.specs.declared.limits.TheConstants.{MAX_CATCH_UP}
use Rattle.names.specs.declared.commit.Commit.{Commit as CommitOf}
use Rattle.names.specs.declared.part.Part.{Part}
use Rattle.names.specs.declared.part.Part.TheVariants.{Index, Hot}
use Rattle.meaning.specs.Config.{Configured}
use Rattle.meaning.specs.History.{History}
use Rattle.rows.specs.Retained.{Retained, newest_of, with_commit}
use Rattle.rows.specs.Follows.{commit_cause, IsNext}
use Rattle.shown.specs.declared.step.Step.{Step}
use Rattle.shown.specs.declared.step.Step.TheVariants.{Open, Commit, Take, Trim, Marking, Rebase}
use Rattle.shown.specs.Marks.{marking_cause}
use Rattle.shown.specs.Standing.{Standing, nothing, standing, after_step, after_take, base_cause, HasRoom}
use Rattle.published.specs.Judged.{AreJudged, AreLater}
use Rattle.publication.specs.declared.event.Event.TheVariants.{Stored, Posted}
use Rattle.publication.specs.declared.event.Posting.TheVariants.{NextCommit, Taking, Trimming, Marking as MarkingPosted, Rebasing}
use Rattle.publication.specs.World.{State, has_begun, waiting_commits}
use Rattle.publication.proofs.Raising.{raises_where}
use Rattle.desk.proofs.Standings.{standing_next}
use Rattle.refinement.specs.Events.{state_after, IsRunTo}
use Rattle.refinement.proofs.Leading.{on, one, both_true, reaches}

later_last : (s : Standing) (xs : List Step) (step : Step) → AreLater s (xs ++ step ∷ []) → HasRoom (fold after_step s xs) step
later_last s [] step are = are.1
later_last s (x ∷ xs) step are = later_last (after_step s x) xs step are.2

-- the last of judged steps had room on what those before it left
pub judged_last : (xs : List Step) (step : Step) → AreJudged xs → AreJudged (xs ++ step ∷ []) → HasRoom (standing xs) step
judged_last [] step none are = absurd none
judged_last (first ∷ xs) step begun are = later_last (after_step nothing first) xs step are.1

pub begun : (posted : List Step) → AreJudged posted → has_begun posted ≡ true
begun [] none = absurd none
begun (first ∷ steps) are = refl

nothing_told : {A : Type 0} (o : Option A) → o ≡ None → not (is_some o) ≡ true
nothing_told {A} o none = ap (λ (x : Option A). not (is_some x)) none

kept_by_take : (s : Standing) (part : Part) (n : ℕ) → (after_take s part n).kept ≡ s.kept
kept_by_take s Index n = refl
kept_by_take s Hot n = refl

-- it is no opening, and a part takes no more commits than one call may have it take
abbrev pub Fits : Step → Type 0
Fits (Open loaded) = ⊥
Fits (Take part commits) = commits ≤ MAX_CATCH_UP
Fits step = Unit {0}

module _ (posted shown : List Step) (are : AreJudged posted) where
  with_kept : (stored : Retained) (more : List Step) → (standing more).kept ≡ stored → state_after more shown ≡ record { stored = stored; posted = more; shown = length shown }
  with_kept stored more is = ap (λ (r : Retained). record { stored = r; posted = more; shown = length shown }) is

  -- the history of the steps with one more
  kept_next : (step : Step) → (standing (posted ++ step ∷ [])).kept ≡ (after_step (standing posted) step).kept
  kept_next step = ap (λ (s : Standing). s.kept) (standing_next posted step)

  commits : (commit : CommitOf Configured) → IsNext (standing posted).kept commit → IsRunTo (state_after posted shown) (state_after (posted ++ Commit commit ∷ []) shown)
  commits commit next =
      let r = (standing posted).kept in
      let stored : State = record { stored = with_commit r commit; posted = posted; shown = length shown } in
      let waits : waiting_commits stored ≡ commit ∷ [] = drop-append_seam r.commits (commit ∷ []) in
      let last = posted ++ Commit commit ∷ [] in
      on _ stored _
      (one _ _ (Stored commit) (both_true _ _ (begun posted are) (nothing_told (commit_cause (newest_of r) commit) next)) refl)
      (one _ _ (Posted NextCommit) (both_true _ _ (begun posted are) (ap (λ (h : History). nat_le 1 (length h)) waits))
      (with_kept (with_commit r commit) last (kept_next (Commit commit))
      ∙ ap (λ (h : History). record { stored = with_commit r commit; posted = posted ++ map (λ c. Commit c) (take 1 h); shown = length shown }) (sym waits)))

  pub posts : (step : Step) → Fits step → HasRoom (standing posted) step → IsRunTo (state_after posted shown) (state_after (posted ++ step ∷ []) shown)
  posts (Open loaded) fits room = absurd fits
  posts (Commit commit) fits room = commits commit room
  posts (Take part n) fits room =
      one _ _ (Posted (Taking part n)) (both_true _ _ (begun posted are) (reaches n MAX_CATCH_UP fits))
      (with_kept _ _ (kept_next (Take part n) ∙ kept_by_take (standing posted) part n))
  posts (Trim floor) fits room =
      one _ _ (Posted (Trimming floor)) (both_true _ _ (begun posted are) ((raises_where (standing posted) floor).1 room)) (with_kept _ _ (kept_next (Trim floor)))
  posts (Marking marking) fits room =
      one _ _ (Posted (MarkingPosted marking)) (both_true _ _ (begun posted are) (nothing_told (marking_cause (newest_of (standing posted).kept).held.config (standing posted).marks marking) room)) (with_kept _ _ (kept_next (Marking marking)))
  posts (Rebase rev) fits room =
      one _ _ (Posted (Rebasing rev)) (both_true _ _ (begun posted are) (nothing_told (base_cause (standing posted) rev) room)) (with_kept _ _ (kept_next (Rebase rev)))
