-- A desk stays sound.
use Rattle.std.proofs.Common.{◌≡◌, Bool, List, [], ◌∷◌, ◌++◌, refl, ap, sym, ◌∙◌, subst}
use mathlib.Core.List.{IsPrefix}
use Rattle.names.specs.declared.part.Part.TheVariants.{Index, Hot}
use Rattle.tables.specs.declared.tables.Tables.{Ghosts}
use Rattle.shown.specs.declared.step.Step.{Step}
use Rattle.shown.specs.declared.step.Step.TheVariants.{Open, Commit, Take, Trim, Marking, Rebase}
use Rattle.shown.specs.Standing.{Standing, standing, after_step}
use Rattle.published.specs.Publishing.{Publishing}
use Rattle.published.specs.Posts.{IsLater}
use Rattle.published.specs.Judged.{WereJudged}
use Rattle.published.proofs.Prefixes.{prefix_self, prefix_trans}
use Rattle.published.proofs.Rising.{rise}
use Rattle.desk.specs.Posts.{Agrees}
use Rattle.desk.specs.Invariant.{IsSound}
use Rattle.desk.specs.inside.Posting.{LeavesHistory}
use Rattle.desk.proofs.Standings.{standing_next}

-- what leaves the history as it is
history_stays : (s : Standing) (step : Step) → LeavesHistory step → (after_step s step).kept ≡ s.kept
history_stays s (Open loaded) leaves = absurd leaves
history_stays s (Commit commit) leaves = absurd leaves
history_stays s (Take Index n) leaves = refl
history_stays s (Take Hot n) leaves = refl
history_stays s (Trim floor) leaves = absurd leaves
history_stays s (Marking marking) leaves = refl
history_stays s (Rebase rev) leaves = refl

pub later_step : (step : Step) → LeavesHistory step → IsLater step
later_step (Open loaded) leaves = absurd leaves
later_step (Commit commit) leaves = absurd leaves
later_step (Take part n) leaves = tt
later_step (Trim floor) leaves = absurd leaves
later_step (Marking marking) leaves = tt
later_step (Rebase rev) leaves = tt

module _ {T : Type 0} (g : Ghosts T) (failed : Bool) (tables : T) (own : Standing) where
  -- once all that is posted is shown
  pub sound_first : (p : Publishing) → own ≡ standing p.posted → p.shown ≡ p.posted → WereJudged p.posted p.shown → Agrees g failed tables (standing p.posted).kept → IsSound g failed tables own p
  sound_first p stands whole judged agrees =
      record { stands = stands; beginning = subst (λ (steps : List Step). IsPrefix p.shown steps) whole (prefix_self p.shown); judged = judged; agrees = agrees }

  -- what is shown is of the store of what is posted
  pub one_store : (p : Publishing) → IsSound g failed tables own p → (standing p.posted).kept.number ≡ (standing p.shown).kept.number
  one_store p sound = (rise p.shown p.posted sound.judged.shown_were sound.judged.posted_were sound.beginning).number

  module _ (p q : Publishing) (sound : IsSound g failed tables own p) where
    -- no step more was posted
    pub sound_shown : q.posted ≡ p.posted → IsPrefix q.shown q.posted → WereJudged q.posted q.shown → IsSound g failed tables own q
    sound_shown same beginning judged =
        record {
          stands = sound.stands ∙ ap standing (sym same);
          beginning = beginning;
          judged = judged;
          agrees = subst (λ (steps : List Step). Agrees g failed tables (standing steps).kept) (sym same) sound.agrees;
        }

    pub sound_same : q.posted ≡ p.posted → q.shown ≡ p.shown → IsSound g failed tables own q
    sound_same same shown =
        sound_shown same (subst (λ (steps : List Step). IsPrefix q.shown steps) (sym same) (subst (λ (steps : List Step). IsPrefix steps p.posted) (sym shown) sound.beginning))
        (subst (λ (steps : List Step). WereJudged steps q.shown) (sym same) (subst (WereJudged p.posted) (sym shown) sound.judged))

    -- a step more was posted
    pub sound_next : (step : Step) → q.posted ≡ p.posted ++ step ∷ [] → q.shown ≡ p.shown → WereJudged q.posted q.shown → (fails : Bool) (after : T) (stood : Standing)
        → stood ≡ after_step own step → Agrees g fails after stood.kept → IsSound g fails after stood q
    sound_next step more shown judged fails after stood steps agrees =
        let all : stood ≡ standing q.posted = steps ∙ ap (λ (s : Standing). after_step s step) sound.stands ∙ sym (standing_next p.posted step) ∙ ap standing (sym more) in
        record {
          stands = all;
          beginning = subst (λ (xs : List Step). IsPrefix q.shown xs) (sym more) (subst (λ (xs : List Step). IsPrefix xs (p.posted ++ step ∷ [])) (sym shown) (prefix_trans p.shown p.posted (p.posted ++ step ∷ []) sound.beginning (step ∷ [], refl)));
          judged = judged;
          agrees = subst (λ (s : Standing). Agrees g fails after s.kept) all agrees;
        }

    -- one that the tables need not know of
    pub sound_unstored : (step : Step) → LeavesHistory step → q.posted ≡ p.posted ++ step ∷ [] → q.shown ≡ p.shown → WereJudged q.posted q.shown → (stood : Standing) → stood ≡ after_step own step → IsSound g failed tables stood q
    sound_unstored step leaves more shown judged stood steps =
        let same : stood.kept ≡ (standing p.posted).kept = ap (λ (s : Standing). s.kept) steps ∙ history_stays own step leaves ∙ ap (λ (s : Standing). s.kept) sound.stands in
        sound_next step more shown judged failed tables stood steps (subst (Agrees g failed tables) (sym same) sound.agrees)
