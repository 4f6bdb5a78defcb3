-- No later step takes back what was retained, but below a higher floor.
use Rattle.std.proofs.Common.{◌≡◌, ℕ, ◌+◌, ◌-◌, ◌<◌, ◌≤◌, List, [], ◌∷◌, ◌++◌, length-append, take, drop, fold, refl, ap, sym, subst, ◌∙◌, arith}
use Rattle.std.proofs.Math.Seq.{take-add}
use Rattle.std.proofs.lemmas.List.{take-append-le, length-drop}
use Rattle.std.proofs.lemmas.List.Sums.{fold-append}
use mathlib.Core.List.{IsPrefix}
use Rattle.names.specs.declared.commit.Commit.{Commit as Change}
use Rattle.names.specs.declared.part.Part.TheVariants.{Index, Hot}
use Rattle.meaning.specs.Config.{Configured}
use Rattle.meaning.specs.Snap.{Snap}
use Rattle.meaning.specs.History.{History, after_commit, after_commits}
use Rattle.rows.specs.Retained.{Retained, IsRetained, newest, with_commit, after_trim}
use Rattle.shown.specs.declared.step.Step.{Step}
use Rattle.shown.specs.declared.step.Step.TheVariants.{Open, Commit, Take, Trim, Marking, Rebase}
use Rattle.shown.specs.Standing.{Standing, nothing, after_step, standing, HasRoom}
use Rattle.published.specs.Posts.{IsLater}
use Rattle.published.specs.Judged.{AreLater, AreJudged}
use Rattle.published.specs.Rising.{Rises}
use Rattle.published.proofs.Judging.{later_rest}

-- ---- one step

pub same_rises : (r : Retained) → Rises r r
same_rises r = record { number = refl; floor = omega arith; newest_there = omega arith; snaps = λ rev here there. refl }

commit_rises : (r : Retained) (c : Change Configured) → Rises r (with_commit r c)
commit_rises r c =
    record {
      number = refl;
      floor = omega arith;
      newest_there = omega (arith, length-append r.commits (c ∷ []));
      snaps = λ rev here there. ap (after_commits r.base) (take-append-le (rev - r.floor) r.commits (c ∷ []) (omega (arith, here.not_above)));
    }

after_append : (s : Snap) (g h : History) → after_commits s (g ++ h) ≡ after_commits (after_commits s g) h
after_append s [] h = refl
after_append s (c ∷ g) h = after_append (after_commit s c) g h

after_parts : (s : Snap) (k m : ℕ) (h : History) → after_commits (after_commits s (take k h)) (take m (drop k h)) ≡ after_commits s (take (k + m) h)
after_parts s k m h = sym (ap (after_commits s) (take-add k m h) ∙ after_append s (take k h) (take m (drop k h)))

trim_rises : (r : Retained) (floor : ℕ) → r.floor < floor → floor ≤ newest r → Rises r (after_trim r floor)
trim_rises r floor above there =
    let left = length-drop (floor - r.floor) r.commits in
    record {
      number = refl;
      floor = omega (arith, above);
      newest_there = omega (arith, left, above, there);
      snaps = λ rev here now.
          let sum : (floor - r.floor) + (rev - floor) ≡ rev - r.floor = omega (arith, above, now.not_below) in
          after_parts r.base (floor - r.floor) (rev - floor) r.commits ∙ ap (λ (n : ℕ). after_commits r.base (take n r.commits)) sum;
    }

step_rises : (s : Standing) (step : Step) → IsLater step → HasRoom s step → Rises s.kept (after_step s step).kept
step_rises s (Open loaded) later room = absurd later
step_rises s (Commit commit) later room = commit_rises s.kept commit
step_rises s (Take Index n) later room = same_rises s.kept
step_rises s (Take Hot n) later room = same_rises s.kept
step_rises s (Trim floor) later room = trim_rises s.kept floor room.above room.there
step_rises s (Marking marking) later room = same_rises s.kept
step_rises s (Rebase rev) later room = same_rises s.kept

-- ---- more steps

-- what is retained at first and at last is retained between
pub rises_on : (r s t : Retained) → Rises r s → Rises s t → Rises r t
rises_on r s t one other =
    record {
      number = other.number ∙ one.number;
      floor = omega (arith, one.floor, other.floor);
      newest_there = omega (arith, one.newest_there, other.newest_there);
      snaps = λ rev here there.
          let between : IsRetained s rev = record { not_below = omega (arith, there.not_below, other.floor); not_above = omega (arith, here.not_above, one.newest_there) } in
          other.snaps rev between there ∙ one.snaps rev here between;
    }

later_rise : (s : Standing) (steps : List Step) → AreLater s steps → Rises s.kept (fold after_step s steps).kept
later_rise s [] are = same_rises s.kept
later_rise s (step ∷ steps) are =
    rises_on s.kept (after_step s step).kept (fold after_step (after_step s step) steps).kept (step_rises s step are.0 are.1) (later_rise (after_step s step) steps are.2)

rise_after : (first : Step) (steps more : List Step) → AreJudged ((first ∷ steps) ++ more) → Rises (standing (first ∷ steps)).kept (standing ((first ∷ steps) ++ more)).kept
rise_after first steps more are =
    subst (λ (t : Standing). Rises (standing (first ∷ steps)).kept t.kept) (sym (fold-append after_step nothing (first ∷ steps) more))
    (later_rise (standing (first ∷ steps)) more (later_rest (after_step nothing first) steps more are.1))

pub rise : (before after : List Step) → AreJudged before → AreJudged after → IsPrefix before after → Rises (standing before).kept (standing after).kept
rise [] after are all on = absurd are
rise (first ∷ steps) after are all on =
    subst (λ (l : List Step). Rises (standing (first ∷ steps)).kept (standing l).kept) on.1 (rise_after first steps on.0 (subst AreJudged (sym on.1) all))
