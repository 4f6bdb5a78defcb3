-- Lists of steps that were judged.
use Rattle.std.proofs.Common.{◌≡◌, List, [], ◌∷◌, ◌++◌, append_assoc, fold, refl, ap, ◌∙◌, sym, subst, ◌⊎◌, inl, inr}
use mathlib.Core.List.{IsPrefix}
use Rattle.shown.specs.declared.step.Step.{Step}
use Rattle.shown.specs.Standing.{Standing, nothing, after_step, standing, HasRoom}
use Rattle.published.specs.Known.{Known}
use Rattle.published.specs.Posts.{IsLater}
use Rattle.published.specs.Judged.{AreLater, AreJudged}

-- one step more, which was judged on what the others leave
later_next : (s : Standing) (steps : List Step) (step : Step) → AreLater s steps → HasRoom (fold after_step s steps) step → IsLater step → AreLater s (steps ++ step ∷ [])
later_next s [] step are room later = (later, room, tt)
later_next s (x ∷ steps) step are room later = (are.0, are.1, later_next (after_step s x) steps step are.2 room later)

pub judged_next : (steps : List Step) (step : Step) → AreJudged steps → HasRoom (standing steps) step → IsLater step → AreJudged (steps ++ step ∷ [])
judged_next [] step are room later = absurd are
judged_next (first ∷ steps) step are room later = (are.0, later_next (after_step nothing first) steps step are.1 room later)

-- a step is posted behind those that wait to be entered
pub judged_post : (entered backlog more : List Step) (step : Step) → AreJudged (entered ++ backlog) → HasRoom (standing (entered ++ backlog)) step → IsLater step → more ≡ backlog ++ step ∷ [] → AreJudged (entered ++ more)
judged_post entered backlog more step are room later is =
    subst (λ (xs : List Step). AreJudged (entered ++ xs)) (sym is) (subst AreJudged (append_assoc entered backlog (step ∷ [])) (judged_next (entered ++ backlog) step are room later))

-- fewer steps
later_part : (s : Standing) (steps more : List Step) → AreLater s (steps ++ more) → AreLater s steps
later_part s [] more are = tt
later_part s (x ∷ steps) more are = (are.0, are.1, later_part (after_step s x) steps more are.2)

-- what follows the first of the steps
pub later_rest : (s : Standing) (steps more : List Step) → AreLater s (steps ++ more) → AreLater (fold after_step s steps) more
later_rest s [] more are = are
later_rest s (x ∷ steps) more are = later_rest (after_step s x) steps more are.2

-- the last of some steps was judged on what the others leave
pub last_judged : (steps : List Step) (step : Step) → AreJudged steps → AreJudged (steps ++ step ∷ []) → HasRoom (standing steps) step × IsLater step
last_judged [] step are all = absurd are
last_judged (first ∷ steps) step are all =
    let rest = later_rest (after_step nothing first) steps (step ∷ []) all.1 in (rest.1, rest.0)

-- a list between two that were judged
pub judged_between : (xs ys zs : List Step) → AreJudged xs → IsPrefix xs ys → IsPrefix ys zs → AreJudged zs → AreJudged ys
judged_between [] ys zs are p q all = absurd are
judged_between (x ∷ xs) [] zs are p q all = absurd (cc (p.1))
judged_between (x ∷ xs) (y ∷ ys) zs are p q all =
    let whole : AreJudged ((y ∷ ys) ++ q.0) = subst AreJudged (sym q.1) all in
    (whole.0, later_part (after_step nothing y) ys q.0 whole.1)

-- the first step of those that wait, after those that were entered
pub judged_first : (entered backlog rest : List Step) (step : Step) → AreJudged entered → AreJudged (entered ++ backlog) → backlog ≡ step ∷ rest → AreJudged (entered ++ step ∷ [])
judged_first entered backlog rest step are all is =
    judged_between entered (entered ++ step ∷ []) (entered ++ backlog) are (step ∷ [], refl) (rest, append_assoc entered (step ∷ []) rest ∙ ap (λ (l : List Step). entered ++ l) (sym is)) all

-- one of two
pub either_judged : (k l m : Known) → AreJudged k.steps → AreJudged l.steps → (m ≡ k) ⊎ (m ≡ l) → AreJudged m.steps
either_judged k l m one other is =
    elim is [ inl same ↦ subst (λ (n : Known). AreJudged n.steps) (sym same) one | inr same ↦ subst (λ (n : Known). AreJudged n.steps) (sym same) other ]
