-- A copy takes the next post of its book.
use Rattle.std.proofs.Common.{◌≡◌, ℕ, ◌+◌, List, [], ◌∷◌, ◌++◌, length, length-append, refl, ap, sym, ◌∙◌, subst, arith}
use Rattle.shown.specs.declared.step.Step.{Step}
use Rattle.shown.specs.Standing.{Standing, HasRoom}
use Rattle.published.specs.Known.{Known, next_of, Begins}
use Rattle.published.specs.Judged.{AreJudged}
use Rattle.published.specs.Copies.{Copy, Posted, Stands}
use Rattle.published.proofs.Prefixes.{prefix_same}
use Rattle.published.proofs.Judging.{last_judged}

-- a list that begins with all but the last step of another, and has one step less
pub next_by_length : (k before after : Known) (step : Step) → Begins k after → after ≡ next_of before step → length k.steps + 1 ≡ length after.steps → after ≡ next_of k step
next_by_length k before after step on is long =
    let book : k.book ≡ before.book = on.0 ∙ ap (λ (m : Known). m.book) is in
    let steps : after.steps ≡ before.steps ++ step ∷ [] = ap (λ (m : Known). m.steps) is in
    let count : length after.steps ≡ length before.steps + 1 = ap length steps ∙ length-append before.steps (step ∷ []) in
    let same : k.steps ≡ before.steps = prefix_same k.steps before.steps after.steps on.1 (step ∷ [], sym steps) (omega (arith, long, count)) in
    let one : k ≡ before = λ i. record { book = book i; steps = same i } in
    is ∙ ap (λ (m : Known). next_of m step) (sym one)

-- the step has room on the state
pub next_room : (x : Copy) (p : Posted) → Stands x → AreJudged p.after.steps → p.after ≡ next_of x.prefix p.step → HasRoom x.shown p.step
next_room x p stands judged is =
    let all : AreJudged (x.prefix.steps ++ p.step ∷ []) = subst (λ (k : Known). AreJudged k.steps) is judged in
    subst (λ (s : Standing). HasRoom s p.step) (sym stands.0) (last_judged x.prefix.steps p.step stands.1 all).0
