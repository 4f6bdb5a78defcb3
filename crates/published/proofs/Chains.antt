-- Posts that lead from one list to another.
use Rattle.std.proofs.Common.{◌≡◌, ◌+◌, List, [], ◌∷◌, ◌++◌, length, length-append, arith, fold, refl, ap, sym, ◌∙◌, subst, Option, None, option_to_list}
use Rattle.std.proofs.lemmas.List.{append-nil}
use Rattle.shown.specs.declared.step.Step.{Step}
use Rattle.shown.specs.Standing.{after_step, standing}
use Rattle.published.specs.Known.{Known, next_of, Begins}
use Rattle.published.specs.Copies.{Copy, Posted, absorbed, Stands, Chain}
use Rattle.published.proofs.Standings.{standing_next}
use Rattle.published.specs.Judged.{AreJudged}
use Rattle.published.proofs.Judging.{judged_between}
use Rattle.published.proofs.Rules.{begins_self, begins_trans}

-- a copy still stands for its list after the post that follows, where that list was judged
pub absorbed_stands : (x : Copy) (p : Posted) → p.after ≡ next_of x.prefix p.step → AreJudged p.after.steps → Stands x → Stands (absorbed x p)
absorbed_stands x p is judged stands = (ap (λ s. after_step s p.step) stands.0 ∙ (sym (standing_next x.prefix.steps p.step) ∙ ap (λ (k : Known). standing k.steps) (sym is)), judged)

pub begins_next : (k l : Known) (step : Step) → l ≡ next_of k step → Begins k l
begins_next k l step is = subst (λ (m : Known). Begins k m) (sym is) (refl, (step ∷ [], refl))

pub chain_begins : (k : Known) (posts : List Posted) (end : Known) → Chain k posts end → Begins k end
chain_begins k [] end is = subst (λ (m : Known). Begins k m) is (begins_self k)
chain_begins k (p ∷ posts) end chain = begins_trans k p.after end (begins_next k p.after p.step chain.0) (chain_begins p.after posts end chain.1)

-- after some of the posts, which lead to a list that was judged
module _ (more : List Posted) (end : Known) where
  pub chain_stands : (x : Copy) (posts : List Posted) → Chain x.prefix (posts ++ more) end → AreJudged end.steps → Stands x → Stands (fold absorbed x posts)
  chain_stands x [] chain judged stands = stands
  chain_stands x (p ∷ posts) chain judged stands =
      let on = begins_next x.prefix p.after p.step chain.0 in
      let rest = chain_begins p.after (posts ++ more) end chain.1 in
      let here : AreJudged p.after.steps = judged_between x.prefix.steps p.after.steps end.steps stands.1 on.1 rest.1 judged in
      chain_stands (absorbed x p) posts chain.1 judged (absorbed_stands x p chain.0 here stands)

  pub chain_goes_on : (x : Copy) (posts : List Posted) → Chain x.prefix (posts ++ more) end → Begins x.prefix (fold absorbed x posts).prefix
  chain_goes_on x [] chain = begins_self x.prefix
  chain_goes_on x (p ∷ posts) chain = begins_trans x.prefix p.after (fold absorbed (absorbed x p) posts).prefix (begins_next x.prefix p.after p.step chain.0) (chain_goes_on (absorbed x p) posts chain.1)

  pub chain_done : (x : Copy) (posts : List Posted) → Chain x.prefix (posts ++ more) end → Chain (fold absorbed x posts).prefix more end
  chain_done x [] chain = chain
  chain_done x (p ∷ posts) chain = chain_done (absorbed x p) posts chain.1

-- one post more
pub chain_one_more : (k : Known) (posts : List Posted) (end : Known) (p : Posted) → Chain k posts end → p.after ≡ next_of end p.step → Chain k (posts ++ p ∷ []) p.after
chain_one_more k [] end p is next = (subst (λ (m : Known). p.after ≡ next_of m p.step) (sym is) next, refl)
chain_one_more k (q ∷ posts) end p chain next = (chain.0, chain_one_more q.after posts end p chain.1 next)

-- all posts
chain_all : (k : Known) (posts : List Posted) (end : Known) → Chain k posts end → Chain k (posts ++ []) end
chain_all k posts end chain = subst (λ (ps : List Posted). Chain k ps end) (sym (append-nil posts)) chain

pub all_stand : (x : Copy) (posts : List Posted) (end : Known) → Chain x.prefix posts end → AreJudged end.steps → Stands x → Stands (fold absorbed x posts)
all_stand x posts end chain = chain_stands [] end x posts (chain_all x.prefix posts end chain)

pub all_go_on : (x : Copy) (posts : List Posted) (end : Known) → Chain x.prefix posts end → Begins x.prefix (fold absorbed x posts).prefix
all_go_on x posts end chain = chain_goes_on [] end x posts (chain_all x.prefix posts end chain)

-- what was stuck is handed over, and the next post is made
pub chain_moves : (k k' : Known) (old new : List Posted) (stuck stuck' : Option Posted) (end : Known) (p : Posted)
    → Chain k (old ++ option_to_list stuck) end → k' ≡ k → new ++ option_to_list stuck' ≡ old ++ option_to_list stuck → stuck' ≡ None → p.after ≡ next_of end p.step
    → Chain k' (new ++ p ∷ []) p.after
chain_moves k k' old new stuck stuck' end p chain same order none next =
    let all : new ≡ old ++ option_to_list stuck = sym (append-nil new) ∙ (ap (λ o. new ++ option_to_list o) (sym none) ∙ order) in
    let before : Chain k new end = subst (λ (ps : List Posted). Chain k ps end) (sym all) chain in
    subst (λ (m : Known). Chain m (new ++ p ∷ []) p.after) (sym same) (chain_one_more k new end p before next)

-- each post adds a step
pub chain_length : (k : Known) (posts : List Posted) (end : Known) → Chain k posts end → length end.steps ≡ length k.steps + length posts
chain_length k [] end is = omega (arith, ap (λ (m : Known). length m.steps) is)
chain_length k (p ∷ posts) end chain =
    omega (arith, chain_length p.after posts end chain.1, ap (λ (m : Known). length m.steps) chain.0, length-append k.steps (p.step ∷ []))
