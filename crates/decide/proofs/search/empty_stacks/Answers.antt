use Rattle.std.proofs.Common.{◌+◌, ◌∷◌, [], ℕ, length, ap, ◌∙◌, sym, subst, ⊎_elim, length-append}
use Rattle.std.specs.Prelude.{Contains, Vec}
use Rattle.std.specs.Global.{Global}
use Rattle.std.proofs.lemmas.List.Elements.{Contains-push_cases}
use Rattle.decide.proofs.search.empty_stacks.Goals as goal

pub loop-preserved : goal.loop-preserved
loop-preserved c = record {
  long = ap length c.in_ok-push.ensures.items ∙ length-append c.loop.stacks.items (c.new.result ∷ []) ∙ ap (λ n. n + 1) c.loop.invariant.long;
  empty = λ w in_new. ⊎_elim
      (c.loop.invariant.empty w)
      (λ same. ap (λ (x : Vec ℕ Global). x.items) (sym same) ∙ c.new.ensures.items)
      (Contains-push_cases c.loop.stacks.items c.new.result w (subst (λ xs. Contains xs w) c.in_ok-push.ensures.items in_new));
}
