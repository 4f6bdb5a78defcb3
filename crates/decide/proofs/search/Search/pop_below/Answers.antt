use Rattle.std.proofs.Common.{rules, ◌≡◌, ◌<◌, ◌≤◌, ◌-◌, ◌++◌, ◌∷◌, [], ℕ, List, length, get_or, set, ap, ◌∙◌, sym, subst, ⊎_elim, arith, inl, inr}
use Rattle.std.specs.Prelude.{Vec, Contains}
use Rattle.std.specs.Option.{option_to_list}
use Rattle.std.specs.Global.{Global}
use Rattle.std.proofs.lemmas.Bool.{cases_lt}
use Rattle.std.proofs.lemmas.List.{length-set}
use Rattle.decide.proofs.Elements.{Holds, holds_same, nothing_in}
use Rattle.decide.proofs.Pushing.{IsOn}
use Rattle.decide.proofs.Popping.{popped_before, popped_here, popped_rest, if_some}
use Rattle.decide.specs.declared.search.Frame.{Frame}
use Rattle.decide.specs.inside.Ending.{left_on}
use Rattle.decide.proofs.Counting.{left_popped}
use Rattle.decide.proofs.search.Search.pop_below.Goals as goal

stood : (xs ys : List (Vec ℕ Global)) (left : ℕ) (v : Vec ℕ Global) → left ≤ length ys → 0 < left
    → v ≡ get_or xs (left - 1) v → xs ≡ ys → Holds ys (left - 1) v
stood xs ys left v there some read same =
    let lt : left - 1 < length ys = omega (arith, there, some) in
    (lt, sym (read ∙ ap (λ zs. get_or zs (left - 1) v) same))

pub returns-then-not-is_empty-clause-long : goal.returns-then-not-is_empty-clause-long
returns-then-not-is_empty-clause-long c =
    length-set c.loop-left.self.stacks.items (c.loop-left.left - 1) c.pop.new.self ∙ ap length c.loop-left.invariant.stacks

pub returns-then-not-is_empty-clause-stacked : goal.returns-then-not-is_empty-clause-stacked
returns-then-not-is_empty-clause-stacked c l i on =
    popped_before c.args.self.now.stacks.items (c.loop-left.left - 1) c.index_mut.result.now c.pop.new.self (option_to_list c.pop.result) (stood c.loop-left.self.stacks.items c.args.self.now.stacks.items c.loop-left.left c.index_mut.result.now c.loop-left.invariant.there c.loop-left-test.true c.index_mut.ensures.value c.loop-left.invariant.stacks) c.pop.ensures.items l i
    (subst (λ xs. IsOn (set xs (c.loop-left.left - 1) c.pop.new.self) l i) c.loop-left.invariant.stacks on)

pub returns-then-not-is_empty-clause-some : goal.returns-then-not-is_empty-clause-some
returns-then-not-is_empty-clause-some c = if_some c.pop.result _ (λ n is.
    let old = c.args.self.now.stacks.items in
    let one = ap option_to_list is in (
      (c.loop-left.left - 1, popped_here old (c.loop-left.left - 1) c.index_mut.result.now c.pop.new.self (option_to_list c.pop.result) (stood c.loop-left.self.stacks.items c.args.self.now.stacks.items c.loop-left.left c.index_mut.result.now c.loop-left.invariant.there c.loop-left-test.true c.index_mut.ensures.value c.loop-left.invariant.stacks) c.pop.ensures.items n one),
      λ l i on. ⊎_elim inl
          (λ left. inr (subst (λ xs. IsOn (set xs (c.loop-left.left - 1) c.pop.new.self) l i) (sym c.loop-left.invariant.stacks) left))
          (popped_rest old (c.loop-left.left - 1) c.index_mut.result.now c.pop.new.self (option_to_list c.pop.result) (stood c.loop-left.self.stacks.items c.args.self.now.stacks.items c.loop-left.left c.index_mut.result.now c.loop-left.invariant.there c.loop-left-test.true c.index_mut.ensures.value c.loop-left.invariant.stacks) c.pop.ensures.items n one l i on),
    ))

pub loop-left-preserved : goal.loop-left-preserved
loop-left-preserved c = record {
  opened = c.loop-left.invariant.opened;
  frames = c.loop-left.invariant.frames;
  stacks = c.loop-left.invariant.stacks;
  there = omega (arith, c.loop-left.invariant.there);
  low = omega (arith, c.loop-left.invariant.low);
  empty = λ k i above below on. ⊎_elim
      (λ less.
      let (v, lt, read, at) = on in
      let here : c.loop-left.left - 1 ≡ k = omega (arith, less, above) in
      let item : Holds c.args.self.now.stacks.items k c.index.result.now =
      subst (λ q. Holds c.args.self.now.stacks.items q c.index.result.now) here
      (omega (arith, here, lt), sym (c.index.ensures ∙ ap (λ xs. get_or xs (c.loop-left.left - 1) c.index.result.now) c.loop-left.invariant.stacks)) in
      let same : c.index.result.now ≡ v = holds_same c.args.self.now.stacks.items k c.index.result.now v item (lt, read) in
      let empty : length c.index.result.now.items ≡ 0 = search rules in
      nothing_in c.index.result.now.items i empty (subst (λ (x : Vec ℕ Global). Contains x.items i) (sym same) at))
      (λ more. c.loop-left.invariant.empty k i more below on)
      (cases_lt k c.loop-left.left);
}

pub returns-clause-stacked : goal.returns-clause-stacked
returns-clause-stacked c l i on = subst (λ xs. IsOn xs l i) c.loop-left.invariant.stacks on

pub returns-clause-empty : goal.returns-clause-empty
returns-clause-empty c l i below on = c.loop-left.invariant.empty l i (omega arith) below on

pub returns-then-not-is_empty-clause-below : goal.returns-then-not-is_empty-clause-below
returns-then-not-is_empty-clause-below c = if_some c.pop.result _ (λ n is.
    let one = ap option_to_list is in
    let some : 0 < c.loop-left.left = c.loop-left-test.true in (
      c.loop-left.left - 1,
      omega (arith, some, c.loop-left.invariant.low),
      popped_here c.args.self.now.stacks.items (c.loop-left.left - 1) c.index_mut.result.now c.pop.new.self (option_to_list c.pop.result) (stood c.loop-left.self.stacks.items c.args.self.now.stacks.items c.loop-left.left c.index_mut.result.now c.loop-left.invariant.there c.loop-left-test.true c.index_mut.ensures.value c.loop-left.invariant.stacks) c.pop.ensures.items n one,
    ))

pub returns-then-not-is_empty-clause-ends : goal.returns-then-not-is_empty-clause-ends
returns-then-not-is_empty-clause-ends c = if_some c.pop.result _ (λ n is.
    let old = c.args.self.now.stacks.items in
    let k = c.loop-left.left - 1 in
    let last : c.index_mut.result.now.items ≡ c.pop.new.self.items ++ n ∷ [] = c.pop.ensures.items ∙ ap (λ o. c.pop.new.self.items ++ option_to_list o) is in
    let less : left_on (set old k c.pop.new.self) c.args.self.now.frames.items < left_on old c.args.self.now.frames.items =
    left_popped old c.args.self.now.frames.items k c.index_mut.result.now c.pop.new.self n (stood c.loop-left.self.stacks.items old c.loop-left.left c.index_mut.result.now c.loop-left.invariant.there c.loop-left-test.true c.index_mut.ensures.value c.loop-left.invariant.stacks) last in
    let stacks : left_on (set c.loop-left.self.stacks.items k c.pop.new.self) c.loop-left.self.frames.items ≡ left_on (set old k c.pop.new.self) c.loop-left.self.frames.items =
    ap (λ xs. left_on (set xs k c.pop.new.self) c.loop-left.self.frames.items) c.loop-left.invariant.stacks in
    let frames : left_on (set old k c.pop.new.self) c.loop-left.self.frames.items ≡ left_on (set old k c.pop.new.self) c.args.self.now.frames.items =
    ap (λ (v : Vec Frame Global). left_on (set old k c.pop.new.self) v.items) c.loop-left.invariant.frames in
    omega (arith, less, stacks, frames))
