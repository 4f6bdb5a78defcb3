use Rattle.std.proofs.Common.{rules, ◌≡◌, ◌<◌, ◌+◌, ℕ, length, get_or, ap, ◌∙◌, sym, subst, ⊎_elim, arith, length-take}
use Rattle.std.specs.Prelude.{Contains, Vec}
use Rattle.std.specs.Global.{Global}
use Rattle.std.proofs.lemmas.Bool.{cases_lt}
use Rattle.std.proofs.lemmas.List.{get_or-take}
use Rattle.std.proofs.lemmas.List.Elements.{Contains-get_or}
use Rattle.decide.proofs.Elements.{holds_same, nothing_in}
use Rattle.decide.proofs.search.Search.is_settled.Goals as goal

pub loop-stack-preserved : goal.loop-stack-preserved
loop-stack-preserved c k i below on = ⊎_elim
    (λ before. c.loop-stack.invariant k i before on)
    (λ above.
    let (v, lt, read, at) = on in
    let stacks = c.args.self.now.stacks.items in
    let here : c.loop-stack.stack-index ≡ k = omega (arith, above, below) in
    let within : c.loop-stack.stack-index < length stacks = omega (arith, here, lt) in
    let item : c.stack-item.result ≡ get_or stacks c.loop-stack.stack-index c.stack-item.result =
    c.stack-item.is
    ∙ get_or-take (c.args.level + 1) c.deref.result.now c.loop-stack.stack-index c.stack-item.result (omega (arith, length-take (c.args.level + 1) c.deref.result.now))
    ∙ ap (λ xs. get_or xs c.loop-stack.stack-index c.stack-item.result) c.deref.ensures.value in
    let same : c.stack-item.result ≡ v =
    holds_same stacks c.loop-stack.stack-index c.stack-item.result v (within, sym item) (within, ap (λ q. get_or stacks q v) here ∙ read) in
    let empty : length c.stack-item.result.items ≡ 0 = search rules in
    nothing_in c.stack-item.result.items i empty (subst (λ (x : Vec ℕ Global). Contains x.items i) (sym same) at))
    (cases_lt k c.loop-stack.stack-index)

pub returns-clause-yes : goal.returns-clause-yes
returns-clause-yes c _ l i below on =
    let (v, lt, read, at) = on in
    let long = length-take (c.args.level + 1) c.deref.result.now in
    let same = ap length c.deref.ensures.value in
    c.loop-stack.invariant l i (omega arith) on

pub returns-then-not-is_empty-clause-no : goal.returns-then-not-is_empty-clause-no
returns-then-not-is_empty-clause-no c _ =
    let stacks = c.args.self.now.stacks.items in
    let k = c.loop-stack.stack-index in
    let long = length-take (c.args.level + 1) c.deref.result.now in
    let test = c.loop-stack-test.true in
    let same = ap length c.deref.ensures.value in
    let within : k < length stacks = omega arith in
    let item : c.stack-item.result ≡ get_or stacks k c.stack-item.result =
    c.stack-item.is
    ∙ get_or-take (c.args.level + 1) c.deref.result.now k c.stack-item.result (omega (arith, long))
    ∙ ap (λ xs. get_or xs k c.stack-item.result) c.deref.ensures.value in
    let some : 0 < length c.stack-item.result.items = search rules in
    (k, get_or c.stack-item.result.items 0 0, omega arith, (c.stack-item.result, within, sym item, Contains-get_or c.stack-item.result.items 0 0 some))
