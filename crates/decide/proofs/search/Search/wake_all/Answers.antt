use Rattle.std.proofs.Common.{◌≡◌, ◌+◌, ◌<◌, ◌++◌, ◌∷◌, [], ℕ, length, take, suc, refl, ap, ◌∙◌, sym, subst, arith}
use Rattle.std.specs.Prelude.{Contains}
use Rattle.std.proofs.Math.Seq.{take-suc}
use Rattle.std.proofs.lemmas.List.{take_all}
use Rattle.std.proofs.lemmas.List.Elements.{Contains-get_or}
use Rattle.decide.specs.inside.Searches.{Wakes}
use Rattle.decide.proofs.Elements.{Holds, holds_some}
use Rattle.decide.proofs.Giving.{wakes_none, wakes_one}
use Rattle.decide.proofs.search.Search.wake_all.Goals as goal

pub loop-i-init : goal.loop-i-init
loop-i-init c = record { opened = refl; wakes = wakes_none c.args.self.now }

pub wake-requires-clause-number : goal.wake-requires-clause-number
wake-requires-clause-number c =
    let within : c.loop-i.i < length c.args.waiting.now = omega (arith, c.loop-i-test.true, c.len-i-end.ensures) in
    let asked = c.requires c.get.result (subst (Contains c.args.waiting.now) (sym c.get.ensures) (Contains-get_or c.args.waiting.now c.loop-i.i 0 within)) in
    let lt = asked.0 in
    let same = ap length c.loop-i.invariant.opened in
    omega (arith, lt, same)

pub wake-requires-clause-there : goal.wake-requires-clause-there
wake-requires-clause-there c e at =
    let within : c.loop-i.i < length c.args.waiting.now = omega (arith, c.loop-i-test.true, c.len-i-end.ensures) in
    let asked = c.requires c.get.result (subst (Contains c.args.waiting.now) (sym c.get.ensures) (Contains-get_or c.args.waiting.now c.loop-i.i 0 within)) in
    let lt = asked.1 e (subst (λ xs. Holds xs c.get.result e) c.loop-i.invariant.opened at) in
    omega (arith, lt, c.loop-i.invariant.wakes.long)

pub loop-i-preserved : goal.loop-i-preserved
loop-i-preserved c =
    let items = c.args.waiting.now in
    let number = c.get.result in
    let within : c.loop-i.i < length c.args.waiting.now = omega (arith, c.loop-i-test.true, c.len-i-end.ensures) in
    let asked = c.requires number (subst (Contains c.args.waiting.now) (sym c.get.ensures) (Contains-get_or c.args.waiting.now c.loop-i.i 0 within)) in
    let (e, at) = holds_some c.args.self.now.opened.items number asked.0 in
    let now : Holds c.loop-i.self.opened.items number e = subst (λ xs. Holds xs number e) (sym c.loop-i.invariant.opened) at in
    let lt = asked.1 e at in
    let one = wakes_one c.args.self.now c.loop-i.self c.wake.new.self (take c.loop-i.i items) number e c.loop-i.invariant.wakes at (omega (arith, lt, c.loop-i.invariant.wakes.long)) (c.in_ok-wake.ensures.stacked e now) c.in_ok-wake.ensures.falling in
    let next : c.loop-i.i + 1 ≡ suc c.loop-i.i = omega arith in
    record {
      opened = c.in_ok-wake.ensures.opened ∙ c.loop-i.invariant.opened;
      wakes = subst (Wakes c.args.self.now c.wake.new.self)
          (sym (ap (λ n. take n items) next ∙ take-suc items c.loop-i.i 0 within ∙ ap (λ (n : ℕ). take c.loop-i.i items ++ n ∷ []) (sym c.get.ensures)))
          one;
    }

pub returns-clause-wakes : goal.returns-clause-wakes
returns-clause-wakes c =
    subst (Wakes c.args.self.now c.loop-i.self) (take_all c.loop-i.i c.args.waiting.now (omega (arith, c.loop-i-test.false, c.len-i-end.ensures))) c.loop-i.invariant.wakes
