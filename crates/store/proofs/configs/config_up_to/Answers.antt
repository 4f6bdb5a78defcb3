use Rattle.std.proofs.Common.{◌-◌, ◌<◌, length, ap, sym, ◌∙◌, arith}
use Rattle.store.specs.Written.{ConfigAt}
use Rattle.store.proofs.Halving.{rises, last_none, last_is}
use Rattle.store.proofs.configs.config_up_to.Goals as goal

pub returns-then-after-eq0 : goal.returns-then-after-eq0
returns-then-after-eq0 c =
    c.requires.empty ∙ sym (ap (λ (l : ConfigAt). l.config) (last_none c.args.rev c.args.configs.now (λ k d less. c.first_after-after.ensures.after k d (omega (arith, c.if-after-eq0.true)) less)))

pub returns : goal.returns
returns c =
    let parted = c.first_after-after.ensures in
    let n = c.first_after-after.result - 1 in
    let x = c.index-configs-after.result in
    let within : c.first_after-after.result - 1 < length c.args.configs.now = omega (arith, c.if-after-eq0.false, parted.within) in
    sym (ap (λ (l : ConfigAt). l.config) (last_is c.args.rev c.args.configs.now n x (rises c.args.configs.now c.requires.rise) within
    (c.requires.later n x within) (parted.before n x (omega (arith, c.if-after-eq0.false))) (λ k e above less. parted.after k e (omega (arith, above)) less)))
