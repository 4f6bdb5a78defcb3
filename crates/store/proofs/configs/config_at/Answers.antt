use Rattle.std.proofs.Common.{◌-◌, ap, sym, ◌∙◌, arith}
use Rattle.std.specs.Prelude.{Some}
use Rattle.store.specs.declared.parts.ReadConfig.{ReadConfig}
use Rattle.store.proofs.Halving.{rises, at_none, at_is, at_other}
use Rattle.store.proofs.configs.config_at.Goals as goal

pub returns-then-after-eq0 : goal.returns-then-after-eq0
returns-then-after-eq0 c =
    sym (at_none c.args.rev c.args.configs.now (λ k d less e. let later = c.first_after-after.ensures.after k d (omega (arith, c.if-after-eq0.true)) less in omega (arith, later, e)))

pub returns-then-last-rev : goal.returns-then-last-rev
returns-then-last-rev c =
    let n = c.first_after-after.result - 1 in
    let x = c.index-configs-after.result in
    ap (λ (y : ReadConfig). Some y.config) c.index-configs-after.is
    ∙ sym (at_is c.args.rev c.args.configs.now n x (rises c.args.configs.now c.requires) (omega (arith, c.if-after-eq0.false, c.first_after-after.ensures.within))
    (ap (λ (y : ReadConfig). y.rev) (sym c.index-configs-after.is) ∙ c.if-last-rev.true))

pub returns-else-last-rev : goal.returns-else-last-rev
returns-else-last-rev c =
    sym (at_other c.args.rev c.first_after-after.result c.args.configs.now c.index-configs-after.result (rises c.args.configs.now c.requires) (omega (arith, c.if-after-eq0.false))
    c.first_after-after.ensures c.index-configs-after.is c.if-last-rev.false)
