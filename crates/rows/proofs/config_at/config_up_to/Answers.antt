use Rattle.std.proofs.Common.{◌≡◌, ◌<◌, ◌-◌, ℕ, List, length, take, suc, ap, sym, ◌∙◌, arith}
use Rattle.rows.specs.declared.config_at.ConfigAt.{ConfigAt}
use Rattle.rows.specs.Representation.{config_from}
use Rattle.rows.proofs.ConfigsAt.{config_counts, config_late}
use Rattle.rows.proofs.config_at.config_up_to.Goals as goal

pub returns-then-config_at-rev : goal.returns-then-config_at-rev
returns-then-config_at-rev c =
    let ds : List ConfigAt = c.args.configs.now in
    let k : ℕ = c.loop-left.left - 1 in
    let few = c.loop-left.invariant.few in
    let less : suc k ≡ c.loop-left.left = omega (arith, c.loop-left-test.true) in
    let small : k < length ds = omega (arith, c.loop-left-test.true, few) in
    sym (config_counts c.args.base.now ds k c.index-configs-left.result c.args.rev small c.index-configs-left.is c.if-config_at-rev.true)
    ∙ ap (λ (n : ℕ). config_from c.args.base.now (take n ds) c.args.rev) less
    ∙ c.loop-left.invariant.decides

pub loop-left-preserved : goal.loop-left-preserved
loop-left-preserved c =
    let ds : List ConfigAt = c.args.configs.now in
    let k : ℕ = c.loop-left.left - 1 in
    let few = c.loop-left.invariant.few in
    let less : suc k ≡ c.loop-left.left = omega (arith, c.loop-left-test.true) in
    let small : k < length ds = omega (arith, c.loop-left-test.true, few) in
    record {
      few = omega (arith, few);
      decides =
          sym (config_late c.args.base.now ds k c.index-configs-left.result c.args.rev small c.index-configs-left.is c.if-config_at-rev.false)
          ∙ ap (λ (n : ℕ). config_from c.args.base.now (take n ds) c.args.rev) less
          ∙ c.loop-left.invariant.decides;
    }
