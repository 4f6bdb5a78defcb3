use Rattle.std.proofs.Common.{◌≡◌, ◌+◌, ◌≤◌, ℕ, List, take, drop, suc, ap, sym, subst, ◌∙◌, arith}
use Rattle.rows.specs.declared.config_at.ConfigAt.{ConfigAt}
use Rattle.rows.specs.Representation.{config_after_settle, last_or, configs_above}
use Rattle.rows.proofs.ConfigsAt.{settle_more, above_more}
use Rattle.rows.proofs.config_at.count_up_to.Goals as goal

pub loop-i-preserved : goal.loop-i-preserved
loop-i-preserved c =
    let ds : List ConfigAt = c.args.configs.now in
    let rev : ℕ = c.args.rev in
    let k : ℕ = c.loop-i.i in
    let d : ConfigAt = c.index-configs-i.result in
    let next : suc k ≡ k + 1 = omega arith in
    let counts : d.rev ≤ rev = subst (λ (x : ConfigAt). x.rev ≤ rev) (sym c.index-configs-i.is) c.if-configs-i.false in
    record {
      config = λ config.
          c.loop-i.invariant.config config
          ∙ settle_more rev ds k d c.loop-i-test.true c.index-configs-i.is config counts
          ∙ ap (λ (n : ℕ). config_after_settle (last_or config (take n ds)) (drop n ds) rev) next;
      above = c.loop-i.invariant.above ∙ above_more rev ds k d c.loop-i-test.true c.index-configs-i.is counts ∙ ap (λ (n : ℕ). configs_above rev (drop n ds)) next;
    }
