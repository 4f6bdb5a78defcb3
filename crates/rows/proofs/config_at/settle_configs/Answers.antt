use Rattle.std.proofs.Common.{◌≡◌, ◌<◌, ◌-◌, ℕ, List, length, take, suc, ap, sym, ◌∙◌, arith}
use Rattle.meaning.specs.Config.{Configured}
use Rattle.rows.specs.declared.config_at.ConfigAt.{ConfigAt}
use Rattle.rows.specs.Representation.{config_after_settle, last_or}
use Rattle.rows.proofs.ConfigsAt.{last_at}
use Rattle.rows.proofs.config_at.settle_configs.Goals as goal

pub returns-then-count-gt0-clause-config : goal.returns-then-count-gt0-clause-config
returns-then-count-gt0-clause-config c =
    let config : Configured = c.args.config.now in
    let ds : List ConfigAt = c.args.configs.now.items in
    let count : ℕ = c.count_up_to-count.result in
    let k : ℕ = count - 1 in
    let same : c.deref.result.now ≡ ds = c.deref.ensures.value in
    let within = c.count_up_to-count.ensures.within in
    let long = ap (λ (xs : List ConfigAt). length xs) same in
    let whole : suc k ≡ count = omega (arith, c.if-count-gt0.true) in
    let small : k < length ds = omega (arith, c.if-count-gt0.true, within, long) in
    c.swap.ensures.x_after
    ∙ sym (last_at config ds k c.index_mut-last.result.now small c.index_mut-last.ensures.value)
    ∙ ap (λ (n : ℕ). last_or config (take n ds)) whole
    ∙ ap (λ (xs : List ConfigAt). last_or config (take count xs)) (sym same)
    ∙ sym (c.count_up_to-count.ensures.config config)
    ∙ ap (λ (xs : List ConfigAt). config_after_settle config xs c.args.rev) same
