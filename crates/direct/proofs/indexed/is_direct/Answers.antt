use Rattle.std.proofs.Common.{◌≡◌, true, not, sym, ap, subst, ◌∙◌}
use Rattle.std.specs.Prelude.{◌↔◌}
use Rattle.direct.specs.Named.{IsDirect}
use Rattle.direct.proofs.Tables.{direct_where, direct_nowhere}
use Rattle.direct.proofs.indexed.is_direct.Goals as goal

pub returns-then-is_none : goal.returns-then-is_none
returns-then-is_none c = direct_where c.args.config.now c.args.tuple.now c.is_group.result (c.is_none.ensures ∙ ap not c.if-is_none.true) c.is_group.ensures

pub returns-else-is_none : goal.returns-else-is_none
returns-else-is_none c = subst (λ b. (b ≡ true) ↔ IsDirect c.args.config.now c.args.tuple.now) (sym c.if-is_none.false)
    (direct_nowhere c.args.config.now c.args.tuple.now (c.is_none.ensures ∙ ap not c.if-is_none.false))
