use Rattle.std.proofs.Common.{subst}
use Rattle.std.specs.Prelude.{Contains}
use Rattle.meaning.proofs.Lists.{contains_none}
use Rattle.decide.proofs.Elements.{contains_at}
use Rattle.decide.proofs.search.Search.new.Goals as goal

pub returns-clause-stacked : goal.returns-clause-stacked
returns-clause-stacked c l i (v, lt, read, at) =
    let empty = c.in_ok-empty_stacks.ensures.empty v (contains_at c.in_ok-empty_stacks.field-0.items l v (lt, read)) in
    contains_none i (subst (λ xs. Contains xs i) empty at)
