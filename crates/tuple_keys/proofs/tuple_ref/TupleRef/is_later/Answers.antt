use Rattle.std.proofs.Common.{ap, ap₂, ◌∙◌}
use Rattle.std.specs.Ordering.{is_lt}
use Rattle.names.specs.Order.{tuple_cmp}
use Rattle.tuple_keys.proofs.Spellings.{texts_order}
use Rattle.tuple_keys.proofs.tuple_ref.TupleRef.is_later.Goals as goal

pub returns : goal.returns
returns c =
    c.lt.ensures
    ∙ ap is_lt (texts_order c.other.inside.text.now c.self.inside.text.now c.other.invariant c.self.invariant ∙ ap₂ tuple_cmp c.other.view_is c.self.view_is)
