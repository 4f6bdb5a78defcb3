use Rattle.tuple_keys.proofs.Spellings.{texts_order}
use Rattle.tuple_keys.proofs.law.texts_are_ordered_as_tuples.Goals as goal

pub returns : goal.returns
returns c = texts_order
