use Rattle.tuple_keys.proofs.Spellings.{none_starts_after}
use Rattle.tuple_keys.proofs.law.texts_that_begin_alike_stand_together.Goals as goal

pub returns : goal.returns
returns c = λ start text later. none_starts_after text later start
