use Rattle.tuple_keys.proofs.Spellings.{starts_not_below}
use Rattle.tuple_keys.proofs.law.texts_are_not_below_their_start.Goals as goal

pub returns : goal.returns
returns c = λ start text. starts_not_below text start
