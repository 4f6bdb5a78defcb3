use Rattle.tuple_keys.proofs.Spellings.{spelling_of, tuple_of_spelled}
use Rattle.tuple_keys.proofs.law.each_tuple_has_a_text.Goals as goal

pub returns : goal.returns
returns c = λ t is. (spelling_of t is, tuple_of_spelled t is)
