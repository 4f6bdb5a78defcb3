use Rattle.tuple_keys.proofs.Prefixes.{object_begins}
use Rattle.tuple_keys.proofs.law.an_objects_texts_begin_with_its_text.Goals as goal

pub returns : goal.returns
returns c = object_begins
