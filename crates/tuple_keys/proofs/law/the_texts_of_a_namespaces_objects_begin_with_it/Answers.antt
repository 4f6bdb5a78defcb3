use Rattle.tuple_keys.proofs.Prefixes.{objects_begin}
use Rattle.tuple_keys.proofs.law.the_texts_of_a_namespaces_objects_begin_with_it.Goals as goal

pub returns : goal.returns
returns c = objects_begin
