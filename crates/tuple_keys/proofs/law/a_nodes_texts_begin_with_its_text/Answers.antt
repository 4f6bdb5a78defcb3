use Rattle.tuple_keys.proofs.Prefixes.{node_begins}
use Rattle.tuple_keys.proofs.law.a_nodes_texts_begin_with_its_text.Goals as goal

pub returns : goal.returns
returns c = node_begins
