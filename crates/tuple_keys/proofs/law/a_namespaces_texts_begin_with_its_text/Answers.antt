use Rattle.tuple_keys.proofs.Prefixes.{namespace_begins}
use Rattle.tuple_keys.proofs.law.a_namespaces_texts_begin_with_its_text.Goals as goal

pub returns : goal.returns
returns c = λ n namespace is name. namespace_begins n is namespace name
