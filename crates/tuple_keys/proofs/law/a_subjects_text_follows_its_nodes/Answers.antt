use Rattle.tuple_keys.proofs.Prefixes.{subject_follows}
use Rattle.tuple_keys.proofs.law.a_subjects_text_follows_its_nodes.Goals as goal

pub returns : goal.returns
returns c = subject_follows
