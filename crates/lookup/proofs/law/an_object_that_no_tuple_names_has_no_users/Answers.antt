use Rattle.lookup.proofs.Known.{only_known}
use Rattle.lookup.proofs.law.an_object_that_no_tuple_names_has_no_users.Goals as goal

pub returns : goal.returns
returns c = only_known
