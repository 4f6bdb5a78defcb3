use Rattle.std.proofs.Common.{sym}
use Rattle.std.proofs.lemmas.Bool.{false≢true}
use Rattle.leopard.proofs.Ordered.{get_contains, contains_get}
use Rattle.leopard.proofs.sorted.Sorted.contains.Goals as goal

pub returns-in-Some-clause-yes : goal.returns-in-Some-clause-yes
returns-in-Some-clause-yes g c = λ e. get_contains c.args.self.now c.in-Some.field-0 c.args.name.now c.in-Some.ensures.found

pub returns-in-Some-clause-no : goal.returns-in-Some-clause-no
returns-in-Some-clause-no g c = λ e. absurd (false≢true (sym e))

pub returns-in-None-clause-yes : goal.returns-in-None-clause-yes
returns-in-None-clause-yes g c = λ e. absurd (false≢true e)

pub returns-in-None-clause-no : goal.returns-in-None-clause-no
returns-in-None-clause-no g c = λ e there. let (k, at) = contains_get c.args.self.now c.args.name.now there in c.in-None.ensures.missing k at
