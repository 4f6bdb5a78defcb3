use Rattle.std.proofs.Common.{inr, sym}
use Rattle.std.proofs.lemmas.Bool.{leb-true}
use Rattle.meaning.proofs.TupleSets.{exact_tuples}
use Rattle.store.specs.inside.Reading.{as_span}
use Rattle.store.proofs.Adjacent.{greater_refused}
use Rattle.store.proofs.spans.precedes.Goals as goal

pub returns-then-a-gt0-clause-passes : goal.returns-then-a-gt0-clause-passes
returns-then-a-gt0-clause-passes c = λ h. inr (exact_tuples c.args.a.now.tuple c.args.b.now.tuple (sym c.in-Equal.ensures), c.if-a-gt0.true, leb-true c.args.a.now.removed c.args.b.now.added h)

pub returns-in-Greater-clause-refuses : goal.returns-in-Greater-clause-refuses
returns-in-Greater-clause-refuses c = λ _ before. greater_refused (as_span c.args.a.now) (as_span c.args.b.now) c.in-Greater.ensures before
