use Rattle.std.proofs.Common.{arith}
use Rattle.std.proofs.lemmas.Bool.{leb-false}
use Rattle.store.proofs.Enough.{few_refused}
use Rattle.store.proofs.reading.are_enough.Goals as goal

pub returns : goal.returns
returns c = λ few.
    let less = leb-false _ _ few in
    few_refused c.args.head c.args.spans.now c.args.configs.now c.requires.order (omega (arith, less, c.saturating_mul.ensures, c.saturating_add-most.ensures, c.requires.revs))
