use Rattle.facts_tests.proofs.Told.{if_ok_both}
use Rattle.facts_tests.proofs.table.gather_by.Goals as goal

pub returns : goal.returns
returns c = if_ok_both c.gather.result
    (λ region one all. (one.0, c.args.roots.now, c.args.turned.now, c.args.changed.now, all one.0 one.1))
    c.gather.ensures.agree c.gather.ensures.gathered
