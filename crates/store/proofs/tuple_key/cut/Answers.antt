use Rattle.std.proofs.Common.{arith, sym}
use Rattle.tuple_keys.proofs.Parts.{before_alone, after_alone}
use Rattle.tuple_keys.proofs.Cutting.{cut_at, uncut, before_cut, after_cut}
use Rattle.store.proofs.tuple_key.cut.Goals as goal

pub returns-in-Some-clause-before : goal.returns-in-Some-clause-before
returns-in-Some-clause-before c = before_cut 32 _ _ _ (cut_at 32 (omega arith) c.args.text.now (c.in-Some.before, c.in-Some.after) c.in-Some.ensures.cases)

pub returns-in-Some-clause-after : goal.returns-in-Some-clause-after
returns-in-Some-clause-after c = after_cut 32 _ _ _ (cut_at 32 (omega arith) c.args.text.now (c.in-Some.before, c.in-Some.after) c.in-Some.ensures.cases)

pub returns-in-None-clause-before : goal.returns-in-None-clause-before
returns-in-None-clause-before c = sym (before_alone 32 c.args.text.now (uncut 32 (omega arith) c.args.text.now c.in-None.ensures.cases))

pub returns-in-None-clause-after : goal.returns-in-None-clause-after
returns-in-None-clause-after c = sym (after_alone 32 c.args.text.now (uncut 32 (omega arith) c.args.text.now c.in-None.ensures.cases))
