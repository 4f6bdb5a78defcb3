use Rattle.meaning.specs.TupleSet as set
use Rattle.decide.proofs.Few.{read_more, some_mapped}
use Rattle.decide.proofs.ReadTuples.{some_kept_at}
use Rattle.decide.proofs.reads.Reads.read.Goals as goal

pub named_by-requires : goal.named_by-requires
named_by-requires c = some_kept_at c.args.object.now (set.items c.args.facts.now.tuples) c.in_ok-few.few c.in_ok-few.ensures

pub returns-clause-read : goal.returns-clause-read
returns-clause-read c =
    read_more c.args.facts.now c.args.self.now.read.items c.push.new.self.items c.args.object.now (record { object = c.again.result; few = c.in_ok-few.few; named = c.in_ok-named.named }) c.in_ok-push.ensures.items
    c.again.ensures c.requires c.in_ok-few.ensures
    (some_mapped c.in_ok-named.named _ _ (λ n f. f c.args.facts.now c.in_ok-few.ensures) c.in_ok-named.ensures)
