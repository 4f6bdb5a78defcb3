use Rattle.std.proofs.Common.{ap, inl, ◌∙◌}
use Rattle.meaning.specs.TupleSet as set
use Rattle.meaning.specs.TupleSet.{Tuples}
use Rattle.meaning.proofs.TupleSets.{from_items}
use Rattle.history_tests.proofs.lookups.index_of.Goals as goal

pub returns : goal.returns
returns c t there =
    let same = ap set.from_list (c.of.ensures ∙ c.in_ok-tuples.ensures) ∙ from_items c.args.view.now.tuples in
    c.in_ok-found.ensures t (inl (ap (λ (s : Tuples). set.contains s t) same ∙ there))
