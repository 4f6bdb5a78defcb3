use Rattle.std.proofs.Common.{length, sym, subst, ◌∙◌}
use Rattle.std.specs.List.Sorted.{IsStrictlyIncreasing}
use Rattle.std.proofs.lemmas.Bool.{eqb-true}
use Rattle.leopard.proofs.Making.{ids_first, ids_next, ids_last, none_of_length}
use Rattle.leopard.proofs.closing.walk_set.Goals as goal

pub loop-init : goal.loop-init
loop-init c = ids_first c.args.arcs.now c.args.from c.in_ok-all.all c.in_ok-fresh.fresh c.in_ok-all.ensures c.in_ok-fresh.ensures

pub loop-preserved : goal.loop-preserved
loop-preserved c = ids_next c.args.arcs.now c.args.from c.loop.all c.loop.fresh c.as_slice-ids.result.now c.in_ok-ends.ends c.in_ok-fresh-2.fresh c.in_ok-all-2.all
    c.loop.invariant c.as_slice-ids.ensures.ids c.in_ok-ends.ensures c.in_ok-fresh-2.ensures.members c.in_ok-all-2.ensures.members

pub returns-then-is_empty : goal.returns-then-is_empty
returns-then-is_empty c = record {
  ascending = subst IsStrictlyIncreasing c.as_slice.ensures.ids c.as_slice.ensures.ascending;
  ids = ids_last c.args.arcs.now c.args.from c.loop.all c.loop.fresh c.loop.invariant
      (sym c.as_slice-ids.ensures.ids ∙ none_of_length c.as_slice-ids.result.now (eqb-true (length c.as_slice-ids.result.now) 0 (sym c.is_empty.ensures ∙ c.if-is_empty.true)));
}
