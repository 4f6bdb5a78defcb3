use Rattle.std.proofs.Common.{[], ◌+◌, drop, length, ap, sym, ◌∙◌, subst, arith}
use Rattle.std.specs.List.Sorted.{IsStrictlyIncreasing}
use Rattle.std.proofs.lemmas.List.{length-map}
use Rattle.leopard.specs.inside.Building.{HasId, Tells, NamesOne}
use Rattle.leopard.proofs.DirectSets.{no_id, each_empty, none_ascends}
use Rattle.leopard.proofs.Finding.{all_yet}
use Rattle.leopard.proofs.Gather.{gather_more, gather_all, left_at, left_none, any_contains, item_there}
use Rattle.leopard.proofs.members.direct_of.Goals as goal

pub loop-tuple-init : goal.loop-tuple-init
loop-tuple-init c = record {
  even = ap length c.in_ok-sets.ensures ∙ length-map c.as_slice.result.now (λ _. []) ∙ ap length c.as_slice.ensures.names;
  ascending = λ at. subst IsStrictlyIncreasing (sym (each_empty c.as_slice.result.now c.in_ok-sets.sets.items c.in_ok-sets.ensures at)) none_ascends;
  told = λ u id. all_yet (HasId c.args.users.now c.in_ok-sets.sets.items u id) _ _
      (no_id c.args.users.now c.in_ok-sets.sets.items u id (each_empty c.as_slice.result.now c.in_ok-sets.sets.items c.in_ok-sets.ensures)) (λ h. h, λ h. h);
}

pub note-requires : goal.note-requires
note-requires c =
    let there = item_there c.args.tuples.now c.loop-tuple.tuple-index c.tuple-item.result c.loop-tuple-test.true c.tuple-item.is in
    record {
      distinct = c.requires.distinct;
      even = c.loop-tuple.invariant.even;
      ascending = c.loop-tuple.invariant.ascending;
      listed = λ u named. c.requires.listed u (any_contains (NamesOne c.args.config.now u) c.args.tuples.now c.tuple-item.result there named);
    }

pub loop-tuple-preserved : goal.loop-tuple-preserved
loop-tuple-preserved c = record {
  even = c.in_ok-note.ensures.even;
  ascending = c.in_ok-note.ensures.ascending;
  told = λ u id. gather_more (Tells c.args.config.now c.args.groups.now u id) _ (HasId c.args.users.now c.loop-tuple.sets.items u id) (HasId c.args.users.now c.note.new.sets.items u id)
      (drop c.loop-tuple.tuple-index c.args.tuples.now) c.tuple-item.result (drop (c.loop-tuple.tuple-index + 1) c.args.tuples.now)
      (left_at c.args.tuples.now c.loop-tuple.tuple-index c.tuple-item.result c.loop-tuple-test.true c.tuple-item.is)
      (c.loop-tuple.invariant.told u id) (c.in_ok-note.ensures.gains u id);
}

pub returns-clause-told : goal.returns-clause-told
returns-clause-told c u id = gather_all (Tells c.args.config.now c.args.groups.now u id) _ (HasId c.args.users.now c.loop-tuple.sets.items u id) (drop c.loop-tuple.tuple-index c.args.tuples.now)
    (left_none c.args.tuples.now c.loop-tuple.tuple-index (omega (arith, c.loop-tuple-test.false, c.loop-tuple.auto.tuple-index-end)))
    (c.loop-tuple.invariant.told u id)
