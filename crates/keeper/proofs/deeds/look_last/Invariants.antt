use Rattle.std.specs.Prelude.{◌≡◌, length}
use Rattle.std.specs.Vec.Iter.{into_iter_items, into_iter_len}
use Rattle.keeper.specs.Deeds.{AllStandIn}
use Rattle.keeper.proofs.deeds.look_last.Given as goal

-- where those that are left stand in the log, all do
abbrev pub invariant-loop-place : goal.invariant-loop-place
invariant-loop-place g l = record {
  count : into_iter_len l.place-iterator ≡ length (into_iter_items l.place-iterator);
  same : l.log ≡ l.initial.log;
  stand : AllStandIn l.initial.log (into_iter_items l.place-iterator) → AllStandIn l.initial.log l.fn.places.items;
}
