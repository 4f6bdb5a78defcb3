use Rattle.std.proofs.Common.{ℕ, ◌≡◌, true, take}
use Rattle.std.specs.Prelude.{Contains, is_some}
use Rattle.std.specs.Ordering.{nat_cmp}
use Rattle.std.specs.BTreeMap.{get}
use Rattle.names.specs.declared.commit.Event.{Event}
use Rattle.meaning.specs.TupleSet.{Tuples}
use Rattle.meaning.specs.History.{replay}
use Rattle.direct.specs.Before.{set_in}
use Rattle.direct.specs.inside.Keeping.{AreRight}
use Rattle.direct.specs.inside.Renewing.{set_or, IsNumberOf}
use Rattle.direct.proofs.replacing.renewed.Given as goal

abbrev pub invariant-loop-event : goal.invariant-loop-event
invariant-loop-event l = record {
  users : (user : ℕ) → is_some (get nat_cmp l.renewed user) ≡ true → (e : Event) × Contains (take l.event-index l.events) e × IsNumberOf l.config l.kept e user;
  sets : (tuples : Tuples) → AreRight l.config l.kept (set_in l.kept.sets.items) tuples → AreRight l.config l.kept (set_or l.renewed l.kept.sets.items) (replay tuples (take l.event-index l.events));
}
