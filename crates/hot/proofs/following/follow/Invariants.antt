use Rattle.std.proofs.Common.{ℕ, ◌≡◌, take}
use Rattle.std.specs.Prelude.{Some, Contains}
use Rattle.std.specs.List.{slice_get}
use Rattle.names.specs.declared.commit.Event.{Event}
use Rattle.meaning.specs.History.{replay}
use Rattle.meaning.specs.Snap.{Snap}
use Rattle.region.specs.declared.rule.Told.{Told}
use Rattle.facts.specs.Telling.{IsLater}
use Rattle.hot.specs.Kept.{told_of}
use Rattle.hot.specs.inside.Following.{AreTellable}
use Rattle.hot.proofs.following.follow.Given as goal

abbrev pub invariant-loop-event : goal.invariant-loop-event
invariant-loop-event l = record {
  nodes : l.numbers.nodes ≡ l.fn.numbers.nodes;
  later : IsLater l.fn.numbers.nodes l.numbers.nodes l.fn.numbers.users l.numbers.users;
  keys : (n : ℕ) (t : Told) → told_of l.told n ≡ Some t → (s : Told) × (told_of l.fn.told n ≡ Some s);
  same : (n : ℕ) (t : Told) → told_of l.told n ≡ Some t
      → ((e : Event) → Contains (take l.event-index l.events) e → slice_get l.fn.numbers.nodes n ≡ Some e.tuple.node → ⊥)
      → told_of l.fn.told n ≡ Some t;
  tells : (S : Snap) → AreTellable S l.fn.numbers.nodes l.fn.numbers.users l.sets.back l.fn.told
      → AreTellable (record { config = S.config; tuples = replay S.tuples (take l.event-index l.events) }) l.fn.numbers.nodes l.numbers.users l.sets.back l.told;
}
