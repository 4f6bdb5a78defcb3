use Rattle.std.proofs.Common.{◌≡◌, ℕ, ◌+◌, ◌-◌, ◌<◌, ◌++◌, length, map}
use Rattle.std.specs.VecDeque.{deque_len}
use Rattle.store.specs.Written.{tuples_alive}
use Rattle.store.specs.inside.Moves.{slot, moves}
use Rattle.store.specs.inside.Reading.{as_span}
use Rattle.store.proofs.placing.place_spans.Given as goal

-- what is placed and what is left are all
abbrev pub invariant-loop-span : goal.invariant-loop-span
invariant-loop-span l = record {
  count : deque_len l.rest ≡ length l.rest.items;
  alive : l.tuples.items ++ tuples_alive l.head.floor (map as_span l.rest.items) ≡ tuples_alive l.head.floor (map as_span l.fn.spans.items);
  len : length l.slots.items ≡ l.head.newest - l.head.floor;
  placed : (k : ℕ) → k < length l.slots.items → slot l.slots.items k ++ moves (l.head.floor + (k + 1)) (map as_span l.rest.items) ≡ moves (l.head.floor + (k + 1)) (map as_span l.fn.spans.items);
}

abbrev pub decreases-loop-span : goal.decreases-loop-span
decreases-loop-span l = deque_len l.rest
