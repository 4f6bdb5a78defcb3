use Rattle.std.proofs.Common.{◌≡◌, take, length, min}
use Rattle.tuple_keys.specs.Packed.{text_of}
use Rattle.tuple_keys.proofs.kept_events.room_of.Given as goal

abbrev pub invariant-loop-one : goal.invariant-loop-one
invariant-loop-one l = l.room ≡ min (length (text_of (take l.one-index l.events))) 18446744073709551615
