-- What stands at the places of a write's operations.
use Rattle.std.specs.Prelude.{ℕ, List, Option, slice_get}
use Rattle.std.specs.Option.{option_map}
use Rattle.names.specs.declared.tuple.Tuple.{Tuple}
use Rattle.names.specs.declared.write.Op.{Op}

-- the tuple of the operation at a place, if there is one
abbrev pub tuple_at : List Op → ℕ → Option Tuple
tuple_at ops p = option_map (λ o. o.tuple) (slice_get ops p)
