-- What an index is built from.
use Rattle.std.specs.Prelude.{◌≡◌, true, List, Contains}
use Rattle.std.specs.List.Sorted.{IsStrictlySortedBy}
use Rattle.names.specs.Order.{tuple_cmp}
use Rattle.names.specs.declared.tuple.Tuple.{Tuple}
use Rattle.meaning.specs.Config.{Configured}
use Rattle.meaning.specs.Admits.{admits}

-- they are in ascending order, each once, and the configuration admits each
pub record AreTuplesOf (config : Configured) (tuples : List Tuple) : Type 0 where
  pub ordered : IsStrictlySortedBy tuple_cmp tuples
  pub admitted : (t : Tuple) → Contains tuples t → admits config t ≡ true
