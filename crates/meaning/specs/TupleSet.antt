-- Sets of tuples. Two are equal where they have the same members. A set is a finite map with nothing at each tuple, as std's FinSet is, which hides its items.
use Rattle.std.specs.Prelude.{ℕ, Bool, List, [], ◌∷◌}
use Rattle.std.specs.FinMap as map
use Rattle.names.specs.Order.{tuple_cmp}
use Rattle.names.specs.declared.tuple.Tuple.{Tuple}

abbrev pub Tuples : Type 0
Tuples = map.FinMap tuple_cmp (Unit {0})

abbrev pub empty : Tuples
empty = map.empty

abbrev pub contains : Tuples → Tuple → Bool
contains tuples t = map.contains_key tuples t

abbrev pub insert : Tuples → Tuple → Tuples
insert tuples t = map.insert tuples t tt

abbrev pub remove : Tuples → Tuple → Tuples
remove tuples t = map.remove tuples t

abbrev pub len : Tuples → ℕ
len tuples = map.len tuples

-- the members, in the order of tuples
abbrev pub items : Tuples → List Tuple
items tuples = map.keys tuples

-- the set of a list's members
abbrev pub from_list : List Tuple → Tuples
from_list [] = empty
from_list (t ∷ ts) = insert (from_list ts) t
