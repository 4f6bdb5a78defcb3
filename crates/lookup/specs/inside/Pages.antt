-- The tuples that a lookup goes over.
use Rattle.std.specs.Prelude.{ℕ, ◌&&◌, List, Option, None, filter, map}
use Rattle.std.specs.Option.{option_map}
use Rattle.names.specs.declared.tuple.Tuple.{Tuple}
use Rattle.meaning.specs.Snap.{one}
use Rattle.meaning.specs.TupleSet as set
use Rattle.meaning.specs.TupleSet.{Tuples}
use Rattle.rows.specs.Tuplesets.{matches, is_after}
use Rattle.rows.specs.declared.tupleset.Tupleset.{Tupleset}
use Rattle.rows.specs.declared.tupleset.TheConstants.{MAX_PAGE}
use Rattle.lookup.specs.declared.asked.Lookup.{Lookup}
use Rattle.lookup.specs.Found.{node_of}

-- a page of the namespace's tuples, of those that come later than one
abbrev pub tuples_in : List ℕ → Option Tuple → Tupleset
tuples_in namespace after = record { namespace = namespace; object = None; relation = None; subject = None; after = after; limit = MAX_PAGE }

-- a tuple of the object that the others come after, if one is given
abbrev pub start_of : Lookup → Option Tuple
start_of asked = option_map (λ id. record { node = node_of asked.relation id; subject = one asked.user }) asked.after

-- the tuples of a tupleset that were not read yet
abbrev pub unread : Tupleset → Tuples → List Tuple
unread asked tuples = filter (λ t. matches asked t && is_after asked.after t) (set.items tuples)

-- the ids of the tuples' objects
abbrev pub ids_of : List Tuple → List (List ℕ)
ids_of tuples = map (λ t. t.node.object.id) tuples
