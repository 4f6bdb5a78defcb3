-- The tuples of one relation that name a user, on the way to its direct groups. No promise rests on it.
use Rattle.std.specs.Prelude.{◌≡◌, ◌&&◌, List, true, Option, Some, None, filter}
use Rattle.names.specs.declared.object.Object.{Object}
use Rattle.names.specs.declared.node.Node.{Node}
use Rattle.names.specs.declared.relation.RelationName.{RelationName}
use Rattle.names.specs.declared.tuple.Tuple.{Tuple}
use Rattle.config_text.specs.declared.relation.Relation.{Relation}
use Rattle.meaning.specs.Config.{rel_of}
use Rattle.meaning.specs.Snap.{Snap, one}
use Rattle.meaning.specs.TupleSet as set
use Rattle.meaning.specs.TupleSet.{Tuples}
use Rattle.meaning.specs.Membership.{HasOne}
use Rattle.rows.specs.Tuplesets.{matches, is_after}
use Rattle.rows.specs.declared.tupleset.Tupleset.{Tupleset}
use Rattle.rows.specs.declared.tupleset.TheConstants.{MAX_PAGE}

-- a node of the relation that names the user by a tuple of its own
abbrev pub Names : Snap → RelationName → Object → Node → Type 0
Names S r u n = (rel_of n ≡ r) × HasOne S n u

-- a page of the relation's tuples that name the user itself, of those that come later than one
abbrev pub sought : RelationName → Object → Option Tuple → Tupleset
sought r u after = record { namespace = r.namespace; object = None; relation = Some r.relation; subject = Some (one u); after = after; limit = MAX_PAGE }

-- the tuples of a tupleset that were not read yet
abbrev pub unread : Tupleset → Tuples → List Tuple
unread asked tuples = filter (λ t. matches asked t && is_after asked.after t) (set.items tuples)

-- the same, where the relation is indexed
abbrev pub NamesIndexed : Snap → Object → Node → Relation → Type 0
NamesIndexed S u n r = (r.indexed ≡ true) × Names S r.name u n
