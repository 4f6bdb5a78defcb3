-- What a read by subject keeps of the tuples that name the subject.
use Rattle.std.specs.Prelude.{◌&&◌, Bool, Some}
use Rattle.names.specs.declared.node.Node.{Node}
use Rattle.names.specs.declared.subject.Subject.{Subject}
use Rattle.names.specs.declared.tuple.Tuple.{Tuple}
use Rattle.meaning.specs.TupleSet as set
use Rattle.meaning.specs.TupleSet.{Tuples}
use Rattle.rows.specs.declared.tupleset.Tupleset.{Tupleset}
use Rattle.rows.specs.Tuplesets.{has_text, is_after}

-- the node's tuple with the subject
abbrev pub tuple_with : Subject → Node → Tuple
tuple_with s n = record { node = n; subject = s }

-- the tuple is what is asked for, but for its subject
abbrev pub is_asked : Tupleset → Tuple → Bool
is_asked asked t =
    has_text (Some asked.namespace) t.node.object.namespace && (has_text asked.object t.node.object.id
    && (has_text asked.relation t.node.relation && is_after asked.after t))

-- and it is there
abbrev pub stands : Tupleset → Tuples → Tuple → Bool
stands asked tuples t = is_asked asked t && set.contains tuples t
