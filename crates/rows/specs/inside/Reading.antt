-- What of a tupleset the texts of its tuples begin with, and what else is asked of them.
use Rattle.std.specs.Prelude.{ℕ, ◌&&◌, List, Bool, Option, Some, None}
use Rattle.names.specs.declared.tuple.Tuple.{Tuple}
use Rattle.tuple_keys.specs.Named.{is_in, is_at, is_of}
use Rattle.rows.specs.declared.tupleset.Tupleset.{Tupleset}
use Rattle.rows.specs.Tuplesets.{has_text, has_subject, is_after}

-- the tuple is of the namespace, of the object of this id in it, or of that object's node
abbrev pub starts_at : List ℕ → Option (List ℕ) → Option (List ℕ) → Tuple → Bool
starts_at namespace None relation t = is_in namespace t
starts_at namespace (Some id) None t = is_at (record { namespace = namespace; id = id }) t
starts_at namespace (Some id) (Some relation) t = is_of (record { object = record { namespace = namespace; id = id }; relation = relation }) t

abbrev pub is_sought : Tupleset → Tuple → Bool
is_sought asked t = starts_at asked.namespace asked.object asked.relation t

-- it has the relation and the subject, and comes later
abbrev pub is_wanted : Tupleset → Tuple → Bool
is_wanted asked t = has_text asked.relation t.node.relation && (has_subject asked.subject t.subject && is_after asked.after t)
