-- What a read gives (Zanzibar, section 2.4).
use Rattle.std.specs.Prelude.{ℕ, ◌&&◌, List, take, filter, Bool, true, Option, Some, None}
use Rattle.std.specs.Ordering.{nat_cmp, eq_by_cmp, is_lt}
use Rattle.std.specs.Cmp.Lexicographic.{slice_cmp}
use Rattle.names.specs.Order.{subject_cmp, tuple_cmp}
use Rattle.names.specs.declared.subject.Subject.{Subject}
use Rattle.names.specs.declared.tuple.Tuple.{Tuple}
use Rattle.meaning.specs.TupleSet as set
use Rattle.meaning.specs.TupleSet.{Tuples}
use Rattle.rows.specs.declared.tupleset.Tupleset.{Tupleset}

-- the text is this, if one is asked for
abbrev pub has_text : Option (List ℕ) → List ℕ → Bool
has_text None text = true
has_text (Some asked) text = eq_by_cmp (slice_cmp nat_cmp) text asked

-- the subject is this, if one is asked for
abbrev pub has_subject : Option Subject → Subject → Bool
has_subject None s = true
has_subject (Some asked) s = eq_by_cmp subject_cmp s asked

-- the tuple comes later than this, if one is given
abbrev pub is_after : Option Tuple → Tuple → Bool
is_after None t = true
is_after (Some a) t = is_lt (tuple_cmp a t)

-- the tuple is of the namespace, and of the object, the relation and the subject that are asked for
abbrev pub matches : Tupleset → Tuple → Bool
matches asked t =
    has_text (Some asked.namespace) t.node.object.namespace && (has_text asked.object t.node.object.id
    && (has_text asked.relation t.node.relation && has_subject asked.subject t.subject))

-- the tuples that match and come later, in their order, as many as are asked for
abbrev pub page : Tupleset → Tuples → List Tuple
page asked tuples = take asked.limit (filter (λ t. matches asked t && is_after asked.after t) (set.items tuples))
