-- What of a write is counted, once no insert is of a tuple that is there and no delete of one that is not.
use Rattle.std.specs.Prelude.{Bool, true, false, not}
use Rattle.names.specs.declared.write.Op.{Op}
use Rattle.names.specs.declared.write.OpKind.{OpKind}
use Rattle.names.specs.declared.write.OpKind.TheVariants.{Insert, Touch, Delete}
use Rattle.meaning.specs.TupleSet as set
use Rattle.meaning.specs.TupleSet.{Tuples}
use Rattle.rows.specs.Judging.{puts_tuple}

-- an insert puts a new tuple, a touch does so where it is not there
abbrev pub is_new_by : OpKind → Bool → Bool
is_new_by Insert there = true
is_new_by Touch there = not there
is_new_by Delete there = false

abbrev pub is_new : Tuples → Op → Bool
is_new tuples o = is_new_by o.kind (set.contains tuples o.tuple)

abbrev pub deletes : Op → Bool
deletes o = not (puts_tuple o)
