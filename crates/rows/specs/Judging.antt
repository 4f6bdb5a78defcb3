-- What an operation does to the tuples, and what a change is judged to be.
use Rattle.std.specs.Prelude.{◌≡◌, List, Bool, true, false, not, ◌&&◌, Some}
use Rattle.names.specs.declared.write.Op.{Op}
use Rattle.names.specs.declared.refusal.Refusal.{Refusal}
use Rattle.names.specs.declared.refusal.Refusal.TheVariants.{UnknownRelation}
use Rattle.meaning.specs.Verdict.{Newest, is_delete, write_cause, config_cause}
use Rattle.meaning.specs.Config.{Configured}
use Rattle.meaning.specs.TupleSet as set
use Rattle.meaning.specs.TupleSet.{Tuples}

-- the operation puts its tuple
abbrev pub puts_tuple : Op → Bool
puts_tuple o = not (is_delete o.kind)

-- it puts a tuple that is not there
abbrev pub adds_tuple : Tuples → Op → Bool
adds_tuple tuples o = puts_tuple o && not (set.contains tuples o.tuple)

-- it takes away a tuple that is there
abbrev pub takes_tuple : Tuples → Op → Bool
takes_tuple tuples o = not (puts_tuple o) && set.contains tuples o.tuple

-- the refusal is that a relation is not there
abbrev pub says_unknown : Refusal → Bool
says_unknown UnknownRelation = true
says_unknown _ = false

-- this is the first cause
abbrev pub WriteRefused : Newest → List Op → Refusal → Type 0
WriteRefused newest ops why = write_cause newest ops ≡ Some why

abbrev pub ConfigRefused : Newest → Configured → Refusal → Type 0
ConfigRefused newest config why = config_cause newest config ≡ Some why
