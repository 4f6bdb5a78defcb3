-- The number, the name and the HTTP status of each refusal.
use Rattle.std.specs.Prelude.{ℕ, List, codes}
use Rattle.names.specs.declared.refusal.Refusal.{Refusal}
use Rattle.names.specs.declared.refusal.Refusal.TheVariants.{Malformed, UnknownRelation, TypeRefused, TwiceInOneWrite, ConditionFailed, AlreadyThere, NotThere, Full, ConfigRefused, TupleInTheWay, BadZookie, ForeignZookie, Future, Expired, TooLarge, NotIndexed, InUse, StaleBuild, WrongBuild, NoSeat, Memory, StoreFault, Reopen}
use Rattle.names.specs.declared.cause.Cause.{Cause}
use Rattle.names.specs.declared.cause.Cause.TheVariants.{Size, Json, Shape, Name, Limit, DeclaredType, This, Computed, Tupleset, Indexed, Cycle}

abbrev pub number_of : Refusal → ℕ
number_of Malformed = 1
number_of UnknownRelation = 2
number_of TypeRefused = 3
number_of TwiceInOneWrite = 4
number_of (ConditionFailed index) = 5
number_of (AlreadyThere index) = 6
number_of (NotThere index) = 7
number_of Full = 8
number_of (ConfigRefused cause) = 9
number_of (TupleInTheWay tuple) = 10
number_of BadZookie = 11
number_of ForeignZookie = 12
number_of Future = 13
number_of Expired = 14
number_of TooLarge = 15
number_of NotIndexed = 16
number_of InUse = 17
number_of StaleBuild = 18
number_of WrongBuild = 19
number_of NoSeat = 20
number_of Memory = 21
number_of StoreFault = 22
number_of Reopen = 23

abbrev pub name_of : Refusal → List ℕ
name_of Malformed = codes "Malformed"
name_of UnknownRelation = codes "UnknownRelation"
name_of TypeRefused = codes "TypeRefused"
name_of TwiceInOneWrite = codes "TwiceInOneWrite"
name_of (ConditionFailed index) = codes "ConditionFailed"
name_of (AlreadyThere index) = codes "AlreadyThere"
name_of (NotThere index) = codes "NotThere"
name_of Full = codes "Full"
name_of (ConfigRefused cause) = codes "ConfigRefused"
name_of (TupleInTheWay tuple) = codes "TupleInTheWay"
name_of BadZookie = codes "BadZookie"
name_of ForeignZookie = codes "ForeignZookie"
name_of Future = codes "Future"
name_of Expired = codes "Expired"
name_of TooLarge = codes "TooLarge"
name_of NotIndexed = codes "NotIndexed"
name_of InUse = codes "InUse"
name_of StaleBuild = codes "StaleBuild"
name_of WrongBuild = codes "WrongBuild"
name_of NoSeat = codes "NoSeat"
name_of Memory = codes "Memory"
name_of StoreFault = codes "StoreFault"
name_of Reopen = codes "Reopen"

-- the status of the reply
abbrev pub status_of : Refusal → ℕ
status_of Malformed = 400
status_of UnknownRelation = 400
status_of TypeRefused = 400
status_of TwiceInOneWrite = 400
status_of (ConditionFailed index) = 409
status_of (AlreadyThere index) = 409
status_of (NotThere index) = 409
status_of Full = 503
status_of (ConfigRefused cause) = 400
status_of (TupleInTheWay tuple) = 409
status_of BadZookie = 400
status_of ForeignZookie = 400
status_of Future = 409
status_of Expired = 410
status_of TooLarge = 413
status_of NotIndexed = 400
status_of InUse = 409
status_of StaleBuild = 409
status_of WrongBuild = 409
status_of NoSeat = 503
status_of Memory = 503
status_of StoreFault = 503
status_of Reopen = 503

-- the word of a configuration's cause
abbrev pub cause_name_of : Cause → List ℕ
cause_name_of Size = codes "size"
cause_name_of Json = codes "json"
cause_name_of Shape = codes "shape"
cause_name_of Name = codes "name"
cause_name_of Limit = codes "limit"
cause_name_of DeclaredType = codes "type"
cause_name_of This = codes "this"
cause_name_of Computed = codes "computed"
cause_name_of Tupleset = codes "tupleset"
cause_name_of Indexed = codes "indexed"
cause_name_of (Cycle certificate) = codes "cycle"

-- Why a text is refused that is read without memory: it is malformed, as stated.
abbrev pub IsMalformed : Type 0 → Refusal → Type 0
IsMalformed malformed Malformed = malformed
IsMalformed malformed _ = ⊥

-- Why a reader of a text refuses: it is malformed, as stated, or there was no memory.
abbrev pub ReadCause : Type 0 → Refusal → Type 0
ReadCause malformed Malformed = malformed
ReadCause malformed Memory = Unit {0}
ReadCause malformed _ = ⊥
