-- What the program says of a fault, and how it ends then.
use Rattle.std.specs.Prelude.{ℕ, List, ◌++◌, ◌∷◌, codes, decimal}
use Rattle.names.specs.Refusals.{number_of, name_of}
use Rattle.names.specs.declared.refusal.Refusal.TheVariants.{Memory}
use Rattle.tables.specs.Opening.{CannotOpen}
use Rattle.command_line.specs.declared.fault.Fault.{Fault}
use Rattle.command_line.specs.declared.fault.Fault.TheVariants.{CommandLine, Refused, CannotRead, CannotWrite, CannotListen}

-- the line on standard error, without its end
abbrev pub fault_text : Fault → List ℕ
fault_text CommandLine = codes "zanz: bad command line"
fault_text (Refused refusal) = codes "zanz: refused " ++ decimal (number_of refusal) ++ 32 ∷ name_of refusal
fault_text CannotRead = codes "zanz: cannot read"
fault_text CannotWrite = codes "zanz: cannot write"
fault_text CannotListen = codes "zanz: cannot listen"

-- the exit status
abbrev pub fault_status : Fault → ℕ
fault_status CommandLine = 2
fault_status _ = 1

-- a command line is refused, or memory
abbrev pub IsLineFault : Fault → Type 0
IsLineFault CommandLine = Unit {0}
IsLineFault (Refused Memory) = Unit {0}
IsLineFault _ = ⊥

-- a file cannot be read, or memory is refused
abbrev pub IsFileFault : Fault → Type 0
IsFileFault CannotRead = Unit {0}
IsFileFault (Refused Memory) = Unit {0}
IsFileFault _ = ⊥

-- a store is refused where it cannot be opened, or memory is refused
abbrev pub IsRunFault : Fault → Type 0
IsRunFault (Refused why) = CannotOpen why
IsRunFault CannotRead = Unit {0}
IsRunFault CannotWrite = Unit {0}
IsRunFault _ = ⊥
