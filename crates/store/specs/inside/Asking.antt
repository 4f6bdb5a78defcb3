-- What is answered where a call wanted memory.
use Rattle.tables.specs.declared.tables.TablesError.{TablesError}
use Rattle.tables.specs.declared.tables.TablesError.TheVariants.{Memory, Fault}
use Rattle.sqlite_tables.specs.declared.probe.Probe.{Probe}
use Rattle.sqlite_tables.specs.declared.probe.Probe.TheVariants.{Open, Failed, NoMemory}

-- a connection that the device has shut is a fault
abbrev pub told_as : Probe → TablesError
told_as Open = Memory
told_as NoMemory = Memory
told_as Failed = Fault
