-- What a store is made over, and how often it refused.
use Rattle.std.specs.Prelude.{ℕ}
use Rattle.sqlite.specs.Store.{Ghosts}
use Rattle.sqlite.specs.Held.{Held}
use Rattle.store.specs.declared.store.Store.{Store}

-- what it was made over
abbrev pub connection : {S : Type 0} {g : Ghosts S} → Store S g → Held S
connection s = s.conn

-- how often it refused for another cause than memory
abbrev pub faults : {S : Type 0} {g : Ghosts S} → Store S g → ℕ
faults s = s.faults
