use Rattle.std.specs.Prelude.{ℕ}
use Rattle.zookie.specs.declared.Zookie.{Zookie}

-- the zookie of a store's number and a revision
abbrev pub zookie_of : ℕ → ℕ → Zookie
zookie_of store rev = record { store = store; rev = rev }
