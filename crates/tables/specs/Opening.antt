-- Why tables cannot be opened.
use Rattle.names.specs.declared.refusal.Refusal.{Refusal}
use Rattle.names.specs.declared.refusal.Refusal.TheVariants.{Memory, StoreFault}

-- memory is refused, or the tables cannot be read
abbrev pub CannotOpen : Refusal → Type 0
CannotOpen Memory = Unit {0}
CannotOpen StoreFault = Unit {0}
CannotOpen _ = ⊥
