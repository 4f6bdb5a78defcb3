-- What is tested of rows one by one.
use Rattle.std.specs.Prelude.{◌≡◌, ◌<◌, ◌≤◌, ◌⊎◌, ◌==◌, ◌&&◌, ◌||◌, ℕ, List, Bool, true, nat_lt}
use Rattle.std.specs.declared.cmp.Ordering.TheVariants.{Less}
use Rattle.names.specs.Order.{tuple_cmp}
use Rattle.meaning.specs.Admits.{admits}
use Rattle.store.specs.Written.{TupleSpan, ConfigAt, is_alive, config_up_to}

-- the first is of a lesser tuple, or ends where the second begins, or before
abbrev pub Precedes : TupleSpan → TupleSpan → Type 0
Precedes a b = (tuple_cmp a.tuple b.tuple ≡ Less) ⊎ ((a.tuple ≡ b.tuple) × (0 < a.removed) × (a.removed ≤ b.added))

-- the second is of a greater revision, which is above the floor
abbrev pub Ascends : ℕ → ConfigAt → ConfigAt → Type 0
Ascends floor a b = (a.rev < b.rev) × (floor < b.rev)

-- above the one revision, and below the other or that is 0
abbrev pub is_between : ℕ → ℕ → ℕ → Bool
is_between from to rev = nat_lt from rev && ((to == 0) || nat_lt rev to)

-- from the floor on, each configuration that is in force while the span is there admits its tuple
abbrev pub IsAdmitted : ℕ → List ConfigAt → TupleSpan → Type 0
IsAdmitted floor configs l = (rev : ℕ) → floor ≤ rev → is_alive rev l ≡ true → admits (config_up_to rev configs) l.tuple ≡ true
