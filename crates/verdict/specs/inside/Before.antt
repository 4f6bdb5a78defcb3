-- What is judged before conditions, and of each.
use Rattle.std.specs.Prelude.{ℕ, List, length, Bool, true, false, not, nat_eq, nat_lt, nat_le, Result, Ok, Err}
use Rattle.names.specs.declared.write.Condition.{Condition}
use Rattle.names.specs.declared.refusal.Refusal.{Refusal}
use Rattle.names.specs.declared.refusal.Refusal.TheVariants.{AlreadyThere, NotThere, Full}
use Rattle.zookie.specs.declared.Zookie.{Zookie}
use Rattle.verdict.specs.declared.limits.TheConstants.{MAX_CONDITIONS}
use Rattle.verdict.specs.Verdict.{has_zookie}

-- the refusal is one for what is there, or for a limit
abbrev pub comes_after : Refusal → Bool
comes_after (AlreadyThere i) = true
comes_after (NotThere i) = true
comes_after Full = true
comes_after _ = false

-- the operations are refused for another cause
abbrev pub comes_before : Result (Unit {0}) Refusal → Bool
comes_before (Ok u) = false
comes_before (Err why) = not (comes_after why)

-- the condition's zookie is another store's, above the newest revision, or below the floor
abbrev pub is_foreign : ℕ → Condition Zookie → Bool
is_foreign number = has_zookie (λ z. not (nat_eq z.store number))

abbrev pub is_future : ℕ → Condition Zookie → Bool
is_future newest = has_zookie (λ z. nat_lt newest z.rev)

abbrev pub is_expired : ℕ → Condition Zookie → Bool
is_expired floor = has_zookie (λ z. nat_lt z.rev floor)

-- there are at most 64 conditions
abbrev pub are_few : List (Condition Zookie) → Bool
are_few conditions = nat_le (length conditions) MAX_CONDITIONS
