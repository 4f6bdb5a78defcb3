-- What is noted of some groups. No promise rests on it.
use Rattle.std.specs.Prelude.{ℕ, ◌≡◌, Bool, List, Option, Contains, map, nat_eq, not}
use Rattle.std.specs.Cmp.Lexicographic.{pointwise}
use Rattle.std.specs.Option.{option_eq}
use Rattle.region.specs.Tables.{Rows}
use Rattle.delta.specs.declared.earlier.Earlier.{Earlier}
use Rattle.delta.specs.Noted.{led_in}

-- they are of the groups, in order, and each has the revision and what its group leads to
pub record AreNotedOf (rev : ℕ) (led : ℕ → Option (List ℕ)) (groups : List ℕ) (list : List Earlier) : Type 0 where
  pub of : map (λ (e : Earlier). e.group) list ≡ groups
  pub each : (e : Earlier) → Contains list e → (e.rev ≡ rev) × (e.led ≡ led e.group)

-- the group leads elsewhere than was noted
abbrev pub leads_elsewhere : Rows → Earlier → Bool
leads_elsewhere rows e = not (option_eq (pointwise nat_eq) (led_in rows e.group) e.led)
