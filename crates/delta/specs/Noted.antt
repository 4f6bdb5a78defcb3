-- What a group led to before a commit that changed it.
use Rattle.std.specs.Prelude.{ℕ, ◌≡◌, ◌≤◌, ◌&&◌, ◌⊎◌, ◌++◌, cond, List, [], ◌∷◌, Option, Contains, map, nat_eq, nat_lt}
use Rattle.std.specs.List.{IsDistinct}
use Rattle.std.specs.List.Sorted.{IsNonDecreasingBy}
use Rattle.std.specs.Option.{option_map}
use Rattle.region.specs.Tables.{Rows, row_of}
use Rattle.delta.specs.declared.earlier.Earlier.{Earlier}

-- the groups that a kept group leads to, by their numbers
abbrev pub led_in : Rows → ℕ → Option (List ℕ)
led_in rows i = option_map (λ row. row.members) (row_of rows i)

-- the same at a revision: what was noted first after it, or else what is kept
abbrev pub led_at : List Earlier → Rows → ℕ → ℕ → Option (List ℕ)
led_at [] rows i rev = led_in rows i
led_at (e ∷ es) rows i rev = cond (nat_lt rev e.rev && nat_eq i e.group) e.led (led_at es rows i rev)

-- it was noted in the order of revisions, and none of them is after the cursor
pub record AreUpTo (cursor : ℕ) (es : List Earlier) : Type 0 where
  pub order : IsNonDecreasingBy (λ (e : Earlier). e.rev) es
  pub up_to : (e : Earlier) → Contains es e → e.rev ≤ cursor

-- What a commit notes stands at the end, with its revision: of each group of which another closure is kept than before, once, the one before, if any, and of no other.
pub record IsNoted (rev : ℕ) (old new : Rows) (es es' : List Earlier) : Type 0 where
  pub more : List Earlier
  pub noted : es' ≡ es ++ more
  pub once : IsDistinct nat_eq (map (λ (e : Earlier). e.group) more)
  pub each : (e : Earlier) → Contains more e → (e.rev ≡ rev) × (e.led ≡ led_in old e.group) × ¬ (led_in new e.group ≡ e.led)
  pub others : (i : ℕ) → ((e : Earlier) × Contains more e × (e.group ≡ i)) ⊎ (led_in new i ≡ led_in old i)
