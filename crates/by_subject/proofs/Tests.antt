-- One test or another.
use Rattle.std.proofs.Common.{◌≡◌, refl, sym, inl, inr, Bool, true, false}
use Rattle.std.specs.Prelude.{◌⊎◌, ◌||◌}
use mathlib.Core.Bool.{true≢false}

pub first_of : (a b : Bool) → a ≡ true → (a || b) ≡ true
first_of true b h = refl
first_of false b h = absurd (true≢false (sym h))

pub second_of : (a b : Bool) → b ≡ true → (a || b) ≡ true
second_of true b h = refl
second_of false b h = h

pub one_of : (a b : Bool) → (a || b) ≡ true → (a ≡ true) ⊎ (b ≡ true)
one_of true b h = inl refl
one_of false b h = inr h
