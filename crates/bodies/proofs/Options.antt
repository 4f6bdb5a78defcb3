-- What is there, and is so.
use Rattle.std.proofs.Common.{◌≡◌, refl, sym, subst}
use Rattle.std.specs.Prelude.{Option, Some, None, IsSomeAnd}

module _ {X : Type 0} (P : X → Type 0) (at : Option X) where
  pub so_of : (x : X) → Some x ≡ at → IsSomeAnd at P → P x
  so_of x there so = subst (λ (o : Option X). IsSomeAnd o P) (sym there) so

  pub is_so : (x : X) → Some x ≡ at → P x → IsSomeAnd at P
  is_so x there so = subst (λ (o : Option X). IsSomeAnd o P) there so

  pub not_so : at ≡ None → IsSomeAnd at P → ⊥
  not_so none so = subst (λ (o : Option X). IsSomeAnd o P) none so

pub some_of : {X : Type 0} {P : X → Type 0} (at : Option X) → IsSomeAnd at P → (x : X) × (at ≡ Some x) × P x
some_of None so = absurd so
some_of (Some x) so = (x, refl, so)
