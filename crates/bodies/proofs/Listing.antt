-- The texts of lists, and of replies, that have no floats in them.
use Rattle.std.proofs.Common.{◌≡◌, ℕ, false, List, [], ◌∷◌, Result, Ok, Err, IfOk, map, refl, ap, ◌∙◌}
use Rattle.std.specs.declared.alloc.AllocError.{AllocError}
use Rattle.serde_json.specs.Data.{Data, string}
use Rattle.serde_json.specs.View.{view, items_of}
use Rattle.serde_json.specs.Written.{has_float, items_have_float}
use Rattle.serde_json.specs.declared.value.Value.{Value}

pub texts_plain : {X : Type 0} (f : X → List ℕ) (xs : List X) → items_have_float (items_of (map (λ x. string (f x)) xs)) ≡ false
texts_plain f [] = refl
texts_plain f (x ∷ xs) = texts_plain f xs

pub told_plain : (d : Data) (r : Result Value AllocError) → has_float d ≡ false → IfOk r (λ v. view v ≡ d) → IfOk r (λ v. has_float (view v) ≡ false)
told_plain d (Ok v) plain is = ap has_float is ∙ plain
told_plain d (Err e) plain is = is
