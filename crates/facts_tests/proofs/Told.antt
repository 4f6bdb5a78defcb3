-- What was told by a table.
use Rattle.std.proofs.Common.{ℕ, ◌≡◌, ◌<◌, ◌+◌, ◌%◌, take, length, get_or, List, [], ◌∷◌, ◌++◌, sym, ◌∙◌, ap}
use Rattle.std.specs.Prelude.{Result, Ok, Err, IfOk}
use Rattle.std.proofs.lemmas.List.{take_more, map-append}
use Rattle.facts_tests.specs.Known.{low}

pub if_ok_both : {T E : Type 0} {P Q R : T → Type 0} (r : Result T E) → ((x : T) → P x → Q x → R x) → IfOk r P → IfOk r Q → IfOk r R
if_ok_both (Ok x) f p q = f x p q
if_ok_both (Err e) f p q = tt

pub low_more : (xs : List ℕ) (i x : ℕ) (out : List ℕ) → i < length xs → x ≡ get_or xs i x → out ≡ low (take i xs) → out ++ (x % 256) ∷ [] ≡ low (take (i + 1) xs)
low_more xs i x out lt e so_far = ap (λ ys. ys ++ (x % 256) ∷ []) so_far
    ∙ sym (map-append (λ n. n % 256) (take i xs) (x ∷ []))
    ∙ ap (λ ys. low ys) (ap (λ y. take i xs ++ y ∷ []) e ∙ sym (take_more xs i x lt))
