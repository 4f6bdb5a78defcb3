-- The versions of the tuples that the floor holds, one by one.
use Rattle.std.proofs.Common.{◌≡◌, ℕ, ◌<◌, List, [], ◌∷◌, ◌++◌, length, take, suc, refl, ap, sym, ◌∙◌, get_or}
use Rattle.std.specs.Prelude.{Bool, true, false, cond, ◌||◌}
use Rattle.std.specs.List.{list_any}
use Rattle.std.proofs.Math.Seq.{take-length}
use Rattle.names.specs.Order.{is_same_tuple}
use Rattle.names.specs.declared.tuple.Tuple.{Tuple}
use Rattle.meaning.specs.TupleSet as set
use Rattle.meaning.proofs.TupleSets.{contains_from_list}
use Rattle.versions.specs.declared.version.Version.{Version}
use Rattle.versions.specs.Versions.{base_versions}
use Rattle.versions.proofs.VersionRuns.{take_none}
use Rattle.versions.proofs.Settling.{take_more}

any_push : (p : Tuple → Bool) (xs : List Tuple) (x : Tuple) → list_any p (xs ++ x ∷ []) ≡ (p x || list_any p xs)
any_push p [] x = refl
any_push p (y ∷ ys) x = ap (λ b. p y || b) (any_push p ys x) ∙ turned (p y) (p x) (list_any p ys)
  where
    turned : (a b c : Bool) → (a || (b || c)) ≡ (b || (a || c))
    turned true true c = refl
    turned true false c = refl
    turned false b c = refl

-- one tuple more
pub base_more : (tuples : List Tuple) (k : ℕ) (t q : Tuple) (old new : List Version) → k < length tuples → t ≡ get_or tuples k t
    → old ≡ base_versions (set.contains (set.from_list (take k tuples)) q) → new ≡ cond (is_same_tuple q t) (base_versions true) old
    → new ≡ base_versions (set.contains (set.from_list (take (suc k) tuples)) q)
base_more tuples k t q old new small is was now =
    now ∙ ap (λ ms. cond (is_same_tuple q t) (base_versions true) ms) was
    ∙ one (is_same_tuple q t) (set.contains (set.from_list (take k tuples)) q)
    ∙ ap base_versions (ap (λ b. is_same_tuple q t || b) (contains_from_list (take k tuples) q) ∙ sym (any_push (is_same_tuple q) (take k tuples) t)
    ∙ ap (list_any (is_same_tuple q)) (sym (take_more tuples k t small is)) ∙ sym (contains_from_list (take (suc k) tuples) q))
  where
    one : (a b : Bool) → cond a (base_versions true) (base_versions b) ≡ base_versions (a || b)
    one true b = refl
    one false b = refl

pub base_none : (tuples : List Tuple) (q : Tuple) → [] ≡ base_versions (set.contains (set.from_list (take 0 tuples)) q)
base_none tuples q = ap base_versions (sym (ap (λ ts. set.contains (set.from_list ts) q) (take_none tuples) ∙ contains_from_list [] q))

pub base_all : (tuples : List Tuple) (k : ℕ) (q : Tuple) → k ≡ length tuples → base_versions (set.contains (set.from_list (take k tuples)) q) ≡ base_versions (set.contains (set.from_list tuples) q)
base_all tuples k q is = ap (λ ts. base_versions (set.contains (set.from_list ts) q)) (ap (λ n. take n tuples) is ∙ take-length tuples)
