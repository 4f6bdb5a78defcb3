-- What a query over one table shows.
use Rattle.std.proofs.Common.{◌≡◌, ℕ, pos, negsuc, Bool, true, false, cond, if◌then◌else◌, List, [], ◌∷◌, ◌++◌, map, filter, refl, sym, ap, ◌∙◌, subst}
use Rattle.std.specs.List.{list_all, flat_map}
use Rattle.std.specs.List.Sorted.{IsPermutation}
use Rattle.std.specs.Ordering.{is_eq, int_cmp}
use Rattle.std.specs.Str.{bytes_eq}
use Rattle.std.specs.Prelude.{◌==◌}
use Rattle.std.proofs.Common.{arith}
use Rattle.std.proofs.lemmas.Bool.Decides.{nat_tests}
use Rattle.std.proofs.lemmas.Map.Text.{is_eq-slice_cmp}
use Rattle.std.proofs.lemmas.List.Sorted.{IsPermutation-map}
use Rattle.sqlite.specs.declared.types.Value.TheVariants.{Int, Text}
use Rattle.sqlite.specs.Order.{Row}
use Rattle.sqlite_value.proofs.OrderLemmas.{value_cmp-Int, value_cmp-Text}
use Rattle.sqlite.specs.Collation.TheVariants.{Binary}
use Rattle.sqlite_sql.specs.declared.ops.BinaryOp.TheVariants.{Compare}
use Rattle.sqlite_sql.specs.declared.ops.CompareOp.TheVariants.{Eq}
use Rattle.sqlite.specs.Ops.{binary, is_true}
use Rattle.sqlite.specs.Term.{Term, Env, eval_all, holds}
use Rattle.sqlite.specs.Query.{Query, IsAnswer, output, page, Output}
use Rattle.sqlite.specs.Tree.{Trees}
use Rattle.sqlite_value.specs.declared.keys.Key.{Key}
use Rattle.sqlite_trees.proofs.ListLemmas.{map-map}
use Rattle.sqlite_tables.proofs.Texts.{scan}

flat_map_kept : {A B : Type 0} (p : A → Bool) (f : A → B) (xs : List A) → flat_map (λ x. if p x then f x ∷ [] else []) xs ≡ map f (filter p xs)
flat_map_kept p f [] = refl
flat_map_kept {A} {B} p f (x ∷ xs) = go (p x) (flat_map_kept p f xs)
  where
    go : (b : Bool) → flat_map (λ y. if p y then f y ∷ [] else []) xs ≡ map f (filter p xs)
        → (if b then f x ∷ [] else []) ++ flat_map (λ y. if p y then f y ∷ [] else []) xs ≡ map f (cond b (x ∷ filter p xs) (filter p xs))
    go true later = ap (λ (more : List B). f x ∷ more) later
    go false later = later

pub scan_rows : (t : ℕ) (test project : List Term) (order : List (Term × Key)) (db : Trees) (params : Row) (rows : List Row) → IsAnswer (scan t test project order) db params rows
    → IsPermutation (map (λ r. eval_all project (params ∷ r ∷ [])) (filter (λ r. list_all (holds (params ∷ r ∷ [])) test) (db t))) rows
scan_rows t test project order db params rows a =
    let q = scan t test project order in
    let env : Row → Env = λ r. params ∷ r ∷ [] in
    let p : Row → Bool = λ r. list_all (holds (env r)) test in
    let staged : a.staged ≡ map env (filter p (db t)) = a.grouped ∙ flat_map_kept p env (db t) in
    let kept : a.kept ≡ map (output q) (map env (filter p (db t))) = a.distinct ∙ ap (map (output q)) staged in
    let shown : map (λ (o : Output). o.1) a.kept ≡ map (λ r. eval_all project (env r)) (filter p (db t)) =
    ap (map (λ (o : Output). o.1)) kept ∙ (map-map (λ (o : Output). o.1) (output q) _ ∙ map-map _ env (filter p (db t))) in
    subst (IsPermutation (map (λ r. eval_all project (env r)) (filter p (db t)))) (sym a.shown)
    (subst (λ all. IsPermutation all (map (λ (o : Output). o.1) a.ordered)) shown (IsPermutation-map (λ (o : Output). o.1) _ _ a.same))

pub text_test : (a b : List ℕ) → is_true (binary (Compare Eq Binary) (Text a) (Text b)) ≡ bytes_eq a b
unfolding binary
text_test a b = go (is_eq (Rattle.sqlite.specs.Order.value_cmp (Text a) (Text b))) ∙ (ap is_eq (value_cmp-Text a b) ∙ is_eq-slice_cmp a b)
  where
    go : (c : Bool) → is_true (Rattle.sqlite_sql.specs.Ops.from_truth (Rattle.std.proofs.Common.Some c)) ≡ c
    go true = refl
    go false = refl

int_zero : (n : ℕ) → is_eq (int_cmp (pos n) (pos 0)) ≡ (n == 0)
int_zero n = grind (arith, nat_tests)

pub zero_test : (n : ℕ) → is_true (binary (Compare Eq Binary) (Int (pos n)) (Int (pos 0))) ≡ (n == 0)
unfolding binary
zero_test n = go (is_eq (Rattle.sqlite.specs.Order.value_cmp (Int (pos n)) (Int (pos 0)))) ∙ (ap is_eq (value_cmp-Int (pos n) (pos 0)) ∙ int_zero n)
  where
    go : (c : Bool) → is_true (Rattle.sqlite_sql.specs.Ops.from_truth (Rattle.std.proofs.Common.Some c)) ≡ c
    go true = refl
    go false = refl
