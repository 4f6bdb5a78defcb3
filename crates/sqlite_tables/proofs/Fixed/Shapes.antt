-- The rows of a table, as what they stand for under their rowids.
use Rattle.std.proofs.Common.{◌≡◌, ◌≤◌, ◌<◌, ℕ, pos, Bool, true, false, List, [], ◌∷◌, map, drop, refl, ap, ◌∙◌, arith}
use Rattle.std.specs.List.{AllByRecursion}
use Rattle.std.specs.Ordering.{is_eq, int_cmp}
use Rattle.std.specs.Prelude.{◌==◌}
use Rattle.std.proofs.lemmas.Bool.Decides.{nat_tests}
use Rattle.sqlite.specs.declared.types.Value.TheVariants.{Int}
use Rattle.sqlite.specs.Order.{Row, value_cmp}
use Rattle.sqlite.specs.Tree.{rowid}
use Rattle.sqlite_value.proofs.OrderLemmas.{value_cmp-Int}
use Rattle.sqlite_schema.specs.Rules.{references_fit}
use Rattle.sqlite_rules.specs.Lists.{Has}
use Rattle.sqlite_rules.proofs.ListLemmas.{all_has}
use Rattle.sqlite_tables.specs.Format.{schema, row_table}
use Rattle.sqlite_tables.specs.Tables.{Lists}
use Rattle.sqlite_tables.specs.Numbered.{IsNumbered}
use Rattle.sqlite_tables.proofs.Fixed.Rewritten.{has_permuted, has_mapped, mapped_has}

whole : (r : Row) (id : ℕ) (cells : Row) → rowid r ≡ Int (pos id) → drop 1 r ≡ cells → r ≡ Int (pos id) ∷ cells
whole [] id cells at tail = absurd (cc)
whole (v ∷ r) id cells at tail = ap (λ w. w ∷ r) at ∙ ap (λ more. Int (pos id) ∷ more) tail

-- a row is one of the things, under a rowid
pub record Shaped {X : Type 0} (cells : X → Row) (xs : List X) (top : ℕ) (r : Row) : Type 0 where
  pub id : ℕ
  pub x : X
  pub among : Has xs x
  pub fits : id ≤ top
  pub is : r ≡ Int (pos id) ∷ cells x

pub shaped : {X : Type 0} (cells : X → Row) (xs : List X) (top : ℕ) (tree : List Row) → Lists tree (map cells xs) → AllByRecursion (IsNumbered top) tree → (r : Row) → Has tree r → Shaped cells xs top r
shaped cells xs top tree rows ids r there =
    let id = all_has (IsNumbered top) tree r ids there in
    let found = has_mapped cells xs (drop 1 r) (has_permuted _ _ (drop 1 r) rows (mapped_has (drop 1) tree r there)) in
    record { id = id.0; x = found.0; among = found.1; fits = id.2; is = whole r id.0 (cells found.0) id.1 found.2 }

-- ---- small facts

pub all_true : (rows : List Row) → AllByRecursion (λ row. true ≡ true) rows
all_true [] = tt
all_true (row ∷ rows) = (refl, all_true rows)

same_number : (a b : ℕ) → is_eq (int_cmp (pos a) (pos b)) ≡ (a == b)
same_number a b = grind (arith, nat_tests)

pub other_number : (a b : ℕ) → a < b → is_eq (value_cmp (Int (pos a)) (Int (pos b))) ≡ false
other_number a b below = ap is_eq (value_cmp-Int (pos a) (pos b)) ∙ (same_number a b ∙ grind (arith, nat_tests, below))

-- no table refers to another
pub row_refers : (adds removes : Bool) → references_fit schema row_table adds removes ≡ true
row_refers true true = refl
row_refers true false = refl
row_refers false true = refl
row_refers false false = refl
