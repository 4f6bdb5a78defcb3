-- A list by its items, and a term by its first node.
use Rattle.std.proofs.Common.{◌≡◌, ◌≤◌, ◌<◌, ℕ, zero, suc, List, [], ◌∷◌, length, refl, sym, ap, ◌∙◌, arith}
use Rattle.std.specs.Prelude.{slice_index_or}
use Rattle.sqlite.specs.declared.types.Value.TheVariants.{Null}
use Rattle.sqlite.specs.Term.{Term, op2}
use Rattle.sqlite_schema.specs.Code.{term_to, op_term}
use Rattle.sqlite_schema.specs.declared.code.Op.{Op}
use Rattle.sqlite_schema.specs.declared.code.Op.TheVariants.{Literal, Binary}
use Rattle.sqlite_sql.specs.declared.ops.BinaryOp.{BinaryOp}

pub one_item : {A : Type 0} (xs : List A) (a : A) → 1 ≤ length xs → length xs < 2 → a ≡ slice_index_or xs 0 a → xs ≡ a ∷ []
one_item [] a low high e = absurd (omega (arith, low))
one_item {A} (x ∷ []) a low high e = ap (λ (y : A). y ∷ []) (sym e)
one_item (x ∷ y ∷ xs) a low high e = absurd (omega (arith, high))

pub two_items : {A : Type 0} (xs : List A) (a b : A) → 2 ≤ length xs → length xs < 3 → a ≡ slice_index_or xs 0 a → b ≡ slice_index_or xs 1 b → xs ≡ a ∷ b ∷ []
two_items [] a b low high e f = absurd (omega (arith, low))
two_items {A} (x ∷ xs) a b low high e f =
    ap (λ (y : A). y ∷ xs) (sym e) ∙ ap (λ (more : List A). a ∷ more) (one_item xs b (omega (arith, low)) (omega (arith, high)) f)

pub no_items : {A : Type 0} (xs : List A) → length xs ≡ 0 → xs ≡ []
no_items [] none = refl
no_items (x ∷ xs) none = absurd (omega (arith, none))

-- another operator makes another term
pub not_binary : (nodes : List Op) (depth at : ℕ) (found how : BinaryOp) (x y : ℕ) → slice_index_or nodes at (Literal Null) ≡ Binary found x y → ¬ (found ≡ how) → (a b : Term) → ¬ (term_to nodes depth at ≡ op2 how a b)
not_binary nodes zero at found how x y is other a b same = absurd cc
not_binary nodes (suc depth) at found how x y is other a b same =
    let e : op2 found (term_to nodes depth x) (term_to nodes depth y) ≡ op2 how a b = ap (op_term (term_to nodes depth)) (sym is) ∙ same in
    other (let f : found ≡ how = cc in f)
