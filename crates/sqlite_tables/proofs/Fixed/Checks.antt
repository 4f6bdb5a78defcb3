-- What the CHECKs of a span ask, and which spans have the same key.
use Rattle.std.proofs.Common.{◌≡◌, ◌<◌, ◌||◌, ◌&&◌, ℕ, pos, Bool, true, false, not, List, [], ◌∷◌, Some, IsTrue, refl, sym, ap, ◌∙◌, arith, true≢false}
use Rattle.std.specs.Ordering.{is_eq, is_ne, is_gt, int_cmp}
use Rattle.std.specs.Prelude.{◌==◌, nat_lt}
use Rattle.std.specs.Str.{bytes_eq}
use Rattle.std.proofs.lemmas.Bool.{and_parts, and_from, ltb-true, eqb-true, lt-ltb}
use Rattle.std.proofs.lemmas.Bool.Decides.{nat_tests}
use Rattle.std.proofs.lemmas.Slice.Eq.{bytes_eq-Decides}
use Rattle.sqlite.specs.declared.types.Value.TheVariants.{Int}
use Rattle.sqlite_value.proofs.OrderLemmas.{value_cmp-Int, value_cmp_total}
use Rattle.sqlite.specs.Collation.TheVariants.{Binary}
use Rattle.sqlite_sql.specs.declared.ops.BinaryOp.TheVariants.{Compare, Or}
use Rattle.sqlite_sql.specs.declared.ops.CompareOp.TheVariants.{Eq, Gt}
use Rattle.std.proofs.lemmas.Cmp.{tied_itself}
use Rattle.sqlite_value.specs.Keys.{plain, first_key}
use Rattle.sqlite_sql.specs.Ops.{from_truth, is_false, is_true}
use Rattle.sqlite.specs.Ops.{binary}
use Rattle.sqlite_schema.specs.Rules.{passes_checks, agree, differ}
use Rattle.sqlite_tables.specs.Format.{row_table}
use Rattle.sqlite_tables.specs.Tables.{Span, span_cells, same_tuple}
use Rattle.sqlite_tables.proofs.Scan.{text_test}

above : (a b : ℕ) → is_gt (int_cmp (pos a) (pos b)) ≡ nat_lt b a
above a b = grind (arith, nat_tests)

same : (a b : ℕ) → is_eq (int_cmp (pos a) (pos b)) ≡ (a == b)
same a b = grind (arith, nat_tests)

above_value : (a b : ℕ) → binary (Compare Gt Binary) (Int (pos a)) (Int (pos b)) ≡ from_truth (Some (nat_lt b a))
unfolding binary
above_value a b = ap (λ t. from_truth (Some t)) (ap is_gt (value_cmp-Int (pos a) (pos b)) ∙ above a b)

same_value : (a b : ℕ) → binary (Compare Eq Binary) (Int (pos a)) (Int (pos b)) ≡ from_truth (Some (a == b))
unfolding binary
same_value a b = ap (λ t. from_truth (Some t)) (ap is_eq (value_cmp-Int (pos a) (pos b)) ∙ same a b)

either_value : (a b : Bool) → binary Or (from_truth (Some a)) (from_truth (Some b)) ≡ from_truth (Some (a || b))
unfolding binary
either_value true true = refl
either_value true false = refl
either_value false true = refl
either_value false false = refl

is_not_false : (b : Bool) → not (is_false (from_truth (Some b))) ≡ b
is_not_false true = refl
is_not_false false = refl

pub checks_are : (id : ℕ) (x : Span) → passes_checks row_table (Int (pos id) ∷ span_cells x) ≡ (nat_lt 0 x.added && (((x.removed == 0) || nat_lt x.added x.removed) && true))
checks_are id x =
    rw (above_value x.added 0, same_value x.removed 0, above_value x.removed x.added, either_value (x.removed == 0) (nat_lt x.added x.removed), is_not_false (nat_lt 0 x.added), is_not_false ((x.removed == 0) || nat_lt x.added x.removed)) refl

-- the revision of a span that is there is not 0
pub is_positive : (id : ℕ) (x : Span) → passes_checks row_table (Int (pos id) ∷ span_cells x) ≡ true → 0 < x.added
is_positive id x passes = ltb-true 0 x.added (and_parts _ _ (sym (checks_are id x) ∙ passes)).0

pub checks_pass : (id : ℕ) (x : Span) → 0 < x.added → ((x.removed == 0) || nat_lt x.added x.removed) ≡ true → passes_checks row_table (Int (pos id) ∷ span_cells x) ≡ true
checks_pass id x low ended = checks_are id x ∙ and_from _ _ (lt-ltb 0 x.added low) (and_from _ _ ended refl)

pub same_text : (a b : List ℕ) → bytes_eq a b ≡ true → a ≡ b
same_text a b is = (bytes_eq-Decides a b).0 is

-- ---- keys

truth : (b : Bool) → is_true (from_truth (Some b)) ≡ b
truth true = refl
truth false = refl

number_test : (a b : ℕ) → is_true (binary (Compare Eq Binary) (Int (pos a)) (Int (pos b))) ≡ (a == b)
number_test a b = ap is_true (same_value a b) ∙ truth (a == b)

abbrev pub key_columns : List ℕ
key_columns = 1 ∷ 2 ∷ 3 ∷ 4 ∷ 5 ∷ []

agree_is : (id other : ℕ) (x y : Span) → agree plain key_columns (Int (pos id) ∷ span_cells x) key_columns (Int (pos other) ∷ span_cells y)
    ≡ (bytes_eq x.namespace y.namespace && (bytes_eq x.object y.object && (bytes_eq x.relation y.relation && (bytes_eq x.subject y.subject && ((x.added == y.added) && true)))))
unfolding first_key
agree_is id other x y = rw (text_test x.namespace y.namespace, text_test x.object y.object, text_test x.relation y.relation, text_test x.subject y.subject, number_test x.added y.added) refl

apart_parts : (a b c d e : Bool) → (a && (b && (c && (d && (e && true))))) ≡ true → ((a && (b && (c && d))) ≡ true) × (e ≡ true)
apart_parts true true true true true all = (refl, refl)
apart_parts true true true true false all = (refl, all)
apart_parts true true true false e all = absurd (true≢false (sym all))
apart_parts true true false d e all = absurd (true≢false (sym all))
apart_parts true false c d e all = absurd (true≢false (sym all))
apart_parts false b c d e all = absurd (true≢false (sym all))

-- two spans with one key are of one tuple, and begin at one revision
pub one_key : (id other : ℕ) (x y : Span) → agree plain key_columns (Int (pos id) ∷ span_cells x) key_columns (Int (pos other) ∷ span_cells y) ≡ true → IsTrue (same_tuple x y) × (x.added ≡ y.added)
one_key id other x y agrees =
    let parts = apart_parts (bytes_eq x.namespace y.namespace) (bytes_eq x.object y.object) (bytes_eq x.relation y.relation) (bytes_eq x.subject y.subject) (x.added == y.added) (sym (agree_is id other x y) ∙ agrees) in
    (parts.0, eqb-true x.added y.added parts.1)

pub same_rowid_value : (id : ℕ) → differ (Int (pos id)) (Int (pos id)) ≡ false
unfolding binary
same_rowid_value id = ap (λ o. is_true (from_truth (Some (is_ne o)))) (tied_itself value_cmp_total (Int (pos id)))
