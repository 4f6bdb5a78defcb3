-- Short rows can be stored, and so can their entries in an index.
use Rattle.std.proofs.Common.{◌≤◌, ◌^◌, ℕ, pos, List, [], ◌∷◌, length, arith}
use lib.Ieee.{is_nan}
use Rattle.std.specs.Float.{NotNan}
use Rattle.std.proofs.lemmas.List.Elements.{All-from_recursion}
use Rattle.std.proofs.lemmas.List.Sums.{sum_by-cons}
use Rattle.std.proofs.lemmas.Nat.Bits.{bit_at-zero}
use Rattle.sqlite.specs.declared.types.Value.TheVariants.{Null, Int, Text}
use Rattle.sqlite_value.specs.Order.{number}
use Rattle.sqlite.specs.View.{IsStorable, IsStorableRow}
use Rattle.sqlite_tables.specs.Tables.{Span, span_cells}
use Rattle.sqlite_tables.specs.Numbered.{IsShort}

-- a value of the state
pub short_entry : (id value : ℕ) (key : List ℕ) → length key ≤ 10 ^ 8 → IsStorableRow 0 (Int (pos id) ∷ Text key ∷ Int (pos value) ∷ [])
unfolding is_nan
short_entry id value key short = (
  record {
    typed = λ c set. absurd (omega (arith, bit_at-zero c));
    columns = omega arith;
    numbers = All-from_recursion (λ v. NotNan (number v)) (Int (pos id) ∷ Text key ∷ Int (pos value) ∷ []) (tt, (tt, (tt, tt)));
    short = simp sum_by-cons (omega (arith, short));
  },
  omega arith,
)

pub short_key : (id : ℕ) (key : List ℕ) → length key ≤ 10 ^ 8 → IsStorable 0 (Text key ∷ Int (pos id) ∷ [])
unfolding is_nan
short_key id key short = record {
  typed = λ c set. absurd (omega (arith, bit_at-zero c));
  columns = omega arith;
  numbers = All-from_recursion (λ v. NotNan (number v)) (Text key ∷ Int (pos id) ∷ []) (tt, (tt, tt));
  short = simp sum_by-cons (omega (arith, short));
}

pub short_config : (rev : ℕ) (text : List ℕ) → length text ≤ 10 ^ 8 → IsStorableRow 0 (Int (pos rev) ∷ Null ∷ Text text ∷ [])
unfolding is_nan
short_config rev text short = (
  record {
    typed = λ c set. absurd (omega (arith, bit_at-zero c));
    columns = omega arith;
    numbers = All-from_recursion (λ v. NotNan (number v)) (Int (pos rev) ∷ Null ∷ Text text ∷ []) (tt, (tt, (tt, tt)));
    short = simp sum_by-cons (omega (arith, short));
  },
  omega arith,
)

pub short_span : (id : ℕ) (s : Span) → IsShort s → IsStorableRow 0 (Int (pos id) ∷ span_cells s)
unfolding is_nan
short_span id s short = (
  record {
    typed = λ c set. absurd (omega (arith, bit_at-zero c));
    columns = omega arith;
    numbers = All-from_recursion (λ v. NotNan (number v)) (Int (pos id) ∷ span_cells s) (tt, (tt, (tt, (tt, (tt, (tt, (tt, tt)))))));
    short = simp sum_by-cons (omega (arith, short.namespace, short.object, short.relation, short.subject));
  },
  omega arith,
)

pub short_span_key : (id : ℕ) (s : Span) → IsShort s → IsStorable 0 (Text s.namespace ∷ Text s.object ∷ Text s.relation ∷ Text s.subject ∷ Int (pos s.added) ∷ Int (pos id) ∷ [])
unfolding is_nan
short_span_key id s short = record {
  typed = λ c set. absurd (omega (arith, bit_at-zero c));
  columns = omega arith;
  numbers = All-from_recursion (λ v. NotNan (number v)) (Text s.namespace ∷ Text s.object ∷ Text s.relation ∷ Text s.subject ∷ Int (pos s.added) ∷ Int (pos id) ∷ []) (tt, (tt, (tt, (tt, (tt, (tt, tt))))));
  short = simp sum_by-cons (omega (arith, short.namespace, short.object, short.relation, short.subject));
}
