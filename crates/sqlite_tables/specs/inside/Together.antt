-- The spans that begin one after another in a commit, stored by one statement.
use Rattle.std.specs.Prelude.{◌≡◌, ◌⊎◌, ◌<◌, ◌+◌, ℕ, pos, List, [], ◌∷◌, ◌++◌, fold, length, string_bytes}
use Rattle.std.specs.List.{AllByRecursion, IsDistinct}
use Rattle.sqlite.specs.declared.types.Value.TheVariants.{Int, Text}
use Rattle.sqlite.specs.Effect.{Database}
use Rattle.sqlite.specs.Order.{Row}
use Rattle.sqlite_tables.specs.declared.stored.StoredEvent.{StoredEvent}
use Rattle.sqlite_tables.specs.declared.stored.TupleText.{TupleText}
use Rattle.sqlite_tables.specs.declared.stored.SpanChange.TheVariants.{Begins}
use Rattle.sqlite_tables.specs.Tables.{Span, Contents, same_tuple}
use Rattle.sqlite_tables.specs.Numbered.{BeganBefore, IsShort}
use Rattle.sqlite_tables.specs.Caused.{IsStore}

-- each begins a span, and no other is open
abbrev pub AllBegin : List StoredEvent → Type 0
AllBegin = AllByRecursion (λ e. e.change ≡ Begins)

-- one event, or eight that begin spans
abbrev pub AreTogether : List StoredEvent → Type 0
AreTogether events = (length events ≡ 1) ⊎ ((length events ≡ 8) × AllBegin events)

-- the spans are there too, the last of them first
abbrev pub with_spans : List Span → Contents → Contents
with_spans spans h = record h { spans = fold (λ all s. s ∷ all) h.spans spans }

-- spans can begin at the revision under the rowids from this one on
pub record CanBeginAll (spans : List Span) (rev first : ℕ) (db : Database) : Type 0 where
  pub contents : Contents
  pub top : ℕ
  pub above : top < first
  pub store : IsStore contents top db
  pub positive : 0 < rev
  pub before : AllByRecursion (λ s. BeganBefore s rev contents) spans
  pub distinct : IsDistinct same_tuple spans
  pub short : AllByRecursion IsShort spans

-- ---- the parameters of the statement

-- the rowid and the four texts of a row
abbrev pub row_values : ℕ → TupleText → Row
row_values id t = Int (pos id) ∷ Text (string_bytes t.namespace) ∷ Text (string_bytes t.object) ∷ Text (string_bytes t.relation) ∷ Text (string_bytes t.subject) ∷ []

abbrev pub rows_values : ℕ → List StoredEvent → Row
rows_values first [] = []
rows_values first (e ∷ events) = row_values first e.tuple ++ rows_values (first + 1) events

-- the revision, and then those of each row, under the rowids from this one on
abbrev pub all_values : ℕ → ℕ → List StoredEvent → Row
all_values rev first events = Int (pos rev) ∷ rows_values first events
