-- What the program holds, as the tables have it.
use Rattle.std.specs.declared.cmp.Ordering.{Ordering}
use Rattle.std.specs.Prelude.{ℕ, List, map, string_bytes, IsPermutation, IsSorted}
use Rattle.std.specs.Ordering.{on, then_cmp, nat_cmp}
use Rattle.std.specs.Cmp.Lexicographic.{slice_cmp}
use Rattle.sqlite_tables.specs.declared.stored.TupleText.{TupleText}
use Rattle.sqlite_tables.specs.declared.stored.StoredSpan.{StoredSpan}
use Rattle.sqlite_tables.specs.declared.stored.StoredConfig.{StoredConfig}
use Rattle.sqlite_tables.specs.declared.stored.StoredEntry.{StoredEntry}
use Rattle.sqlite_tables.specs.declared.stored.Stored.{Stored}
use Rattle.sqlite.specs.Tree.{Trees}
use Rattle.sqlite_tables.specs.Tables.{Span, ConfigRow, Entry, Contents, Lists, span_cells, config_with_rowid, entry_cells}

-- the tuple's span from one revision to another
abbrev pub span_between : TupleText → ℕ → ℕ → Span
span_between t added removed =
    record { namespace = string_bytes t.namespace; object = string_bytes t.object; relation = string_bytes t.relation; subject = string_bytes t.subject; added = added; removed = removed }

abbrev pub span_in : StoredSpan → Span
span_in s = span_between s.tuple s.added s.removed

abbrev pub config_row_in : StoredConfig → ConfigRow
config_row_in c = record { rev = c.rev; text = string_bytes c.text }

abbrev pub entry_in : StoredEntry → Entry
entry_in e = record { key = string_bytes e.key; value = e.value }

-- exactly the contents, each list in some order
pub record Loads (h : Contents) (s : Stored) : Type 0 where
  pub spans : IsPermutation h.spans (map span_in s.spans.items)
  pub configs : IsPermutation h.configs (map config_row_in s.configs.items)
  pub entries : IsPermutation h.entries (map entry_in s.entries.items)

-- ---- the order of what is read

-- by the key of the table: the four texts, and then the revision
abbrev pub span_cmp : Span → Span → Ordering
span_cmp =
    then_cmp (on (λ s. s.namespace) (slice_cmp nat_cmp)) (then_cmp (on (λ s. s.object) (slice_cmp nat_cmp)) (then_cmp (on (λ s. s.relation) (slice_cmp nat_cmp))
    (then_cmp (on (λ s. s.subject) (slice_cmp nat_cmp)) (on (λ s. s.added) nat_cmp))))

abbrev pub config_cmp : ConfigRow → ConfigRow → Ordering
config_cmp = on (λ c. c.rev) nat_cmp

abbrev pub entry_cmp : Entry → Entry → Ordering
entry_cmp = on (λ e. e.key) (slice_cmp nat_cmp)

-- ---- what the trees hold, in that order

pub record AreSpans (trees : Trees) (xs : List Span) : Type 0 where
  pub rows : Lists (trees 0) (map span_cells xs)
  pub order : IsSorted span_cmp xs

pub record AreConfigs (trees : Trees) (xs : List ConfigRow) : Type 0 where
  pub rows : IsPermutation (map config_with_rowid xs) (trees 2)
  pub order : IsSorted config_cmp xs

pub record AreEntries (trees : Trees) (xs : List Entry) : Type 0 where
  pub rows : Lists (trees 3) (map entry_cells xs)
  pub order : IsSorted entry_cmp xs

pub record IsInOrder (s : Stored) : Type 0 where
  pub spans : IsSorted span_cmp (map span_in s.spans.items)
  pub configs : IsSorted config_cmp (map config_row_in s.configs.items)
  pub entries : IsSorted entry_cmp (map entry_in s.entries.items)
