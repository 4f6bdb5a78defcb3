-- What the three tables hold.
use Rattle.std.specs.Prelude.{◌≡◌, ◌⊎◌, ℕ, pos, Bool, codes, List, [], ◌∷◌, map, drop, not, ◌==◌, nat_lt, ◌&&◌, bytes_eq, if◌then◌else◌, IsTrue, IsPermutation}
use Rattle.std.specs.List.{AllByRecursion, IsDistinct}
use Rattle.std.specs.Ordering.{is_eq}
use Rattle.sqlite.specs.declared.types.Value.TheVariants.{Null, Int, Text}
use Rattle.sqlite.specs.Order.{Row, column, value_cmp}
use Rattle.sqlite.specs.Effect.{Database}
use Rattle.sqlite.specs.Tree.{Trees, rowid}
use Rattle.sqlite.specs.View.{is_int}
use Rattle.sqlite_tables.specs.Format.{schema}

-- a span of revisions of one tuple, from the one that added it to the one that removed it, or 0 while it is open
pub record Span : Type 0 where
  pub namespace : List ℕ
  pub object : List ℕ
  pub relation : List ℕ
  pub subject : List ℕ
  pub added : ℕ
  pub removed : ℕ

-- a configuration and its revision
pub record ConfigRow : Type 0 where
  pub rev : ℕ
  pub text : List ℕ

abbrev pub config_at : ℕ → List ℕ → ConfigRow
config_at rev text = record { rev = rev; text = text }

-- a value of the state
pub record Entry : Type 0 where
  pub key : List ℕ
  pub value : ℕ

pub record Contents : Type 0 where
  pub spans : List Span
  pub configs : List ConfigRow
  pub entries : List Entry

-- ---- as rows

abbrev pub span_cells : Span → Row
span_cells s = Text s.namespace ∷ Text s.object ∷ Text s.relation ∷ Text s.subject ∷ Int (pos s.added) ∷ Int (pos s.removed) ∷ []

-- the revision is the rowid, and its own column is empty
abbrev pub config_with_rowid : ConfigRow → Row
config_with_rowid c = Int (pos c.rev) ∷ Null ∷ Text c.text ∷ []

abbrev pub entry_cells : Entry → Row
entry_cells e = Text e.key ∷ Int (pos e.value) ∷ []

-- the rows of the tree are these, in some order and under some rowids
abbrev pub Lists : List Row → List Row → Type 0
Lists tree rows = IsPermutation rows (map (drop 1) tree)

abbrev pub same_rowid : Row → Row → Bool
same_rowid a b = is_eq (value_cmp (rowid a) (rowid b))

-- the rowids are integers, and none comes twice
pub record HasRowids (tree : List Row) : Type 0 where
  pub integers : AllByRecursion (λ r. IsTrue (is_int (rowid r))) tree
  pub distinct : IsDistinct same_rowid tree

-- so it is in each of the three tables
abbrev pub AreKeyed : Trees → Type 0
AreKeyed trees = HasRowids (trees 0) × HasRowids (trees 2) × HasRowids (trees 3)

-- The tables hold the contents, in any order.
pub record Holds (db : Database) (h : Contents) : Type 0 where
  pub schema_is : db.schema ≡ schema
  pub spans : Lists (db.trees 0) (map span_cells h.spans)
  pub configs : IsPermutation (map config_with_rowid h.configs) (db.trees 2)
  pub entries : Lists (db.trees 3) (map entry_cells h.entries)
  pub spans_rowids : HasRowids (db.trees 0)
  pub configs_rowids : HasRowids (db.trees 2)
  pub entries_rowids : HasRowids (db.trees 3)

-- ---- what is done to them

abbrev pub same_tuple : Span → Span → Bool
same_tuple a b = bytes_eq a.namespace b.namespace && (bytes_eq a.object b.object && (bytes_eq a.relation b.relation && bytes_eq a.subject b.subject))

-- the open span of the tuple ends at the revision
abbrev pub after_close : Span → ℕ → Span → Span
after_close tuple rev s = if same_tuple s tuple && (s.removed == 0) then record s { removed = rev } else s

abbrev pub with_value : List ℕ → ℕ → Entry → Entry
with_value key value e = if bytes_eq e.key key then record e { value = value } else e

-- the span has ended, and not above the floor
abbrev pub is_past : ℕ → Span → Bool
is_past floor s = nat_lt 0 s.removed && not (nat_lt floor s.removed)

abbrev pub is_below : ℕ → ConfigRow → Bool
is_below rev c = nat_lt c.rev rev

-- ---- what is read of them

-- the number in the column
abbrev pub HoldsCell : Row → ℕ → ℕ → Type 0
HoldsCell row at n = column row at ≡ Int (pos n)

abbrev pub one : Row → Row
one row = column row 0 ∷ []

abbrev pub two : Row → Row
two row = column row 0 ∷ column row 1 ∷ []

abbrev pub six : Row → Row
six row = column row 0 ∷ column row 1 ∷ column row 2 ∷ column row 3 ∷ column row 4 ∷ column row 5 ∷ []

-- a configuration as the query shows it
abbrev pub config_cells : ConfigRow → Row
config_cells c = Int (pos c.rev) ∷ Text c.text ∷ []

-- a rowid as the query shows it
abbrev pub id_cells : ℕ → Row
id_cells id = Int (pos id) ∷ []

-- the text asks for the rowids of the tree, the lowest first
abbrev pub AsksRowids : List ℕ → ℕ → Type 0
AsksRowids sql tree =
    ((sql ≡ codes "SELECT rowid FROM row ORDER BY rowid") × (tree ≡ 0)) ⊎ (((sql ≡ codes "SELECT rowid FROM config ORDER BY rowid") × (tree ≡ 2))
    ⊎ ((sql ≡ codes "SELECT rowid FROM state ORDER BY rowid") × (tree ≡ 3)))
