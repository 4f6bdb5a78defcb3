-- The rowids of the rows, and how far the revisions go.
use Rattle.std.specs.Prelude.{◌≡◌, ℕ, ◌+◌, ◌-◌, ◌*◌, ◌^◌, ◌<◌, ◌≤◌, pos, length, IsTrue}
use Rattle.std.specs.List.{AllByRecursion}
use Rattle.sqlite.specs.declared.types.Value.TheVariants.{Int}
use Rattle.sqlite.specs.Order.{Row}
use Rattle.sqlite.specs.Tree.{Trees, rowid}
use Rattle.sqlite_tables.specs.Tables.{Span, Contents, same_tuple}

-- the rowid is a number from 0 to this one
abbrev pub IsNumbered : ℕ → Row → Type 0
IsNumbered top r = (n : ℕ) × (rowid r ≡ Int (pos n)) × (n ≤ top)

-- those of the spans are at most this one, and those of the state fit into a column
pub record AreNumberedTo (top : ℕ) (trees : Trees) : Type 0 where
  pub spans : AllByRecursion (IsNumbered top) (trees 0)
  pub entries : AllByRecursion (IsNumbered (2 ^ 63 - 1)) (trees 3)

-- a revision has at most 256 spans
abbrev pub AreNumbered : ℕ → Trees → Type 0
AreNumbered newest trees = AreNumberedTo (256 * newest) trees

-- the rowid of the span that the event at this place of a commit begins
abbrev pub span_rowid : ℕ → ℕ → ℕ
span_rowid rev at = 256 * (rev - 1) + at + 1

-- no revision is above this one
pub record IsUpTo (n : ℕ) (h : Contents) : Type 0 where
  pub spans : AllByRecursion (λ s. (s.added ≤ n) × (s.removed ≤ n)) h.spans
  pub configs : AllByRecursion (λ c. c.rev ≤ n) h.configs

-- each span of the tuple began before the revision
abbrev pub BeganBefore : Span → ℕ → Contents → Type 0
BeganBefore tuple rev h = AllByRecursion (λ x. IsTrue (same_tuple x tuple) → x.added < rev) h.spans

-- the texts of the tuple are no longer than names and ids may be
pub record IsShort (s : Span) : Type 0 where
  pub namespace : length s.namespace ≤ 32
  pub object : length s.object ≤ 64
  pub relation : length s.relation ≤ 32
  pub subject : length s.subject ≤ 130
