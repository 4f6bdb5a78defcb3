-- What the program reads, as rows.
use Rattle.std.specs.Prelude.{◌≡◌, ◌≤◌, ◌<◌, ◌^◌, ◌==◌, ℕ, List, All, count_by, length, map, slice_index_or, string_bytes}
use Rattle.std.specs.List.{AllAdjacentBelow}
use Rattle.names.specs.declared.limits.TheConstants.{MAX_REV}
use Rattle.names.specs.Spelling.{subject_text}
use Rattle.names.specs.declared.tuple.Tuple.{Tuple}
use Rattle.sqlite_tables.specs.declared.stored.TupleText.{TupleText}
use Rattle.store.specs.declared.parts.ReadSpan.{ReadSpan}
use Rattle.store.specs.declared.parts.ReadConfig.{ReadConfig}
use Rattle.store.specs.declared.parts.Head.{Head}
use Rattle.store.specs.Written.{TupleSpan, ConfigAt, Written}
use Rattle.store.specs.inside.Following.{Precedes, Ascends, IsAdmitted}

abbrev pub as_span : ReadSpan → TupleSpan
as_span s = record { tuple = s.tuple; added = s.added; removed = s.removed }

abbrev pub as_config : ReadConfig → ConfigAt
as_config c = record { rev = c.rev; config = c.config }

abbrev pub as_written : Head → List ReadSpan → List ReadConfig → Written
as_written head spans configs =
    record { number = head.number; floor = head.floor; newest = head.newest; spans = map as_span spans; configs = map as_config configs }

-- how many spans have not ended
abbrev pub current : List ReadSpan → ℕ
current spans = count_by (λ s. s.removed == 0) spans

-- the texts are the tuple's
pub record Spells (text : TupleText) (t : Tuple) : Type 0 where
  pub namespace : t.node.object.namespace ≡ string_bytes text.namespace
  pub object : t.node.object.id ≡ string_bytes text.object
  pub relation : t.node.relation ≡ string_bytes text.relation
  pub subject : subject_text t.subject ≡ string_bytes text.subject

pub record IsHead (head : Head) : Type 0 where
  pub numbered : 1 ≤ head.number
  pub signed : head.number < 2 ^ 63
  pub order : head.floor ≤ head.newest
  pub revs : head.newest ≤ MAX_REV

-- each span comes before the next
abbrev pub AreInTurn : List ReadSpan → Type 0
AreInTurn spans = AllAdjacentBelow (λ a b. Precedes (as_span a) (as_span b)) spans (length spans)

-- the revisions ascend, and all but the first are above the floor
abbrev pub AreAscending : ℕ → List ReadConfig → Type 0
AreAscending floor configs = AllAdjacentBelow (λ a b. Ascends floor (as_config a) (as_config b)) configs (length configs)

-- so they do from some floor on
abbrev pub Rise : List ReadConfig → Type 0
Rise configs = (floor : ℕ) × AreAscending floor configs

-- the revisions are above 0
abbrev pub AreLater : List ReadConfig → Type 0
AreLater configs = All (λ c. 0 < c.rev) configs

-- those before the place are of the revision or of earlier ones, those from it on of later ones
pub record ArePartedAt (rev : ℕ) (configs : List ReadConfig) (at : ℕ) : Type 0 where
  pub within : at ≤ length configs
  pub before : (k : ℕ) (d : ReadConfig) → k < at → (slice_index_or configs k d).rev ≤ rev
  pub after : (k : ℕ) (d : ReadConfig) → at ≤ k → k < length configs → rev < (slice_index_or configs k d).rev

-- each span's tuple is admitted
abbrev pub AreAdmitted : ℕ → List ReadConfig → List ReadSpan → Type 0
AreAdmitted floor configs spans = All (λ s. IsAdmitted floor (map as_config configs) (as_span s)) spans

-- spans and configurations in order, and each tuple admitted
pub record ArePlaced (head : Head) (configs : List ReadConfig) (spans : List ReadSpan) : Type 0 where
  pub apart : AreInTurn spans
  pub distinct : AreAscending head.floor configs
  pub admitted : AreAdmitted head.floor configs spans
