-- What is kept of marked nodes, for a snapshot.
use Rattle.std.specs.Prelude.{ℕ, ◌+◌, ◌≡◌, ◌≤◌, ◌⊎◌, ◌↔◌, true, List, Option, Some, length, nat_eq}
use Rattle.std.specs.List.{slice_get, IsDistinct}
use Rattle.std.specs.Ordering.{nat_cmp}
use Rattle.std.specs.BTreeMap.{BTreeMap, get}
use Rattle.names.specs.declared.limits.TheConstants.{MAX_MARKS}
use Rattle.names.specs.declared.object.Object.{Object}
use Rattle.names.specs.declared.node.Node.{Node}
use Rattle.names.specs.declared.commit.Event.{Event}
use Rattle.names.specs.declared.refusal.Refusal.{Refusal}
use Rattle.names.specs.declared.refusal.Refusal.TheVariants.{Full, Memory}
use Rattle.meaning.specs.Snap.{Snap}
use Rattle.meaning.specs.Reads.{IsValid}
use Rattle.idsets.specs.Naming.{AreDistinct}
use Rattle.least_sets.specs.World.{Fact, has}
use Rattle.least_sets.specs.Least.{IsLevelled}
use Rattle.region.specs.declared.rule.Told.{Told}
use Rattle.region.specs.Rules.{fact_of}
use Rattle.region.specs.Tables.{Rows, kept}
use Rattle.region.specs.Sets.{IsHeld}
use Rattle.facts.specs.Telling.{MayTell}
use Rattle.hot.specs.Depending.{Leads, IsTouchedBy}
use Rattle.hot.specs.declared.hot.Hot.{Hot}

-- the rows are the least sets of the snapshot's graph, of exactly the marked nodes and all that they depend on
pub record AreKept (S : Snap) (nodes : List Node) (users : List Object) (marks : List ℕ) (rows : Rows) : Type 0 where
  pub world : ℕ → Fact
  pub levelled : IsLevelled world
  pub held : IsHeld world marks rows
  pub told : (n : ℕ) → kept rows n ≡ true → MayTell S nodes users n (world n)

-- what was told of nodes by their numbers, as far as it is remembered
abbrev pub Remembered : Type 0
Remembered = BTreeMap ℕ Told

abbrev pub told_of : Remembered → ℕ → Option Told
told_of memory n = get nat_cmp memory n

-- what is remembered is of nodes that are kept, and is what the world has of them
pub record AreOfWorld (world : ℕ → Fact) (rows : Rows) (memory : Remembered) : Type 0 where
  pub each : (n : ℕ) (t : Told) → told_of memory n ≡ Some t → (kept rows n ≡ true) × (fact_of t ≡ world n)

-- both of one world
pub record AreKeptAll (S : Snap) (nodes : List Node) (users : List Object) (marks : List ℕ) (rows : Rows) (memory : Remembered) : Type 0 where
  pub kept : AreKept S nodes users marks rows
  pub remembered : AreOfWorld kept.world rows memory

-- what is kept is that of the snapshot: it is what the cursor's revision holds
pub record IsHot (hot : Hot) (S : Snap) : Type 0 where
  pub valid : IsValid S
  pub all : AreKeptAll S hot.numbers.nodes hot.numbers.users hot.marks hot.sets.rows hot.told
  pub distinct : AreDistinct hot.numbers.nodes

-- the number stands for the node
abbrev pub HasNumber : Hot → Node → ℕ → Type 0
HasNumber hot n i = slice_get hot.numbers.nodes i ≡ Some n

-- the node is kept
abbrev pub IsKept : Hot → Node → Type 0
IsKept hot n = (i : ℕ) × (kept hot.sets.rows i ≡ true) × HasNumber hot n i

-- the node is marked
abbrev pub IsMarked : Hot → Node → Type 0
IsMarked hot n = (i : ℕ) × (has hot.marks i ≡ true) × HasNumber hot n i

-- how many nodes are marked
abbrev pub marks_of : Hot → ℕ
marks_of hot = length hot.marks

-- the same nodes are marked
pub record HasSameMarks (before now : Hot) : Type 0 where
  pub nodes : (n : Node) → IsMarked now n ↔ IsMarked before n
  pub count : marks_of now ≡ marks_of before

-- the node is marked, and each that was; it counts as one more, where it was not
pub record HasMarked (before now : Hot) (node : Node) : Type 0 where
  pub nodes : (n : Node) → IsMarked now n ↔ (IsMarked before n ⊎ (n ≡ node))
  pub again : IsMarked before node → marks_of now ≡ marks_of before
  pub more : (IsMarked before node → ⊥) → marks_of now ≡ marks_of before + 1

-- the node is not marked, and each other one that was; it counts as one less, where it was
pub record HasUnmarked (before now : Hot) (node : Node) : Type 0 where
  pub nodes : (n : Node) → IsMarked now n ↔ (IsMarked before n × (n ≡ node → ⊥))
  pub less : IsMarked before node → marks_of now + 1 ≡ marks_of before
  pub none : (IsMarked before node → ⊥) → marks_of now ≡ marks_of before

-- the node is marked, or a marked node depends on it
abbrev pub IsUnderMark : Hot → Snap → Node → Type 0
IsUnderMark hot S n = (m : Node) × IsMarked hot m × Leads S m n

-- the node is kept, and was not before
abbrev pub IsNew : Hot → Hot → Node → Type 0
IsNew old new n = IsKept new n × (IsKept old n → ⊥)

-- the node is kept; where it was kept before, a walk of dependence led from it, before the commit, to the node of an event
abbrev pub IsNewOrTouched : Hot → Hot → Snap → List Event → Node → Type 0
IsNewOrTouched old new S events n = IsKept new n × (IsKept old n → IsTouchedBy S events n)

-- the nodes that were asked, by their numbers: each once, and exactly those
pub record WereAsked (hot : Hot) (asked : List ℕ) (who : Node → Type 0) : Type 0 where
  pub once : IsDistinct nat_eq asked
  pub exactly : (i : ℕ) → has asked i ≡ true ↔ ((n : Node) × HasNumber hot n i × who n)

-- why a node is not marked: there is no room for one more mark, or no memory
abbrev pub MarkCause : Hot → Node → Refusal → Type 0
MarkCause hot n Full = (MAX_MARKS ≤ marks_of hot) × (IsMarked hot n → ⊥)
MarkCause hot n Memory = Unit {0}
MarkCause hot n _ = ⊥
