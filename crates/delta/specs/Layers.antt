-- What a layer keeps and tells of the revisions from its base to its cursor (Zanzibar, section 3.2.4).
use Rattle.std.specs.Prelude.{ℕ, ◌+◌, ◌≡◌, ◌≤◌, ◌<◌, ◌⊎◌, ◌↔◌, true, List, Some, Contains, length, nat_eq}
use Rattle.std.specs.List.{slice_get, IsDistinct}
use Rattle.names.specs.declared.node.Node.{Node}
use Rattle.names.specs.declared.tuple.Tuple.{Tuple}
use Rattle.names.specs.declared.commit.Event.{Event}
use Rattle.names.specs.declared.commit.Commit.TheVariants.{Tuples}
use Rattle.meaning.specs.TupleSet as set
use Rattle.meaning.specs.Config.{Configured}
use Rattle.meaning.specs.Snap.{Snap, set_of}
use Rattle.meaning.specs.Membership.{HasSet}
use Rattle.meaning.specs.History.{after_commit}
use Rattle.idsets.specs.Naming.{AreDistinct}
use Rattle.least_sets.specs.World.{has}
use Rattle.least_sets.specs.Groups.{groups}
use Rattle.region.specs.Tables.{Rows, kept}
use Rattle.region.specs.Sets.{IsHeld}
use Rattle.graphs.specs.Groups.{GroupWalk}
use Rattle.leopard.specs.Groups.{IsGroup, GroupToGroup}
use Rattle.leopard.specs.Index.{bare}
use Rattle.delta.specs.Telling.{MayTell}
use Rattle.delta.specs.Noted.{led_at}
use Rattle.delta.specs.declared.layer.Layer.{Layer}

-- the rows are the closures of the roots and of all that they lead to, over the arcs of the snapshot's groups
pub record AreKept (S : Snap) (nodes : List Node) (roots : List ℕ) (rows : Rows) : Type 0 where
  pub arcs : ℕ → List ℕ
  pub held : IsHeld (groups arcs) roots rows
  pub told : (i : ℕ) → kept rows i ≡ true → MayTell S nodes i (groups arcs i)

-- a tuple that names the members of a node
abbrev pub IsOfSet : Tuple → Type 0
IsOfSet t = (m : Node) × (t.subject ≡ set_of m)

-- a group that by computed usersets alone leads to the node of one of some tuples of usersets
abbrev pub IsAbove : Configured → (Tuple → Type 0) → Node → Type 0
IsAbove config Is g = IsGroup config g × ((t : Tuple) × Is t × IsOfSet t × GroupWalk (bare config) g t.node)

-- the snapshot has the tuple
abbrev pub IsIn : Snap → Tuple → Type 0
IsIn S t = Contains (set.items S.tuples) t

-- a group to whose closure a tuple adds is a root: the others lead where computed usersets lead, and no further
abbrev pub AreRoots : Snap → List Node → List ℕ → Type 0
AreRoots S nodes roots = (g : Node) → IsAbove S.config (IsIn S) g → (i : ℕ) × (has roots i ≡ true) × (slice_get nodes i ≡ Some g)

-- these are the numbers to which the group leads at the revision, where it is kept there
abbrev pub KeepsAt : Layer → ℕ → Node → List ℕ → Type 0
KeepsAt layer rev g ids = (i : ℕ) × (slice_get layer.nodes i ≡ Some g) × (led_at layer.earlier.items layer.sets.rows i rev ≡ Some ids)

-- By the layer the group leads to n at the revision: by what is kept of it, or else by computed usersets alone.
abbrev pub LeadsAt : Layer → ℕ → Node → Node → Type 0
LeadsAt layer rev g n = ((ids : List ℕ) × KeepsAt layer rev g ids × ((j : ℕ) × (has ids j ≡ true) × (slice_get layer.nodes j ≡ Some n)))
    ⊎ (((ids : List ℕ) → KeepsAt layer rev g ids → ⊥) × GroupWalk (bare layer.config) g n)

-- what the layer tells of a revision is what the snapshot holds
pub record Tells (layer : Layer) (rev : ℕ) (S : Snap) : Type 0 where
  pub config : S.config ≡ layer.config
  pub closures : (g n : Node) → IsGroup S.config g → LeadsAt layer rev g n ↔ GroupToGroup S g n
  pub within : (i : ℕ) (ids : List ℕ) → led_at layer.earlier.items layer.sets.rows i rev ≡ Some ids
      → (i < length layer.nodes) × ((j : ℕ) → has ids j ≡ true → j < length layer.nodes)

-- The layer is that of the snapshots from its base to its cursor.
pub record IsLayerOf (layer : Layer) (snaps : ℕ → Snap) : Type 0 where
  pub order : layer.base ≤ layer.cursor
  pub distinct : AreDistinct layer.nodes
  pub kept : AreKept (snaps layer.cursor) layer.nodes layer.roots layer.sets.rows
  pub roots : AreRoots (snaps layer.cursor) layer.nodes layer.roots
  pub tells : (rev : ℕ) → layer.base ≤ rev → rev ≤ layer.cursor → Tells layer rev (snaps rev)

-- the view is the snapshot after a commit of events on that of the revision before
pub record IsNext (snaps : ℕ → Snap) (rev : ℕ) (events : List Event) (view : Snap) : Type 0 where
  pub now : snaps (rev + 1) ≡ view
  pub after : view ≡ after_commit (snaps rev) (Tuples events)

-- a walk of arcs leads from the group to the node of an event, before or after
abbrev pub IsTouched : Snap → Snap → List Event → Node → Type 0
IsTouched S T events g = (e : Event) × Contains events e × (GroupWalk S g e.tuple.node ⊎ GroupWalk T g e.tuple.node)

-- a walk leads to it after the commit from a group that is touched, and no tuple of a group named it before
abbrev pub IsNewlyLedTo : Snap → Snap → List Event → Node → Type 0
IsNewlyLedTo S T events n = ((g : Node) × IsTouched S T events g × GroupWalk T g n) × ((g : Node) → IsGroup S.config g → HasSet S g n → ⊥)
