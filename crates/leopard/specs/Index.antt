-- The group index of one revision (Zanzibar, section 3.2.4): which groups each group leads to, and which name each user, kept as sets of ids.
use Rattle.std.specs.Prelude.{◌≡◌, ℕ, ◌⊎◌, ◌↔◌, true, List, [], Some, slice_index_or}
use Rattle.std.specs.List.{slice_get}
use Rattle.names.specs.declared.object.Object.{Object}
use Rattle.names.specs.declared.node.Node.{Node}
use Rattle.meaning.specs.TupleSet as set
use Rattle.meaning.specs.Config.{Configured}
use Rattle.meaning.specs.Snap.{Snap}
use Rattle.graphs.specs.Groups.{GroupWalk}
use Rattle.idsets.specs.Sets.{has}
use Rattle.leopard.specs.Groups.{IsGroup, GroupToGroup, MemberToGroup}
use Rattle.leopard.specs.Query.{Query, Queries, Member2Group, Group2Group, Union, Intersection, Exclusion, none, more}

-- A group's id is its place. At the same place stand the ids of the groups to which it leads. A user's place is that of the ids of its direct groups.
pub record Index : Type 0 where
  pub config : Configured
  pub rev : ℕ
  pub groups : List Node
  pub closures : List (List ℕ)
  pub users : List Object
  pub direct : List (List ℕ)

-- the set at the place has the group
abbrev pub Keeps : List Node → List (List ℕ) → ℕ → Node → Type 0
Keeps groups sets at n = (id : ℕ) × (slice_get groups id ≡ Some n) × (has (slice_index_or sets at []) id ≡ true)

-- the configuration, and no tuple
abbrev pub bare : Configured → Snap
bare config = record { config = config; tuples = set.empty }

-- the group itself, and those that are kept of it
abbrev pub IsKeptOf : Index → Node → Node → Type 0
IsKeptOf x h n = (h ≡ n) ⊎ ((at : ℕ) × (slice_get x.groups at ≡ Some h) × Keeps x.groups x.closures at n)

-- By the index a group leads to those to which computed usersets alone lead from it, and to those that are kept of each of these.
abbrev pub LeadsTo : Index → Node → Node → Type 0
LeadsTo x g n = (h : Node) × GroupWalk (bare x.config) g h × IsKeptOf x h n

-- by the index the group names the user
abbrev pub NamesUser : Index → Object → Node → Type 0
NamesUser x u n = (at : ℕ) × (slice_get x.users at ≡ Some u) × Keeps x.groups x.direct at n

-- It is the index of the snapshot: it has its configuration, the closure of each group and the direct groups of each user, whether a tuple names it or not.
pub record IsIndexOf (S : Snap) (x : Index) : Type 0 where
  pub config : x.config ≡ S.config
  pub closures : (g n : Node) → IsGroup S.config g → LeadsTo x g n ↔ GroupToGroup S g n
  pub direct : (u : Object) (n : Node) → NamesUser x u n ↔ MemberToGroup S u n

-- the groups that the expression means by the index
abbrev mutual
  pub MeansBy : Index → Query → Node → Type 0
  MeansBy x (Member2Group u) n = NamesUser x u n
  MeansBy x (Group2Group g) n = LeadsTo x g n
  MeansBy x (Union qs) n = SomeMeansBy x qs n
  MeansBy x (Intersection qs) n = EachMeansBy x qs n
  MeansBy x (Exclusion a b) n = MeansBy x a n × ¬ (MeansBy x b n)

  pub SomeMeansBy : Index → Queries → Node → Type 0
  SomeMeansBy x none n = ⊥
  SomeMeansBy x (more q qs) n = MeansBy x q n ⊎ SomeMeansBy x qs n

  pub EachMeansBy : Index → Queries → Node → Type 0
  EachMeansBy x none n = Unit {0}
  EachMeansBy x (more q qs) n = MeansBy x q n × EachMeansBy x qs n
