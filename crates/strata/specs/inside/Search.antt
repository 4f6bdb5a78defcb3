-- What a search in breadth has reached, and the way back.
use Rattle.std.specs.Prelude.{◌≡◌, ◌≢◌, ℕ, ◌<◌, ◌≤◌, ◌+◌, ◌↔◌, List, Bool, false, true, IsTrue, All, Contains, cond, length, slice_index_or, sum_by}
use Rattle.strata.specs.declared.graph.Step.{Step}
use Rattle.strata.specs.declared.search.Seen.{Seen}
use Rattle.strata.specs.declared.search.Search.{Search}
use Rattle.strata.specs.Graph.{HasStep, IsChain, EndsApart}

-- the node stands in the list
abbrev pub HasNode : List Seen → ℕ → Type 0
HasNode seen node = (x : Seen) × Contains seen x × (x.node ≡ node)

-- each but the first was reached from one before it
abbrev pub AreByEarlier : List Seen → Type 0
AreByEarlier seen = (i : ℕ) (d : Seen) → 0 < i → i < length seen → (slice_index_or seen i d).by < i

-- what was reached from the start, each by a step from one before it
pub record IsTrail (steps : List Step) (start : ℕ) (seen : List Seen) : Type 0 where
  pub some : 0 < length seen
  pub first : (d : Seen) → (slice_index_or seen 0 d).node ≡ start
  pub earlier : AreByEarlier seen
  pub by_step : (i : ℕ) (d : Seen) → 0 < i → i < length seen → HasStep steps (slice_index_or seen (slice_index_or seen i d).by d).node (slice_index_or seen i d).subtracted (slice_index_or seen i d).node
  pub apart : (i j : ℕ) (d : Seen) → i < j → j < length seen → (slice_index_or seen i d).node ≢ (slice_index_or seen j d).node

-- all that can be reached was
pub record IsReached (steps : List Step) (start : ℕ) (seen : List Seen) : Type 0 where
  pub trail : IsTrail steps start seen
  pub closed : (a b : ℕ) (sign : Bool) → HasStep steps a sign b → HasNode seen a → HasNode seen b

-- the marked nodes are those in the list
abbrev pub IsMarked : List Bool → List Seen → Type 0
IsMarked marks seen = (node : ℕ) → IsTrue (slice_index_or marks node false) ↔ HasNode seen node

-- the steps start at the node at the place
abbrev pub LeaveFrom : List Seen → ℕ → List Step → Type 0
LeaveFrom seen place steps = (s : Step) (d : Seen) → Contains steps s → s.from ≡ (slice_index_or seen place d).node

-- how many nodes are not marked
abbrev pub unmarked : List Bool → ℕ
unmarked marks = sum_by (λ mark. cond mark 0 1) marks

-- the first n of the steps were taken from the place: what was seen stays, and they lead to what is seen now
pub record IsSpread (seen : List Seen) (marks : List Bool) (seen_now : List Seen) (marks_now : List Bool) (steps : List Step) (n : ℕ) : Type 0 where
  pub longer : length seen ≤ length seen_now
  pub remains : (k : ℕ) (d : Seen) → k < length seen → slice_index_or seen_now k d ≡ slice_index_or seen k d
  pub room : unmarked marks_now + length seen_now ≡ unmarked marks + length seen
  pub long : length marks_now ≡ length marks
  pub marked : IsMarked marks_now seen_now
  pub taken : (k : ℕ) (s : Step) → k < n → slice_index_or steps k s ≡ s → HasNode seen_now s.to
  pub trail : (graph : List Step) (start : ℕ) → ((s : Step) → Contains steps s → Contains graph s) → IsTrail graph start seen → IsTrail graph start seen_now

-- all of the steps were taken, from what an earlier search has reached to what a later one has
abbrev pub HasSpread : Search → Search → List Step → Type 0
HasSpread old new steps = IsSpread old.seen.items old.marks.items new.seen.items new.marks.items steps (length steps)

-- the steps lead from the place i of a trail to its place p, and end at places after i
pub record IsWay (steps : List Step) (start : ℕ) (seen : List Seen) (i p : ℕ) (way : List Step) : Type 0 where
  pub chain : (d : Seen) → IsChain (slice_index_or seen i d).node way (slice_index_or seen p d).node
  pub steps_in : (s : Step) → Contains way s → Contains steps s
  pub apart : EndsApart way
  pub ends : (s : Step) → Contains way s → (j : ℕ) × (i < j) × (j < length seen) × ((d : Seen) → (slice_index_or seen j d).node ≡ s.to)

-- on each trail, the steps lead from its start to its place p
abbrev pub IsWayTo : List Seen → ℕ → List Step → Type 0
IsWayTo seen p way = (steps : List Step) (start : ℕ) → IsTrail steps start seen → IsWay steps start seen 0 p way

-- a subtracted step to the node from one that is marked
pub record IsClosing (steps : List Step) (to : ℕ) (marks : List Bool) (s : Step) : Type 0 where
  pub has : Contains steps s
  pub subtracted : s.subtracted ≡ true
  pub ends : s.to ≡ to
  pub marked : IsTrue (slice_index_or marks s.from false)
