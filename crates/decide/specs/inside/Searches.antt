-- What stands in a search: the nodes that were opened, who waits for them, and which are to be looked at.
use Rattle.std.specs.Prelude.{◌≡◌, ◌<◌, ◌⊎◌, ◌++◌, ◌∷◌, [], ℕ, List, false, Contains, Vec, None, length, count_by, slice_index_or, slice_set}
use Rattle.std.specs.Global.{Global}
use Rattle.names.specs.declared.node.Node.{Node}
use Rattle.decide.specs.declared.search.Search.{Search}
use Rattle.decide.specs.declared.search.Opened.{Opened}
use Rattle.decide.specs.declared.search.Frame.{Frame}

-- the node with the number was opened
abbrev pub Stands : Search → ℕ → Opened → Type 0
Stands s i e = (i < length s.opened.items) × (slice_index_or s.opened.items i e ≡ e)

-- the number is to be looked at, on the stack of the level
abbrev pub IsStacked : Search → ℕ → ℕ → Type 0
IsStacked s l i =
    (v : Vec ℕ Global) × (l < length s.stacks.items) × (slice_index_or s.stacks.items l v ≡ v) × Contains v.items i

-- the number waits for the node, of which nothing is known yet
abbrev pub Waits : Search → Node → ℕ → Type 0
Waits s m i = (j : ℕ) × (e : Opened) × Stands s j e × (e.node ≡ m) × (e.sure ≡ false) × Contains e.waiting.items i

-- the same node at the same level and place, of which as much is known, and at least the same wait for it
pub record IsMore (e f : Opened) : Type 0 where
  pub node : f.node ≡ e.node
  pub level : f.level ≡ e.level
  pub place : f.place ≡ e.place
  pub sure : f.sure ≡ e.sure
  pub waiting : (i : ℕ) → Contains e.waiting.items i → Contains f.waiting.items i

-- what was opened, who waits, and what is to be looked at is so still
pub record Keeps (s t : Search) : Type 0 where
  pub stands : (i : ℕ) (e : Opened) → Stands s i e → (f : Opened) × Stands t i f × IsMore e f
  pub stacked : (l i : ℕ) → IsStacked s l i → IsStacked t l i
  pub long : length t.stacks.items ≡ length s.stacks.items

-- how many nodes are known to have the user
abbrev pub sures : Search → ℕ
sures s = count_by (λ e. e.sure) s.opened.items

-- Nodes were opened, or others wait: nothing is to be looked at again, and of no node more is known.
pub record Grew (s t : Search) : Type 0 where
  pub stands : (i : ℕ) (e : Opened) → Stands s i e → (f : Opened) × Stands t i f × IsMore e f
  pub stacked : (l i : ℕ) → IsStacked s l i → IsStacked t l i
  pub long : length t.stacks.items ≡ length s.stacks.items
  pub frames : t.frames.items ≡ s.frames.items
  pub sures : sures t ≡ sures s
  pub rises : (length s.opened.items < length t.opened.items)
      ⊎ ((t.stacks.items ≡ s.stacks.items) × (length t.opened.items ≡ length s.opened.items))

-- the node has the number
abbrev pub IsNodeAt : Search → Node → ℕ → Type 0
IsNodeAt s n i = (e : Opened) × Stands s i e × (e.node ≡ n)

-- a node with this number stands at a level
abbrev pub IsNumberOf : Search → ℕ → Node → ℕ → Type 0
IsNumberOf s i n k = (e : Opened) × Stands s i e × (e.node ≡ n) × (e.level ≡ k)

-- the number was pushed on the stack of the level
abbrev pub Pushes : List (Vec ℕ Global) → List (Vec ℕ Global) → ℕ → ℕ → Type 0
Pushes before after l i =
    (v : Vec ℕ Global) × (w : Vec ℕ Global) × (slice_index_or before l v ≡ v) × (w.items ≡ v.items ++ i ∷ [])
    × (after ≡ slice_set before l w)

-- the node was opened, with this number
abbrev pub Opens : Search → Search → Node → (level place number : ℕ) → Type 0
Opens s t n k p i =
    (e : Opened) × (t.opened.items ≡ s.opened.items ++ e ∷ []) × (e.node ≡ n) × (e.level ≡ k) × (e.place ≡ p) × (e.sure ≡ false)
    × (e.waiting.items ≡ []) × (e.own ≡ None) × (e.parents ≡ None) × (i ≡ length s.opened.items) × Pushes s.stacks.items t.stacks.items k i
    × (t.frames.items ≡ s.frames.items)

-- there is a stack for the node's level
abbrev pub IsThere : Search → ℕ → Type 0
IsThere s i = (e : Opened) → Stands s i e → e.level < length s.stacks.items

-- the frame stands, so many above the first
abbrev pub IsFrame : List Frame → ℕ → Frame → Type 0
IsFrame frames i f = (i < length frames) × (slice_index_or frames i f ≡ f)

-- each frame is of a lower level than those before it
abbrev pub AreFalling : List Frame → Type 0
AreFalling frames = (i j : ℕ) (f g : Frame) → i < j → IsFrame frames i f → IsFrame frames j g → g.level < f.level

-- the number's level is below that of each frame
abbrev pub IsLowest : Search → ℕ → Type 0
IsLowest s n = (i : ℕ) (e : Opened) (f : Frame) → Stands s n e → IsFrame s.frames.items i f → e.level < f.level

-- the numbers are to be looked at
pub record Wakes (s t : Search) (waiting : List ℕ) : Type 0 where
  pub long : length t.stacks.items ≡ length s.stacks.items
  pub stays : (l i : ℕ) → IsStacked s l i → IsStacked t l i
  pub woken : (w : ℕ) (e : Opened) → Contains waiting w → Stands s w e → IsStacked t e.level w
  pub only : (l i : ℕ) → IsStacked t l i
      → IsStacked s l i ⊎ (Contains waiting i × ((e : Opened) → Stands s i e → e.level ≡ l))
  pub falling : AreFalling s.frames.items → AreFalling t.frames.items
