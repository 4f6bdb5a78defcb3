-- Why a search ends: what each turn takes away, where it opens no node and gives none the user.
use Rattle.std.specs.Prelude.{◌≡◌, ◌<◌, ◌≤◌, ◌+◌, ◌⊎◌, ◌&&◌, ◌||◌, [], ◌∷◌, ℕ, zero, suc, List, Bool, true, false, not, Vec, length, nat_eq, cond}
use Rattle.std.specs.List.{sum_by}
use Rattle.std.specs.Global.{Global}
use Rattle.decide.specs.declared.search.Search.{Search}
use Rattle.decide.specs.declared.search.Frame.{Frame}
use Rattle.decide.specs.inside.Searches.{IsStacked, sures}

-- how many numbers are on the stacks
abbrev pub numbers_on : List (Vec ℕ Global) → ℕ
numbers_on stacks = sum_by (λ v. length v.items) stacks

abbrev pub has_any : List ℕ → Bool
has_any [] = false
has_any (i ∷ is) = true

-- a stack below the level has a number
abbrev pub is_pending : List (Vec ℕ Global) → ℕ → Bool
is_pending [] l = false
is_pending (v ∷ vs) zero = false
is_pending (v ∷ vs) (suc l) = has_any v.items || is_pending vs l

-- a frame is of the level
abbrev pub has_frame : List Frame → ℕ → Bool
has_frame [] l = false
has_frame (f ∷ fs) l = nat_eq f.level l || has_frame fs l

-- how many numbers below one pass the test
abbrev pub count_below : (ℕ → Bool) → ℕ → ℕ
count_below test zero = 0
count_below test (suc n) = cond (test n) 1 0 + count_below test n

-- a node of the level can be put back: lower levels are not finished, and it has no frame
abbrev pub is_free : List (Vec ℕ Global) → List Frame → ℕ → Bool
is_free stacks frames l = is_pending stacks l && not (has_frame frames l)

-- how many nodes are to be looked at, and from how many levels one can be put back
abbrev pub left_on : List (Vec ℕ Global) → List Frame → ℕ
left_on stacks frames = numbers_on stacks + count_below (is_free stacks frames) (length stacks)

abbrev pub left : Search → ℕ
left s = left_on s.stacks.items s.frames.items

-- some node of a level below the asker's is to be looked at
abbrev pub IsUnfinished : Search → ℕ → Type 0
IsUnfinished s level = (l : ℕ) × (i : ℕ) × (l < level) × IsStacked s l i

-- how far a search has come: how many nodes were opened, and how many are known to have the user
abbrev pub progress : Search → ℕ
progress s = length s.opened.items + sures s

-- A turn gave a node the user; or it opened nodes; or less is left.
abbrev pub Turned : Search → Search → Bool → Type 0
Turned s t true = (length s.opened.items ≤ length t.opened.items) × (sures s < sures t)
Turned s t false = (sures t ≡ sures s)
    × ((length s.opened.items < length t.opened.items)
    ⊎ ((length t.opened.items ≡ length s.opened.items) × (left t ≤ left s)))
