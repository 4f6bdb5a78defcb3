-- What groups named a user before a commit, where the commit named the user.
use Rattle.std.specs.Prelude.{ℕ, ◌≤◌, ◌&&◌, cond, List, [], ◌∷◌, Contains, nat_eq, nat_lt, slice_index_or}
use Rattle.std.specs.List.Sorted.{IsNonDecreasingBy}
use Rattle.direct.specs.declared.noted.EarlierGroups.{EarlierGroups}

-- the groups that name a user, by numbers
abbrev pub set_in : List (List ℕ) → ℕ → List ℕ
set_in sets user = slice_index_or sets user []

-- the same at a revision: what was noted first after it, or else what is kept
abbrev pub set_at : List EarlierGroups → List (List ℕ) → ℕ → ℕ → List ℕ
set_at [] sets user rev = set_in sets user
set_at (e ∷ es) sets user rev = cond (nat_lt rev e.rev && nat_eq user e.user) e.groups (set_at es sets user rev)

-- it was noted in the order of revisions, and none of them is after the cursor
pub record AreUpTo (cursor : ℕ) (es : List EarlierGroups) : Type 0 where
  pub order : IsNonDecreasingBy (λ (e : EarlierGroups). e.rev) es
  pub up_to : (e : EarlierGroups) → Contains es e → e.rev ≤ cursor
