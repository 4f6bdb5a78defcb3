-- Lists of histories: tables that are left hold one of such a list.
use Rattle.std.specs.Prelude.{◌≡◌, ◌⊎◌, List, [], ◌∷◌}
use Rattle.std.proofs.Common.{inl}
use Rattle.rows.specs.Retained.{Retained}

-- it is one of these
abbrev pub IsOneOf : List Retained → Retained → Type 0
IsOneOf [] x = ⊥
IsOneOf (r ∷ rs) x = (x ≡ r) ⊎ IsOneOf rs x

-- each of the first is one of the second
abbrev pub AreAmong : List Retained → List Retained → Type 0
AreAmong rs ss = (x : Retained) → IsOneOf rs x → IsOneOf ss x

pub only_one : (x r : Retained) → x ≡ r → IsOneOf (r ∷ []) x
only_one x r same = inl same
