-- Which of the groups that were counted by their numbers were handed on.
use Rattle.std.specs.Prelude.{ℕ, ◌≡◌, true, ◌++◌, List, [], ◌∷◌, Some}
use Rattle.std.specs.List.{slice_get}
use Rattle.std.proofs.Common.{◌∙◌, ap, sym, subst, append_assoc, append-nil}
use Rattle.names.specs.declared.node.Node.{Node}
use Rattle.least_sets.specs.World.{has}
use Rattle.region.specs.Tables.{Rows, kept}
use Rattle.facts.specs.inside.Tables.{grew_get}
use Rattle.delta.specs.Telling.{IsMore}

-- it is not kept, or has changed
abbrev pub IsAnew : Rows → List ℕ → ℕ → Type 0
IsAnew rows changed i = kept rows i ≡ true → has changed i ≡ true

-- the groups have, in order, some of these numbers, and each of them is anew
pub data AreOf (nodes : List Node) (rows : Rows) (changed : List ℕ) : List ℕ → List Node → Type 0 where
  nobody : AreOf nodes rows changed [] []
  kept_back : {i : ℕ} {ids : List ℕ} {groups : List Node} → AreOf nodes rows changed ids groups → AreOf nodes rows changed (i ∷ ids) groups
  handed_on : {i : ℕ} {ids : List ℕ} {groups : List Node} → (n : Node) → slice_get nodes i ≡ Some n → IsAnew rows changed i
      → AreOf nodes rows changed ids groups → AreOf nodes rows changed (i ∷ ids) (n ∷ groups)

-- more were counted, and of them those were asked that are anew, or some of those
pub record WereOf (nodes : List Node) (rows : Rows) (changed : List ℕ) (counted counted' : List ℕ) (asked asked' : List Node) : Type 0 where
  pub ids : List ℕ
  pub groups : List Node
  pub counted_is : counted' ≡ counted ++ ids
  pub asked_is : asked' ≡ asked ++ groups
  pub of : AreOf nodes rows changed ids groups

module _ (rows : Rows) (changed : List ℕ) where
  of_grown : (nodes nodes' : List Node) (ids : List ℕ) (groups : List Node) → IsMore nodes nodes' → AreOf nodes rows changed ids groups → AreOf nodes' rows changed ids groups
  of_grown nodes nodes' ids groups more nobody = nobody
  of_grown nodes nodes' ids groups more (kept_back {ids = is} rest) = kept_back (of_grown nodes nodes' is groups more rest)
  of_grown nodes nodes' ids groups more (handed_on {i = i} {ids = is} {groups = gs} n at anew rest) =
      handed_on n (grew_get nodes nodes' i n more.grew at) anew (of_grown nodes nodes' is gs more rest)

  of_both : (nodes : List Node) (ids ids' : List ℕ) (groups groups' : List Node) → AreOf nodes rows changed ids groups → AreOf nodes rows changed ids' groups' → AreOf nodes rows changed (ids ++ ids') (groups ++ groups')
  of_both nodes ids ids' groups groups' nobody other = other
  of_both nodes ids ids' groups groups' (kept_back {ids = is} rest) other = kept_back (of_both nodes is ids' groups groups' rest other)
  of_both nodes ids ids' groups groups' (handed_on {ids = is} {groups = gs} n at anew rest) other = handed_on n at anew (of_both nodes is ids' gs groups' rest other)

pub were_none : (nodes : List Node) (rows : Rows) (changed counted : List ℕ) (asked : List Node) → WereOf nodes rows changed counted counted asked asked
were_none nodes rows changed counted asked = record { ids = []; groups = []; counted_is = sym (append-nil counted); asked_is = sym (append-nil asked); of = nobody }

pub were_both : (nodes nodes' : List Node) (rows rows' : Rows) (changed changed' a b c : List ℕ) (x y z : List Node) → IsMore nodes nodes' → rows' ≡ rows → changed' ≡ changed
    → WereOf nodes rows changed a b x y → WereOf nodes' rows' changed' b c y z → WereOf nodes' rows' changed' a c x z
were_both nodes nodes' rows rows' changed changed' a b c x y z more same_rows same_changed one other = record {
  ids = one.ids ++ other.ids;
  groups = one.groups ++ other.groups;
  counted_is = other.counted_is ∙ ap (λ xs. xs ++ other.ids) one.counted_is ∙ append_assoc a one.ids other.ids;
  asked_is = other.asked_is ∙ ap (λ xs. xs ++ other.groups) one.asked_is ∙ append_assoc x one.groups other.groups;
  of = of_both rows' changed' nodes' one.ids other.ids one.groups other.groups
      (subst (λ (rs : Rows). AreOf nodes' rs changed' one.ids one.groups) (sym same_rows)
      (subst (λ (ids : List ℕ). AreOf nodes' rows ids one.ids one.groups) (sym same_changed)
      (of_grown rows changed nodes nodes' one.ids one.groups more one.of)))
      other.of;
}
