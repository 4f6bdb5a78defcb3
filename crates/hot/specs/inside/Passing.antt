-- Which of the nodes that were counted by their numbers were asked.
use Rattle.std.specs.Prelude.{ℕ, ◌≡◌, ◌++◌, List, [], ◌∷◌, Some}
use Rattle.std.specs.List.{slice_get}
use Rattle.std.proofs.Common.{◌∙◌, ap, sym, append_assoc, append-nil}
use Rattle.names.specs.declared.node.Node.{Node}
use Rattle.facts.specs.Numbers.{Grew}
use Rattle.facts.specs.inside.Tables.{grew_get}

-- the nodes have, in order, some of these numbers
pub data HaveSome (nodes : List Node) : List ℕ → List Node → Type 0 where
  no_more : HaveSome nodes [] []
  not_passed : {i : ℕ} {ids : List ℕ} {names : List Node} → HaveSome nodes ids names → HaveSome nodes (i ∷ ids) names
  passed_on : {i : ℕ} {ids : List ℕ} {names : List Node} → (n : Node) → slice_get nodes i ≡ Some n → HaveSome nodes ids names → HaveSome nodes (i ∷ ids) (n ∷ names)

-- more were counted, and of them some were asked
pub record WerePassed (nodes : List Node) (counted counted' : List ℕ) (asked asked' : List Node) : Type 0 where
  pub ids : List ℕ
  pub names : List Node
  pub counted_is : counted' ≡ counted ++ ids
  pub asked_is : asked' ≡ asked ++ names
  pub have : HaveSome nodes ids names

have_grown : (nodes nodes' : List Node) (ids : List ℕ) (names : List Node) → Grew nodes nodes' → HaveSome nodes ids names → HaveSome nodes' ids names
have_grown nodes nodes' ids names grew no_more = no_more
have_grown nodes nodes' ids names grew (not_passed {ids = is} rest) = not_passed (have_grown nodes nodes' is names grew rest)
have_grown nodes nodes' ids names grew (passed_on {i = i} {ids = is} {names = ns} n at rest) = passed_on n (grew_get nodes nodes' i n grew at) (have_grown nodes nodes' is ns grew rest)

have_both : (nodes : List Node) (ids ids' : List ℕ) (names names' : List Node) → HaveSome nodes ids names → HaveSome nodes ids' names' → HaveSome nodes (ids ++ ids') (names ++ names')
have_both nodes ids ids' names names' no_more other = other
have_both nodes ids ids' names names' (not_passed {ids = is} rest) other = not_passed (have_both nodes is ids' names names' rest other)
have_both nodes ids ids' names names' (passed_on {ids = is} {names = ns} n at rest) other = passed_on n at (have_both nodes is ids' ns names' rest other)

pub passed_none : (nodes : List Node) (counted : List ℕ) (asked : List Node) → WerePassed nodes counted counted asked asked
passed_none nodes counted asked = record { ids = []; names = []; counted_is = sym (append-nil counted); asked_is = sym (append-nil asked); have = no_more }

pub passed_both : (nodes nodes' : List Node) (a b c : List ℕ) (x y z : List Node) → Grew nodes nodes' → WerePassed nodes a b x y → WerePassed nodes' b c y z → WerePassed nodes' a c x z
passed_both nodes nodes' a b c x y z grew one other = record {
  ids = one.ids ++ other.ids;
  names = one.names ++ other.names;
  counted_is = other.counted_is ∙ ap (λ xs. xs ++ other.ids) one.counted_is ∙ append_assoc a one.ids other.ids;
  asked_is = other.asked_is ∙ ap (λ xs. xs ++ other.names) one.asked_is ∙ append_assoc x one.names other.names;
  have = have_both nodes' one.ids other.ids one.names other.names (have_grown nodes nodes' one.ids one.names grew one.have) other.have;
}
