-- What was told of nodes, and is remembered.
use Rattle.std.specs.Prelude.{ℕ, ◌≡◌, true, false, ◌⊎◌, List, Some, None}
use Rattle.std.proofs.Common.{sym, ◌∙◌, ap, subst, inl, inr}
use Rattle.std.specs.List.{slice_get}
use Rattle.names.specs.declared.object.Object.{Object}
use Rattle.names.specs.declared.node.Node.{Node}
use Rattle.meaning.specs.Snap.{Snap}
use Rattle.least_sets.specs.World.{Fact, has}
use Rattle.region.specs.declared.rule.Told.{Told}
use Rattle.region.specs.Rules.{fact_of}
use Rattle.region.specs.Steps.{is_told, Tells}
use Rattle.region.specs.Tables.{Rows, kept}
use Rattle.region.specs.Refreshed.{IsRefreshed}
use Rattle.facts.specs.Telling.{MayTell, IsLater}
use Rattle.facts.specs.inside.Growing.{may_more}
use Rattle.hot.specs.Kept.{Remembered, told_of}

-- the fact of the node is remembered
abbrev pub Recalls : Remembered → ℕ → Fact → Type 0
Recalls memory n fact = (t : Told) × (told_of memory n ≡ Some t) × (fact ≡ fact_of t)

-- what may be told of a node: what is remembered, or else what the snapshot's graph has
abbrev pub MayRecall : Snap → Remembered → List Node → List Object → ℕ → Fact → Type 0
MayRecall S memory nodes users n fact = ((told_of memory n ≡ None) × MayTell S nodes users n fact) ⊎ Recalls memory n fact

pub recall_more : (S T : Snap) (memory memory' : Remembered) (nodes nodes' : List Node) (users users' : List Object) (n : ℕ) (fact : Fact)
    → T ≡ S → memory' ≡ memory → IsLater nodes nodes' users users' → MayRecall S memory nodes users n fact → MayRecall T memory' nodes' users' n fact
recall_more S T memory memory' nodes nodes' users users' n fact is same later (inl told) =
    inl (ap (λ m. told_of m n) same ∙ told.0, may_more T nodes nodes' users users' n fact later (subst (λ (x : Snap). MayTell x nodes users n fact) (sym is) told.1))
recall_more S T memory memory' nodes nodes' users users' n fact is same later (inr recalled) =
    inr (subst (λ (x : Remembered). Recalls x n fact) (sym same) recalled)

-- the numbers are not those of relations of one object
abbrev pub AreApart : List Node → ℕ → ℕ → Type 0
AreApart nodes m n = (a b : Node) → slice_get nodes m ≡ Some a → slice_get nodes n ≡ Some b → a.object ≡ b.object → ⊥

-- the node with the number, if there is one, is of another object
abbrev pub IsOfAnother : List Node → Object → ℕ → Type 0
IsOfAnother nodes object n = (b : Node) → slice_get nodes n ≡ Some b → object ≡ b.object → ⊥

-- it was among what was told of nodes
abbrev pub IsFresh : List Told → ℕ → Told → Type 0
IsFresh told n t = (is_told told n ≡ true) × ((world : ℕ → Fact) → Tells world told → world n ≡ fact_of t)

-- what is remembered was told now, or was remembered and is not dropped
abbrev pub IsRemembered : List Told → (dropped : List ℕ) → (before after : Remembered) → Type 0
IsRemembered told dropped before after = (n : ℕ) (t : Told) → told_of after n ≡ Some t
    → IsFresh told n t ⊎ ((told_of before n ≡ Some t) × (has dropped n ≡ false))

-- a refresh, and what is remembered after it
pub record IsRenewed (tells : ℕ → Fact → Type 0) (old new : Rows) (roots turned changed asked asked' : List ℕ) (before after : Remembered) : Type 0 where
  pub refreshed : IsRefreshed tells old new roots turned changed asked asked'
  pub dropped : List ℕ
  pub stays : (n : ℕ) → kept old n ≡ true → has dropped n ≡ false → (kept new n ≡ true) × (is_told refreshed.told n ≡ false) × (has changed n ≡ false)
  pub remembered : IsRemembered refreshed.told dropped before after
