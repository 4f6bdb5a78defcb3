-- Groups by arcs alone: each holds itself, and what the groups hold that its arcs lead to.
use Rattle.std.specs.Prelude.{ℕ, ◌≡◌, Bool, true, List, [], ◌∷◌}
use Rattle.least_sets.specs.World.{Fact, Own, AnyOf, Either, has}
use Rattle.std.proofs.Common.{arith}
use Rattle.std.proofs.lemmas.Bool.{false≢true}
use Rattle.least_sets.specs.Least.{IsLeastIn, IsLevelled}
use Rattle.least_sets.specs.Walks.{Walk}

abbrev pub groups : (ℕ → List ℕ) → ℕ → Fact
groups arcs n = record { level = 0; shape = Either Own (AnyOf (arcs n)); own = n ∷ [] }

-- the least sets of groups are the ends of walks
abbrev pub GroupsAreWalks : Type 0
GroupsAreWalks =
    (arcs : ℕ → List ℕ) (part : ℕ → Bool) (end : ℕ) (set : ℕ → Bool)
    → ((n m : ℕ) → part n ≡ true → has (arcs n) m ≡ true → part m ≡ true)
    → IsLeastIn (groups arcs) part end set
    → (n : ℕ) → part n ≡ true
    → (set n ≡ true → Walk (λ a b. has (arcs a) b) n end) × (Walk (λ a b. has (arcs a) b) n end → set n ≡ true)

pub groups_levelled : (arcs : ℕ → List ℕ) → IsLevelled (groups arcs)
groups_levelled arcs = record { plain = λ n m h. omega arith; taken = λ n m h. absurd (false≢true h) }
