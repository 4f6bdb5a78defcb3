-- What a publisher is.
use Rattle.std.specs.Prelude.{ℕ, List, Option, None}
use Rattle.left_right.specs.Register.{Admits, Forks, Merges}
use Rattle.published.specs.Known.{Known}

-- the copy that is read, the posts that are not absorbed, and what the writer's place knows
pub record Writing (C O : Type 0) : Type 0 where
  pub published : C
  pub waiting : List O
  pub told : Option Known

-- by the rule a new reader knows what is known first, and can be told what the writer's place knows
pub record KeepsRule {C : Type 0} (holds : C → List (Option Known) → Type 0) (first told : Option Known) : Type 0 where
  pub admits : Admits holds first
  pub forks : (seat : ℕ) → Forks holds seat told told told
  pub merges : (seat other : ℕ) → Merges holds seat first other told told None
