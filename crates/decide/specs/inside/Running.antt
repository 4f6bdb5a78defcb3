-- What holds of a search at each time: the invariant of a local least fixed point (Liu and Smolka, ICALP 1998), level by level.
use Rattle.std.specs.Prelude.{◌≡◌, ◌<◌, ◌⊎◌, ℕ, true, false, Contains, Option, Some, length}
use Rattle.std.proofs.Common.{suc}
use Rattle.names.specs.declared.object.Object.{Object}
use Rattle.names.specs.declared.node.Node.{Node}
use Rattle.meaning.specs.Snap.{Snap}
use Rattle.meaning.specs.Config.{IsAt, rel_of}
use Rattle.config.specs.Places.{StandsAt}
use Rattle.meaning.specs.Membership.{RelationGives}
use Rattle.decide.specs.declared.search.Search.{Search}
use Rattle.decide.specs.declared.search.Opened.{Opened}
use Rattle.decide.specs.inside.Under.{Under}
use Rattle.decide.specs.inside.Reads.{IsKept}
use Rattle.decide.specs.inside.Searches.{Stands, IsStacked, Waits, AreFalling}

-- a member for which the number does not wait
abbrev pub IsHope : Snap → Object → Search → ℕ → ℕ → Node → Type 0
IsHope S u s i k m = Under S u (suc k) m × (Waits s m i → ⊥)

-- nothing but nodes that the number waits for can give it the user
abbrev pub IsStuck : Snap → Object → Search → ℕ → Opened → Type 0
IsStuck S u s i e = RelationGives S u e.node (IsHope S u s i e.level) (Under S u e.level) → ⊥

pub record IsRunning (S : Snap) (u : Object) (s : Search) (but : Option ℕ) : Type 0 where
  pub at : (i : ℕ) (e : Opened) → Stands s i e → IsAt S.config e.node e.level
  pub placed : (i : ℕ) (e : Opened) → Stands s i e → StandsAt S.config (rel_of e.node) e.place
  pub stack_there : (i : ℕ) (e : Opened) → Stands s i e → e.level < length s.stacks.items
  pub waiting_there : (i w : ℕ) (e : Opened) → Stands s i e → Contains e.waiting.items w → w < length s.opened.items
  pub stacked_there : (l i : ℕ) → IsStacked s l i → i < length s.opened.items
  pub leveled : (l i : ℕ) (e : Opened) → IsStacked s l i → Stands s i e → e.level ≡ l
  pub falling : AreFalling s.frames.items
  pub right : (i : ℕ) (e : Opened) → Stands s i e → e.sure ≡ true → Under S u (suc e.level) e.node
  pub kept : (i : ℕ) (e : Opened) → Stands s i e → IsKept S u e
  pub covered : (i : ℕ) (e : Opened) → Stands s i e → e.sure ≡ false → (but ≡ Some i → ⊥) → IsStacked s e.level i ⊎ IsStuck S u s i e
