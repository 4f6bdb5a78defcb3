-- Who asks, and what counts.
use Rattle.std.specs.Prelude.{◌≡◌, ◌<◌, ℕ, cond, true, Some}
use Rattle.std.proofs.Common.{suc}
use Rattle.meaning.specs.Snap.{Snap}
use Rattle.meaning.specs.Config.{IsAt}
use Rattle.names.specs.declared.node.Node.{Node}
use Rattle.decide.specs.declared.asking.Asking.{Asking}
use Rattle.decide.specs.declared.search.Search.{Search}
use Rattle.decide.specs.inside.Under.{Under}
use Rattle.decide.specs.inside.Reading.{IsReadOf}
use Rattle.decide.specs.inside.Searches.{Waits, Grew, IsNumberOf}
use Rattle.decide.specs.inside.Running.{IsRunning}

-- Nodes below this level count: a part that is not subtracted looks up the node's own level, a subtracted one only those below it.
abbrev pub high : Asking → ℕ
high a = cond a.plain (suc a.level) a.level

-- a node that counts has the user
abbrev pub Counts : Snap → Asking → Node → Type 0
Counts S a m = Under S a.user.now (high a) m

-- the same, where the asker does not wait for it
abbrev pub IsLeft : Snap → Search → Asking → Node → Type 0
IsLeft S s a m = Counts S a m × (a.plain ≡ true → Waits s m a.number → ⊥)

-- the node has the number, and counts
abbrev pub IsCounted : Snap → Search → Asking → Node → ℕ → Type 0
IsCounted S s a m i = (k : ℕ) × IsNumberOf s i m k × IsAt S.config m k × (k < high a)

-- the asker is being looked at
pub record IsAsking (S : Snap) (s : Search) (a : Asking) : Type 0 where
  pub running : IsRunning S a.user.now s (Some a.number)
  pub number : IsNumberOf s a.number a.node.now a.level
  pub read : IsReadOf S a.node.now.object a.read

-- the asker goes on, in a search that grew
pub record GoesOn (S : Snap) (s t : Search) (a : Asking) : Type 0 where
  pub asking : IsAsking S t a
  pub grew : Grew s t
