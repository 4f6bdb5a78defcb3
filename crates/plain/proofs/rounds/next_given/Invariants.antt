use Rattle.std.proofs.Common.{◌≡◌, ℕ, ◌<◌, ◌≤◌, get_or}
use Rattle.std.specs.Prelude.{Contains}
use Rattle.names.specs.declared.node.Node.{Node}
use Rattle.meaning.specs.Membership.{RelationGives}
use Rattle.plain.specs.inside.Source.{snap_of}
use Rattle.plain.proofs.rounds.next_given.Given as goal

-- none before
abbrev pub invariant-loop-i : goal.invariant-loop-i
invariant-loop-i l = (k : ℕ) (m : Node) → l.from ≤ k → k < l.i → get_or l.nodes k m ≡ m → RelationGives (snap_of l.source) l.user m (Contains l.held) (Contains l.lower) → ⊥
