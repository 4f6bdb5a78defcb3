-- Walks by computed usersets alone.
use Rattle.std.proofs.Common.{inl, inr, ⊎_elim}
use Rattle.names.specs.declared.node.Node.{Node}
use Rattle.meaning.specs.Snap.{Snap}
use Rattle.meaning.specs.Membership.{HasSet}
use Rattle.graphs.specs.Groups.{IsGroupArc, GroupWalk, here, on}
use Rattle.leopard.specs.Index.{bare}
use Rattle.leopard.proofs.Bare.{no_set}

pub bare_arc : (S : Snap) (g h : Node) → IsGroupArc (bare S.config) g h → IsGroupArc S g h
bare_arc S g h (inl t) = absurd (no_set S.config g h t)
bare_arc S g h (inr c) = inr c

pub bare_walk : (S : Snap) (g n : Node) → GroupWalk (bare S.config) g n → GroupWalk S g n
bare_walk S g n here = here
bare_walk S g n (on {g = m} w a) = on (bare_walk S g m w) (bare_arc S m n a)

-- where stop tuple leads on, a walk is one by computed usersets
pub walk_bare : (S : Snap) (g n : Node) → ((h m : Node) → GroupWalk (bare S.config) g h → HasSet S h m → ⊥) → GroupWalk S g n → GroupWalk (bare S.config) g n
walk_bare S g n stop here = here
walk_bare S g n stop (on {g = m} w a) =
    let before = walk_bare S g m stop w in
    on before (⊎_elim (λ t. absurd (stop m n before t)) (λ c. inr c) a)
