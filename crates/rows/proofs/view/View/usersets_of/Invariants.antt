use Rattle.std.proofs.Common.{take}
use Rattle.std.specs.Prelude.{Contains}
use Rattle.names.specs.declared.node.Node.{Node}
use Rattle.meaning.specs.Membership.{HasSet}
use Rattle.rows.specs.Lookups.{DeclaresNodes}
use Rattle.rows.proofs.view.View.usersets_of.Given as goal

-- those of the namespaces so far
abbrev pub invariant-loop-i : goal.invariant-loop-i
invariant-loop-i l = record {
  only : (m : Node) → Contains l.nodes.items m → HasSet l.self l.node m;
  all : (m : Node) → HasSet l.self l.node m → DeclaresNodes (take l.i l.types) m.object.namespace → Contains l.nodes.items m;
}
