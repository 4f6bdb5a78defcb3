-- What may be told of a group may be told of it when more nodes have numbers.
use Rattle.std.specs.Prelude.{ℕ, List}
use Rattle.names.specs.declared.node.Node.{Node}
use Rattle.meaning.specs.Snap.{Snap}
use Rattle.least_sets.specs.World.{Fact}
use Rattle.graphs.specs.Groups.{IsGroupArc}
use Rattle.facts.specs.inside.Tables.{grew_none, grew_both, grew_get, numbers_keep}
use Rattle.delta.specs.Telling.{MayTell, IsMore}

pub more_none : (nodes : List Node) → IsMore nodes nodes
more_none nodes = record { grew = grew_none nodes; distinct = λ d. d }

pub more_both : (a b c : List Node) → IsMore a b → IsMore b c → IsMore a c
more_both a b c one more = record { grew = grew_both a b c one.grew more.grew; distinct = λ d. more.distinct (one.distinct d) }

pub may_more : (S : Snap) (nodes nodes' : List Node) (i : ℕ) (fact : Fact) → IsMore nodes nodes' → MayTell S nodes i fact → MayTell S nodes' i fact
may_more S nodes nodes' i fact more may = record {
  group = may.group;
  named = grew_get nodes nodes' i may.group more.grew may.named;
  arcs = may.arcs;
  fact_is = may.fact_is;
  ends = numbers_keep nodes nodes' may.arcs (IsGroupArc S may.group) (IsGroupArc S may.group) more.grew (λ n. (λ h. h, λ h. h)) may.ends;
}
