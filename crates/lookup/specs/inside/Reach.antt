-- The nodes that a walk up from a user reaches.
use Rattle.std.specs.Prelude.{false}
use Rattle.names.specs.declared.object.Object.{Object}
use Rattle.names.specs.declared.node.Node.{Node}
use Rattle.meaning.specs.Config.{Defined, Defines, rel_of}
use Rattle.meaning.specs.Snap.{Snap}
use Rattle.meaning.specs.Membership.{HasOne}
use Rattle.meaning.specs.Reads.{Reads}

-- The nodes reached from a user: those whose tuples name the user, and each whose rewrite looks up a reached one outside subtracted parts.
pub record IsReach (S : Snap) (u : Object) (X : Node → Type 0) : Type 0 where
  pub begins : (n : Node) → HasOne S n u → X n
  pub goes_on : (n m : Node) (d : Defined) → Defines S.config (rel_of n) d → Reads S n d.form false m → X m → X n
