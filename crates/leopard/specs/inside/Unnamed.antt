-- No name, so no id.
use Rattle.std.specs.Prelude.{[]}
use Rattle.std.proofs.lemmas.Option.{none-some}
use Rattle.names.specs.declared.node.Node.{Node}
use Rattle.idsets.specs.Naming.{AreDistinct}

pub distinct_none : AreDistinct {N = Node} []
distinct_none = λ i j n a b. absurd (none-some n a)
