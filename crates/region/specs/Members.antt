-- Members that are lent, or were made.
use Rattle.std.specs.Prelude.{ℕ, List}
use Rattle.region.specs.declared.members.Members.{Members}
use Rattle.region.specs.declared.members.Members.TheVariants.{Lent, Made}

abbrev pub ids_of : Members → List ℕ
ids_of (Lent ids) = ids.now
ids_of (Made ids) = ids
