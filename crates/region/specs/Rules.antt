-- The rules of the program as those of a world.
use Rattle.region.specs.declared.rule.Rule.{Rule}
use Rattle.region.specs.declared.rule.Rule.TheVariants.{Own, AnyOf, Reads, Either', Both', Except'}
use Rattle.region.specs.declared.rule.Told.{Told}
use Rattle.least_sets.specs.World.{Shape, Fact}
use Rattle.least_sets.specs.World as world

abbrev pub shape_of : Rule → Shape
shape_of Own = world.Own
shape_of (AnyOf nodes) = world.AnyOf nodes.items
shape_of (Reads nodes) = world.Reads nodes.items
shape_of (Either' p a q b) = world.Either (shape_of a) (shape_of b)
shape_of (Both' p a q b) = world.Both (shape_of a) (shape_of b)
shape_of (Except' p a q b) = world.Except (shape_of a) (shape_of b)

abbrev pub fact_of : Told → Fact
fact_of told = record { level = told.level; shape = shape_of told.rule; own = told.own }
