use Rattle.std.proofs.Common.{◌≡◌, drop, map}
use Rattle.std.specs.List.{list_all}
use Rattle.config_text.specs.Forms.{defined_of}
use Rattle.config.proofs.Typing.{admits_types}
use Rattle.config.proofs.config.Config.admits_all_of.Given as goal

abbrev pub invariant-loop-relation : goal.invariant-loop-relation
invariant-loop-relation l = list_all (admits_types l.self) (map defined_of (drop l.relation-index l.relation-items)) ≡ list_all (admits_types l.self) (map defined_of l.relation-items)
