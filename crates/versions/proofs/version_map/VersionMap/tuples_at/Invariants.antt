use Rattle.std.proofs.Common.{◌≡◌, ◌++◌}
use Rattle.versions.specs.Versions.{stands}
use Rattle.versions.specs.Texts.{entries_of, AreSpelled}
use Rattle.versions.proofs.Picking.{pick}
use Rattle.versions.specs.Ranges.{AllRising}
use Rattle.versions.proofs.version_map.VersionMap.tuples_at.Given as goal

-- what was found and what is left are all
abbrev pub invariant-loop-text : goal.invariant-loop-text
invariant-loop-text l = record {
  spelled : AreSpelled l.text-iterator;
  rising : AllRising l.text-iterator;
  all : l.found.items ++ pick (λ e. stands e.1 l.rev) (entries_of l.text-iterator) ≡ pick (λ e. stands e.1 l.rev) l.self;
}
