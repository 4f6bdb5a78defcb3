use Rattle.std.proofs.Common.{◌≡◌}
use Rattle.std.specs.Prelude.{not}
use Rattle.std.specs.List.{find}
use Rattle.meaning.specs.Admits.{admits}
use Rattle.versions.specs.Versions.{is_there}
use Rattle.versions.specs.Texts.{entries_of, AreSpelled}
use Rattle.versions.proofs.Picking.{pick}
use Rattle.versions.proofs.version_map.VersionMap.first_refused.Given as goal

-- what is left decides
abbrev pub invariant-loop-text : goal.invariant-loop-text
invariant-loop-text l = record {
  spelled : AreSpelled l.text-iterator;
  decides : find (λ t. not (admits l.config t)) (pick (λ e. is_there e.1) (entries_of l.text-iterator)) ≡ find (λ t. not (admits l.config t)) (pick (λ e. is_there e.1) l.self);
}
