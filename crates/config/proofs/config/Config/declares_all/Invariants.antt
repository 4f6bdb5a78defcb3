use Rattle.std.proofs.Common.{◌≡◌, drop}
use Rattle.std.specs.List.{list_all}
use Rattle.meaning.specs.Admits.{admits}
use Rattle.config.proofs.Typing.{of_type}
use Rattle.config.proofs.config.Config.declares_all.Given as goal

abbrev pub invariant-loop-declared : goal.invariant-loop-declared
invariant-loop-declared l = list_all (λ type. admits l.self (of_type l.name type)) (drop l.declared-index l.types) ≡ list_all (λ type. admits l.self (of_type l.name type)) l.types
