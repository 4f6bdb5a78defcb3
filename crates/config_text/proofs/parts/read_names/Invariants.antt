use Rattle.std.proofs.Common.{take, map, string_bytes}
use Rattle.config_text.specs.Spelling.{IsName, AreSpelled}
use Rattle.config_text.proofs.parts.read_names.Given as goal

abbrev pub invariant-loop-text : goal.invariant-loop-text
invariant-loop-text l = AreSpelled (λ n. n) IsName (map string_bytes (take l.text-index l.texts)) l.names.items
