use Rattle.std.proofs.Common.{take, map, string_bytes}
use Rattle.names.specs.Spelling.{IsSubjectType, type_text}
use Rattle.config_text.specs.Spelling.{AreSpelled}
use Rattle.config_text.proofs.parts.read_types.Given as goal

abbrev pub invariant-loop-text : goal.invariant-loop-text
invariant-loop-text l = AreSpelled type_text IsSubjectType (map string_bytes (take l.text-index l.texts)) l.types.items
