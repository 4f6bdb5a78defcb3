use Rattle.std.proofs.Common.{◌≡◌, ◌++◌, map, drop, string_bytes}
use Rattle.config.specs.Forms.{defined_of}
use Rattle.command_line.specs.Report.{level_lines}
use Rattle.command_line.proofs.report.text_of_levels.Given as goal

abbrev pub invariant-loop-i : goal.invariant-loop-i
invariant-loop-i l = string_bytes l.text ++ level_lines (map defined_of (drop l.i l.relations)) (drop l.i l.levels) ≡ level_lines (map defined_of l.relations) l.levels
