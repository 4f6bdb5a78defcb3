use Rattle.std.proofs.Common.{List, Global, String, subst, ◌∙◌}
use Rattle.std.specs.Prelude.{IfOk, IsTrue, map, string_bytes}
use Rattle.command_line.specs.Words.{asks_to_serve, OnServe}
use Rattle.program.proofs.command.task_named.Goals as goal

pub returns-clause-serves : goal.returns-clause-serves
returns-clause-serves c =
    subst (λ (ws : List (String Global)). IfOk c.task_of.result (λ task. OnServe task (IsTrue (asks_to_serve (map string_bytes ws))))) (c.as_slice.ensures.value ∙ c.in_ok-listed.ensures.items) c.task_of.ensures.serves
