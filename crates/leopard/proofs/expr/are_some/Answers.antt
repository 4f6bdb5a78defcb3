use Rattle.std.proofs.Common.{◌≡◌, List, [], ◌∷◌, length, refl, arith}
use Rattle.std.specs.Prelude.{nat_lt}
use Rattle.std.proofs.lemmas.Bool.{lt-ltb}
use Rattle.leopard.specs.declared.expr.Expr.{Expr}
use Rattle.leopard.specs.Exprs.{part_queries}
use Rattle.leopard.specs.Query.{is_some}
use Rattle.leopard.proofs.expr.are_some.Goals as goal

some_parts : (xs : List Expr) → nat_lt 0 (length xs) ≡ is_some (part_queries xs)
some_parts [] = refl
some_parts (x ∷ xs) = lt-ltb 0 (length (x ∷ xs)) (omega arith)

pub returns : goal.returns
returns c = some_parts c.args.parts.now
