-- What an expression of the program stands for.
use Rattle.std.specs.Prelude.{List, [], ◌∷◌, map}
use Rattle.leopard.specs.declared.expr.Expr.{Expr, fold-Expr}
use Rattle.leopard.specs.declared.expr.Expr.TheOpen.{Expr-F}
use Rattle.leopard.specs.Query.{Query, Queries, Member2Group, Group2Group, Union, Intersection, Exclusion, none, more}

abbrev pub queries_of : List Query → Queries
queries_of [] = none
queries_of (q ∷ qs) = more q (queries_of qs)

abbrev pub query_step : Expr-F Query → Query
query_step (Expr-F.Member2Group u) = Member2Group u
query_step (Expr-F.Group2Group g) = Group2Group g
query_step (Expr-F.Union v) = Union (queries_of v.items)
query_step (Expr-F.Intersection v) = Intersection (queries_of v.items)
query_step (Expr-F.Exclusion a b) = Exclusion a.value b.value

abbrev pub query_of : Expr → Query
query_of = fold-Expr Query query_step

abbrev pub part_queries : List Expr → Queries
part_queries parts = queries_of (map query_of parts)
