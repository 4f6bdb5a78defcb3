-- What expressions mean, part by part.
use Rattle.std.proofs.Common.{◌≡◌, ℕ, ◌<◌, ◌+◌, List, ◌∷◌, length, get_or, drop, true, false, subst, ap}
use Rattle.std.specs.Prelude.{◌↔◌, ◌⊎◌}
use Rattle.std.proofs.lemmas.Bool.{and_parts}
use Rattle.names.specs.declared.node.Node.{Node}
use Rattle.leopard.specs.declared.expr.Expr.{Expr}
use Rattle.leopard.specs.Exprs.{query_of, part_queries}
use Rattle.leopard.specs.Query.{Queries, more, has_parts, all_have_parts}
use Rattle.leopard.specs.Groups.{Means, SomeMeans, EachMeans}
use Rattle.meaning.specs.Config.{Configured}
use Rattle.meaning.specs.Snap.{Snap}
use Rattle.leopard.specs.Causes.{names_unindexed, some_name_unindexed}
use Rattle.leopard.proofs.Indices.{or_false}
use Rattle.leopard.proofs.Gather.{left_at}

-- the parts that are left, the first of them apart
pub parts_left : (parts : List Expr) (k : ℕ) (part : Expr) → k < length parts → part ≡ get_or parts k part → part_queries (drop k parts) ≡ more (query_of part) (part_queries (drop (k + 1) parts))
parts_left parts k part lt is = ap part_queries (left_at parts k part lt is)

pub first_has_parts : (parts : List Expr) (k : ℕ) (part : Expr) → k < length parts → part ≡ get_or parts k part → all_have_parts (part_queries (drop k parts)) ≡ true
    → (has_parts (query_of part) ≡ true) × (all_have_parts (part_queries (drop (k + 1) parts)) ≡ true)
first_has_parts parts k part lt is all = and_parts (has_parts (query_of part)) (all_have_parts (part_queries (drop (k + 1) parts)))
    (subst (λ (qs : Queries). all_have_parts qs ≡ true) (parts_left parts k part lt is) all)

-- where no part is unindexed, neither is the first, nor one of the others
pub first_indexed : (c : Configured) (parts : List Expr) (k : ℕ) (part : Expr) → k < length parts → part ≡ get_or parts k part → some_name_unindexed c (part_queries (drop k parts)) ≡ false
    → (names_unindexed c (query_of part) ≡ false) × (some_name_unindexed c (part_queries (drop (k + 1) parts)) ≡ false)
first_indexed c parts k part lt is none = or_false (names_unindexed c (query_of part)) (some_name_unindexed c (part_queries (drop (k + 1) parts)))
    (subst (λ (qs : Queries). some_name_unindexed c qs ≡ false) (parts_left parts k part lt is) none)

pub some_splits : (S : Snap) (part : Expr) (parts : List Expr) (n : Node) → SomeMeans S (part_queries (part ∷ parts)) n ↔ (Means S (query_of part) n ⊎ SomeMeans S (part_queries parts) n)
some_splits S part parts n = (λ h. h, λ h. h)

pub each_splits : (S : Snap) (part : Expr) (parts : List Expr) (n : Node) → EachMeans S (part_queries (part ∷ parts)) n ↔ (Means S (query_of part) n × EachMeans S (part_queries parts) n)
each_splits S part parts n = (λ h. h, λ h. h)
