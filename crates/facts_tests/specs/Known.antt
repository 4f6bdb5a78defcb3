-- What is known of the nodes of a test. The nodes below 256 are of level 0, and only these are named.
use Rattle.std.specs.Prelude.{ℕ, ◌%◌, cond, nat_lt, nat_eq, List, [], ◌∷◌, map}
use Rattle.least_sets.specs.World.{Shape, Own, AnyOf, Reads, Either, Except, Fact}
use Rattle.facts_tests.specs.declared.table.Known.{Known}

abbrev pub level_of : ℕ → ℕ
level_of n = cond (nat_lt n 256) 0 1

abbrev pub low : List ℕ → List ℕ
low nodes = map (λ n. n % 256) nodes

abbrev pub plain_by : Known → Shape
plain_by k = Either (Either Own (AnyOf (low k.any.items))) (Reads (low k.reads.items))

abbrev pub shape_by : ℕ → Known → Shape
shape_by n k = cond (nat_lt n 256) (plain_by k) (Except (plain_by k) (AnyOf (low k.less.items)))

abbrev pub fact_by : ℕ → Known → Fact
fact_by n k = record { level = level_of n; shape = shape_by n k; own = k.own }

abbrev pub fact_none : ℕ → Fact
fact_none n = record { level = level_of n; shape = Own; own = [] }

-- a node of which nothing is known holds nobody
abbrev pub world_of : List Known → ℕ → Fact
world_of [] n = fact_none n
world_of (k ∷ ks) n = cond (nat_eq k.node n) (fact_by n k) (world_of ks n)
