-- Questions about groups, as data: set expressions over the two kinds of group sets (Zanzibar, section 3.2.4), and how large they are.
use Rattle.std.specs.Prelude.{ℕ, ◌+◌, ◌&&◌, Bool, true, false, max, nat_le}
use Rattle.names.specs.declared.object.Object.{Object}
use Rattle.names.specs.declared.node.Node.{Node}
use Rattle.leopard.specs.declared.limits.TheConstants.{MAX_EXPR_NODES, MAX_EXPR_DEPTH, MAX_GROUPS}

mutual
  pub data Query : Type 0 where
    Member2Group : (user : Object) → Query
    Group2Group : (group : Node) → Query
    Union : (parts : Queries) → Query
    Intersection : (parts : Queries) → Query
    Exclusion : (base less : Query) → Query

  pub data Queries : Type 0 where
    none : Queries
    more : (first : Query) (others : Queries) → Queries

-- each expression in it, itself included
abbrev mutual
  pub query_nodes : Query → ℕ
  query_nodes (Member2Group u) = 1
  query_nodes (Group2Group g) = 1
  query_nodes (Union qs) = 1 + queries_nodes qs
  query_nodes (Intersection qs) = 1 + queries_nodes qs
  query_nodes (Exclusion a b) = 1 + (query_nodes a + query_nodes b)

  pub queries_nodes : Queries → ℕ
  queries_nodes none = 0
  queries_nodes (more q qs) = query_nodes q + queries_nodes qs

-- how many expressions stand in each other; a leaf has depth 1
abbrev mutual
  pub query_depth : Query → ℕ
  query_depth (Member2Group u) = 1
  query_depth (Group2Group g) = 1
  query_depth (Union qs) = 1 + queries_depth qs
  query_depth (Intersection qs) = 1 + queries_depth qs
  query_depth (Exclusion a b) = 1 + max (query_depth a) (query_depth b)

  pub queries_depth : Queries → ℕ
  queries_depth none = 0
  queries_depth (more q qs) = max (query_depth q) (queries_depth qs)

abbrev pub is_some : Queries → Bool
is_some none = false
is_some (more q qs) = true

-- each union and intersection in it has a part
abbrev mutual
  pub has_parts : Query → Bool
  has_parts (Member2Group u) = true
  has_parts (Group2Group g) = true
  has_parts (Union qs) = is_some qs && all_have_parts qs
  has_parts (Intersection qs) = is_some qs && all_have_parts qs
  has_parts (Exclusion a b) = has_parts a && has_parts b

  pub all_have_parts : Queries → Bool
  all_have_parts none = true
  all_have_parts (more q qs) = has_parts q && all_have_parts qs

-- so many nodes and so deep an expression are allowed, and so many groups may be asked for
abbrev pub is_allowed : Query → ℕ → Bool
is_allowed q limit = has_parts q && (nat_le (query_nodes q) MAX_EXPR_NODES && (nat_le (query_depth q) MAX_EXPR_DEPTH && nat_le limit MAX_GROUPS))
