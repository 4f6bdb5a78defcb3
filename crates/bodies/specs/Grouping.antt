-- What the body of a question about groups asks, by what `serde_json` reads from it, and what its reply says.
use Rattle.std.specs.Prelude.{ℕ, ◌≡◌, true, List, [], ◌∷◌, Some, IsSomeAnd, map, codes}
use Rattle.serde_json.specs.Data.{Data, string, array, object, Items, no_items, item, no_members, member}
use Rattle.serde_json.specs.Find.{get}
use Rattle.serde_json.specs.View.{items_of}
use Rattle.config_text.specs.Objects.{has_only}
use Rattle.names.specs.Spelling.{SpellsObject, SpellsNode, node_text}
use Rattle.names.specs.declared.node.Node.{Node}
use Rattle.names.specs.declared.refusal.Refusal.{Refusal}
use Rattle.zookie.specs.declared.consistency.Consistency.{Consistency}
use Rattle.leopard.specs.Query.{Query, Queries, Member2Group, Group2Group, Union, Intersection, Exclusion, none, more, is_allowed}
use Rattle.bodies.specs.Requests.{number_at, IsZookieOf, AsksSo, QuestionCause}
use Rattle.bodies.specs.Replies.{object_of}

-- `{name: value}`
abbrev pub only_member : List ℕ → Data → Data
only_member name value = object (member name value no_members)

-- `{"m2g": object}`, `{"g2g": node}`, `{"union": [expr, ..]}`, `{"intersection": [expr, ..]}` or `{"exclusion": [expr, expr]}`
abbrev mutual
  pub IsExpr : Data → Query → Type 0
  IsExpr d (Member2Group user) = (text : List ℕ) × (d ≡ only_member (codes "m2g") (string text)) × SpellsObject text user
  IsExpr d (Group2Group group) = (text : List ℕ) × (d ≡ only_member (codes "g2g") (string text)) × SpellsNode text group
  IsExpr d (Union parts) = (ds : Items) × (d ≡ only_member (codes "union") (array ds)) × AreExprs ds parts
  IsExpr d (Intersection parts) = (ds : Items) × (d ≡ only_member (codes "intersection") (array ds)) × AreExprs ds parts
  IsExpr d (Exclusion base less) =
      (a b : Data) × (d ≡ only_member (codes "exclusion") (array (item a (item b no_items)))) × IsExpr a base × IsExpr b less

  pub AreExprs : Items → Queries → Type 0
  AreExprs no_items none = Unit {0}
  AreExprs no_items (more q qs) = ⊥
  AreExprs (item d ds) none = ⊥
  AreExprs (item d ds) (more q qs) = IsExpr d q × AreExprs ds qs

-- it is no expression, and they are none
abbrev pub IsNoExpr : Data → Type 0
IsNoExpr d = (q : Query) → ¬ (IsExpr d q)

abbrev pub AreNoExprs : Items → Type 0
AreNoExprs ds = (qs : Queries) → ¬ (AreExprs ds qs)

-- `{"at": .., "expr": expr, "limit": number}`, whatever `at` is, where so large an expression and such a limit are allowed
pub record GroupsOf (d : Data) (asked : Query) (limit : ℕ) : Type 0 where
  pub only : has_only (codes "at" ∷ codes "expr" ∷ codes "limit" ∷ []) d ≡ true
  pub expr : IsSomeAnd (get (codes "expr") d) (λ value. IsExpr value asked)
  pub limit_at : number_at (codes "limit") d ≡ Some limit
  pub allowed : is_allowed asked limit ≡ true

-- the body of a `leopard` asks for the first so many groups that the expression means, at such a revision
abbrev pub AsksGroups : List ℕ → Consistency → Query → ℕ → Type 0
AsksGroups body consistency asked limit = AsksSo IsZookieOf body (λ d. GroupsOf d asked limit) consistency

-- why the body of a `leopard` is refused
abbrev pub GroupsBodyCause : List ℕ → Refusal → Type 0
GroupsBodyCause body = QuestionCause body (λ d. (asked : Query) × (limit : ℕ) × GroupsOf d asked limit)

-- `{"groups": [node, ..], "zookie": ..}`
abbrev pub groups_data : List Node → List ℕ → Data
groups_data ns zookie = object_of ((codes "groups", array (items_of (map (λ n. string (node_text n)) ns))) ∷ (codes "zookie", string zookie) ∷ [])
