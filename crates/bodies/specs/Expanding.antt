-- What the body of an `expand` asks, by what `serde_json` reads from it.
use Rattle.std.specs.Prelude.{ℕ, ◌≡◌, ◌≤◌, true, List, [], ◌∷◌, Some, IsSomeAnd, codes}
use Rattle.serde_json.specs.Data.{Data}
use Rattle.config_text.specs.Objects.{has_only, text_at}
use Rattle.names.specs.Spelling.{SpellsNode}
use Rattle.names.specs.declared.node.Node.{Node}
use Rattle.names.specs.declared.refusal.Refusal.{Refusal}
use Rattle.zookie.specs.declared.consistency.Consistency.{Consistency}
use Rattle.expand.specs.declared.limits.TheConstants.{MAX_DEPTH}
use Rattle.bodies.specs.Requests.{number_at, IsZookieOf, AsksSo, QuestionCause}

-- `{"at": .., "depth": number, "node": node}`, whatever `at` is, with a depth from 1 to the greatest
pub record ExpandOf (d : Data) (node : Node) (depth : ℕ) : Type 0 where
  pub only : has_only (codes "at" ∷ codes "depth" ∷ codes "node" ∷ []) d ≡ true
  pub node_is : IsSomeAnd (text_at (codes "node") d) (λ text. SpellsNode text node)
  pub depth_at : number_at (codes "depth") d ≡ Some depth
  pub opens : 1 ≤ depth
  pub bounded : depth ≤ MAX_DEPTH

-- the body of an `expand` asks for the node's tree of the depth, at such a revision
abbrev pub AsksExpand : List ℕ → Consistency → Node → ℕ → Type 0
AsksExpand body consistency node depth = AsksSo IsZookieOf body (λ d. ExpandOf d node depth) consistency

-- why the body of an `expand` is refused
abbrev pub ExpandBodyCause : List ℕ → Refusal → Type 0
ExpandBodyCause body = QuestionCause body (λ d. (node : Node) × (depth : ℕ) × ExpandOf d node depth)
