-- What bodies of questions about nodes ask, and are not.
use Rattle.std.proofs.Common.{◌≡◌, ℕ, List}
use Rattle.std.specs.Prelude.{Some, None, codes}
use Rattle.names.specs.Spelling.{SpellsNode, SpellsObject}
use Rattle.names.specs.declared.node.Node.{Node}
use Rattle.names.specs.declared.object.Object.{Object}
use Rattle.serde_json.specs.Data.{Data}
use Rattle.config_text.specs.Objects.{text_at}
use Rattle.bodies.specs.Requests.{CheckOf}
use Rattle.bodies.specs.Expanding.{ExpandOf}
use Rattle.bodies.specs.inside.Parts.{IsOfNoCheck}
use Rattle.bodies.specs.inside.Forms.{IsOfNoExpand}
use Rattle.bodies.proofs.Options.{so_of, not_so}

module _ (d : Data) where
  pub check_no_node : text_at (codes "node") d ≡ None → IsOfNoCheck d
  check_no_node none node user f = not_so (λ s. SpellsNode s node) (text_at (codes "node") d) none f.node_is

  pub check_no_user : text_at (codes "user") d ≡ None → IsOfNoCheck d
  check_no_user none node user f = not_so (λ s. SpellsObject s user) (text_at (codes "user") d) none f.user_is

  pub check_other_node : (text : List ℕ) → Some text ≡ text_at (codes "node") d → ((n : Node) → SpellsNode text n → ⊥) → IsOfNoCheck d
  check_other_node text there not node user f = not node (so_of (λ s. SpellsNode s node) (text_at (codes "node") d) text there f.node_is)

  pub check_other_user : (text : List ℕ) → Some text ≡ text_at (codes "user") d → ((o : Object) → SpellsObject text o → ⊥) → IsOfNoCheck d
  check_other_user text there not node user f = not user (so_of (λ s. SpellsObject s user) (text_at (codes "user") d) text there f.user_is)

  pub expand_no_node : text_at (codes "node") d ≡ None → IsOfNoExpand d
  expand_no_node none node depth f = not_so (λ s. SpellsNode s node) (text_at (codes "node") d) none f.node_is

  pub expand_other_node : (text : List ℕ) → Some text ≡ text_at (codes "node") d → ((n : Node) → SpellsNode text n → ⊥) → IsOfNoExpand d
  expand_other_node text there not node depth f = not node (so_of (λ s. SpellsNode s node) (text_at (codes "node") d) text there f.node_is)
