use Rattle.std.proofs.Common.{◌≡◌, ◌++◌, ◌∷◌, List, ℕ, ap, sym, ◌∙◌, append-nil}
use Rattle.names.specs.declared.node.Node.{Node}
use Rattle.names.specs.declared.object.Object.{Object}
use Rattle.meaning.specs.Snap.{one}
use Rattle.tuple_keys.specs.Spelled.{spelled_node, spelled_subject}
use Rattle.tuple_keys.specs.Named.{user_tuple}
use Rattle.tuple_keys.proofs.Spellings.{written_is, spelling_is, spells}
use Rattle.tuple_keys.proofs.scratch.Scratch.of_user.Goals as goal

-- a user's parts are those of a subject with no relation
as_subject : (n : Node) (u : Object) → spelled_node n ++ (u.namespace ++ 32 ∷ u.id) ≡ spelled_node n ++ spelled_subject (one u)
as_subject n u = ap (λ (id : List ℕ). spelled_node n ++ (u.namespace ++ 32 ∷ id)) (sym (append-nil u.id))

pub invariant_of-result : goal.invariant_of-result
invariant_of-result c =
    let n = c.args.node.now in
    let u = c.args.user.now in
    let text = c.push_object.ensures.text ∙ ap (λ l. l ++ (u.namespace ++ 32 ∷ u.id)) (c.push_node.ensures.text ∙ ap (λ l. l ++ spelled_node n) c.new-parts.ensures) ∙ as_subject n u in
    spelling_is (user_tuple n u) c.push_object.new.text.bytes (written_is (user_tuple n u) c.push_object.new.text.bytes text) (c.push_node.ensures.is, (c.push_object.ensures.is, tt))

pub returns : goal.returns
returns c =
    let n = c.args.node.now in
    let u = c.args.user.now in
    let text = c.push_object.ensures.text ∙ ap (λ l. l ++ (u.namespace ++ 32 ∷ u.id)) (c.push_node.ensures.text ∙ ap (λ l. l ++ spelled_node n) c.new-parts.ensures) ∙ as_subject n u in
    spells (user_tuple n u) c.push_object.new.text.bytes (written_is (user_tuple n u) c.push_object.new.text.bytes text) (c.push_node.ensures.is, (c.push_object.ensures.is, tt))
