-- Two questions that the test takes for one are one.
use Rattle.std.proofs.Common.{◌≡◌, Bool, true, refl, sym, ap, ◌∙◌}
use Rattle.std.specs.Prelude.{◌&&◌, ◌==◌, nat_eq}
use Rattle.std.specs.Cmp.Lexicographic.{same_text, pointwise, nat_list_eq_equiv}
use Rattle.std.proofs.lemmas.Bool.{and_parts, eqb-true, eq-eqb}
use Rattle.names.specs.declared.object.Object.{Object}
use Rattle.names.specs.declared.node.Node.{Node}
use Rattle.answer_cache.specs.declared.question.Question.{Question}
use Rattle.answer_cache.specs.Parts.{is_same_object, is_same_node}
use Rattle.answer_cache.specs.Questions.{question, is_same}

object_parts : (a b : Object) → a.namespace ≡ b.namespace → a.id ≡ b.id → a ≡ b
object_parts a b namespace id =
    ap (λ x. record { namespace = x; id = a.id }) namespace ∙ ap (λ x. record { namespace = b.namespace; id = x }) id

same_object : (a b : Object) → is_same_object a b ≡ true → a ≡ b
same_object a b e =
    let parts = and_parts (pointwise nat_eq a.namespace b.namespace) (pointwise nat_eq a.id b.id) e in
    object_parts a b (same_text _ _ (sym parts.0)) (same_text _ _ (sym parts.1))

node_parts : (a b : Node) → a.object ≡ b.object → a.relation ≡ b.relation → a ≡ b
node_parts a b object relation =
    ap (λ x. record { object = x; relation = a.relation }) object ∙ ap (λ x. record { object = b.object; relation = x }) relation

same_node : (a b : Node) → is_same_node a b ≡ true → a ≡ b
same_node a b e =
    let parts = and_parts (is_same_object a.object b.object) (pointwise nat_eq a.relation b.relation) e in
    node_parts a b (same_object a.object b.object parts.0) (same_text _ _ (sym parts.1))

question_parts : (a b : Question) → a.revision ≡ b.revision → a.node ≡ b.node → a.user ≡ b.user → a ≡ b
question_parts a b revision node user =
    ap (λ x. question x a.node a.user) revision ∙ ap (λ x. question b.revision x a.user) node ∙ ap (λ x. question b.revision b.node x) user

pub same : (a b : Question) → is_same a b ≡ true → a ≡ b
same a b e =
    let outer = and_parts (a.revision == b.revision) (is_same_node a.node b.node && is_same_object a.user b.user) e in
    let inner = and_parts (is_same_node a.node b.node) (is_same_object a.user b.user) outer.1 in
    question_parts a b (eqb-true a.revision b.revision outer.0) (same_node a.node b.node inner.0) (same_object a.user b.user inner.1)

both : (x y : Bool) → x ≡ true → y ≡ true → (x && y) ≡ true
both x y e h = rw (e, h) refl

itself_object : (a : Object) → is_same_object a a ≡ true
itself_object a = both _ _ (nat_list_eq_equiv.refl a.namespace) (nat_list_eq_equiv.refl a.id)

itself_node : (a : Node) → is_same_node a a ≡ true
itself_node a = both _ _ (itself_object a.object) (nat_list_eq_equiv.refl a.relation)

pub itself : (a : Question) → is_same a a ≡ true
itself a = both _ _ (eq-eqb a.revision a.revision refl) (both _ _ (itself_node a.node) (itself_object a.user))
