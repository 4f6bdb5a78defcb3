use Rattle.std.proofs.Common.{Bor, List, ℕ, ap, sym, ◌∙◌, ◌≡◌}
use Rattle.names.specs.declared.tuple.Tuple.{Tuple}
use Rattle.decide.proofs.ReadTuples.{another_id, another_namespace, one_by_parts, agrees, none_read}
use Rattle.decide.proofs.read_tuple.ReadTuple.is_one.Goals as goal

pub returns-then-ne : goal.returns-then-ne
returns-then-ne c =
    another_id c.args.self.now.subject c.args.object.now c.ne.result _ _
    (c.self.invariant.2 ∙ ap (λ (t : Tuple). t.subject.object.id) c.self.view_is) c.as_str.ensures.text c.ne.ensures c.if-ne.true

pub returns-then-ne-2 : goal.returns-then-ne-2
returns-then-ne-2 c =
    another_namespace c.args.self.now.subject c.args.object.now c.ne-2.result _ _
    (c.self.invariant.1 ∙ ap (λ (t : Tuple). t.subject.object.namespace) c.self.view_is) c.as_str-2.ensures.text c.ne-2.ensures c.if-ne-2.true

pub returns : goal.returns
returns c =
    let namespace : c.self.inside.namespace.now ≡ c.args.self.now.subject.object.namespace = c.self.invariant.1 ∙ ap (λ (t : Tuple). t.subject.object.namespace) c.self.view_is in
    let id : c.self.inside.id.now ≡ c.args.self.now.subject.object.id = c.self.invariant.2 ∙ ap (λ (t : Tuple). t.subject.object.id) c.self.view_is in
    one_by_parts c.args.self.now.subject c.args.object.now
    (sym namespace ∙ agrees c.self.inside.namespace.now c.as_str-2.result.now (sym c.ne-2.ensures ∙ c.if-ne-2.false) ∙ c.as_str-2.ensures.text)
    (sym id ∙ agrees c.self.inside.id.now c.as_str.result.now (sym c.ne.ensures ∙ c.if-ne.false) ∙ c.as_str.ensures.text)
    c.is_none.result
    (none_read (λ (r : Bor (List ℕ)). r.now) c.self.inside.members_of c.args.self.now.subject.relation c.is_none.result
    (c.self.invariant.3 ∙ ap (λ (t : Tuple). t.subject.relation) c.self.view_is) c.is_none.ensures)
