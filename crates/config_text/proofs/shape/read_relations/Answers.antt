use Rattle.std.proofs.Common.{ap, sym, ◌∙◌, map}
use Rattle.std.specs.Prelude.{option_map}
use Rattle.config_text.specs.Texts.{relation_texts}
use Rattle.serde_json.specs.View.{view}
use Rattle.config_text.specs.Shape.{relation_read}
use Rattle.config_text.proofs.ByItem.{item_refused, item_more, items_done}
use Rattle.config_text.proofs.Ascending.{entries_in_order}
use Rattle.config_text.proofs.Sections.{relation_at, relations_at, relations_by_item}
use Rattle.config_text.proofs.shape.read_relations.Goals as goal

pub returns-in_default-clause-ok : goal.returns-in_default-clause-ok
returns-in_default-clause-ok c = let n = c.args.namespace.now in
    item_refused (relation_at n) (relations_at n) (relations_by_item n) (map relation_texts c.loop-key.relations.items) (c.in-Some.key.now, c.in-Some.value.now) c.next.new.self c.loop-key.key-iterator c.args.members.now.entries
    c.in-Some.ensures.steps (sym (ap (λ k. relation_read n k (view c.in-Some.value.now)) c.as_str.ensures.value) ∙ sym c.in_ok-relation.ensures ∙ ap (option_map relation_texts) c.in_default.is) c.loop-key.invariant

pub loop-key-preserved : goal.loop-key-preserved
loop-key-preserved c = let n = c.args.namespace.now in
    item_more (relation_at n) (relations_at n) relation_texts (relations_by_item n) c.loop-key.relations.items c.in-Some-2.relation c.push.new.self.items (c.in-Some.key.now, c.in-Some.value.now) c.next.new.self c.loop-key.key-iterator c.args.members.now.entries
    c.in-Some.ensures.steps (sym (ap (λ k. relation_read n k (view c.in-Some.value.now)) c.as_str.ensures.value) ∙ sym c.in_ok-relation.ensures ∙ ap (option_map relation_texts) c.in-Some-2.is) c.in_ok-push.ensures.items c.loop-key.invariant

pub returns-clause-ok : goal.returns-clause-ok
returns-clause-ok c = let n = c.args.namespace.now in
    items_done (relation_at n) (relations_at n) (relations_by_item n) (map relation_texts c.loop-key.relations.items) c.loop-key.key-iterator c.args.members.now.entries c.in-None.ensures.steps.0 c.loop-key.invariant

pub returns-in_default-clause-ordered : goal.returns-in_default-clause-ordered
returns-in_default-clause-ordered c = entries_in_order c.args.members.now.entries c.iter-key-items.ensures.ordered

pub returns-clause-ordered : goal.returns-clause-ordered
returns-clause-ordered c = entries_in_order c.args.members.now.entries c.iter-key-items.ensures.ordered
