use Rattle.std.proofs.Common.{◌≡◌, ◌∷◌, ◌++◌, ap, sym, ◌∙◌, map}
use Rattle.std.specs.Prelude.{option_map}
use Rattle.config_text.specs.Texts.{draft_form}
use Rattle.config_text.proofs.ByItem.{item_refused, item_more, items_done, drop_here, drop_past}
use Rattle.config_text.proofs.Sections.{form_at, forms_at, forms_by_item, alone_ok, members_other}
use Rattle.config_text.proofs.rewrites.+read.Goals as goal

pub read_items-returns-in_default : goal.read_items-returns-in_default
read_items-returns-in_default t c = let vs = c.deref-item-items.result.now in
    rw (sym c.deref-item-items.ensures.value) (item_refused form_at forms_at forms_by_item (map draft_form c.loop-item.parts.items) c.item-item.result _ _ vs
    (drop_here vs c.loop-item.item-index c.item-item.result c.loop-item-test.true c.item-item.is) (sym c.in_ok-part.ensures ∙ ap (option_map draft_form) c.in_default.is) c.loop-item.invariant)

pub read_items-loop-item-preserved : goal.read_items-loop-item-preserved
read_items-loop-item-preserved t c = let vs = c.deref-item-items.result.now in
    item_more form_at forms_at draft_form forms_by_item c.loop-item.parts.items c.in-Some.part c.push.new.self.items c.item-item.result _ _ vs
    (drop_here vs c.loop-item.item-index c.item-item.result c.loop-item-test.true c.item-item.is) (sym c.in_ok-part.ensures ∙ ap (option_map draft_form) c.in-Some.is) c.in_ok-push.ensures.items c.loop-item.invariant

pub read_items-returns : goal.read_items-returns
read_items-returns t c = let vs = c.deref-item-items.result.now in
    rw (sym c.deref-item-items.ensures.value) (items_done form_at forms_at forms_by_item (map draft_form c.loop-item.parts.items) _ vs
    (drop_past vs c.loop-item.item-index c.loop-item-test.false) c.loop-item.invariant)

pub read_member-returns-in-loop-key : goal.read_member-returns-in-loop-key
read_member-returns-in-loop-key t c = let i = c.loop-key.invariant in
    let all : c.args.members.now.entries ≡ (c.in-Some.key.now, c.in-Some.value.now) ∷ c.next.new.self = i.1 ∙ ap (λ xs. xs ++ c.loop-key.key-iterator) i.2 ∙ c.in-Some.ensures.steps in
    alone_ok c.read_named.result (c.in-Some.key.now, c.in-Some.value.now) c.next.new.self c.args.members.now.entries c.as_str.result.now all (sym c.len.ensures.len ∙ c.if-len-ne1.false) c.as_str.ensures.value c.read_named.ensures

pub read_member-returns-then-len-ne1 : goal.read_member-returns-then-len-ne1
read_member-returns-then-len-ne1 t c = members_other c.args.members.now.entries (λ e. c.if-len-ne1.true (c.len.ensures.len ∙ e))
