use Rattle.std.proofs.Common.{ap, sym, ◌∙◌, map, string_bytes, Some}
use Rattle.config_text.proofs.ByItem.{item_refused, item_more, items_done, drop_here, drop_past}
use Rattle.config_text.proofs.Sections.{text_of, texts_of, texts_by_item}
use Rattle.config_text.proofs.shape.read_texts.Goals as goal

pub returns-in_default : goal.returns-in_default
returns-in_default c = item_refused text_of texts_of texts_by_item (map string_bytes c.loop-item.texts.items) c.item-item.result _ _ c.args.items.now
    (drop_here c.args.items.now c.loop-item.item-index c.item-item.result c.loop-item-test.true c.item-item.is) (sym c.in_default.ensures) c.loop-item.invariant

pub loop-item-preserved : goal.loop-item-preserved
loop-item-preserved c = item_more text_of texts_of string_bytes texts_by_item c.loop-item.texts.items c.in_ok-from_str.field-0 c.push.new.self.items c.item-item.result _ _ c.args.items.now
    (drop_here c.args.items.now c.loop-item.item-index c.item-item.result c.loop-item-test.true c.item-item.is) (sym c.in-Some.ensures ∙ ap Some (sym c.in_ok-from_str.ensures.ok)) c.in_ok-push.ensures.items c.loop-item.invariant

pub returns : goal.returns
returns c = items_done text_of texts_of texts_by_item (map string_bytes c.loop-item.texts.items) _ c.args.items.now
    (drop_past c.args.items.now c.loop-item.item-index c.loop-item-test.false) c.loop-item.invariant
