use Rattle.std.proofs.Common.{◌≡◌, drop, map, string_bytes}
use Rattle.serde_json.specs.View.{items_view}
use Rattle.config_text.specs.Shape.{texts_read}
use Rattle.config_text.proofs.ByItem.{after}
use Rattle.config_text.proofs.shape.read_texts.Given as goal

abbrev pub invariant-loop-item : goal.invariant-loop-item
invariant-loop-item l = after (map string_bytes l.texts.items) (texts_read (items_view (drop l.item-index l.items))) ≡ texts_read (items_view l.items)
