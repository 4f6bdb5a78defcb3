use Rattle.std.proofs.Common.{◌≡◌, List, [], ◌++◌, drop, map}
use Rattle.serde_json.specs.View.{items_view}
use Rattle.serde_json.proofs.Views.{Entry}
use Rattle.config_text.specs.Texts.{draft_form}
use Rattle.config_text.specs.Shape.{forms_read}
use Rattle.config_text.proofs.ByItem.{after}
use Rattle.config_text.proofs.rewrites.+read.Given as goal

abbrev pub invariant-read_items-loop-item : goal.invariant-read_items-loop-item
invariant-read_items-loop-item l = after (map draft_form l.parts.items) (forms_read (items_view (drop l.item-index l.item-items))) ≡ forms_read (items_view l.item-items)

abbrev pub invariant-read_member-loop-key : goal.invariant-read_member-loop-key
invariant-read_member-loop-key l =
    (done : List Entry) × (l.members.entries ≡ done ++ l.key-iterator) × (done ≡ [])
