use Rattle.std.proofs.Common.{◌≡◌, map}
use Rattle.serde_json.specs.View.{members_view}
use Rattle.config_text.specs.Texts.{relation_texts}
use Rattle.config_text.specs.Shape.{relations_read}
use Rattle.config_text.proofs.ByItem.{after}
use Rattle.config_text.proofs.shape.read_relations.Given as goal

abbrev pub invariant-loop-key : goal.invariant-loop-key
invariant-loop-key l = after (map relation_texts l.relations.items) (relations_read l.namespace (members_view l.key-iterator)) ≡ relations_read l.namespace (members_view l.members.entries)
