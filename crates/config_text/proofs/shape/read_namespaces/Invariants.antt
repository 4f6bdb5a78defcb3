use Rattle.std.proofs.Common.{◌≡◌, List, ◌++◌, map, string_bytes}
use Rattle.serde_json.specs.View.{members_view}
use Rattle.serde_json.proofs.Views.{Entry}
use Rattle.config_text.specs.Keyed.{HaveOrder}
use Rattle.config_text.specs.Texts.{relation_texts}
use Rattle.config_text.specs.Shape.{namespaces_read}
use Rattle.config_text.proofs.Sections.{joined, two}
use Rattle.config_text.proofs.shape.read_namespaces.Given as goal

abbrev pub invariant-loop-key : goal.invariant-loop-key
invariant-loop-key l =
    (joined (two (map string_bytes l.namespaces.items) (map relation_texts l.relations.items)) (namespaces_read (members_view l.key-iterator)) ≡ namespaces_read (members_view l.members.entries))
    × ((done : List Entry) × (l.members.entries ≡ done ++ l.key-iterator) × HaveOrder (members_view done))
