use Rattle.std.proofs.Common.{◌≡◌, drop, map}
use Rattle.serde_json.specs.Data.{no_members}
use Rattle.serde_json.specs.View.{members_view}
use Rattle.config_text.specs.Forms.{defined_of}
use Rattle.config_text.specs.Canonical.{relations_into}
use Rattle.config_text.proofs.canonical.relation_values.Given as goal

abbrev pub invariant-loop-relation : goal.invariant-loop-relation
invariant-loop-relation l = relations_into l.namespace (members_view l.members.entries) (map defined_of (drop l.relation-index l.relations)) ≡ relations_into l.namespace no_members (map defined_of l.relations)
