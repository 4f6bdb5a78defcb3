use Rattle.std.proofs.Common.{◌≡◌, drop, map}
use Rattle.serde_json.specs.Data.{no_members}
use Rattle.serde_json.specs.View.{members_view}
use Rattle.config_text.specs.Forms.{defined_of}
use Rattle.config_text.specs.Canonical.{namespaces_into}
use Rattle.config_text.proofs.canonical.namespace_values.Given as goal

abbrev pub invariant-loop-namespace : goal.invariant-loop-namespace
invariant-loop-namespace l = namespaces_into (map defined_of l.relations) (members_view l.members.entries) (drop l.namespace-index l.namespaces) ≡ namespaces_into (map defined_of l.relations) no_members l.namespaces
