-- The marked nodes, whose members are to be kept, and why a node is not marked.
use Rattle.std.specs.Prelude.{Bool, not, List, [], ◌∷◌, ◌++◌, length, if◌then◌else◌, Option, None, nat_lt}
use Rattle.std.specs.List.{list_any}
use Rattle.names.specs.declared.limits.TheConstants.{MAX_MARKS}
use Rattle.names.specs.declared.node.Node.{Node}
use Rattle.names.specs.declared.marking.Marking.{Marking}
use Rattle.names.specs.declared.marking.Marking.TheVariants.{Mark, Unmark}
use Rattle.names.specs.declared.refusal.Refusal.{Refusal}
use Rattle.names.specs.declared.refusal.Refusal.TheVariants.{UnknownRelation, Full}
use Rattle.names.specs.Order.{is_same_node}
use Rattle.meaning.specs.Config.{Configured, rel_of}
use Rattle.meaning.specs.Admits.{has_relation}
use Rattle.meaning.specs.Verdict.{or_else, refused_if}

-- the node is marked
abbrev pub is_marked : List Node → Node → Bool
is_marked marks node = list_any (is_same_node node) marks

-- a node is marked once
abbrev pub with_mark : List Node → Node → List Node
with_mark marks node = if is_marked marks node then marks else marks ++ node ∷ []

abbrev pub without_mark : List Node → Node → List Node
without_mark [] node = []
without_mark (m ∷ marks) node = if is_same_node node m then marks else m ∷ without_mark marks node

abbrev pub after_marking : List Node → Marking → List Node
after_marking marks (Mark node) = with_mark marks node
after_marking marks (Unmark node) = without_mark marks node

-- Why a marking is refused, or nothing: the configuration does not have the node's relation, or too many nodes would be
-- marked.
abbrev pub marking_cause : Configured → List Node → Marking → Option Refusal
marking_cause config marks (Mark node) =
    or_else (refused_if UnknownRelation (not (has_relation config (rel_of node)))) (
    refused_if Full (nat_lt MAX_MARKS (length (with_mark marks node))))
marking_cause config marks (Unmark node) = None
