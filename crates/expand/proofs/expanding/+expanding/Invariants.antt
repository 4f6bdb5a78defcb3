use Rattle.std.proofs.Common.{◌+◌, ◌*◌, map, drop}
use Rattle.names.specs.declared.tuple.Tuple.{Tuple}
use Rattle.config_text.specs.declared.rewrite.Rewrite.{Rewrite}
use Rattle.config_text.specs.Forms.{form_of, rewrite_forms}
use Rattle.config_text.specs.Size.{form_nodes, forms_nodes}
use Rattle.expand.specs.Tree.{userset, leaf, filled}
use Rattle.expand.proofs.Making.{Making}
use Rattle.expand.proofs.Measures.{step_of, steps}
use Rattle.expand.proofs.expanding.+expanding.Given as goal

abbrev pub decreases-all_filled : goal.decreases-all_filled
decreases-all_filled l = steps (step_of l.source.now.config.now.relations) l.left + 3 * forms_nodes (rewrite_forms l.parts.now) + 1

abbrev pub decreases-filled : goal.decreases-filled
decreases-filled l = steps (step_of l.source.now.config.now.relations) l.left + 3 * form_nodes (form_of l.rewrite.now)

abbrev pub decreases-leaf : goal.decreases-leaf
decreases-leaf l = steps (step_of l.source.now.config.now.relations) l.left + 1

abbrev pub decreases-this : goal.decreases-this
decreases-this l = steps (step_of l.source.now.config.now.relations) l.left + 2

abbrev pub decreases-through : goal.decreases-through
decreases-through l = steps (step_of l.source.now.config.now.relations) l.left + 1

abbrev pub decreases-userset : goal.decreases-userset
decreases-userset l = steps (step_of l.source.now.config.now.relations) l.left

-- the trees of the parts so far
abbrev pub invariant-all_filled-loop-part : goal.invariant-all_filled-loop-part
invariant-all_filled-loop-part l =
    let f = λ (w : Rewrite). filled l.source.view.now (userset l.source.view.now l.left l.fn.walk.path.items) l.node (form_of w) in
    Making (map f l.parts) (map f (drop l.part-index l.parts)) l.fn.walk l.walk l.trees.items

-- the trees of the tuples so far
abbrev pub invariant-this-loop-tuple : goal.invariant-this-loop-tuple
invariant-this-loop-tuple l =
    let f = λ (t : Tuple). leaf (userset l.source.view.now l.left l.fn.walk.path.items) t.subject in
    Making (map f l.tuple-items) (map f (drop l.tuple-index l.tuple-items)) l.initial.walk l.walk l.trees.items

-- the trees of the parents so far
abbrev pub invariant-through-loop-parent : goal.invariant-through-loop-parent
invariant-through-loop-parent l =
    let f = userset l.source.view.now l.left l.fn.walk.path.items in
    Making (map f l.parent-items) (map f (drop l.parent-index l.parent-items)) l.initial.walk l.walk l.trees.items
