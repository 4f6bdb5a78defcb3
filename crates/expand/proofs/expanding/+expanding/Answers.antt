use Rattle.std.proofs.Common.{◌≡◌, ◌∙◌, List, ap, take, arith, rules}
use Rattle.names.specs.declared.node.Node.{Node}
use Rattle.meaning.specs.Form.{TupleTo}
use Rattle.config_text.specs.declared.rewrite.Rewrite.{the_lemmas as rewrites}
use Rattle.config_text.specs.Forms.{form_of, rewrite_forms}
use Rattle.expand.specs.declared.tree.Tree.{the_lemmas as tree_lemmas}
use Rattle.expand.specs.Tree.{userset, leaf, subjects_of, parents_of, all_filled}
use Rattle.expand.specs.UsersetTree.{Union, trees}
use Rattle.expand.specs.inside.Walking.{IsRefused, AreRefused}
use Rattle.std.specs.Prelude.{map}
use Rattle.expand.proofs.Making.{exit, parts_refused, parts_made, this_refused, this_made, through_refused, through_made}
use Rattle.expand.proofs.Measures.{part_smaller}
use Rattle.expand.proofs.expanding.+expanding.Goals as goal

pub all_filled-filled-requires : goal.all_filled-filled-requires
all_filled-filled-requires t c =
    let smaller = part_smaller c.args.parts.now c.loop-part.part-index c.part-item.result c.loop-part-test.true c.part-item.is in
    (omega (arith, smaller, c.decreases), c.requires)

pub all_filled-returns-in_err-filled-clause-err : goal.all_filled-returns-in_err-filled-clause-err
all_filled-returns-in_err-filled-clause-err t c =
    exit (AreRefused c.args.walk.now (all_filled c.args.source.now.view.now (userset c.args.source.now.view.now c.args.left c.args.walk.now.path.items) c.args.node.now (rewrite_forms c.args.parts.now)))
    c.from_residual.result c.in_err-filled.field-0.0 c.from_residual.ensures.1
    (parts_refused c.args.source.now.view.now c.args.left c.args.node.now c.args.parts.now c.loop-part.part-index c.part-item.result c.args.walk.now c.loop-part.walk c.loop-part.trees.items c.in_err-filled.field-0.0
    c.loop-part.invariant c.loop-part-test.true c.part-item.is c.in_err-filled.ensures.err)

pub all_filled-returns-clause-ok : goal.all_filled-returns-clause-ok
all_filled-returns-clause-ok t c =
    parts_made c.args.source.now.view.now c.args.left c.args.node.now c.args.parts.now c.loop-part.part-index c.args.walk.now c.loop-part.walk c.loop-part.trees.items c.loop-part.invariant c.loop-part-test.false

pub filled-returns-in-TupleTo-clause-err : goal.filled-returns-in-TupleTo-clause-err
filled-returns-in-TupleTo-clause-err t c =
    let form : form_of c.args.rewrite.now ≡ TupleTo c.in-TupleTo.tupleset c.in-TupleTo.relation = search (rules, rewrites) in
    rw form c.through.ensures.err

pub this-returns-in_err-leaf-clause-err : goal.this-returns-in_err-leaf-clause-err
this-returns-in_err-leaf-clause-err t c =
    exit (IsRefused c.args.walk.now (Union (trees (map (leaf (userset c.args.source.now.view.now c.args.left c.args.walk.now.path.items)) (subjects_of c.args.source.now.view.now c.args.node.now)))))
    c.from_residual-in_err-leaf.result c.in_err-leaf.field-0.0 c.from_residual-in_err-leaf.ensures.1
    (this_refused c.args.source.now.view.now c.args.left c.args.node.now c.deref-tuple-items.result.now c.loop-tuple.tuple-index c.tuple-item.result c.args.walk.now c.take.new.self c.loop-tuple.walk c.loop-tuple.trees.items c.in_err-leaf.field-0.0
    c.in_ok-take.ensures.ok c.take.ensures.path (c.deref-tuple-items.ensures.value ∙ c.in_ok-tuples.ensures) c.loop-tuple.invariant c.loop-tuple-test.true c.tuple-item.is c.in_err-leaf.ensures.err)

pub this-returns-clause-ok : goal.this-returns-clause-ok
this-returns-clause-ok t c =
    this_made c.args.source.now.view.now c.args.left c.args.node.now c.deref-tuple-items.result.now c.loop-tuple.tuple-index c.args.walk.now c.take.new.self c.loop-tuple.walk c.loop-tuple.trees.items _
    c.in_ok-take.ensures.ok c.take.ensures.path (c.deref-tuple-items.ensures.value ∙ c.in_ok-tuples.ensures) c.loop-tuple.invariant c.loop-tuple-test.false (search (rules, tree_lemmas))

pub through-returns-in_err-userset-clause-err : goal.through-returns-in_err-userset-clause-err
through-returns-in_err-userset-clause-err t c =
    let S = c.args.source.now.view.now in
    let n = c.args.node.now in
    exit (IsRefused c.args.walk.now (Union (trees (map (userset S c.args.left c.args.walk.now.path.items) (parents_of S n c.args.tupleset.now c.args.relation.now)))))
    c.from_residual-in_err-userset.result c.in_err-userset.field-0.0 c.from_residual-in_err-userset.ensures.1
    (through_refused S c.args.left n c.args.tupleset.now c.args.relation.now c.deref-parent-items.result.now c.loop-parent.parent-index c.parent-item.result c.args.walk.now c.take.new.self c.loop-parent.walk c.loop-parent.trees.items c.in_err-userset.field-0.0
    c.in_ok-take.ensures.ok c.take.ensures.path (ap (λ (ns : List Node). take c.args.walk.now.room ns) c.deref-parent-items.ensures.value ∙ c.in_ok-parents.ensures) c.loop-parent.invariant c.loop-parent-test.true c.parent-item.is c.in_err-userset.ensures.err)

pub through-returns-clause-ok : goal.through-returns-clause-ok
through-returns-clause-ok t c =
    through_made c.args.source.now.view.now c.args.left c.args.node.now c.args.tupleset.now c.args.relation.now c.deref-parent-items.result.now c.loop-parent.parent-index c.args.walk.now c.take.new.self c.loop-parent.walk c.loop-parent.trees.items _
    c.in_ok-take.ensures.ok c.take.ensures.path (ap (λ (ns : List Node). take c.args.walk.now.room ns) c.deref-parent-items.ensures.value ∙ c.in_ok-parents.ensures) c.loop-parent.invariant c.loop-parent-test.false (search (rules, tree_lemmas))
