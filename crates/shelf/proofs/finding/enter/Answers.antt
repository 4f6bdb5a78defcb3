use Rattle.std.proofs.Common.{sym, subst, ◌∙◌}
use Rattle.shelf.specs.inside.Places.{IsFound}
use Rattle.shelf.proofs.Shelves.{one_shelf}
use Rattle.shelf.proofs.Spots.{IsMissing, has_first, has_found, has_entered, put_shelf, put_found}
use Rattle.shelf.proofs.finding.enter.Goals as goal

pub returns-then-is_empty-clause-shelf : goal.returns-then-is_empty-clause-shelf
returns-then-is_empty-clause-shelf g c =
    one_shelf _ _ _ (c.args.key.now, c.args.value) _ (sym c.is_empty.ensures ∙ c.if-is_empty.true) c.args.blocks.now.ok.0 c.in_ok-block.ensures c.in_ok-push.ensures.items

pub returns-then-is_empty-clause-entered : goal.returns-then-is_empty-clause-entered
returns-then-is_empty-clause-entered g c =
    has_first c.args.key.now _ _ _ c.args.value _ (sym c.is_empty.ensures ∙ c.if-is_empty.true) c.args.blocks.now.ok.0 c.in_ok-block.ensures c.in_ok-push.ensures.items

pub returns-in-Ok-clause-entered : goal.returns-in-Ok-clause-entered
returns-in-Ok-clause-entered g c =
    has_found c.args.key.now c.in-Ok.at c.in-Ok.i c.args.blocks.now.items c.requires.shelf (subst (IsFound c.args.key.now c.in-Ok.at c.in-Ok.i) c.deref.ensures.value c.in-Ok.ensures.ok) c.args.value

pub returns-in-Err-clause-shelf : goal.returns-in-Err-clause-shelf
returns-in-Err-clause-shelf g c =
    let is = subst (IsMissing c.args.key.now c.in-Err.at c.in-Err.i) c.deref.ensures.value c.in-Err.ensures.err in
    put_shelf c.args.key.now c.in-Err.at c.in-Err.i c.args.blocks.now.items is c.put.result c.args.value c.requires.shelf.sorted _ c.put.ensures.filled c.put.ensures.ok c.put.ensures.err

pub returns-in-Err-clause-found : goal.returns-in-Err-clause-found
returns-in-Err-clause-found g c =
    let is = subst (IsMissing c.args.key.now c.in-Err.at c.in-Err.i) c.deref.ensures.value c.in-Err.ensures.err in
    put_found c.args.key.now c.put.result _
    (put_shelf c.args.key.now c.in-Err.at c.in-Err.i c.args.blocks.now.items is c.put.result c.args.value c.requires.shelf.sorted _ c.put.ensures.filled c.put.ensures.ok c.put.ensures.err)
    c.put.ensures.there

pub returns-in-Err-clause-entered : goal.returns-in-Err-clause-entered
returns-in-Err-clause-entered g c =
    let is = subst (IsMissing c.args.key.now c.in-Err.at c.in-Err.i) c.deref.ensures.value c.in-Err.ensures.err in
    has_entered c.args.key.now c.in-Err.at c.in-Err.i c.args.blocks.now.items is c.put.result c.args.value c.put.new.blocks.items c.put.ensures.ok
