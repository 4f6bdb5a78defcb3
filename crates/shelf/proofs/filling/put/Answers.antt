use Rattle.std.proofs.Common.{arith, ap, ◌∙◌}
use Rattle.shelf.proofs.Parting.{ok_then, put_joined, longer, now_err, left_now, left_now_filled, right_now, right_now_filled}
use Rattle.shelf.specs.inside.Places.{joined}
use Rattle.shelf.proofs.filling.put.Goals as goal

pub returns-then-len-lt-FULL-clause-ok : goal.returns-then-len-lt-FULL-clause-ok
returns-then-len-lt-FULL-clause-ok g c = ok_then c.put_in.result c.put_in.ensures.ok (λ is. ap joined is ∙ put_joined _ _ _ _ c.requires.within)

pub returns-then-i-cut-clause-filled : goal.returns-then-i-cut-clause-filled
returns-then-i-cut-clause-filled g c =
    let less = longer c.args.blocks.now.items c.args.at c.len.result c.cut_of-cut.result _ c.requires.within c.index.ensures c.len.ensures.len (omega arith) c.cut_of-cut.ensures.less in
    left_now_filled c.args.blocks.now.items c.args.at c.requires.within c.cut_of-cut.result c.cut_of-cut.ensures.some less c.requires.filled _ c.in_ok-split.ensures.ok c.args.i (c.args.key.now, c.args.value) c.put_in-then-i-cut.result _ c.put_in-then-i-cut.ensures.ok c.put_in-then-i-cut.ensures.err

pub returns-then-i-cut-clause-ok : goal.returns-then-i-cut-clause-ok
returns-then-i-cut-clause-ok g c =
    let less = longer c.args.blocks.now.items c.args.at c.len.result c.cut_of-cut.result _ c.requires.within c.index.ensures c.len.ensures.len (omega arith) c.cut_of-cut.ensures.less in
    left_now c.args.blocks.now.items c.args.at c.requires.within c.cut_of-cut.result c.cut_of-cut.ensures.some less c.requires.filled _ c.in_ok-split.ensures.ok c.args.i (c.args.key.now, c.args.value) c.put_in-then-i-cut.result _ c.put_in-then-i-cut.ensures.ok (omega arith)

pub returns-then-i-cut-clause-err : goal.returns-then-i-cut-clause-err
returns-then-i-cut-clause-err g c =
    let less = longer c.args.blocks.now.items c.args.at c.len.result c.cut_of-cut.result _ c.requires.within c.index.ensures c.len.ensures.len (omega arith) c.cut_of-cut.ensures.less in
    now_err c.args.blocks.now.items c.args.at c.requires.within c.cut_of-cut.result c.cut_of-cut.ensures.some less c.requires.filled _ c.in_ok-split.ensures.ok c.args.i (c.args.key.now, c.args.value) c.put_in-then-i-cut.result _ c.put_in-then-i-cut.ensures.err

pub returns-else-i-cut-clause-filled : goal.returns-else-i-cut-clause-filled
returns-else-i-cut-clause-filled g c =
    let less = longer c.args.blocks.now.items c.args.at c.len.result c.cut_of-cut.result _ c.requires.within c.index.ensures c.len.ensures.len (omega arith) c.cut_of-cut.ensures.less in
    right_now_filled c.args.blocks.now.items c.args.at c.requires.within c.cut_of-cut.result c.cut_of-cut.ensures.some less c.requires.filled _ c.in_ok-split.ensures.ok c.args.i (c.args.key.now, c.args.value) c.put_in-else-i-cut.result _ c.put_in-else-i-cut.ensures.ok c.put_in-else-i-cut.ensures.err

pub returns-else-i-cut-clause-ok : goal.returns-else-i-cut-clause-ok
returns-else-i-cut-clause-ok g c =
    let less = longer c.args.blocks.now.items c.args.at c.len.result c.cut_of-cut.result _ c.requires.within c.index.ensures c.len.ensures.len (omega arith) c.cut_of-cut.ensures.less in
    right_now c.args.blocks.now.items c.args.at c.requires.within c.cut_of-cut.result c.cut_of-cut.ensures.some less c.requires.filled _ c.in_ok-split.ensures.ok c.args.i (c.args.key.now, c.args.value) c.put_in-else-i-cut.result _ c.put_in-else-i-cut.ensures.ok (omega arith)

pub returns-else-i-cut-clause-err : goal.returns-else-i-cut-clause-err
returns-else-i-cut-clause-err g c =
    let less = longer c.args.blocks.now.items c.args.at c.len.result c.cut_of-cut.result _ c.requires.within c.index.ensures c.len.ensures.len (omega arith) c.cut_of-cut.ensures.less in
    now_err c.args.blocks.now.items c.args.at c.requires.within c.cut_of-cut.result c.cut_of-cut.ensures.some less c.requires.filled _ c.in_ok-split.ensures.ok c.args.i (c.args.key.now, c.args.value) c.put_in-else-i-cut.result _ c.put_in-else-i-cut.ensures.err
