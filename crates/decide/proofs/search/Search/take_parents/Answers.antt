use Rattle.std.proofs.Common.{refl, sym, subst}
use Rattle.std.specs.Prelude.{IfSome}
use Rattle.decide.specs.declared.search.Opened.{Opened}
use Rattle.decide.specs.inside.Reads.{AreParents, IsKept}
use Rattle.decide.proofs.Elements.{Holds}
use Rattle.decide.proofs.SearchLemmas.{parents_kept}
use Rattle.decide.proofs.Replacing.{replaced_grew, reading_running}
use Rattle.decide.proofs.search.Search.take_parents.Goals as goal

pub returns-clause-grew : goal.returns-clause-grew
returns-clause-grew c =
    let e = c.index_mut.result.now in
    let f : Opened = record { node = e.node; level = e.level; place = e.place; sure = e.sure; waiting = e.waiting; own = e.own; parents = c.take.new.self } in
    replaced_grew c.args.self.now _ c.args.number e f (c.requires, sym c.index_mut.ensures.value) (record { node = refl; level = refl; place = refl; sure = refl; waiting = λ i w. w }) refl refl refl

pub returns-clause-running : goal.returns-clause-running
returns-clause-running c S u but r =
    let e = c.index_mut.result.now in
    let f : Opened = record { node = e.node; level = e.level; place = e.place; sure = e.sure; waiting = e.waiting; own = e.own; parents = c.take.new.self } in
    let stood : Holds c.args.self.now.opened.items c.args.number e = (c.requires, sym c.index_mut.ensures.value) in
    let kept : IsKept S u e = r.kept c.args.number e stood in
    reading_running c.args.self.now _ c.args.number e f stood (record { node = refl; level = refl; place = refl; sure = refl; waiting = λ i w. w }) refl refl refl refl S u but
    (record { parents = subst (λ o. IfSome o (AreParents S e.node)) (sym c.take.ensures.after) tt; own = kept.own })
    r

pub returns-clause-parents : goal.returns-clause-parents
returns-clause-parents c S u but r =
    let e = c.index_mut.result.now in
    let stood : Holds c.args.self.now.opened.items c.args.number e = (c.requires, sym c.index_mut.ensures.value) in
    parents_kept S u c.args.self.now c.args.number e c.take.result stood c.take.ensures.value (r.kept c.args.number e stood)
