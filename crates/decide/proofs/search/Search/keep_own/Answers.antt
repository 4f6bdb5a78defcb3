use Rattle.std.proofs.Common.{refl, sym}
use Rattle.std.specs.Prelude.{Some}
use Rattle.decide.specs.declared.search.Opened.{Opened}
use Rattle.decide.specs.inside.Reads.{IsKept}
use Rattle.decide.proofs.Elements.{Holds}
use Rattle.decide.proofs.Replacing.{replaced_grew, reading_running}
use Rattle.decide.proofs.search.Search.keep_own.Goals as goal

pub returns-clause-grew : goal.returns-clause-grew
returns-clause-grew c =
    let e = c.index_mut.result.now in
    let f : Opened = record { node = e.node; level = e.level; place = e.place; sure = e.sure; waiting = e.waiting; own = Some c.args.own; parents = e.parents } in
    replaced_grew c.args.self.now _ c.args.number e f (c.requires, sym c.index_mut.ensures.value) (record { node = refl; level = refl; place = refl; sure = refl; waiting = λ i w. w }) refl refl refl

pub returns-clause-running : goal.returns-clause-running
returns-clause-running c S u but is r =
    let e = c.index_mut.result.now in
    let f : Opened = record { node = e.node; level = e.level; place = e.place; sure = e.sure; waiting = e.waiting; own = Some c.args.own; parents = e.parents } in
    let stood : Holds c.args.self.now.opened.items c.args.number e = (c.requires, sym c.index_mut.ensures.value) in
    let kept : IsKept S u e = r.kept c.args.number e stood in
    reading_running c.args.self.now _ c.args.number e f stood (record { node = refl; level = refl; place = refl; sure = refl; waiting = λ i w. w }) refl refl refl refl S u but
    (record { own = is e stood; parents = kept.parents })
    r
