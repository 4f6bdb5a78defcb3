use Rattle.std.proofs.Common.{◌≡◌, ◌<◌, length, get_or, subst}
use Rattle.meaning.specs.History.{History}
use Rattle.rows.specs.declared.loaded.Loaded.{Loaded}
use Rattle.rows.specs.Retained.{Retained}
use Rattle.rows.specs.Loads.{loaded_to}
use Rattle.rows.proofs.Loading.{next_loaded}
use Rattle.by_subject.specs.Complete.{IsCompleteFor}
use Rattle.by_subject.proofs.by_subject.BySubject.of.Goals as goal

pub loop-i-preserved : goal.loop-i-preserved
loop-i-preserved c =
    let l : Loaded = c.args.loaded.now in
    let same : c.as_slice-commits.result.now ≡ l.commits = c.as_slice-commits.ensures in
    let small : c.loop-i.i < length l.commits = subst (λ (h : History). c.loop-i.i < length h) same c.loop-i-test.true in
    let at : c.index-commits-i.result ≡ get_or l.commits c.loop-i.i c.index-commits-i.result = subst (λ (h : History). c.index-commits-i.result ≡ get_or h c.loop-i.i c.index-commits-i.result) same c.index-commits-i.is in
    subst (λ (r : Retained). IsCompleteFor r c.take.new.self) (next_loaded l c.loop-i.i c.index-commits-i.result small at)
    (c.in_ok-take.ensures.complete (loaded_to l c.loop-i.i) c.loop-i.invariant)
