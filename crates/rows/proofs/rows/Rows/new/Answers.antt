use Rattle.std.proofs.Common.{◌≡◌, ◌<◌, length, get_or, ap, sym, subst, ◌∙◌}
use Rattle.meaning.specs.History.{History}
use Rattle.rows.specs.declared.loaded.Loaded.{Loaded}
use Rattle.rows.specs.Retained.{Retained, HasRoom, with_commit}
use Rattle.rows.proofs.Loading.{has_room, next_loaded}
use Rattle.rows.proofs.rows.Rows.new.Goals as goal

pub absorb-requires : goal.absorb-requires
absorb-requires c =
    let l : Loaded = c.args.loaded.now in
    let same : c.as_slice-commits.result.now ≡ l.commits = c.as_slice-commits.ensures in
    let small : c.loop-i.i < length l.commits = subst (λ (h : History). c.loop-i.i < length h) same c.loop-i-test.true in
    let at : c.index-commits-i.result ≡ get_or l.commits c.loop-i.i c.index-commits-i.result = subst (λ (h : History). c.index-commits-i.result ≡ get_or h c.loop-i.i c.index-commits-i.result) same c.index-commits-i.is in
    subst (λ (r : Retained). HasRoom r c.index-commits-i.result) (sym c.loop-i.invariant) (has_room l c.loop-i.i c.index-commits-i.result c.requires small at)

pub loop-i-preserved : goal.loop-i-preserved
loop-i-preserved c =
    let l : Loaded = c.args.loaded.now in
    let same : c.as_slice-commits.result.now ≡ l.commits = c.as_slice-commits.ensures in
    let small : c.loop-i.i < length l.commits = subst (λ (h : History). c.loop-i.i < length h) same c.loop-i-test.true in
    let at : c.index-commits-i.result ≡ get_or l.commits c.loop-i.i c.index-commits-i.result = subst (λ (h : History). c.index-commits-i.result ≡ get_or h c.loop-i.i c.index-commits-i.result) same c.index-commits-i.is in
    c.in_ok-absorb.ensures.ok ∙ ap (λ (r : Retained). with_commit r c.index-commits-i.result) c.loop-i.invariant ∙ next_loaded l c.loop-i.i c.index-commits-i.result small at
