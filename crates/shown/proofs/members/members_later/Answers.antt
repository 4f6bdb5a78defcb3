use Rattle.std.proofs.Common.{◌≡◌, ◌≤◌, ◌<◌, length, get_or, subst}
use Rattle.meaning.specs.History.{History}
use Rattle.meaning.specs.Snap.{Snap}
use Rattle.hot.specs.Kept.{IsHot}
use Rattle.rows.specs.Retained.{commits_between}
use Rattle.shown.proofs.Following.{snap_in, view_next, all_taken, done}
use Rattle.shown.proofs.MarkedNodes.{same_itself, same_later}
use Rattle.shown.proofs.members.members_later.Goals as goal

pub loop-i-init : goal.loop-i-init
loop-i-init c = record { hot = c.requires.hot; marked = same_itself c.args.hot }

pub loop-i-preserved : goal.loop-i-preserved
loop-i-preserved c =
    let r = c.args.rows.now in
    let commits = commits_between r c.args.from c.args.to in
    let same : c.commits-commits.result.now ≡ commits = c.commits-commits.ensures.commits in
    let small : c.loop-i.i < length commits = subst (λ (h : History). c.loop-i.i < length h) same c.loop-i-test.true in
    let at : c.index-commits-i.result ≡ get_or commits c.loop-i.i c.index-commits-i.result =
    subst (λ (h : History). c.index-commits-i.result ≡ get_or h c.loop-i.i c.index-commits-i.result) same c.index-commits-i.is in
    let view = view_next r c.args.from c.args.to c.loop-i.i c.index-commits-i.result c.at-view.result c.requires.from c.requires.order c.requires.to small at c.at-view.ensures in
    let before = c.loop-i.invariant in
    let taken = done c.take_commit.result c.in_ok-ok.field-0 c.in_ok-ok.ensures.value c.take_commit.ensures.hot (snap_in r c.args.from c.args.to c.loop-i.i) before.hot view.1 in
    let kept = done c.take_commit.result c.in_ok-ok.field-0 c.in_ok-ok.ensures.value c.take_commit.ensures.marked (snap_in r c.args.from c.args.to c.loop-i.i) before.hot in
    record {
      hot = subst (λ (S : Snap). IsHot c.take_commit.new.hot S) view.0 taken;
      marked = same_later c.args.hot c.loop-i.hot c.take_commit.new.hot before.marked kept;
    }

pub returns-clause-hot : goal.returns-clause-hot
returns-clause-hot c =
    let r = c.args.rows.now in
    let same = c.commits-commits.ensures.commits in
    let more = subst (λ (h : History). length h ≤ c.loop-i.i) same c.loop-i-test.false in
    let few = subst (λ (h : History). c.loop-i.i ≤ length h) same c.loop-i.auto.i-end in
    subst (λ (S : Snap). IsHot c.loop-i.hot S) (all_taken r c.args.from c.args.to c.loop-i.i c.requires.from c.requires.order c.requires.to more few) c.loop-i.invariant.hot
