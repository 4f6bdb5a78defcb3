use Rattle.std.proofs.Common.{◌≡◌, ◌≤◌, ◌<◌, ◌+◌, ℕ, length, get_or, sym, subst, add-zero, add_assoc, arith}
use Rattle.meaning.specs.History.{History}
use Rattle.rows.specs.Retained.{snap_at, commits_between}
use Rattle.shown.specs.inside.Basing.{IsIndexIn}
use Rattle.shown.proofs.Following.{length_between, view_after}
use Rattle.shown.proofs.groups.index_later.Goals as goal

pub loop-i-init : goal.loop-i-init
loop-i-init c = subst (λ (n : ℕ). IsIndexIn (snap_at c.args.rows.now) c.args.rows.now.floor n c.args.index) (sym (add-zero c.args.from)) c.requires.index

pub loop-i-preserved : goal.loop-i-preserved
loop-i-preserved c =
    let r = c.args.rows.now in
    let commits = commits_between r c.args.from c.args.to in
    let same : c.commits-commits.result.now ≡ commits = c.commits-commits.ensures.commits in
    let small : c.loop-i.i < length commits = subst (λ (h : History). c.loop-i.i < length h) same c.loop-i-test.true in
    let at : c.index-commits-i.result ≡ get_or commits c.loop-i.i c.index-commits-i.result =
    subst (λ (h : History). c.index-commits-i.result ≡ get_or h c.loop-i.i c.index-commits-i.result) same c.index-commits-i.is in
    let later = view_after r c.args.from c.args.to c.loop-i.i c.index-commits-i.result c.at.result c.requires.from c.requires.order c.requires.to small at c.at.ensures in
    subst (λ (n : ℕ). IsIndexIn (snap_at r) r.floor n c.in_ok-index.index) (add_assoc c.args.from c.loop-i.i 1)
    (c.in_ok-index.ensures (snap_at r) r.floor (c.args.from + c.loop-i.i) c.loop-i.invariant (sym c.at.ensures) later)

pub returns : goal.returns
returns c =
    let r = c.args.rows.now in
    let same = c.commits-commits.ensures.commits in
    let more = subst (λ (h : History). length h ≤ c.loop-i.i) same c.loop-i-test.false in
    let few = subst (λ (h : History). c.loop-i.i ≤ length h) same c.loop-i.auto.i-end in
    let long = length_between r c.args.from c.args.to c.requires.from c.requires.order c.requires.to in
    let order = c.requires.order in
    let all : c.args.from + c.loop-i.i ≡ c.args.to = omega (arith, more, few, long, order) in
    subst (λ (n : ℕ). IsIndexIn (snap_at r) r.floor n c.loop-i.index) all c.loop-i.invariant
