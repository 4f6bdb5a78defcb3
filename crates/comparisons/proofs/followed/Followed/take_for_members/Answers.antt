use Rattle.std.proofs.Common.{◌+◌, ◌≤◌, arith}
use Rattle.rows.specs.Retained.{newest}
use Rattle.comparisons.proofs.Moving.{taken, with_members}
use Rattle.comparisons.proofs.followed.Followed.take_for_members.Goals as goal

pub invariant_of-self-2 : goal.invariant_of-self-2
invariant_of-self-2 c =
    let inside = c.self.inside in
    let new = c.take_commit.new.hot in
    let is = c.newest.ensures.newest in
    let more = c.if-newest-from.false in
    let there : inside.cursor + 1 ≤ newest inside.rows = omega (arith, is, more) in
    with_members inside.rows inside.hot inside.cursor inside.groups c.self.invariant new (inside.cursor + 1)
    (taken inside.rows inside.hot new inside.cursor c.index-commits-0.result c.commits-commits.result.now c.at-view.result c.self.invariant.hot_right there
    c.commits-commits.ensures.commits c.index-commits-0.is c.at-view.ensures c.in_ok-take_commit.ensures.ok)
