use Rattle.std.proofs.Common.{◌+◌, ◌≤◌, arith, sym}
use Rattle.rows.specs.Retained.{newest}
use Rattle.comparisons.specs.Following.{IsIndexIn}
use Rattle.comparisons.proofs.Moving.{if_ok, later, IsAfter}
use Rattle.comparisons.proofs.groups.next.Goals as goal

pub returns : goal.returns
returns c =
    let r = c.args.rows.now in
    let from = c.cursor-from.result in
    let commit = c.index-commits-0.result in
    let is = c.newest.ensures.newest in
    let more = c.if-newest-from.false in
    let there : from + 1 ≤ newest r = omega (arith, is, more) in
    let after = later r c.args.index from commit c.commits-commits.result.now c.at-view.result c.requires c.cursor-from.ensures there c.commits-commits.ensures.commits
    c.index-commits-0.is c.at-view.ensures in
    if_ok (IsAfter c.args.index (from + 1) c.at-view.result commit) (IsIndexIn r) c.after.result (λ next gives. gives r c.requires there (sym c.at-view.ensures) after) c.after.ensures
