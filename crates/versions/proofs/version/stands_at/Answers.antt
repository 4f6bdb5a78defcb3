use Rattle.std.proofs.Common.{◌≡◌, ◌-◌, ◌<◌, ◌≤◌, length, suc, refl, ap, subst, ◌∙◌, arith}
use Rattle.std.specs.VecDeque.{deque_len}
use Rattle.versions.specs.declared.version.Version.{Version}
use Rattle.versions.proofs.VersionRuns.{newest_counts, none_counts, last_counts}
use Rattle.versions.proofs.version.stands_at.Goals as goal

pub returns-then-newest-rev : goal.returns-then-newest-rev
returns-then-newest-rev c =
    let ms = c.args.versions.now in
    let some : 0 < deque_len ms = c.in-Some.ensures.variant.0 refl in
    let long : deque_len ms ≡ length ms.items = ms.ok.0 in
    let last : suc (deque_len ms - 1) ≡ length ms.items = omega (arith, some, long) in
    ap (λ (m : Version). m.put) c.in-Some.ensures.lookup
    ∙ newest_counts ms.items (deque_len ms - 1) c.in-Some.newest.now c.args.rev last (subst (λ (m : Version). m.rev ≤ c.args.rev) c.in-Some.ensures.lookup c.if-newest-rev.true)

pub returns-then-count-eq0 : goal.returns-then-count-eq0
returns-then-count-eq0 c =
    let count = c.count_up_to-count in
    none_counts c.args.versions.now.items c.args.rev count.result count.ensures.within count.ensures.past c.if-count-eq0.true

pub returns : goal.returns
returns c =
    let count = c.count_up_to-count in
    let some = c.if-count-eq0.false in
    let last : suc (count.result - 1) ≡ count.result = omega (arith, some) in
    ap (λ (m : Version). m.put) c.index.ensures
    ∙ last_counts c.args.versions.now.items c.args.rev count.result count.ensures.within count.ensures.past (count.result - 1) c.index.result.now last count.ensures.up_to
