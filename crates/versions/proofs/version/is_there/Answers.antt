use Rattle.std.proofs.Common.{◌≡◌, ◌-◌, ◌<◌, length, suc, refl, ap, ◌∙◌, arith}
use Rattle.std.specs.Prelude.{false}
use Rattle.std.specs.VecDeque.{deque_len}
use Rattle.versions.specs.declared.version.Version.{Version}
use Rattle.versions.proofs.VersionRuns.{last_put}
use Rattle.versions.proofs.version.is_there.Goals as goal

pub returns : goal.returns
returns c =
    let ms = c.args.versions.now in
    let some : 0 < deque_len ms = c.in-Some.ensures.variant.0 refl in
    let long : deque_len ms ≡ length ms.items = ms.ok.0 in
    let last : suc (deque_len ms - 1) ≡ length ms.items = omega (arith, some, long) in
    ap (λ (m : Version). m.put) c.in-Some.ensures.lookup ∙ last_put false ms.items (deque_len ms - 1) c.in-Some.version.now last
