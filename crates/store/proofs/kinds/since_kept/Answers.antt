use Rattle.std.proofs.Common.{rules, ◌≡◌, true, sym, refl}
use Rattle.store.proofs.Alike.{is_alike, alike}
use Rattle.store.proofs.kinds.since_kept.Goals as goal

pub returns-then-is_alike : goal.returns-then-is_alike
returns-then-is_alike c =
    let test : is_alike c.kind-item.result.tuple c.args.tuple.now ≡ true = search rules in
    let are = alike c.kind-item.result.tuple c.args.tuple.now test in
    (c.kind-item.result, (c.loop-kind.kind-index, c.loop-kind-test.true, sym c.kind-item.is), refl, are.0, are.1)
