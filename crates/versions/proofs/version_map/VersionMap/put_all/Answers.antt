use Rattle.std.proofs.Common.{◌≡◌, ℕ, ◌+◌, ◌<◌, length, ◌++◌, ◌∷◌, [], take, ap, ap₂, subst, ◌∙◌, suc, arith}
use Rattle.std.specs.Prelude.{cond, not, ◌&&◌}
use Rattle.names.specs.Order.{is_same_tuple}
use Rattle.names.specs.declared.tuple.Tuple.{Tuple}
use Rattle.versions.specs.declared.version.Version.{Version}
use Rattle.versions.specs.Versions.{versions_at, versions_in, is_there, Changes}
use Rattle.versions.proofs.Steps.{put_one}
use Rattle.versions.proofs.Coming.{changes_more, one, one_most}
use Rattle.versions.proofs.version_map.VersionMap.put_all.Goals as goal

pub returns-in-Err-clause-err : goal.returns-in-Err-clause-err
returns-in-Err-clause-err c = c.undo_first.ensures.versions (versions_at c.args.self.now) c.args.rev (λ q. c.in-Err.ensures.err q ∙ c.loop-i.invariant.versions q)

pub loop-i-preserved : goal.loop-i-preserved
loop-i-preserved c =
    let es = c.args.events.now in
    let k : ℕ = c.loop-i.i in
    let e = c.event-event.result in
    let next : suc k ≡ k + 1 = omega arith in
    let small : k < length es = subst (λ (n : ℕ). k < n) c.len-i-end.ensures.len c.loop-i-test.true in
    let before = versions_at c.args.self.now in
    let put = ap (λ (m : Version). m.put) c.of-version.ensures in
    let there = c.in-Ok.was_there in
    let come = c.and-change.ensures.come in
    let gone = c.and-change.ensures.gone in
    let come_before = c.loop-i.invariant.come in
    let gone_before = c.loop-i.invariant.gone in
    let come_most = one_most (c.of-version.result.put && not there) in
    let gone_most = one_most (not c.of-version.result.put && there) in
    record {
      come = omega (arith, come, come_before, come_most);
      gone = omega (arith, gone, gone_before, gone_most);
      versions = λ q.
          put_one c.args.rev es k e q (before q) (versions_at c.loop-i.self q) (versions_at c.push.new.self q)
          small c.event-event.ensures (c.loop-i.invariant.versions q)
          (c.in-Ok.ensures.ok q ∙ ap₂ (λ (t : Tuple) (m : Version). cond (is_same_tuple q t) (versions_at c.loop-i.self q ++ m ∷ []) (versions_at c.loop-i.self q)) c.tuple_ref.ensures c.of-version.ensures)
          ∙ ap (λ (n : ℕ). before q ++ versions_in c.args.rev (take n es) q) next;
      changes = subst (λ n. Changes before (take n es) c.and-change.result) next
          (changes_more before c.args.rev es k e c.loop-i.change c.and-change.result there small c.event-event.ensures
          (c.in-Ok.ensures.was_there ∙ ap (λ (t : Tuple). is_there (versions_at c.loop-i.self t)) c.tuple_ref.ensures ∙ ap is_there (c.loop-i.invariant.versions e.tuple))
          (come ∙ ap (λ b. c.loop-i.change.come + one (b && not there)) put)
          (gone ∙ ap (λ b. c.loop-i.change.gone + one (not b && there)) put)
          c.loop-i.invariant.changes);
    }

pub and-change-requires-clause-come : goal.and-change-requires-clause-come
and-change-requires-clause-come c =
    let less = c.loop-i.invariant.come in
    let small = c.len-i-end.ensures.small in
    omega (arith, less, small, c.loop-i-test.true)

pub and-change-requires-clause-gone : goal.and-change-requires-clause-gone
and-change-requires-clause-gone c =
    let less = c.loop-i.invariant.gone in
    let small = c.len-i-end.ensures.small in
    omega (arith, less, small, c.loop-i-test.true)
