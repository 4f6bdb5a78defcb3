use Rattle.std.proofs.Common.{◌≡◌, length, ap, sym, subst, ◌∙◌, arith}
use Rattle.std.specs.Prelude.{MatchResult}
use Rattle.server.specs.Attending.{ServedUntil}
use Rattle.server.proofs.Pairs.{gathers_first, gathers_next, gathered, leads_first, leads_next, leads_last, match_of, of_ok, of_err, pushed}
use Rattle.server.proofs.pool.serve_in.Goals as goal
use Rattle.server.proofs.pool.serve_in.Goals.{in-Ok-one, in-Err}

pub loop-server-init : goal.loop-server-init
loop-server-init g c =
    let gives = c.into_iter-server-iterator.ensures.into_iter_gives in
    record {
      count = let n = ap length gives.0 in omega (arith, n, gives.1, c.args.servers.ok.0);
      gathers = gathers_first _ _ _ _ gives.0 c.in_ok-started.ensures.0;
    }

pub loop-server-preserved : goal.loop-server-preserved
loop-server-preserved g c =
    let before = c.loop-server.invariant in
    let next = c.in-Some.ensures.steps in
    let spawned = c.spawn_with-one in
    record {
      count = let n = ap length next.0 in omega (arith, n, next.1, before.count);
      gathers = gathers_next _ _ _ _ _ _ c.in-Some.server spawned.result before.gathers next.0 (pushed _ _ _ _ _ c.in-Ok.is c.push.ensures.items)
          (match_of spawned.result (λ thread same. ap (λ p. p.began.value) same ∙ c.from_now-promise.ensures) (λ refused same. ap (λ f. f.4) same) spawned.ensures.ok spawned.ensures.err);
    }

pub loop-one-init : goal.loop-one-init
loop-one-init g c =
    let gives = c.into_iter-one-iterator.ensures.into_iter_gives in
    let before = c.loop-server.invariant in
    record {
      count = let n = ap length gives.0 in omega (arith, n, gives.1, c.loop-server.started.ok.0);
      leads = leads_first _ _ _ _ _ _ (gathered _ _ _ _ before.gathers (sym before.count ∙ c.in-None.ensures.steps.0)) gives.0 c.in_ok-started.ensures.1;
    }

pub loop-one-preserved : goal.loop-one-preserved
loop-one-preserved g c =
    let before = c.loop-one.invariant in
    let next = c.in-Some-one.ensures.steps in
    let one = c.in-Some-one.one in
    let Until = ServedUntil g.S.Serves.served g.S.Leaves.left in
    let here : (s : g.row.S.Denot) → MatchResult one (λ thread. thread.promise.began.value ≡ s) (λ refused. refused.value.4 ≡ s) → Until s c.match-one.left =
    elim c.match-one.branch [
      | in-Ok-one w ↦ λ s is.
          subst (λ (l : g.row.L.Denot). Until s l) (sym w.left-is)
          (subst (λ (x : g.row.S.Denot). Until x w.join-left.result) (of_ok _ _ one w.in-Ok-one.thread w.in-Ok-one.is is) w.join-left.ensures)
      | in-Err w ↦ λ s is.
          subst (λ (l : g.row.L.Denot). Until s l) (sym w.left-is)
          (subst (λ (x : g.row.S.Denot). Until x w.spawn_with-left.result) (of_err _ _ one w.in-Err.refused w.in-Err.is is) w.spawn_with-left.ensures)
    ] in
    record {
      count = let n = ap length next.0 in omega (arith, n, next.1, before.count);
      leads = leads_next _ _ _ _ _ _ _ one c.match-one.left before.leads next.0 (pushed _ _ _ _ _ c.in-Ok-push.is c.push-in-loop-one.ensures.items) here;
    }

pub returns-clause-served : goal.returns-clause-served
returns-clause-served g c =
    let before = c.loop-one.invariant in
    leads_last _ _ _ _ _ before.leads (sym before.count ∙ c.in-None-one.ensures.steps.0)
