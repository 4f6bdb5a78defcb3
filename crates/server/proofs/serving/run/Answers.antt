use Rattle.std.proofs.Common.{◌≡◌, ℕ, refl, ap, sym, ◌∙◌, subst, inr, arith}
use Rattle.std.specs.Prelude.{◌⊎◌, IfOk, vec_len}
use Rattle.names.specs.declared.refusal.Refusal.{Refusal}
use Rattle.names.specs.declared.refusal.Refusal.TheVariants.{Memory, NoSeat}
use Rattle.desk.proofs.Accepting.{refused_exit}
use Rattle.keeper.specs.Fronts.{IsSeated}
use Rattle.server.specs.Served.{AllSeated, AllServed}
use Rattle.server.proofs.Served.{seated_on}
use Rattle.server.proofs.serving.run.Goals as goal

pub returns-in_err-push-clause-err : goal.returns-in_err-push-clause-err
returns-in_err-push-clause-err g c =
    let told = c.from_residual-in_err-push in
    refused_exit (λ (why : Refusal). (why ≡ NoSeat) ⊎ (why ≡ Memory)) told.result Memory told.ensures.1 (inr refl)

pub returns-in_err-clone-clause-err : goal.returns-in_err-clone-clause-err
returns-in_err-clone-clause-err g c =
    let told = c.from_residual-in_err-clone in
    refused_exit (λ (why : Refusal). (why ≡ NoSeat) ⊎ (why ≡ Memory)) told.result Memory told.ensures.1 (inr refl)

pub loop-preserved : goal.loop-preserved
loop-preserved g c =
    let Seated = IsSeated g.T.Tables g.J.Naming.book g.J.KeeperName.starts in
    let pushed = c.in_ok-push.ensures in
    let same = ap (λ a. a.answers.answers) c.new-in-loop-4.ensures ∙ c.new-in-loop-3.ensures ∙ c.new-in-loop-2.ensures in
    let seated = subst Seated (sym same) c.in_ok-new.ensures.seated in (
      omega (arith, pushed.len, c.loop.invariant.0),
      subst (AllSeated g.T.Tables g.J.Naming.book g.J.KeeperName.starts (λ w. w.answers.answers.answers)) (sym pushed.items)
          (seated_on g.T.Tables g.J.Naming.book g.J.KeeperName.starts _ c.loop.machines.items c.new-in-loop-4.result c.loop.invariant.1 seated),
    )

pub returns-clause-served : goal.returns-clause-served
returns-clause-served g c =
    let number : vec_len c.loop.machines ≡ c.args.workers = omega (arith, c.loop.invariant.0, c.loop.auto.counter-end, c.loop-test.false) in
    subst (λ (n : ℕ). IfOk c.serve_seated.result (λ _. AllServed g.T.Tables g.J.Naming.book g.J.KeeperName.starts n)) number c.serve_seated.ensures.served
