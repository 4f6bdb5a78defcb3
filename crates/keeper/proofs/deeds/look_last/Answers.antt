use Rattle.std.proofs.Common.{List, length, refl, ap, sym, subst, ◌∙◌, arith}
use Rattle.one_history.specs.declared.entry.Entry.{Entry}
use Rattle.keeper.specs.declared.deeds.Deed.{Deed}
use Rattle.keeper.specs.Deeds.{StandsIn, AllStandIn}
use Rattle.keeper.proofs.Doing.{none_stand}
use Rattle.keeper.proofs.deeds.look_last.Goals as goal

pub loop-place-init : goal.loop-place-init
loop-place-init g c =
    let gives = c.into_iter-place-iterator.ensures.into_iter_gives in
    record {
      count = let n = ap length gives.0 in omega (arith, n, gives.1, c.args.places.ok.0);
      same = refl;
      stand = λ all. subst (AllStandIn c.args.log.now) gives.0 all;
    }

pub loop-place-preserved : goal.loop-place-preserved
loop-place-preserved g c =
    let before = c.loop-place.invariant in
    let next = c.in-Some.ensures.steps in
    let stands = subst (λ (l : List (Entry Deed)). StandsIn l c.in-Some.place) before.same c.look.ensures.stands in
    record {
      count = let n = ap length next.0 in omega (arith, n, next.1, before.count);
      same = c.look.ensures.same ∙ before.same;
      stand = λ rest. before.stand (subst (AllStandIn c.args.log.now) (sym next.0) (stands, rest));
    }

pub returns-clause-stand : goal.returns-clause-stand
returns-clause-stand g c =
    let before = c.loop-place.invariant in
    before.stand (none_stand c.args.log.now _ (sym before.count ∙ c.in-None.ensures.steps.0))
