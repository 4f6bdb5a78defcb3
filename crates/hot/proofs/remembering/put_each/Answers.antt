use Rattle.std.proofs.Common.{◌∷◌, ⊎_elim, inl}
use Rattle.hot.proofs.Remembered.{fresh_in, popped}
use Rattle.hot.proofs.remembering.put_each.Goals as goal

pub loop-one-preserved : goal.loop-one-preserved
loop-one-preserved c =
    let rest = c.loop-one.invariant.rest in
    let all = popped c.args.fresh.items c.loop-one.fresh.items c.pop.new.self.items c.in-Some.one rest.0 rest.1 c.in-Some.ensures.items in
    record {
      all = λ n t at. ⊎_elim
          (λ new. inl (fresh_in c.args.fresh.items c.pop.new.self.items c.in-Some.one rest.0 n t all new.0 new.1))
          (λ old. c.loop-one.invariant.all n t old)
          (c.put_new.ensures n t at);
      rest = (c.in-Some.one ∷ rest.0, all);
    }
