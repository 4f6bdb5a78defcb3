use Rattle.std.proofs.Common.{ap, inl, inr, arith}
use Rattle.store.specs.declared.parts.ReadConfig.{ReadConfig}
use Rattle.store.proofs.Adjacent.{rev_refused}
use Rattle.store.proofs.configs.are_ascending.Goals as goal

pub returns-then-rev-configs-clause-refuses : goal.returns-then-rev-configs-clause-refuses
returns-then-rev-configs-clause-refuses c = λ _.
    let last = c.index-configs-i-in-loop-i.result in
    let next = c.index-configs-i.result in
    let old = ap (λ (r : ReadConfig). r.rev) c.index-configs-i-in-loop-i.is in
    let new = ap (λ (r : ReadConfig). r.rev) c.index-configs-i.is in
    rev_refused c.args.floor c.args.configs.now c.loop-i.i last next (omega (arith, c.loop-i.auto.i)) c.loop-i-test.true c.index-configs-i-in-loop-i.is c.index-configs-i.is
    (λ above over. elim c.then-rev-configs.either [ inl e ↦ omega (arith, above, e, old, new) | inr e ↦ omega (arith, over, e, new) ])
