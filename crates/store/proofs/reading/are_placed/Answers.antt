use Rattle.std.proofs.Common.{◌≡◌, true, map, refl}
use Rattle.meaning.specs.Admits.{admits}
use Rattle.store.specs.Written.{TupleSpan, IsSpan, is_alive, config_up_to}
use Rattle.store.specs.inside.Reading.{as_span, as_config}
use Rattle.store.proofs.Adjacent.{all_at}
use Rattle.store.proofs.reading.are_placed.Goals as goal
use Rattle.store.proofs.reading.are_placed.Goals.{then-not-are_apart-via-then-not-are_apart, then-not-are_apart-via-else-not-are_apart+then-not-are_ascending}

pub returns-then-not-are_apart-clause-refuses : goal.returns-then-not-are_apart-clause-refuses
returns-then-not-are_apart-clause-refuses c = λ _ listed sound.
    elim c.then-not-are_apart.branch [
      | then-not-are_apart-via-then-not-are_apart w ↦ w.if-not-are_apart.ensures.refuses refl listed.tuples c.args.head.floor c.args.head.newest sound.spans_are sound.apart
      | then-not-are_apart-via-else-not-are_apart+then-not-are_ascending w ↦ w.if-not-are_ascending.ensures.refuses refl listed.revs sound.distinct
    ]

pub are_admitted-requires-clause-rise : goal.are_admitted-requires-clause-rise
are_admitted-requires-clause-rise c = (c.args.head.floor, c.if-not-are_ascending.ensures.passes refl)

pub returns-clause-refuses : goal.returns-clause-refuses
returns-clause-refuses c = λ refused listed sound.
    c.are_admitted-2.ensures.refuses refused c.args.head.newest (record { order = sound.order; are = sound.configs_are; distinct = sound.distinct })
    (λ k d lt. all_at (IsSpan c.args.head.floor c.args.head.newest) as_span c.args.spans.now sound.spans_are k d lt)
    (λ k d lt rev low high alive. all_at (λ (l : TupleSpan). is_alive rev l ≡ true → admits (config_up_to rev (map as_config c.args.configs.now)) l.tuple ≡ true) as_span c.args.spans.now (sound.admitted rev low high) k d lt alive)
