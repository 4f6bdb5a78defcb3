use Rattle.std.proofs.Common.{map, refl}
use Rattle.store.specs.Written.{IsSpan}
use Rattle.store.specs.inside.Reading.{as_span, as_config}
use Rattle.store.specs.Refused.{IsAdmittedTo}
use Rattle.store.proofs.Deserving.{one_of}
use Rattle.store.proofs.configs.are_admitted.Goals as goal

pub returns-then-not-is_admitted-clause-refuses : goal.returns-then-not-is_admitted-clause-refuses
returns-then-not-is_admitted-clause-refuses c = λ _ newest good spans admitted.
    c.if-not-is_admitted.ensures.refuses refl newest good
    (one_of (λ s. IsSpan c.args.floor newest (as_span s)) c.args.spans.now c.loop-span.span-index c.span-item.result c.loop-span-test.true c.span-item.is spans)
    (one_of (λ s. IsAdmittedTo c.args.floor newest (map as_config c.args.configs.now) (as_span s)) c.args.spans.now c.loop-span.span-index c.span-item.result c.loop-span-test.true c.span-item.is admitted)
