use Rattle.std.proofs.Common.{arith, ◌∙◌}
use Rattle.std.proofs.lemmas.Result.{err_from_is_err_and}
use Rattle.lines.proofs.Going.{going_more, short_within, going_all}
use Rattle.lines.proofs.feed.feed_all.Goals as goal

pub returns-in_err-feed : goal.returns-in_err-feed
returns-in_err-feed g c =
    let p = err_from_is_err_and c.from_residual.result c.from_residual.ensures.1 in
    rw p.1 (record {
      goes_on = λ s held input h. short_within _ s held input c.args.bytes.now c.loop-b.b-index _ _ _ c.loop-b-test.true (c.in_err-feed.ensures.goes_on s held _ (c.loop-b.invariant.0 s held input h));
      failed = c.in_err-feed.ensures.failed;
    })

pub loop-b-preserved : goal.loop-b-preserved
loop-b-preserved g c = (
  λ s held input h. going_more _ s held input c.args.bytes.now c.loop-b.b-index _ _ _ _ c.loop-b-test.true (c.in_ok-feed.ensures.goes_on s held _ (c.loop-b.invariant.0 s held input h)),
  c.in_ok-feed.ensures.failed ∙ c.loop-b.invariant.1,
)

pub returns-clause-goes_on : goal.returns-clause-goes_on
returns-clause-goes_on g c s held input h = going_all _ s held input c.args.bytes.now c.loop-b.b-index _ _ _ (omega arith) (c.loop-b.invariant.0 s held input h)
