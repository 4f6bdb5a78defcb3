use Rattle.std.proofs.Common.{sym, ◌∙◌}
use Rattle.publication.proofs.Limits.{rows_decide}
use Rattle.publication.proofs.within.is_limited.Goals as goal

pub returns : goal.returns
returns c =
    rows_decide c.args.loaded.now c.as_slice-tuples.result.now c.as_slice-commits.result.now c.has_few_rows.result c.as_slice-tuples.ensures c.as_slice-commits.ensures
    (sym c.is_rising.ensures ∙ c.if-not-is_rising.false) (sym c.has_few_revisions.ensures ∙ c.if-not-has_few_revisions.false) c.has_few_rows.ensures
