use Rattle.std.proofs.Common.{ap, sym, ◌∙◌, subst}
use Rattle.names.specs.declared.commit.Commit.TheVariants.{Tuples}
use Rattle.rows.specs.Retained.{newest_of}
use Rattle.rows.specs.Follows.{IsNext}
use Rattle.published_tests.proofs.desk.insert.Goals as goal

pub post-requires-clause-follows : goal.post-requires-clause-follows
post-requires-clause-follows g c =
    let kept = c.args.desk.now.own.kept in
    subst (IsNext kept) (sym (c.in_ok-commit.ensures ∙ ap Tuples c.as_slice.ensures))
    ((c.refuses_what_no_write_gives.ensures (newest_of kept) c.in_ok-events.events).1 (c.of-ops.result, c.in_ok-events.ensures.ok, c.in_ok-judge.ensures))
