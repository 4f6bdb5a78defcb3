use Rattle.std.proofs.Common.{◌≡◌, ◌+◌, get_or, List, [], drop, sym, ap, ◌∙◌, arith}
use Rattle.std.proofs.lemmas.Grind.{common_steps}
use Rattle.std.proofs.lemmas.List.{drop_all}
use Rattle.names.specs.declared.tuple.Tuple.{Tuple}
use Rattle.meaning.specs.Snap.{Snap}
use Rattle.meaning.specs.TupleSet as set
use Rattle.meaning.specs.TupleSet.{Tuples}
use Rattle.publication.proofs.Putting.{put_all, put_next, put_from_empty}
use Rattle.publication.proofs.copies.snapshot_of.Goals as goal

pub loop-tuple-preserved : goal.loop-tuple-preserved
loop-tuple-preserved c =
    let copy = c.in_ok-copy_of.ensures in
    record {
      config = grind (arith, common_steps);
      tuples =
          ap (λ (s : Snap). put_all s.tuples (drop (c.loop-tuple.tuple-index + 1) c.args.tuples.now)) c.in_ok-insert.ensures.ok
          ∙ put_next c.loop-tuple.snapshot.tuples c.args.tuples.now c.loop-tuple.tuple-index c.in_ok-copy_of.field-0 c.loop-tuple-test.true (copy ∙ c.tuple-item.is ∙ ap (get_or c.args.tuples.now c.loop-tuple.tuple-index) (sym copy))
          ∙ c.loop-tuple.invariant.tuples;
    }

pub returns : goal.returns
returns c =
    let done : drop c.loop-tuple.tuple-index c.args.tuples.now ≡ [] = drop_all c.loop-tuple.tuple-index c.args.tuples.now (omega arith) in
    let config = c.loop-tuple.invariant.config ∙ ap (λ (s : Snap). s.config) c.set_config.ensures in
    let tuples : c.loop-tuple.snapshot.tuples ≡ set.from_list c.args.tuples.now =
    ap (λ (ts : List Tuple). put_all c.loop-tuple.snapshot.tuples ts) (sym done) ∙ c.loop-tuple.invariant.tuples
    ∙ ap (λ (s : Tuples). put_all s c.args.tuples.now) (ap (λ (s : Snap). s.tuples) c.set_config.ensures ∙ ap (λ (s : Snap). s.tuples) c.empty-snapshot.ensures)
    ∙ put_from_empty c.args.tuples.now in
    λ i. record { config = config i; tuples = tuples i }
