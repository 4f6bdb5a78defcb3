use Rattle.std.proofs.Common.{◌≡◌, ◌∙◌, ◌<◌, ◌≤◌, List, length, map, take, ap, arith}
use Rattle.std.specs.Prelude.{filter}
use Rattle.std.specs.List.{filter_map}
use Rattle.names.specs.declared.node.Node.{Node}
use Rattle.names.specs.declared.tuple.Tuple.{Tuple}
use Rattle.meaning.specs.TupleSet as set
use Rattle.tuple_keys.specs.Named.{is_of}
use Rattle.expand.specs.Tree.{node_with, parent}
use Rattle.expand.proofs.Making.{all_found, enough_found}
use Rattle.expand.proofs.expanding.first_parents.Goals.{then-len-read-via-then-len-read, then-len-read-via-else-len-read+then-len-most}
use Rattle.expand.proofs.expanding.first_parents.Goals as goal

pub returns-then-len-read : goal.returns-then-len-read
returns-then-len-read c =
    let S = c.args.source.now.view.now in
    let h = parent S.config c.args.relation.now in
    let all = filter (is_of (node_with c.args.tupleset.now c.args.node.now.object)) (set.items S.tuples) in
    let tuples = c.in_ok-tuples.tuples.items in
    let found = c.in_ok-parents.parents.items in
    let are : tuples ≡ take c.loop.read all = c.in_ok-tuples.ensures ∙ ap (λ (m : Node). take c.loop.read (filter (is_of m) (set.items S.tuples))) c.in_ok-from.ensures in
    let gives : found ≡ filter_map h (map (λ (t : Tuple). t.subject) tuples) = c.in_ok-parents.ensures ∙ ap (λ (ts : List Tuple). filter_map h (map (λ (t : Tuple). t.subject) ts)) c.deref.ensures.value in
    elim c.then-len-read.branch [
      | then-len-read-via-then-len-read w ↦
          let short : length tuples < c.loop.read = grind (arith, c.len.ensures, w.if-len-read.true, c.in_ok-tuples.tuples.ok) in
          all_found h all tuples c.loop.read c.args.most found are gives short
      | then-len-read-via-else-len-read+then-len-most w ↦
          let enough : c.args.most ≤ length found = grind (arith, w.len-else-len-read.ensures, w.if-len-most.true, c.in_ok-parents.parents.ok) in
          enough_found h all tuples c.loop.read c.args.most found are gives enough
    ]
