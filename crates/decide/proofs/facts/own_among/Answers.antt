use Rattle.std.proofs.Common.{◌≡◌, ◌++◌, ◌∷◌, [], ap, ◌∙◌, sym, arith, ⊎_elim, get_or, List}
use Rattle.std.specs.Prelude.{filter}
use Rattle.std.proofs.lemmas.Bool.{false≢true, cases_lt}
use Rattle.std.proofs.lemmas.List.{get_or_default, take_all}
use Rattle.names.specs.declared.node.Node.{Node}
use Rattle.names.specs.declared.tuple.Tuple.{Tuple}
use Rattle.versions.specs.Named.{nodes_in}
use Rattle.tuple_keys.specs.Named.{is_of, node_in, user_tuple}
use Rattle.decide.proofs.Few.{picked_more}
use Rattle.decide.proofs.ReadTuples.{each_at}
use Rattle.decide.proofs.facts.own_among.Goals as goal

pub is_users-requires : goal.is_users-requires
is_users-requires c = each_at c.args.node.now.object c.args.tuples.now c.loop-tuple.tuple-index c.tuple-item.result c.requires c.loop-tuple-test.true c.tuple-item.is

pub push_node-requires : goal.push_node-requires
push_node-requires c = each_at c.args.node.now.object c.args.tuples.now c.loop-tuple.tuple-index c.tuple-item.result c.requires c.loop-tuple-test.true c.tuple-item.is

pub loop-tuple-init : goal.loop-tuple-init
loop-tuple-init c = (λ k lt. absurd (omega (arith, lt)), c.new-nodes.ensures.items)

pub loop-tuple-preserved : goal.loop-tuple-preserved
loop-tuple-preserved c =
    let n = c.args.node.now in
    let x = c.tuple-item.result in (
      λ k lt is. ⊎_elim
          (λ less. c.loop-tuple.invariant.0 k less is)
          (λ above.
          let t = user_tuple n c.args.user.now in
          let here : k ≡ c.loop-tuple.tuple-index = omega (arith, above, lt) in
          let same : x ≡ t = c.tuple-item.is ∙ get_or_default c.args.tuples.now c.loop-tuple.tuple-index x t c.loop-tuple-test.true ∙ ap (λ i. get_or c.args.tuples.now i t) (sym here) ∙ is in
          false≢true (sym c.if-is_users.false ∙ c.is_users.ensures.1 same))
          (cases_lt k c.loop-tuple.tuple-index),
      c.in_ok-push_node.ensures
          ∙ ap (λ (ys : List Node). ys ++ nodes_in (filter (is_of n) (x ∷ []))) c.loop-tuple.invariant.1
          ∙ sym (picked_more (λ (t : Tuple). node_in t.subject) (is_of n) c.args.tuples.now c.loop-tuple.tuple-index x c.loop-tuple-test.true c.tuple-item.is),
    )

pub returns-clause-some : goal.returns-clause-some
returns-clause-some c = (
  λ (k, lt, is). absurd (c.loop-tuple.invariant.0 k (omega (arith, lt, c.loop-tuple-test.false)) is),
  c.loop-tuple.invariant.1 ∙ ap (λ (ts : List Tuple). nodes_in (filter (is_of c.args.node.now) ts)) (take_all c.loop-tuple.tuple-index c.args.tuples.now c.loop-tuple-test.false),
)
