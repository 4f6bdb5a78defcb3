use Rattle.std.proofs.Common.{ℕ, List, Any, subst}
use Rattle.std.specs.Prelude.{◌↔◌, Contains}
use Rattle.names.specs.declared.object.Object.{Object}
use Rattle.names.specs.declared.node.Node.{Node}
use Rattle.names.specs.declared.tuple.Tuple.{Tuple}
use Rattle.names.specs.Order.{object_cmp, node_cmp}
use Rattle.meaning.specs.Config.{Configured}
use Rattle.meaning.proofs.TupleSets.{objects_total, nodes_total}
use Rattle.leopard.specs.inside.Building.{HasId, Tells, NamesOne}
use Rattle.leopard.proofs.DirectSets.{users_named, direct_sets}
use Rattle.leopard.proofs.Ordered.{ordered_distinct}
use Rattle.leopard.proofs.parts.parts_of.Goals as goal

pub direct_of-requires-clause-distinct : goal.direct_of-requires-clause-distinct
direct_of-requires-clause-distinct c = ordered_distinct node_cmp nodes_total c.in_ok-groups.groups c.as_slice.ensures.sorted

pub direct_of-requires-clause-listed : goal.direct_of-requires-clause-listed
direct_of-requires-clause-listed c = λ u any. (c.in_ok-users.ensures u).1 any

pub returns : goal.returns
returns c =
    let S = c.args.input.now in
    let groups : List Node = c.in_ok-groups.groups in
    let users : List Object = c.in_ok-users.users in
    let direct : List (List ℕ) = c.in_ok-direct.direct.items in
    let named : (u : Object) → Contains users u ↔ Any (NamesOne S.config u) c.tuples-tuples.result.now =
    subst (λ (k : Configured). (u : Object) → Contains users u ↔ Any (NamesOne k u) c.tuples-tuples.result.now) c.config-config.ensures.config c.in_ok-users.ensures in
    let named_in = subst (λ (ts : List Tuple). (u : Object) → Contains users u ↔ Any (NamesOne S.config u) ts) c.tuples-tuples.ensures.tuples named in
    let told : (u : Object) (id : ℕ) → HasId users direct u id ↔ Any (Tells S.config groups u id) c.tuples-tuples.result.now =
    subst (λ (k : Configured). (u : Object) (id : ℕ) → HasId users direct u id ↔ Any (Tells k groups u id) c.tuples-tuples.result.now) c.config-config.ensures.config c.in_ok-direct.ensures.told in
    let told_in = subst (λ (ts : List Tuple). (u : Object) (id : ℕ) → HasId users direct u id ↔ Any (Tells S.config groups u id) ts) c.tuples-tuples.ensures.tuples told in
    record {
      groups_ascend = c.as_slice.ensures.sorted;
      listed = c.in_ok-groups.ensures;
      arcs_of = c.in_ok-arcs.ensures;
      users_ascend = c.as_slice-2.ensures.sorted;
      named = users_named S groups users named_in;
      direct_of = direct_sets S groups users named_in direct (ordered_distinct object_cmp objects_total users c.as_slice-2.ensures.sorted) c.in_ok-direct.ensures.even c.in_ok-direct.ensures.ascending told_in;
    }
