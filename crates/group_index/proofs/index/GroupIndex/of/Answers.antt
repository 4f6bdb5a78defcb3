use Rattle.group_index.proofs.index.GroupIndex.of.Goals as goal

pub returns-clause-index : goal.returns-clause-index
returns-clause-index c = λ snaps there. record {
  closures = c.in_ok-layer.ensures.layer snaps there;
  direct = c.in_ok-direct.ensures.direct snaps there;
}
