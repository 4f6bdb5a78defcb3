-- The nodes of a relation of some objects, one after another.
use Rattle.std.proofs.Common.{◌≡◌, ℕ, ◌<◌, List, length, get_or, map, ap, ◌∙◌, sym, subst, arith}
use Rattle.std.specs.Prelude.{Contains}
use Rattle.std.proofs.lemmas.List.{length-map, get_or-map}
use Rattle.names.specs.declared.object.Object.{Object}
use Rattle.names.specs.declared.node.Node.{Node}
use Rattle.meaning.proofs.Lists.{contains_map}
use Rattle.decide.specs.inside.Reads.{node_with}
use Rattle.decide.proofs.Elements.{contains_at}

module _ (c : List ℕ) (objects : List Object) (i : ℕ) (o : Object) (m : Node) (lt : i < length objects) (at : o ≡ get_or objects i o) (is : m ≡ node_with c o) where
  pub node_within : i < length (map (node_with c) objects)
  node_within = omega (arith, lt, length-map objects (node_with c))

  pub node_there : m ≡ get_or (map (node_with c) objects) i m
  node_there = is ∙ ap (node_with c) at ∙ sym (get_or-map (node_with c) objects i o m lt)

  pub node_named : Contains (map (node_with c) objects) m
  node_named = subst (Contains (map (node_with c) objects)) (sym is) (contains_map (node_with c) objects o (contains_at objects i o (lt, sym at)))
