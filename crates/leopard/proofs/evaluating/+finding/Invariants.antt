use Rattle.std.proofs.Common.{drop, map, true, false, ◌≡◌}
use Rattle.std.specs.Prelude.{◌↔◌, ◌⊎◌}
use Rattle.names.specs.declared.node.Node.{Node}
use Rattle.meaning.specs.Snap.{Snap}
use Rattle.leopard.specs.Causes.{some_name_unindexed}
use Rattle.leopard.specs.Exprs.{query_of, queries_of}
use Rattle.leopard.specs.Finding.{Finds, AreUnnamed}
use Rattle.leopard.specs.Groups.{SomeMeans, EachMeans}
use Rattle.leopard.specs.Query.{all_have_parts}
use Rattle.leopard.proofs.evaluating.+finding.Given as goal

-- what is found or left is what the parts mean
abbrev pub invariant-found_in_some-loop-part : goal.invariant-found_in_some-loop-part
invariant-found_in_some-loop-part g l = record {
  parts : all_have_parts (queries_of (map query_of (drop l.part-index l.parts))) ≡ true;
  indexed : (S : Snap) → some_name_unindexed S.config (queries_of (map query_of l.parts)) ≡ false → some_name_unindexed S.config (queries_of (map query_of (drop l.part-index l.parts))) ≡ false;
  unnamed : (S : Snap) → g.T.GroupSets.tells l.sets S → some_name_unindexed S.config (queries_of (map query_of l.parts)) ≡ false → AreUnnamed (g.T.GroupSets.names l.sets) l.found.others.keys;
  groups : (S : Snap) → g.T.GroupSets.tells l.sets S → some_name_unindexed S.config (queries_of (map query_of l.parts)) ≡ false → (n : Node)
      → (Finds (g.T.GroupSets.names l.sets) l.found.ids l.found.others.keys n ⊎ SomeMeans S (queries_of (map query_of (drop l.part-index l.parts))) n)
      ↔ SomeMeans S (queries_of (map query_of l.parts)) n;
}

-- what is kept, and is of each that is left, is of each part
abbrev pub invariant-found_in_each-loop-part : goal.invariant-found_in_each-loop-part
invariant-found_in_each-loop-part g l = record {
  parts : all_have_parts (queries_of (map query_of (drop l.part-index l.others))) ≡ true;
  indexed : (S : Snap) → some_name_unindexed S.config (queries_of (map query_of l.others)) ≡ false → some_name_unindexed S.config (queries_of (map query_of (drop l.part-index l.others))) ≡ false;
  unnamed : (S : Snap) → g.T.GroupSets.tells l.sets S → AreUnnamed (g.T.GroupSets.names l.sets) l.initial.found.others.keys → AreUnnamed (g.T.GroupSets.names l.sets) l.found.others.keys;
  groups : (S : Snap) → g.T.GroupSets.tells l.sets S → AreUnnamed (g.T.GroupSets.names l.sets) l.initial.found.others.keys
      → some_name_unindexed S.config (queries_of (map query_of l.others)) ≡ false → (n : Node)
      → (Finds (g.T.GroupSets.names l.sets) l.found.ids l.found.others.keys n × EachMeans S (queries_of (map query_of (drop l.part-index l.others))) n)
      ↔ (Finds (g.T.GroupSets.names l.sets) l.initial.found.ids l.initial.found.others.keys n × EachMeans S (queries_of (map query_of l.others)) n);
}
