-- The order of a configuration's parts: namespaces by their names, relations by namespace and then by name.
use Rattle.std.specs.Prelude.{ℕ, List, map, All, Contains}
use Rattle.std.specs.List.Sorted.{IsStrictlySortedBy}
use Rattle.std.specs.Ordering.{nat_cmp, ordering_then}
use Rattle.std.specs.Cmp.Lexicographic.{slice_cmp}
use Rattle.std.specs.declared.cmp.Ordering.{Ordering}
use Rattle.names.specs.declared.relation.RelationName.{RelationName}
use Rattle.meaning.specs.Config.{Configured}

abbrev pub name_cmp : List ℕ → List ℕ → Ordering
name_cmp = slice_cmp nat_cmp

-- by namespace, then by name
abbrev pub relation_cmp : RelationName → RelationName → Ordering
relation_cmp a b = ordering_then (name_cmp a.namespace b.namespace) (name_cmp a.relation b.relation)

-- each once and in order, and each relation's namespace is there
pub record IsOrdered (c : Configured) : Type 0 where
  pub namespaces : IsStrictlySortedBy name_cmp c.namespaces
  pub relations : IsStrictlySortedBy relation_cmp (map (λ d. d.rel) c.relations)
  pub homes : All (λ d. Contains c.namespaces d.rel.namespace) c.relations
