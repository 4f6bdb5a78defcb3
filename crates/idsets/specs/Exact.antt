-- The orders of names tell all names apart.
use Rattle.std.specs.Prelude.{ℕ, List, Option, Some, None}
use Rattle.std.proofs.Common.{refl, ap}
use Rattle.std.specs.Option.{option_cmp}
use Rattle.std.specs.Ordering.{nat_cmp}
use Rattle.std.specs.Cmp.Lexicographic.{slice_cmp}
use Rattle.std.proofs.lemmas.Map.Lookups.{CmpEqualImpliesEq, exact_pairs, exact_bytes}
use Rattle.names.specs.Order.{object_cmp, node_cmp, subject_cmp}
use Rattle.names.specs.declared.object.Object.{Object}

exact_relations : CmpEqualImpliesEq (option_cmp (slice_cmp nat_cmp))
exact_relations None None e = refl
exact_relations None (Some b) e = cc
exact_relations (Some a) None e = cc
exact_relations (Some a) (Some b) e = ap (λ n. Some n) (exact_bytes a b e)

pub exact_objects : CmpEqualImpliesEq object_cmp
exact_objects a b e = ap (λ (p : List ℕ × List ℕ). record { namespace = p.0; id = p.1 }) (exact_pairs (slice_cmp nat_cmp) (slice_cmp nat_cmp) exact_bytes exact_bytes (a.namespace, a.id) (b.namespace, b.id) e)

pub exact_nodes : CmpEqualImpliesEq node_cmp
exact_nodes a b e = ap (λ (p : Object × List ℕ). record { object = p.0; relation = p.1 }) (exact_pairs object_cmp (slice_cmp nat_cmp) exact_objects exact_bytes (a.object, a.relation) (b.object, b.relation) e)

pub exact_subjects : CmpEqualImpliesEq subject_cmp
exact_subjects a b e = ap (λ (p : Object × Option (List ℕ)). record { object = p.0; relation = p.1 }) (exact_pairs object_cmp (option_cmp (slice_cmp nat_cmp)) exact_objects exact_relations (a.object, a.relation) (b.object, b.relation) e)
