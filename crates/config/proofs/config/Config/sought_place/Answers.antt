use Rattle.std.proofs.Common.{rules, List, length, subst, sym, ◌≡◌, ◌<◌}
use Rattle.std.specs.declared.cmp.Ordering.TheVariants.{Less, Equal, Greater}
use Rattle.std.specs.List.{HoldsAt}
use Rattle.std.specs.List.Sorted.{IsNonDecreasingBy, IsPartitionPoint}
use Rattle.std.specs.Ordering.{ordering_index}
use Rattle.std.proofs.lemmas.Fn.{always_returns_same}
use Rattle.meaning.specs.Config.{Configured, Has, rel_of}
use Rattle.config_text.specs.declared.relation.Relation.{Relation}
use Rattle.config_text.specs.Order.{relation_cmp}
use Rattle.config.specs.Places.{StandsAt}
use Rattle.config.proofs.Searching.{name, found_place, no_place, non_decreasing}
use Rattle.config.proofs.config.Config.sought_place.Goals as goal

pub returns-in-Ok-clause-found : goal.returns-in-Ok-clause-found
returns-in-Ok-clause-found c =
    let s = c.self.inside in
    let t = rel_of c.args.node.now in
    let is = c.as_slice-relations.ensures.value in
    let equal = c.in-Ok.ensures.position (λ (r : Relation). relation_cmp (name r) t) (always_returns_same _ (λ a r. r ≡ relation_cmp (name a.0.now) t) _ (λ a r f called. search rules)) in
    subst (λ (x : Configured). StandsAt x t c.in-Ok.place) c.self.view_is
    (found_place s.namespaces.items s.relations.items t c.self.invariant.ordered c.in-Ok.place (subst (λ (xs : List Relation). c.in-Ok.place < length xs) is c.in-Ok.ensures.bound) (subst (λ (xs : List Relation). HoldsAt (λ (r : Relation). relation_cmp (name r) t ≡ Equal) xs c.in-Ok.place) is equal))

pub returns-in-Err-clause-none : goal.returns-in-Err-clause-none
returns-in-Err-clause-none c =
    let s = c.self.inside in
    let t = rel_of c.args.node.now in
    let is = c.as_slice-relations.ensures.value in
    let rises = subst (λ (xs : List Relation). IsNonDecreasingBy (λ (r : Relation). ordering_index (relation_cmp (name r) t)) xs) (sym is) (non_decreasing s.relations.items t c.self.invariant.ordered.relations) in
    let point = c.in-Err.ensures.position (λ (r : Relation). relation_cmp (name r) t) (always_returns_same _ (λ a r. r ≡ relation_cmp (name a.0.now) t) _ (λ a r f called. search rules)) rises in
    subst (λ (x : Configured). Has x t → ⊥) c.self.view_is
    (no_place s.namespaces.items s.relations.items t c.in-Err.field-0 (subst (λ (xs : List Relation). IsPartitionPoint (λ (r : Relation). relation_cmp (name r) t ≡ Less) (λ (r : Relation). relation_cmp (name r) t ≡ Greater) xs c.in-Err.field-0) is point))
