use Rattle.std.proofs.Common.{rules, List, length, map, subst, sym, ap, ◌≡◌, ◌∙◌, ◌<◌}
use Rattle.std.specs.declared.cmp.Ordering.TheVariants.{Less, Equal, Greater}
use Rattle.std.specs.List.{HoldsAt, list_any}
use Rattle.std.specs.List.Sorted.{IsNonDecreasingBy, IsPartitionPoint}
use Rattle.std.specs.Ordering.{ordering_index}
use Rattle.std.proofs.lemmas.Fn.{always_returns_same}
use Rattle.meaning.specs.Admits.{is_type}
use Rattle.meaning.specs.Config.{Configured, Has}
use Rattle.config_text.specs.declared.relation.Relation.{Relation}
use Rattle.config_text.specs.Forms.{defined_of}
use Rattle.config_text.specs.Order.{relation_cmp}
use Rattle.config.specs.Places.{StandsAt}
use Rattle.config.proofs.Searching.{name, found_place, no_place, non_decreasing, declared_read, declared_nowhere}
use Rattle.config.proofs.Typing.{of_type}
use Rattle.config.proofs.config.Config.declares.Goals as goal

pub returns-in-Ok : goal.returns-in-Ok
returns-in-Ok c =
    let s = c.self.inside in
    let t = c.args.name.now in
    let is = c.as_slice-relations.ensures.value in
    let equal = c.in-Ok.ensures.position (λ (r : Relation). relation_cmp (name r) t) (always_returns_same _ (λ a r. r ≡ relation_cmp (name a.0.now) t) _ (λ a r f called. search rules)) in
    let stands = subst (λ (x : Configured). StandsAt x t c.in-Ok.place) c.self.view_is
    (found_place s.namespaces.items s.relations.items t c.self.invariant.ordered c.in-Ok.place (subst (λ (xs : List Relation). c.in-Ok.place < length xs) is c.in-Ok.ensures.bound) (subst (λ (xs : List Relation). HoldsAt (λ (r : Relation). relation_cmp (name r) t ≡ Equal) xs c.in-Ok.place) is equal)) in
    let all : map defined_of c.as_slice-relations.result.now ≡ c.args.self.now.relations = ap (λ (rs : List Relation). map defined_of rs) is ∙ ap (λ (x : Configured). x.relations) c.self.view_is in
    c.stands_in.ensures
    ∙ ap (list_any (is_type c.args.declared.now)) c.deref.ensures.value
    ∙ ap (λ (r : Relation). list_any (is_type c.args.declared.now) r.types.items) (sym c.index-relations-place.is)
    ∙ sym (declared_read c.args.self.now c.as_slice-relations.result.now (of_type t c.args.declared.now) c.in-Ok.place c.index-relations-place.result all stands c.index-relations-place.is)

pub returns-in-Err : goal.returns-in-Err
returns-in-Err c =
    let s = c.self.inside in
    let t = c.args.name.now in
    let is = c.as_slice-relations.ensures.value in
    let rises = subst (λ (xs : List Relation). IsNonDecreasingBy (λ (r : Relation). ordering_index (relation_cmp (name r) t)) xs) (sym is) (non_decreasing s.relations.items t c.self.invariant.ordered.relations) in
    let point = c.in-Err.ensures.position (λ (r : Relation). relation_cmp (name r) t) (always_returns_same _ (λ a r. r ≡ relation_cmp (name a.0.now) t) _ (λ a r f called. search rules)) rises in
    sym (declared_nowhere c.args.self.now (of_type t c.args.declared.now) (subst (λ (x : Configured). Has x t → ⊥) c.self.view_is
    (no_place s.namespaces.items s.relations.items t c.in-Err.field-0 (subst (λ (xs : List Relation). IsPartitionPoint (λ (r : Relation). relation_cmp (name r) t ≡ Less) (λ (r : Relation). relation_cmp (name r) t ≡ Greater) xs c.in-Err.field-0) is point))))
