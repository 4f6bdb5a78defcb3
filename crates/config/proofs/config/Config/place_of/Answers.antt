use Rattle.std.proofs.Common.{List, length, ap, subst, ◌∙◌, ◌≡◌, ◌<◌}
use Rattle.std.specs.Prelude.{slice_index_or}
use Rattle.names.specs.declared.relation.RelationName.{RelationName}
use Rattle.meaning.specs.Config.{Configured, rel_of}
use Rattle.config_text.specs.declared.relation.Relation.{Relation}
use Rattle.config_text.specs.Order.{relation_cmp}
use Rattle.config.specs.Places.{StandsAt}
use Rattle.config.proofs.Distinct.{same_relation}
use Rattle.config.proofs.Searching.{found_place}
use Rattle.config.proofs.config.Config.place_of.Goals as goal

pub returns-in-Some-clause-found : goal.returns-in-Some-clause-found
returns-in-Some-clause-found c =
    let s = c.self.inside in
    let t = rel_of c.args.node.now in
    let at = subst (λ (xs : List Relation). (c.in-Some.place < length xs) × ((r : Relation) → (slice_index_or xs c.in-Some.place r).name ≡ t)) c.as_slice-relations.ensures.value c.in-Some.ensures in
    subst (λ (x : Configured). StandsAt x t c.in-Some.place) c.self.view_is
    (found_place s.namespaces.items s.relations.items t c.self.invariant.ordered c.in-Some.place at.0 (λ r. ap (λ (n : RelationName). relation_cmp n t) (at.1 r) ∙ same_relation t))
