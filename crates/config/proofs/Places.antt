-- The relations of a configuration by their places, and the steps between them.
use Rattle.std.proofs.Common.{◌≡◌, ℕ, ◌<◌, ◌≤◌, List, [], length, get_or, ap, ◌∙◌, sym, subst, refl, arith, ⊎_elim}
use Rattle.std.specs.Prelude.{Contains, map, ◌↔◌}
use Rattle.std.proofs.lemmas.List.{get_or-map, length-map}
use Rattle.std.proofs.lemmas.List.Elements.{Contains-get_or}
use Rattle.config_text.specs.declared.relation.Relation.{Relation}
use Rattle.strata.specs.declared.graph.Step.{Step}
use Rattle.meaning.specs.Config.{Configured, Defined, Has, StepsTo}
use Rattle.meaning.proofs.Lists.{contains_map, contains_none}
use Rattle.config_text.specs.Forms.{form_of, defined_of}
use Rattle.config_text.specs.Parts.{configured}
use Rattle.config.specs.inside.Graph.{nowhere, relation_at, name_at, IsStep, Adds, IsGraph}

pub at_place : (ns : List (List ℕ)) (rs : List Relation) (k : ℕ) (r : Relation) → k < length rs → r ≡ get_or rs k r → relation_at (configured ns rs) k ≡ defined_of r
at_place ns rs k r lt is = get_or-map defined_of rs k r nowhere lt ∙ ap defined_of (sym is)

pub has_place : (ns : List (List ℕ)) (rs : List Relation) (k : ℕ) (r : Relation) → k < length rs → r ≡ get_or rs k r → Has (configured ns rs) r.name
has_place ns rs k r lt is = (defined_of r, (contains_map defined_of rs r (k, lt, sym is), refl))

pub has_at : (c : Configured) (k : ℕ) → k < length c.relations → Contains c.relations (relation_at c k)
has_at c k lt = Contains-get_or c.relations k nowhere lt

pub step_is : (ns : List (List ℕ)) (rs : List Relation) (s : Step) (from to : Relation) → s.from < length rs → s.to < length rs → from ≡ get_or rs s.from from → to ≡ get_or rs s.to to
    → StepsTo (configured ns rs) (defined_of from) (form_of from.rewrite) s.subtracted to.name ↔ IsStep (configured ns rs) s
step_is ns rs s from to lt_from lt_to is_from is_to =
    let c = configured ns rs in
    let a : relation_at c s.from ≡ defined_of from = at_place ns rs s.from from lt_from is_from in
    let b : relation_at c s.to ≡ defined_of to = at_place ns rs s.to to lt_to is_to in
    let long : length (map defined_of rs) ≡ length rs = length-map rs defined_of in (
      λ h. record {
        from = omega (arith, long, lt_from);
        to = omega (arith, long, lt_to);
        step = subst (λ (d : Defined). StepsTo c d d.form s.subtracted (name_at c s.to)) (sym a) (subst (λ (e : Defined). StepsTo c (defined_of from) (form_of from.rewrite) s.subtracted e.rel) (sym b) h);
      },
      λ i. subst (λ (e : Defined). StepsTo c (defined_of from) (form_of from.rewrite) s.subtracted e.rel) b (subst (λ (d : Defined). StepsTo c d d.form s.subtracted (name_at c s.to)) a i.step),
    )

pub graph_made : (c : Configured) (steps : List Step) (m n : ℕ) → length c.relations ≤ m → Adds c [] steps (λ s. s.from < m) n → IsGraph c steps
graph_made c steps m n le adds = record {
  sound = λ s h. ⊎_elim (λ e. absurd (contains_none s e)) (λ i. i) (adds.sound s h);
  each = λ s i. adds.each s (let lt : s.from < length c.relations = i.from in omega (arith, lt, le)) i;
}
