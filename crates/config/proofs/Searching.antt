-- A relation is found by halves, since relations are in order.
use Rattle.std.proofs.Common.{◌≡◌, ℕ, zero, suc, ◌<◌, ◌≤◌, List, [], ◌∷◌, true, false, length, get_or, ap, ◌∙◌, sym, subst, refl, arith, ⊎_elim, inl, inr}
use Rattle.std.specs.Prelude.{◌⊎◌, ◌&&◌, map}
use Rattle.std.specs.Ordering.{ordering_then, ordering_reverse, ordering_index, is_eq}
use Rattle.std.specs.declared.cmp.Ordering.{Ordering}
use Rattle.std.specs.declared.cmp.Ordering.TheVariants.{Less, Equal, Greater}
use Rattle.std.specs.Cmp.{IsTotalOrder, both_ways}
use Rattle.std.specs.Cmp.Lexicographic.{nat_list_cmp_total, texts_ties, same_text}
use Rattle.std.specs.List.{HoldsAt}
use Rattle.std.specs.List.Sorted.{IsStrictlySortedBy, IsNonDecreasingBy, IsPartitionPoint}
use Rattle.std.proofs.lemmas.Bool.{cases_lt, and_parts}
use Rattle.std.proofs.lemmas.List.Folds.{Any-from_list_any, list_any-from_Any}
use Rattle.std.proofs.lemmas.Cmp.{then_total, on_total}
use Rattle.std.proofs.lemmas.List.{get_or-map, length-map}
use Rattle.std.proofs.lemmas.Map.Keys.{Less-from_sorted}
use Rattle.names.specs.declared.relation.RelationName.{RelationName}
use Rattle.names.specs.declared.tuple.Tuple.{Tuple}
use Rattle.meaning.specs.Config.{Configured, Defined, Has, rel_of}
use Rattle.meaning.specs.Admits.{admits, declares, is_relation}
use Rattle.meaning.proofs.KnownRelations.{relation_is, is_itself}
use Rattle.meaning.proofs.AdmitsLemmas.{told_admitted}
use Rattle.meaning.proofs.Lists.{contains_map_back}
use Rattle.config_text.specs.declared.relation.Relation.{Relation}
use Rattle.config_text.specs.Forms.{defined_of}
use Rattle.config_text.specs.Order.{name_cmp, relation_cmp, IsOrdered}
use Rattle.config_text.specs.Parts.{configured}
use Rattle.config.specs.Places.{StandsAt}
use Rattle.config.specs.inside.Graph.{nowhere, relation_at}
use Rattle.config.proofs.Distinct.{same_relation, names_apart}

total : IsTotalOrder relation_cmp
total = then_total (on_total (λ (r : RelationName). r.namespace) nat_list_cmp_total) (on_total (λ (r : RelationName). r.relation) nat_list_cmp_total)

-- equal names are one
one_name : (a b : List ℕ) → name_cmp a b ≡ Equal → a ≡ b
one_name a b e = same_text a b (sym (texts_ties a b ∙ ap is_eq e))

both_equal : (a b : Ordering) → ordering_then a b ≡ Equal → (a ≡ Equal) × (b ≡ Equal)
both_equal Less b e = cc
both_equal Equal b e = (refl, e)
both_equal Greater b e = cc

one_relation : (a b : RelationName) → relation_cmp a b ≡ Equal → a ≡ b
one_relation a b e =
    let parts = both_equal (name_cmp a.namespace b.namespace) (name_cmp a.relation b.relation) e in
    ap (λ x. record { namespace = x; relation = a.relation }) (one_name a.namespace b.namespace parts.0) ∙ ap (λ x. record { namespace = b.namespace; relation = x }) (one_name a.relation b.relation parts.1)

index_small : (o : Ordering) → ordering_index o ≤ 2
index_small Less = omega arith
index_small Equal = omega arith
index_small Greater = omega arith

index_rises : (a b t : RelationName) (o : Ordering) → relation_cmp a b ≡ Less → relation_cmp b t ≡ o → ordering_index (relation_cmp a t) ≤ ordering_index o
index_rises a b t Less less is = subst (λ x. ordering_index x ≤ ordering_index Less) (sym (total.trans a b t less is)) (omega arith)
index_rises a b t Equal less is =
    let back : relation_cmp b a ≡ Greater = total.antisymm b a ∙ ap ordering_reverse less in
    let same : relation_cmp t a ≡ Greater = sym (total.congr b t a is) ∙ back in
    subst (λ x. ordering_index x ≤ ordering_index Equal) (sym (total.antisymm a t ∙ ap ordering_reverse same)) (omega arith)
index_rises a b t Greater less is = index_small (relation_cmp a t)

abbrev pub name : Relation → RelationName
name r = (defined_of r).rel

name_get : (rs : List Relation) (i : ℕ) (d : Relation) → i < length rs → get_or (map (λ (x : Defined). x.rel) (map defined_of rs)) i (name d) ≡ name (get_or rs i d)
name_get rs i d lt =
    get_or-map (λ (x : Defined). x.rel) (map defined_of rs) i (defined_of d) (name d) (omega (arith, lt, length-map rs defined_of))
    ∙ ap (λ (x : Defined). x.rel) (get_or-map defined_of rs i d (defined_of d) lt)

pub non_decreasing : (rs : List Relation) (t : RelationName) → IsStrictlySortedBy relation_cmp (map (λ (x : Defined). x.rel) (map defined_of rs)) → IsNonDecreasingBy (λ (r : Relation). ordering_index (relation_cmp (name r) t)) rs
non_decreasing rs t sorted i j d le lt = ⊎_elim
    (λ less.
    let names = map (λ (x : Defined). x.rel) (map defined_of rs) in
    let long : length names ≡ length rs = length-map (map defined_of rs) (λ (x : Defined). x.rel) ∙ length-map rs defined_of in
    let below : relation_cmp (get_or names i (name d)) (get_or names j (name d)) ≡ Less = Less-from_sorted relation_cmp names i j (name d) sorted less (omega (arith, long, lt)) in
    let at_i = name_get rs i d (omega (arith, less, lt)) in
    let at_j = name_get rs j d lt in
    index_rises (name (get_or rs i d)) (name (get_or rs j d)) t (relation_cmp (name (get_or rs j d)) t)
    (subst (λ r. relation_cmp r (name (get_or rs j d)) ≡ Less) at_i (subst (λ r. relation_cmp (get_or names i (name d)) r ≡ Less) at_j below))
    refl)
    (λ ge.
    let same : i ≡ j = omega (arith, le, ge) in
    subst (λ k. ordering_index (relation_cmp (name (get_or rs i d)) t) ≤ ordering_index (relation_cmp (name (get_or rs k d)) t)) same (omega arith))
    (cases_lt i j)

element : {A : Type 0} (xs : List A) (i : ℕ) → i < length xs → (x : A) × (get_or xs i x ≡ x)
element [] i l = absurd (omega (arith, l))
element (y ∷ ys) zero l = (y, refl)
element (y ∷ ys) (suc i) l = element ys i (omega (arith, l))

not_equal : (o : Ordering) → o ≡ Equal → (o ≡ Less) ⊎ (o ≡ Greater) → ⊥
not_equal Less e l = cc
not_equal Equal e (inl l) = cc
not_equal Equal e (inr g) = cc
not_equal Greater e l = cc

module _ (ns : List (List ℕ)) (rs : List Relation) (t : RelationName) where
  here : (i : ℕ) (r : Relation) → i < length rs → get_or rs i r ≡ r → get_or (map defined_of rs) i (defined_of r) ≡ defined_of r
  here i r lt is = get_or-map defined_of rs i r (defined_of r) lt ∙ ap defined_of is

  pub found_place : IsOrdered (configured ns rs) → (i : ℕ) → i < length rs → HoldsAt (λ (r : Relation). relation_cmp (name r) t ≡ Equal) rs i → StandsAt (configured ns rs) t i
  found_place ordered i lt equal =
      let r = element rs i lt in
      let c = configured ns rs in
      let long : length c.relations ≡ length rs = length-map rs defined_of in
      let is : name r.0 ≡ t = one_relation (name r.0) t (subst (λ x. relation_cmp (name x) t ≡ Equal) r.1 (equal r.0)) in
      let at_i : relation_at c i ≡ defined_of r.0 = get_or-map defined_of rs i r.0 nowhere lt ∙ ap defined_of r.1 in
      record {
        defined = defined_of r.0;
        within = omega (arith, lt, long);
        there = here i r.0 lt r.1;
        rel = is;
        only = λ d (one, rel).
            let b = contains_map_back defined_of rs d one in
            let at_j : relation_at c b.1.0 ≡ d = get_or-map defined_of rs b.1.0 b.0 nowhere b.1.1 ∙ ap defined_of b.1.2 ∙ b.2 in
            let same : i ≡ b.1.0 = names_apart c ordered i b.1.0 (omega (arith, lt, long)) (omega (arith, b.1.1, long)) (ap (λ (x : Defined). x.rel) at_i ∙ is ∙ sym rel ∙ ap (λ (x : Defined). x.rel) (sym at_j)) in
            sym at_j ∙ ap (relation_at c) (sym same) ∙ at_i;
      }

  pub no_place : (i : ℕ) → IsPartitionPoint (λ (r : Relation). relation_cmp (name r) t ≡ Less) (λ (r : Relation). relation_cmp (name r) t ≡ Greater) rs i → Has (configured ns rs) t → ⊥
  no_place i point (d, (one, rel)) =
      let b = contains_map_back defined_of rs d one in
      let equal : relation_cmp (name b.0) t ≡ Equal = ap (λ (x : Defined). relation_cmp x.rel t) b.2 ∙ ap (λ x. relation_cmp x t) rel ∙ same_relation t in
      let other : (relation_cmp (name b.0) t ≡ Less) ⊎ (relation_cmp (name b.0) t ≡ Greater) = ⊎_elim
      (λ lt. inl (subst (λ x. relation_cmp (name x) t ≡ Less) b.1.2 (point.0 b.1.0 b.0 (omega arith) lt)))
      (λ ge. inr (subst (λ x. relation_cmp (name x) t ≡ Greater) b.1.2 (point.1 b.1.0 b.0 ge b.1.1)))
      (cases_lt b.1.0 i) in
      not_equal (relation_cmp (name b.0) t) equal other

-- a tuple is admitted as its relation says
module _ (config : Configured) (t : Tuple) where
  pub declared_here : (i : ℕ) (stands : StandsAt config (rel_of t.node) i) → admits config t ≡ declares t.subject stands.defined
  declared_here i stands = both_ways (admits config t) (declares t.subject stands.defined)
      (λ e.
      let (k, d, lt, at, is) = Any-from_list_any (λ d. is_relation (rel_of t.node) d && declares t.subject d) config.relations e in
      let both = and_parts (is_relation (rel_of t.node) d) (declares t.subject d) is in
      ap (declares t.subject) (sym (stands.only d ((k, lt, at), relation_is (rel_of t.node) d both.0))) ∙ both.1)
      (λ e. list_any-from_Any (λ d. is_relation (rel_of t.node) d && declares t.subject d) config.relations
      (i, stands.defined, stands.within, stands.there, ap (λ b. b && declares t.subject stands.defined) (is_itself (rel_of t.node) stands.defined stands.rel) ∙ e))

  pub declared_nowhere : (Has config (rel_of t.node) → ⊥) → admits config t ≡ false
  declared_nowhere none =
      elim (admits config t) as (λ b. admits config t ≡ b → b ≡ false) [
        | true ↦ λ e. let given = told_admitted config t e in absurd (none (given.0, given.1))
        | false ↦ λ e. refl
      ] refl

-- what is read at a relation's place
pub read_there : (config : Configured) (rs : List Relation) (r : RelationName) (i : ℕ) (d : Relation) → map defined_of rs ≡ config.relations → (stands : StandsAt config r i) → d ≡ get_or rs i d → stands.defined ≡ defined_of d
read_there config rs r i d is stands read =
    let long : length (map defined_of rs) ≡ length rs = length-map rs defined_of in
    let lt : i < length rs = subst (λ n. i < n) (ap (λ (ds : List Defined). length ds) (sym is) ∙ long) stands.within in
    sym stands.there ∙ ap (λ (ds : List Defined). get_or ds i stands.defined) (sym is) ∙ get_or-map defined_of rs i d stands.defined lt ∙ ap defined_of (sym read)

pub declared_read : (config : Configured) (rs : List Relation) (t : Tuple) (i : ℕ) (d : Relation) → map defined_of rs ≡ config.relations → StandsAt config (rel_of t.node) i → d ≡ get_or rs i d → admits config t ≡ declares t.subject (defined_of d)
declared_read config rs t i d is stands read = declared_here config t i stands ∙ ap (declares t.subject) (read_there config rs (rel_of t.node) i d is stands read)
