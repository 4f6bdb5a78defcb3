-- Expressions of one value are of one size: whether they are allowed does not depend on which is taken.
use Rattle.std.proofs.Common.{◌≡◌, ℕ, ◌+◌, List, refl, sym, ap, ◌∙◌, subst}
use Rattle.std.specs.Prelude.{codes}
use Rattle.serde_json.specs.Data.{Data, string, array, Items, no_items, item}
use Rattle.leopard.specs.Query.{Query, Queries, Member2Group, Group2Group, Union, Intersection, Exclusion, none, more, query_nodes, queries_nodes, query_depth, queries_depth, is_some, has_parts, all_have_parts, is_allowed}
use Rattle.bodies.specs.Grouping.{only_member, IsExpr, AreExprs}
use Rattle.bodies.proofs.Expressions.{kind_is, apart}

abbrev Alike : Query → Query → Type 0
Alike p q = (query_nodes p ≡ query_nodes q) × (query_depth p ≡ query_depth q) × (has_parts p ≡ has_parts q)

abbrev AllAlike : Queries → Queries → Type 0
AllAlike ps qs = (queries_nodes ps ≡ queries_nodes qs) × (queries_depth ps ≡ queries_depth qs) × (all_have_parts ps ≡ all_have_parts qs) × (is_some ps ≡ is_some qs)

same_items : (d : Data) (k l : List ℕ) (ds es : Items) → d ≡ only_member k (array ds) → d ≡ only_member l (array es) → es ≡ ds
same_items d k l ds es a b = let both : only_member k (array ds) ≡ only_member l (array es) = sym a ∙ b in cc

text_list : (d : Data) (k l t : List ℕ) (ds : Items) → d ≡ only_member k (string t) → d ≡ only_member l (array ds) → ⊥
text_list d k l t ds a b = let both : only_member k (string t) ≡ only_member l (array ds) = sym a ∙ b in absurd (cc)

same_first : (a b c d : Data) → item a (item b no_items) ≡ item c (item d no_items) → a ≡ c
same_first a b c d e = cc

same_second : (a b c d : Data) → item a (item b no_items) ≡ item c (item d no_items) → b ≡ d
same_second a b c d e = cc

whole : (ps qs : Queries) → AllAlike ps qs → Alike (Union ps) (Union qs)
whole ps qs (nodes, depth, parts, some) = (ap (λ (n : ℕ). 1 + n) nodes, ap (λ (n : ℕ). 1 + n) depth, rw (parts, some) refl)

mutual
  alike : (d : Data) (p q : Query) → IsExpr d p → IsExpr d q → Alike p q
  alike d (Member2Group u) (Member2Group v) e f = (refl, refl, refl)
  alike d (Member2Group u) (Group2Group g) e f = (refl, refl, refl)
  alike d (Member2Group u) (Union qs) e f = absurd (text_list d _ _ _ _ e.1 f.1)
  alike d (Member2Group u) (Intersection qs) e f = absurd (text_list d _ _ _ _ e.1 f.1)
  alike d (Member2Group u) (Exclusion a b) e f = absurd (text_list d _ _ _ _ e.1 f.2)
  alike d (Group2Group g) (Member2Group u) e f = (refl, refl, refl)
  alike d (Group2Group g) (Group2Group h) e f = (refl, refl, refl)
  alike d (Group2Group g) (Union qs) e f = absurd (text_list d _ _ _ _ e.1 f.1)
  alike d (Group2Group g) (Intersection qs) e f = absurd (text_list d _ _ _ _ e.1 f.1)
  alike d (Group2Group g) (Exclusion a b) e f = absurd (text_list d _ _ _ _ e.1 f.2)
  alike d (Union ps) (Member2Group u) e f = absurd (text_list d _ _ _ _ f.1 e.1)
  alike d (Union ps) (Group2Group g) e f = absurd (text_list d _ _ _ _ f.1 e.1)
  alike d (Union ps) (Union qs) e f = whole ps qs (all_alike e.0 ps qs e.2 (subst (λ (xs : Items). AreExprs xs qs) (same_items d _ _ e.0 f.0 e.1 f.1) f.2))
  alike d (Union ps) (Intersection qs) e f = whole ps qs (all_alike e.0 ps qs e.2 (subst (λ (xs : Items). AreExprs xs qs) (same_items d _ _ e.0 f.0 e.1 f.1) f.2))
  alike d (Union ps) (Exclusion a b) e f = absurd (apart (codes "union") (codes "exclusion") refl (sym (kind_is d (Union ps) e) ∙ kind_is d (Exclusion a b) f))
  alike d (Intersection ps) (Member2Group u) e f = absurd (text_list d _ _ _ _ f.1 e.1)
  alike d (Intersection ps) (Group2Group g) e f = absurd (text_list d _ _ _ _ f.1 e.1)
  alike d (Intersection ps) (Union qs) e f = whole ps qs (all_alike e.0 ps qs e.2 (subst (λ (xs : Items). AreExprs xs qs) (same_items d _ _ e.0 f.0 e.1 f.1) f.2))
  alike d (Intersection ps) (Intersection qs) e f = whole ps qs (all_alike e.0 ps qs e.2 (subst (λ (xs : Items). AreExprs xs qs) (same_items d _ _ e.0 f.0 e.1 f.1) f.2))
  alike d (Intersection ps) (Exclusion a b) e f = absurd (apart (codes "intersection") (codes "exclusion") refl (sym (kind_is d (Intersection ps) e) ∙ kind_is d (Exclusion a b) f))
  alike d (Exclusion a b) (Member2Group u) e f = absurd (text_list d _ _ _ _ f.1 e.2)
  alike d (Exclusion a b) (Group2Group g) e f = absurd (text_list d _ _ _ _ f.1 e.2)
  alike d (Exclusion a b) (Union qs) e f = absurd (apart (codes "exclusion") (codes "union") refl (sym (kind_is d (Exclusion a b) e) ∙ kind_is d (Union qs) f))
  alike d (Exclusion a b) (Intersection qs) e f = absurd (apart (codes "exclusion") (codes "intersection") refl (sym (kind_is d (Exclusion a b) e) ∙ kind_is d (Intersection qs) f))
  alike d (Exclusion a b) (Exclusion x y) e f =
      let same = same_items d (codes "exclusion") (codes "exclusion") (item e.0 (item e.1 no_items)) (item f.0 (item f.1 no_items)) e.2 f.2 in
      let first = alike e.0 a x e.3 (subst (λ (z : Data). IsExpr z x) (same_first f.0 f.1 e.0 e.1 same) f.3) in
      let second = alike e.1 b y e.4 (subst (λ (z : Data). IsExpr z y) (same_second f.0 f.1 e.0 e.1 same) f.4) in
      (rw (first.0, second.0) refl, rw (first.1, second.1) refl, rw (first.2, second.2) refl)

  all_alike : (ds : Items) (ps qs : Queries) → AreExprs ds ps → AreExprs ds qs → AllAlike ps qs
  all_alike no_items none none e f = (refl, refl, refl, refl)
  all_alike no_items none (more q qs) e f = absurd f
  all_alike no_items (more p ps) qs e f = absurd e
  all_alike (item d ds) none qs e f = absurd e
  all_alike (item d ds) (more p ps) none e f = absurd f
  all_alike (item d ds) (more p ps) (more q qs) e f =
      let first = alike d p q e.0 f.0 in
      let others = all_alike ds ps qs e.1 f.1 in
      (rw (first.0, others.0) refl, rw (first.1, others.1) refl, rw (first.2, others.2) refl, refl)

pub same_allowed : (d : Data) (p q : Query) (limit : ℕ) → IsExpr d p → IsExpr d q → is_allowed p limit ≡ is_allowed q limit
same_allowed d p q limit e f = let same = alike d p q e f in rw (same.0, same.1, same.2) refl
