-- The nodes of a level.
use Rattle.std.proofs.Common.{◌≡◌, ℕ, ◌<◌, ◌+◌, List, [], ◌∷◌, ◌++◌, length, get_or, ap, ◌∙◌, sym, subst, inl, inr, ⊎_elim, arith}
use Rattle.std.specs.Prelude.{Contains, ◌⊎◌}
use Rattle.std.proofs.lemmas.Bool.{cases_lt}
use Rattle.std.proofs.lemmas.List.{get_or_default}
use Rattle.std.proofs.lemmas.List.Elements.{Contains-append_left, Contains-push, Contains-push_cases}
use Rattle.meaning.proofs.Lists.{contains_none}
use Rattle.meaning.specs.Config.{rel_of}
use Rattle.names.specs.declared.object.Object.{Object}
use Rattle.names.specs.declared.node.Node.{Node}
use Rattle.config_text.specs.declared.relation.Relation.{Relation}
use Rattle.plain.specs.declared.source.Source.{Source}
use Rattle.plain.specs.inside.Candidates.{IsPlaced, GainsNodes, HasNodes}

module _ (s : Source) (i k : ℕ) where
  placed_more : (m : Node) → IsPlaced s i k m → IsPlaced s (i + 1) k m
  placed_more m (j, x, h, e, p, l) = (j, x, omega arith, e, p, l)

  module _ (r : Relation) (lt : i < length s.relations.now) (is : r ≡ get_or s.relations.now i r) where
    placed_split : (m : Node) → IsPlaced s (i + 1) k m → IsPlaced s i k m ⊎ ((r.name ≡ rel_of m) × (get_or s.levels.now i 0 ≡ k))
    placed_split m (j, x, h, e, p, l) =
        ⊎_elim
        (λ less. inl (j, x, less, e, p, l))
        (λ more.
        let here : j ≡ i = omega (arith, more) in
        let same : x ≡ r = sym e ∙ ap (λ q. get_or s.relations.now q x) here ∙ get_or_default s.relations.now i x r lt ∙ sym is in
        inr (sym (ap (λ (y : Relation). y.name) same) ∙ p, ap (λ q. get_or s.levels.now q 0) (sym here) ∙ l))
        (cases_lt j i)

    module _ (object : Object) (old new : List Node) (gains : GainsNodes s object i k old new) where
      pub gains_none : ((get_or s.levels.now i 0 ≡ k) → r.name.namespace ≡ object.namespace → ⊥) → GainsNodes s object (i + 1) k old new
      gains_none none = record {
        remains = gains.remains;
        gained = λ m e p. ⊎_elim (gains.gained m e) (λ q. absurd (none q.1 (ap (λ x. x.namespace) q.0 ∙ ap (λ o. o.namespace) e))) (placed_split m p);
        only = λ m c. ⊎_elim (λ h. inl h) (λ q. inr (q.0, placed_more m q.1)) (gains.only m c);
      }

      pub gains_push : get_or s.levels.now i 0 ≡ k → r.name.namespace ≡ object.namespace → GainsNodes s object (i + 1) k old (new ++ record { object = object; relation = r.name.relation } ∷ [])
      gains_push at named =
          let node : Node = record { object = object; relation = r.name.relation } in
          record {
            remains = λ m c. Contains-append_left new (node ∷ []) m (gains.remains m c);
            gained = λ m e p. ⊎_elim
                (λ q. Contains-append_left new (node ∷ []) m (gains.gained m e q))
                (λ q.
                let same : node ≡ m = ap (λ x. record { object = x; relation = r.name.relation }) (sym e) ∙ ap (λ x. record { object = m.object; relation = x }) (ap (λ x. x.relation) q.0) in
                subst (λ z. Contains (new ++ node ∷ []) z) same (Contains-push new node))
                (placed_split m p);
            only = λ m c. ⊎_elim
                (λ h. ⊎_elim (λ a. inl a) (λ q. inr (q.0, placed_more m q.1)) (gains.only m h))
                (λ e. inr (ap (λ n. n.object) (sym e), (i, r, omega arith, sym is, ap (λ x. record { namespace = x; relation = r.name.relation }) named ∙ ap rel_of e, at)))
                (Contains-push_cases new node m c);
          }

-- no object yet
pub nodes_none : (s : Source) (objects : List Object) (k : ℕ) → HasNodes s objects 0 k []
nodes_none s objects k = record {
  all = λ o j m h. absurd (omega (arith, h));
  only = λ m c. absurd (contains_none m c);
}

-- the nodes of one more object
pub nodes_more : (s : Source) (objects : List Object) (i k : ℕ) (o : Object) (old new : List Node) → i < length objects → o ≡ get_or objects i o → GainsNodes s o (length s.relations.now) k old new → HasNodes s objects i k old → HasNodes s objects (i + 1) k new
nodes_more s objects i k o old new lt is gains nodes = record {
  all = λ p j m h e q placed. ⊎_elim
      (λ less. gains.remains m (nodes.all p j m less e q placed))
      (λ more.
      let here : j ≡ i = omega (arith, more) in
      let same : p ≡ o = sym e ∙ ap (λ x. get_or objects x p) here ∙ get_or_default objects i p o lt ∙ sym is in
      gains.gained m (q ∙ same) placed)
      (cases_lt j i);
  only = λ m c. ⊎_elim (nodes.only m) (λ q. (subst (Contains objects) (sym q.0) (i, lt, sym is), q.1)) (gains.only m c);
}
