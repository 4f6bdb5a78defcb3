-- Which groups lead to a node by computed usersets alone.
use Rattle.std.proofs.Common.{◌≡◌, ℕ, Bool, not, nat_eq, List, [], ◌∷◌, ◌++◌, map, true, false, refl, sym, ap, subst, ◌∙◌, inl, inr, ⊎_elim}
use Rattle.std.specs.Prelude.{◌↔◌, Some, None, Any, Contains}
use Rattle.std.specs.Cmp.Lexicographic.{same_text, pointwise}
use Rattle.std.proofs.lemmas.Bool.{false≢true}
use Rattle.std.proofs.lemmas.Option.{none-some}
use Rattle.std.proofs.lemmas.List.Elements.{Contains-append_left, Contains-push, Contains-push_cases}
use Rattle.names.specs.declared.object.Object.{Object}
use Rattle.names.specs.declared.node.Node.{Node}
use Rattle.names.specs.declared.subject.Subject.{Subject}
use Rattle.names.specs.declared.tuple.Tuple.{Tuple}
use Rattle.names.specs.declared.relation.RelationName.{RelationName}
use Rattle.meaning.specs.Config.{Configured, Defined, rel_of}
use Rattle.meaning.proofs.Lists.{contains_map, contains_map_back}
use Rattle.config_text.specs.Forms.{defined_of}
use Rattle.config_text.specs.declared.relation.Relation.{Relation}
use Rattle.graphs.specs.Groups.{GroupWalk, here, on}
use Rattle.leopard.specs.Index.{bare}
use Rattle.leopard.specs.inside.Asking.{Gains}
use Rattle.leopard.proofs.Bare.{no_set}
use Rattle.leopard.proofs.Gather.{any_contains}
use Rattle.leopard.proofs.Indexed.{indexed_has, has_indexed}
use Rattle.delta.specs.Layers.{IsOfSet}
use Rattle.delta.specs.inside.Leading.{LeadsTo, IsOneOf}

-- a tuple is of a userset where its subject names a relation
pub of_set : (t : Tuple) (r : List ℕ) → t.subject.relation ≡ Some r → IsOfSet t
of_set t r e = (record { object = t.subject.object; relation = r }, ap (λ x. record { object = t.subject.object; relation = x }) e)

pub not_of_set : (t : Tuple) → t.subject.relation ≡ None → IsOfSet t → ⊥
not_of_set t e (m, is) = none-some m.relation (sym e ∙ ap (λ (s : Subject). s.relation) is)

-- computed usersets are of the same object
pub same_object : (c : Configured) (g n : Node) → GroupWalk (bare c) g n → g.object ≡ n.object
same_object c g n here = refl
same_object c g n (on {g = m} w (inl t)) = absurd (no_set c m n t)
same_object c g n (on {g = m} w (inr (d, r, defines, computes, is))) = same_object c g m w ∙ sym (ap (λ (x : Node). x.object) is)

-- what the test of a namespace says
pub same_namespace : (a b : List ℕ) (r : Bool) → r ≡ not (pointwise nat_eq a b) → r ≡ false → a ≡ b
same_namespace a b r is off = same_text a b (sym (not_false (pointwise nat_eq a b) (sym is ∙ off)))
  where
    not_false : (x : Bool) → not x ≡ false → x ≡ true
    not_false true e = refl
    not_false false e = absurd (false≢true (sym e))

pub same_relation : (r : RelationName) (g : Node) → r.namespace ≡ g.object.namespace → r.relation ≡ g.relation → r ≡ rel_of g
same_relation r g namespace relation = ap (λ n. record { namespace = n; relation = r.relation }) namespace ∙ ap (λ x. record { namespace = g.object.namespace; relation = x }) relation

module _ (config : Configured) (to : Node) where
  pub one_leads : (rs : List Relation) → map defined_of rs ≡ config.relations → (g : Node) → Any (λ r. IsOneOf config (defined_of r) to g) rs ↔ LeadsTo config to g
  one_leads rs is g = (
    λ (k, r, lt, e, (indexed, rel, object, along)).
        let d : Contains config.relations (defined_of r) = subst (λ ds. Contains ds (defined_of r)) is (contains_map defined_of rs r (k, lt, e)) in
        (has_indexed config (rel_of g) (defined_of r) (d, rel) indexed, along),
    λ (group, along).
        let (d, defines, indexed) = indexed_has config (rel_of g) group in
        let back = contains_map_back defined_of rs d (subst (λ ds. Contains ds d) (sym is) defines.0) in
        any_contains (λ r. IsOneOf config (defined_of r) to g) rs back.0 back.1
        (subst (λ x. IsOneOf config x to g) (sym back.2) (indexed, defines.1, same_object config g to along, along)),
  )

  -- there is one such group for a relation
  one_is : (d : Defined) (g h : Node) → d.rel ≡ rel_of g → g.object ≡ to.object → IsOneOf config d to h → h ≡ g
  one_is d g h rel object (indexed, rel', object', along) =
      let same : h.relation ≡ g.relation = ap (λ (r : RelationName). r.relation) (sym rel' ∙ rel) in
      ap (λ (o : Object). record { object = o; relation = h.relation }) (object' ∙ sym object) ∙ ap (λ r. record { object = g.object; relation = r }) same

  pub gains_group : (d : Defined) (g : Node) (old new : List Node) → d.indexed ≡ true → d.rel ≡ rel_of g → g.object ≡ to.object → GroupWalk (bare config) g to → new ≡ old ++ g ∷ []
      → Gains (IsOneOf config d to) old new
  gains_group d g old new indexed rel object along is h = (
    λ c. ⊎_elim
        (λ o. inl o)
        (λ e. inr (subst (λ x. IsOneOf config d to x) e (indexed, rel, object, along)))
        (Contains-push_cases old g h (subst (λ ns. Contains ns h) is c)),
    λ q. subst (λ ns. Contains ns h) (sym is) (⊎_elim
        (λ o. Contains-append_left old (g ∷ []) h o)
        (λ one. subst (λ x. Contains (old ++ g ∷ []) x) (sym (one_is d g h rel object one)) (Contains-push old g))
        q),
  )

  pub gains_no_walk : (d : Defined) (g : Node) (old : List Node) → d.rel ≡ rel_of g → g.object ≡ to.object → (GroupWalk (bare config) g to → ⊥) → Gains (IsOneOf config d to) old old
  gains_no_walk d g old rel object off h = (
    inl,
    λ q. ⊎_elim (λ o. o) (λ one. absurd (off (subst (λ x. GroupWalk (bare config) x to) (one_is d g h rel object one) one.3))) q,
  )

  pub gains_other : (d : Defined) (old : List Node) → (d.indexed ≡ true → d.rel.namespace ≡ to.object.namespace → ⊥) → Gains (IsOneOf config d to) old old
  gains_other d old off h = (
    inl,
    λ q. ⊎_elim
        (λ o. o)
        (λ (indexed, rel, object, along). absurd (off indexed (ap (λ (r : RelationName). r.namespace) rel ∙ ap (λ (o : Object). o.namespace) object)))
        q,
  )
