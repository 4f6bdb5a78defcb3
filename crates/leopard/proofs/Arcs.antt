-- Where the arcs of a node lead.
use Rattle.std.proofs.Common.{◌≡◌, ℕ, List, not, sym, subst, inl, inr, ⊎_elim}
use Rattle.std.specs.Prelude.{Contains}
use Rattle.std.proofs.lemmas.Bool.{and_parts}
use Rattle.names.specs.declared.node.Node.{Node}
use Rattle.names.specs.declared.relation.SubjectType.{SubjectType}
use Rattle.names.specs.declared.tuple.Tuple.{Tuple}
use Rattle.meaning.specs.Form.{Form}
use Rattle.meaning.specs.Config.{Configured, Defined, Defines, Has, relation_in, rel_of}
use Rattle.meaning.specs.Snap.{Snap, set_of}
use Rattle.meaning.specs.Membership.{HasSet}
use Rattle.meaning.specs.Admits.{has_relation, type_of}
use Rattle.meaning.proofs.AdmitsLemmas.{told_admitted}
use Rattle.meaning.proofs.KnownRelations.{known_has}
use Rattle.meaning.proofs.TupleSets.{contains_iff}
use Rattle.config.specs.Places.{StandsAt}
use Rattle.config.specs.Valid as valid
use Rattle.config.specs.Valid.{has_type, has_namespace, have_types, is_twice, types_stand}
use Rattle.config.proofs.Tested.{all_test}
use Rattle.graphs.specs.Groups.{Computes, IsGroupArc}
use Rattle.rows.specs.Retained.{AreAdmitted}
use Rattle.leopard.specs.inside.Asking.{AreAll, Gains, IsComputed}

-- a relation that a tuple names as its subject's is there
pub set_known : (S : Snap) → valid.IsValid S.config → AreAdmitted S → (n m : Node) → HasSet S n m → Has S.config (rel_of m)
set_known S v admitted n m has =
    let t : Tuple = record { node = n; subject = set_of m } in
    let (d, defines, declared) = told_admitted S.config t (admitted t ((contains_iff S.tuples t).1 has)) in
    let stand = and_parts (have_types S.config d.types) (not (is_twice d.types)) (all_test (types_stand S.config) S.config.relations d v.declared_type defines.0) in
    let there = all_test (λ (u : SubjectType). has_type S.config u.namespace u.relation) d.types (type_of (set_of m)) stand.0 declared in
    known_has S.config (rel_of m) (and_parts (has_namespace S.config m.object.namespace) (has_relation S.config (relation_in m.object.namespace m.relation)) there).1

module _ (S : Snap) (n : Node) (sets : List Node)
    (only : (m : Node) → Contains sets m → HasSet S n m)
    (all : (m : Node) → HasSet S n m → Has S.config (rel_of m) → Contains sets m)
    (known : (m : Node) → HasSet S n m → Has S.config (rel_of m)) where
  -- of a node whose relation is there
  pub arcs_with : (config : Configured) → config ≡ S.config → (i : ℕ) (s : StandsAt config (rel_of n) i) (w : Form) → s.defined.form ≡ w → (ends : List Node) → Gains (IsComputed n.object w) sets ends → AreAll (IsGroupArc S n) ends
  arcs_with config same i s w form ends gains m = (
    λ c. ⊎_elim
        (λ f. inl (only m f))
        (λ (r, computes, is). inr (s.defined, r, subst (λ (k : Configured). Defines k (rel_of n) s.defined) same ((i, s.within, s.there), s.rel), subst (λ (k : Form). Computes k r) (sym form) computes, is))
        ((gains m).0 c),
    λ a. (gains m).1 (⊎_elim
        (λ h. inl (all m h (known m h)))
        (λ (d, r, defines, computes, is). inr (r, subst (λ (k : Form). Computes k r) form (subst (λ (k : Defined). Computes k.form r) (s.only d (subst (λ (k : Configured). Defines k (rel_of n) d) (sym same) defines)) computes), is))
        a),
  )

  -- of one whose relation is not
  pub arcs_without : (Has S.config (rel_of n) → ⊥) → AreAll (IsGroupArc S n) sets
  arcs_without lacks m = (
    λ c. inl (only m c),
    λ a. ⊎_elim
        (λ h. all m h (known m h))
        (λ (d, r, defines, computes, is). absurd (lacks (d, defines)))
        a,
  )
