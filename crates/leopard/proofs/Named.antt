-- A user's direct groups, relation by relation.
use Rattle.std.proofs.Common.{◌≡◌, List, [], ◌∷◌, true, refl, ap, sym, ◌∙◌, inl, inr, ⊎_elim}
use Rattle.std.specs.Prelude.{◌↔◌, ◌⊎◌, ◌&&◌, ◌||◌, Any, map, Bool}
use Rattle.std.specs.List.{list_any}
use Rattle.std.proofs.lemmas.Bool.{and_parts}
use Rattle.std.proofs.lemmas.List.Folds.{Any-from_list_any, list_any-from_Any}
use Rattle.names.specs.declared.object.Object.{Object}
use Rattle.names.specs.declared.node.Node.{Node}
use Rattle.meaning.specs.Config.{rel_of}
use Rattle.meaning.specs.Snap.{Snap}
use Rattle.meaning.specs.Admits.{is_relation}
use Rattle.meaning.proofs.KnownRelations.{relation_is, is_itself}
use Rattle.config.specs.Valid.{is_indexed, is_indexed_relation}
use Rattle.config_text.specs.Forms.{defined_of}
use Rattle.config_text.specs.declared.relation.Relation.{Relation}
use Rattle.leopard.specs.Groups.{MemberToGroup}
use Rattle.leopard.specs.inside.Direct.{NamesIndexed}

any_mapped : {A B : Type 0} (f : A → B) (p : B → Bool) (xs : List A) → list_any p (map f xs) ≡ list_any (λ x. p (f x)) xs
any_mapped f p [] = refl
any_mapped f p (x ∷ xs) = ap (λ b. p (f x) || b) (any_mapped f p xs)

module _ (S : Snap) (u : Object) (rs : List Relation) (are : map defined_of rs ≡ S.config.relations) (n : Node) where
  indexed_is : is_indexed S.config (rel_of n) ≡ list_any (λ r. is_indexed_relation (rel_of n) (defined_of r)) rs
  indexed_is = ap (list_any (is_indexed_relation (rel_of n))) (sym are) ∙ any_mapped defined_of (is_indexed_relation (rel_of n)) rs

  pub named_by_all : Any (NamesIndexed S u n) rs ↔ MemberToGroup S u n
  named_by_all = (
    λ h.
        let (k, r, lt, at, (indexed, (rel, has))) = h in (
          indexed_is ∙ list_any-from_Any (λ q. is_indexed_relation (rel_of n) (defined_of q)) rs
              (k, r, lt, at, ap (λ b. b && r.indexed) (is_itself (rel_of n) (defined_of r) (sym rel)) ∙ indexed),
          has,
        ),
    λ h.
        let (k, r, lt, at, is) = Any-from_list_any (λ q. is_indexed_relation (rel_of n) (defined_of q)) rs (sym indexed_is ∙ h.0) in
        let both = and_parts (is_relation (rel_of n) (defined_of r)) r.indexed is in
        (k, r, lt, at, (both.1, (sym (relation_is (rel_of n) (defined_of r) both.0), h.1))),
  )

-- what is added under a test that holds
pub under_test : (b : Bool) (Old New N : Type 0) → b ≡ true → New ↔ (Old ⊎ N) → New ↔ (Old ⊎ ((b ≡ true) × N))
under_test b Old New N e step = (
  λ h. ⊎_elim inl (λ q. inr (e, q)) (step.0 h),
  λ h. step.1 (⊎_elim inl (λ q. inr q.1) h),
)
