-- Subjects compared part by part.
use Rattle.std.proofs.Common.{◌≡◌, ℕ, Bool, true, false, List, Option, Some, Bor, refl, ap, sym, ◌∙◌}
use Rattle.std.specs.Prelude.{◌&&◌, not, nat_eq}
use Rattle.std.specs.Option.{option_cmp, option_map}
use Rattle.std.specs.Ordering.{nat_cmp, ordering_then, eq_by_cmp, is_eq}
use Rattle.std.specs.Cmp.Lexicographic.{pointwise, slice_cmp, texts_ties}
use Rattle.std.specs.declared.cmp.Ordering.{Ordering}
use Rattle.std.specs.declared.cmp.Ordering.TheVariants.{Less, Equal, Greater}
use Rattle.names.specs.Order.{object_cmp, subject_cmp}
use Rattle.names.specs.declared.subject.Subject.{Subject}

-- two parts are the same where each is
pub both_then : (a b : Ordering) → is_eq (ordering_then a b) ≡ (is_eq a && is_eq b)
both_then Less b = refl
both_then Equal b = refl
both_then Greater b = refl

-- the texts of two relations
pub same_relation : (text : Option (Bor (List ℕ))) (relation : Option (List ℕ)) (t : Bor (List ℕ)) (r w : List ℕ) (answer : Bool) → text ≡ Some t → relation ≡ Some r → w ≡ r
    → answer ≡ pointwise nat_eq t.now w → answer ≡ eq_by_cmp (option_cmp (slice_cmp nat_cmp)) (option_map (λ x. x.now) text) relation
same_relation text relation t r w answer is has reads says =
    says ∙ texts_ties t.now w ∙ ap (eq_by_cmp (slice_cmp nat_cmp) t.now) reads
    ∙ sym (ap (λ (x : Option (Bor (List ℕ))). eq_by_cmp (option_cmp (slice_cmp nat_cmp)) (option_map (λ y. y.now) x) relation) is
    ∙ ap (eq_by_cmp (option_cmp (slice_cmp nat_cmp)) (Some t.now)) has)

module _ (s q : Subject) where
  by_parts : eq_by_cmp subject_cmp s q
      ≡ ((eq_by_cmp (slice_cmp nat_cmp) s.object.namespace q.object.namespace && eq_by_cmp (slice_cmp nat_cmp) s.object.id q.object.id) && eq_by_cmp (option_cmp (slice_cmp nat_cmp)) s.relation q.relation)
  by_parts =
      both_then (object_cmp s.object q.object) (option_cmp (slice_cmp nat_cmp) s.relation q.relation)
      ∙ ap (λ b. b && eq_by_cmp (option_cmp (slice_cmp nat_cmp)) s.relation q.relation) (both_then (slice_cmp nat_cmp s.object.namespace q.object.namespace) (slice_cmp nat_cmp s.object.id q.object.id))

  differ : (b : Bool) → not b ≡ true → b ≡ false
  differ true h = cc
  differ false h = refl

  agree : (b : Bool) → not b ≡ false → b ≡ true
  agree true h = refl
  agree false h = cc

  none_of : (b : Bool) → (b && false) ≡ false
  none_of true = refl
  none_of false = refl

  pub other_namespace : not (pointwise nat_eq s.object.namespace q.object.namespace) ≡ true → false ≡ eq_by_cmp subject_cmp s q
  other_namespace ne =
      let other = sym (texts_ties s.object.namespace q.object.namespace) ∙ differ (pointwise nat_eq s.object.namespace q.object.namespace) ne in
      sym (by_parts ∙ ap (λ b. (b && eq_by_cmp (slice_cmp nat_cmp) s.object.id q.object.id) && eq_by_cmp (option_cmp (slice_cmp nat_cmp)) s.relation q.relation) other)

  pub other_id : not (pointwise nat_eq s.object.id q.object.id) ≡ true → false ≡ eq_by_cmp subject_cmp s q
  other_id ne =
      let other = sym (texts_ties s.object.id q.object.id) ∙ differ (pointwise nat_eq s.object.id q.object.id) ne in
      sym (by_parts ∙ ap (λ b. (eq_by_cmp (slice_cmp nat_cmp) s.object.namespace q.object.namespace && b) && eq_by_cmp (option_cmp (slice_cmp nat_cmp)) s.relation q.relation) other
      ∙ ap (λ b. b && eq_by_cmp (option_cmp (slice_cmp nat_cmp)) s.relation q.relation) (none_of (eq_by_cmp (slice_cmp nat_cmp) s.object.namespace q.object.namespace)))

  pub same_object : not (pointwise nat_eq s.object.namespace q.object.namespace) ≡ false → not (pointwise nat_eq s.object.id q.object.id) ≡ false
      → (answer : Bool) → answer ≡ eq_by_cmp (option_cmp (slice_cmp nat_cmp)) s.relation q.relation → answer ≡ eq_by_cmp subject_cmp s q
  same_object namespace id answer says =
      let first = sym (texts_ties s.object.namespace q.object.namespace) ∙ agree (pointwise nat_eq s.object.namespace q.object.namespace) namespace in
      let second = sym (texts_ties s.object.id q.object.id) ∙ agree (pointwise nat_eq s.object.id q.object.id) id in
      says
      ∙ sym (by_parts ∙ ap (λ b. (b && eq_by_cmp (slice_cmp nat_cmp) s.object.id q.object.id) && eq_by_cmp (option_cmp (slice_cmp nat_cmp)) s.relation q.relation) first
      ∙ ap (λ b. b && eq_by_cmp (option_cmp (slice_cmp nat_cmp)) s.relation q.relation) second)
