-- What comparing two snapshots says.
use Rattle.std.proofs.Common.{◌≡◌, ℕ, List, Bool, true, false, ap, sym, subst, ◌∙◌, true≢false}
use Rattle.std.specs.Bool.{Decides}
use Rattle.std.specs.Ordering.{eq_by_cmp}
use Rattle.std.proofs.lemmas.Cmp.{eq_by_cmp_equiv}
use Rattle.std.proofs.lemmas.Map.Views.{tells_apart}
use Rattle.names.specs.Order.{tuple_cmp}
use Rattle.names.specs.declared.tuple.Tuple.{Tuple}
use Rattle.meaning.specs.Snap.{Snap}
use Rattle.meaning.specs.TupleSet as set
use Rattle.meaning.specs.TupleSet.{Tuples}
use Rattle.meaning.proofs.TupleSets.{exact_tuples, tuples_total, from_items}
use Rattle.config_text.specs.Canonical.{config_text}
use Rattle.published.specs.Vouching.{IsSameSnap}

pub tuple_decides : (x y : Tuple) (b : Bool) → b ≡ eq_by_cmp tuple_cmp x y → Decides b (x ≡ y)
tuple_decides x y b is = (
  λ h. tells_apart exact_tuples x y (sym is ∙ h),
  λ same. is ∙ subst (λ (z : Tuple). eq_by_cmp tuple_cmp x z ≡ true) same ((eq_by_cmp_equiv tuples_total).refl x),
)

items_once : (s t : Tuples) → set.items s ≡ set.items t → s ≡ t
items_once s t same = sym (from_items s) ∙ ap set.from_list same ∙ from_items t

module _ (S T : Snap) (a b : List ℕ) (is_a : a ≡ config_text S.config) (is_b : b ≡ config_text T.config) where
  -- the texts are the same
  pub tuples_tell : (xs ys : List Tuple) → xs ≡ set.items S.tuples → ys ≡ set.items T.tuples → a ≡ b
      → (said answer : Bool) → Decides said (xs ≡ ys) → answer ≡ said → Decides answer (IsSameSnap S T)
  tuples_tell xs ys is_xs is_ys same said answer tells is = (
    λ h. (sym is_a ∙ same ∙ is_b, items_once S.tuples T.tuples (sym is_xs ∙ tells.0 (sym is ∙ h) ∙ is_ys)),
    λ snaps. is ∙ tells.1 (is_xs ∙ ap set.items snaps.1 ∙ sym is_ys),
  )

  -- they are not
  pub texts_tell : ¬ (a ≡ b) → (answer : Bool) → answer ≡ false → Decides answer (IsSameSnap S T)
  texts_tell other answer is = (
    λ h. absurd (true≢false (sym h ∙ is)),
    λ snaps. absurd (other (is_a ∙ snaps.0 ∙ sym is_b)),
  )
