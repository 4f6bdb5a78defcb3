-- The order of ids.
use Rattle.std.proofs.Common.{◌≡◌, ℕ, List, [], ◌∷◌, ◌++◌, true, false, true≢false, refl, ap, sym, subst, ◌∙◌}
use Rattle.std.specs.Prelude.{Contains, Option, Some, None}
use Rattle.std.specs.List.{AllByRecursion}
use Rattle.std.specs.List.Sorted.{IsStrictlySortedBy}
use Rattle.std.specs.Cmp.Lexicographic.{slice_cmp, nat_list_cmp_total}
use Rattle.std.specs.Ordering.{nat_cmp, is_lt, ordering_reverse}
use Rattle.std.specs.declared.cmp.Ordering.{Ordering}
use Rattle.std.specs.declared.cmp.Ordering.TheVariants.{Less, Equal, Greater}
use Rattle.std.proofs.lemmas.Cmp.{tied_itself}
use Rattle.std.proofs.lemmas.Map.Lookups.{exact_bytes}
use Rattle.meaning.proofs.Lists.{contains_here, contains_there}
use Rattle.lookup.specs.Found.{is_later}

pub is_less : (o : Ordering) → is_lt o ≡ true → o ≡ Less
is_less Less h = refl
is_less Equal h = absurd (true≢false (sym h))
is_less Greater h = absurd (true≢false (sym h))

unlike : Less ≡ Equal → ⊥
unlike e = cc

pub not_both : (a b : List ℕ) → slice_cmp nat_cmp a b ≡ Less → slice_cmp nat_cmp b a ≡ Less → ⊥
not_both a b e f = unlike (sym (nat_list_cmp_total.trans a b a e f) ∙ tied_itself nat_list_cmp_total a)

pub turned : (a b : List ℕ) → slice_cmp nat_cmp a b ≡ Greater → slice_cmp nat_cmp b a ≡ Less
turned a b e = nat_list_cmp_total.antisymm b a ∙ ap ordering_reverse e

pub turned_back : (a b : List ℕ) → slice_cmp nat_cmp a b ≡ Less → slice_cmp nat_cmp b a ≡ Greater
turned_back a b e = nat_list_cmp_total.antisymm b a ∙ ap ordering_reverse e

-- what does not come later than the last comes before what does
pub between : (last : Option (List ℕ)) (a b : List ℕ) → is_later last a ≡ false → is_later last b ≡ true → slice_cmp nat_cmp a b ≡ Less
between None a b up later = absurd (true≢false up)
between (Some l) a b up later = by (slice_cmp nat_cmp l a) refl
  where
    less : slice_cmp nat_cmp l b ≡ Less
    less = is_less (slice_cmp nat_cmp l b) later

    by : (o : Ordering) → slice_cmp nat_cmp l a ≡ o → slice_cmp nat_cmp a b ≡ Less
    by Less e = absurd (true≢false (sym (ap is_lt e) ∙ up))
    by Equal e = subst (λ (x : List ℕ). slice_cmp nat_cmp x b ≡ Less) (exact_bytes l a e) less
    by Greater e = nat_list_cmp_total.trans a l b (turned l a e) less

pub later_on : (last : Option (List ℕ)) (a b : List ℕ) → is_later last a ≡ true → is_later (Some a) b ≡ true → is_later last b ≡ true
later_on None a b later on = refl
later_on (Some l) a b later on = ap is_lt (nat_list_cmp_total.trans l a b (is_less (slice_cmp nat_cmp l a) later) (is_less (slice_cmp nat_cmp a b) on))

all_push : {K : Type 0} (P : K → Type 0) (xs : List K) (x : K) → AllByRecursion P xs → P x → AllByRecursion P (xs ++ x ∷ [])
all_push P [] x all p = (p, tt)
all_push P (y ∷ ys) x all p = (all.0, all_push P ys x all.1 p)

pub sorted_push : (xs : List (List ℕ)) (x : List ℕ) → IsStrictlySortedBy (slice_cmp nat_cmp) xs → ((y : List ℕ) → Contains xs y → slice_cmp nat_cmp y x ≡ Less) → IsStrictlySortedBy (slice_cmp nat_cmp) (xs ++ x ∷ [])
unfolding IsStrictlySortedBy
sorted_push [] x sorted below = (tt, tt)
sorted_push (y ∷ ys) x sorted below = (
  all_push (λ z. slice_cmp nat_cmp y z ≡ Less) ys x sorted.0 (below y (contains_here y ys)),
  sorted_push ys x sorted.1 (λ z c. below z (contains_there y z ys c)),
)
