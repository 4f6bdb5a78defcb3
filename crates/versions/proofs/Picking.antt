-- The tuples whose versions pass a test, in order.
use Rattle.std.proofs.Common.{◌≡◌, List, [], ◌∷◌, ◌++◌, refl, ap, sym, ◌∙◌, append_assoc}
use Rattle.std.specs.Prelude.{Bool, true, false, cond, ◌&&◌, filter, Some}
use Rattle.std.specs.List.{AllByRecursion, find}
use Rattle.std.specs.List.Sorted.{IsStrictlySortedBy}
use Rattle.std.specs.Map.{lookup}
use Rattle.std.specs.Ordering.{is_eq}
use Rattle.std.specs.declared.cmp.Ordering.TheVariants.{Less}
use Rattle.std.specs.Cmp.{tied_itself}
use Rattle.names.specs.Order.{tuple_cmp, is_same_tuple}
use Rattle.names.specs.declared.tuple.Tuple.{Tuple}
use Rattle.meaning.proofs.TupleSets.{tuples_total}
use Rattle.versions.specs.declared.version.Version.{Version}
use Rattle.versions.specs.Versions.{Entries, keys, versions_at, items_or}
use Rattle.versions.proofs.Bases.{same_turned}

-- the tuples of the entries that pass
abbrev pub pick : (Tuple × List Version → Bool) → Entries → List Tuple
pick f [] = []
pick f (e ∷ es) = cond (f e) (e.0 ∷ pick f es) (pick f es)

-- each of these entries is found among the others
abbrev pub AreIn : Entries → Entries → Type 0
AreIn m [] = Unit {0}
AreIn m (e ∷ es) = (lookup (is_same_tuple e.0) m ≡ Some e.1) × AreIn m es

in_more : (m es : Entries) (x : Tuple × List Version) → AllByRecursion (λ t. tuple_cmp x.0 t ≡ Less) (keys es) → AreIn m es → AreIn (x ∷ m) es
in_more m [] x above are = tt
in_more m (e ∷ es) x above are = (ap (λ b. cond b (Some x.1) (lookup (is_same_tuple e.0) m)) (same_turned e.0 x.0 ∙ ap is_eq above.0) ∙ are.0, in_more m es x above.1 are.1)

pub all_in : (es : Entries) → IsStrictlySortedBy tuple_cmp (keys es) → AreIn es es
unfolding IsStrictlySortedBy
all_in [] sorted = tt
all_in (e ∷ es) sorted = (ap (λ b. cond b (Some e.1) (lookup (is_same_tuple e.0) es)) (ap is_eq (tied_itself tuples_total e.0)), in_more es es e sorted.0 (all_in es sorted.1))

picked_in : (p : List Version → Bool) (m es : Entries) → AreIn m es → pick (λ e. p e.1) es ≡ filter (λ t. p (versions_at m t)) (keys es)
picked_in p m [] are = refl
picked_in p m (e ∷ es) are =
    ap (λ ms. cond (p ms) (e.0 ∷ pick (λ e. p e.1) es) (pick (λ e. p e.1) es)) (sym (ap items_or are.0))
    ∙ ap (λ (ts : List Tuple). cond (p (versions_at m e.0)) (e.0 ∷ ts) ts) (picked_in p m es are.1)

-- by their versions
pub picked_is : (p : List Version → Bool) (es : Entries) → IsStrictlySortedBy tuple_cmp (keys es) → pick (λ e. p e.1) es ≡ filter (λ t. p (versions_at es t)) (keys es)
picked_is p es sorted = picked_in p es es (all_in es sorted)

-- a second test, of the tuples alone
pub picked_both : (g : Tuple → Bool) (f : Tuple × List Version → Bool) (es : Entries) → pick (λ e. f e && g e.0) es ≡ filter g (pick f es)
picked_both g f [] = refl
picked_both g f (e ∷ es) = by_test (f e) (picked_both g f es)
  where
    by_test : (b : Bool) → pick (λ e. f e && g e.0) es ≡ filter g (pick f es)
        → cond (b && g e.0) (e.0 ∷ pick (λ e. f e && g e.0) es) (pick (λ e. f e && g e.0) es) ≡ filter g (cond b (e.0 ∷ pick f es) (pick f es))
    by_test true rest = ap (λ ts. cond (g e.0) (e.0 ∷ ts) ts) rest
    by_test false rest = rest

-- one entry more
module _ (f : Tuple × List Version → Bool) (es rest : Entries) (e : Tuple × List Version) (is : es ≡ e ∷ rest) where
  pub one_picked : (old : List Tuple) → f e ≡ true → (old ++ e.0 ∷ []) ++ pick f rest ≡ old ++ pick f es
  one_picked old passes =
      append_assoc old (e.0 ∷ []) (pick f rest)
      ∙ sym (ap (λ xs. old ++ pick f xs) is ∙ ap (λ b. old ++ cond b (e.0 ∷ pick f rest) (pick f rest)) passes)

  pub one_left : f e ≡ false → pick f rest ≡ pick f es
  one_left fails = sym (ap (pick f) is ∙ ap (λ b. cond b (e.0 ∷ pick f rest) (pick f rest)) fails)

  pub find_here : (g : Tuple → Bool) → f e ≡ true → g e.0 ≡ true → Some e.0 ≡ find g (pick f es)
  find_here g passes found =
      sym (ap (λ xs. find g (pick f xs)) is ∙ ap (λ b. find g (cond b (e.0 ∷ pick f rest) (pick f rest))) passes
      ∙ ap (λ b. cond b (Some e.0) (find g (pick f rest))) found)

  pub find_later : (g : Tuple → Bool) → f e ≡ true → g e.0 ≡ false → find g (pick f rest) ≡ find g (pick f es)
  find_later g passes missed =
      sym (ap (λ xs. find g (pick f xs)) is ∙ ap (λ b. find g (cond b (e.0 ∷ pick f rest) (pick f rest))) passes
      ∙ ap (λ b. cond b (Some e.0) (find g (pick f rest))) missed)
