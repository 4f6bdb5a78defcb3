-- What the making of an index has so far.
use Rattle.std.proofs.Common.{◌≡◌, ℕ, ◌<◌, List, [], ◌∷◌, ◌++◌, length, Bool, true, false, refl, ap, sym, subst, ◌∙◌, inl, inr, ⊎_elim, arith}
use Rattle.std.specs.Prelude.{◌↔◌, ◌⊎◌, ◌&&◌, ◌||◌, not, Any, Contains, Some, slice_index_or}
use Rattle.std.specs.List.{slice_get, list_all}
use Rattle.std.specs.List.Sorted.{IsStrictlyIncreasing}
use Rattle.std.specs.Cmp.{nat_eq_equiv}
use Rattle.std.proofs.lemmas.Bool.{and_parts, or_cases, false≢true}
use Rattle.std.proofs.lemmas.List.{get_or_default}
use Rattle.std.proofs.lemmas.List.Elements.{Contains-append_left, Contains-push, Contains-push_cases}
use Rattle.std.proofs.lemmas.Map.Views.{list_any-from_Contains}
use Rattle.names.specs.declared.node.Node.{Node}
use Rattle.meaning.specs.Snap.{Snap}
use Rattle.meaning.proofs.Lists.{contains_here, contains_there, contains_cases, contains_none}
use Rattle.graphs.specs.Groups.{IsGroupArc}
use Rattle.idsets.specs.Sets.{has}
use Rattle.idsets.proofs.Having.{place_in}
use Rattle.leopard.specs.Build.{IsOwner, IsListed, IsSetOf}
use Rattle.leopard.specs.inside.Asking.{AreAll, Gains}
use Rattle.leopard.specs.inside.Closing.{IsIdArc, IdWalk}
use Rattle.leopard.proofs.Gather.{any_contains}
use Rattle.leopard.proofs.Rounds.{IsRound, first_round, next_round, last_round, listed_first, listed_grows, listed_least, id_first, id_grows, id_least}

-- ---- lists

pub pushed : {A : Type 0} (xs : List A) (x n : A) → Contains (xs ++ x ∷ []) n ↔ (Contains xs n ⊎ (n ≡ x))
pushed xs x n = (
  λ c. ⊎_elim inl (λ e. inr (sym e)) (Contains-push_cases xs x n c),
  λ h. ⊎_elim (λ c. Contains-append_left xs (x ∷ []) n c) (λ e. subst (Contains (xs ++ x ∷ [])) (sym e) (Contains-push xs x)) h,
)

-- an item that is there is no more
pub there_already : {A : Type 0} (xs : List A) (x n : A) → Contains xs x → Contains xs n ↔ (Contains xs n ⊎ (n ≡ x))
there_already xs x n c = (inl, λ h. ⊎_elim (λ d. d) (λ e. subst (Contains xs) (sym e) c) h)

pub nothing_yet : {A : Type 0} (xs : List A) (n : A) → xs ≡ [] → Contains xs n → ⊥
nothing_yet xs n none c = contains_none n (subst (λ l. Contains l n) none c)

pub pass_all : {A : Type 0} (p : A → Bool) (xs : List A) → ((x : A) → Contains xs x → p x ≡ true) → list_all p xs ≡ true
pass_all p [] h = refl
pass_all p (y ∷ ys) h = ap (λ b. b && list_all p ys) (h y (contains_here y ys)) ∙ pass_all p ys (λ x c. h x (contains_there y x ys c))

-- each that is looked at is new, or was there
pub new_more : {A : Type 0} (nodes groups fresh fresh2 s rest : List A) (x : A) → s ≡ x ∷ rest
    → ((n : A) → Contains nodes n → (Contains groups n ⊎ Contains fresh n) ⊎ Contains s n)
    → ((n : A) → Contains fresh n → Contains fresh2 n) → Contains groups x ⊎ Contains fresh2 x
    → (n : A) → Contains nodes n → (Contains groups n ⊎ Contains fresh2 n) ⊎ Contains rest n
new_more nodes groups fresh fresh2 s rest x is so_far keeps here n c = ⊎_elim
    (λ h. inl (⊎_elim inl (λ f. inr (keeps n f)) h))
    (λ left. ⊎_elim
    (λ e. inl (subst (λ m. Contains groups m ⊎ Contains fresh2 m) e here))
    inr
    (contains_cases x n rest (subst (λ l. Contains l n) is left)))
    (so_far n c)

-- ---- rounds of groups

module _ (S : Snap) where
  pub groups_first : (groups fresh : List Node) → AreAll (IsOwner S) groups → AreAll (Contains groups) fresh → IsRound (IsGroupArc S) (IsOwner S) (IsListed S) (Contains groups) (Contains fresh)
  groups_first groups fresh own copy = first_round (IsGroupArc S) (IsOwner S) (IsListed S) (Contains groups) (Contains fresh) own copy (listed_first S)

  pub groups_next : (groups fresh ends fresh2 groups2 nodes : List Node) → IsRound (IsGroupArc S) (IsOwner S) (IsListed S) (Contains groups) (Contains fresh)
      → nodes ≡ fresh → AreAll (λ m. Any (λ n. IsGroupArc S n m) nodes) ends
      → ((n : Node) → Contains fresh2 n → Contains ends n) → ((n : Node) → Contains ends n → Contains groups n ⊎ Contains fresh2 n)
      → Gains (Contains fresh2) groups groups2 → IsRound (IsGroupArc S) (IsOwner S) (IsListed S) (Contains groups2) (Contains fresh2)
  groups_next groups fresh ends fresh2 groups2 nodes round is arcs only covers all =
      next_round (IsGroupArc S) (IsOwner S) (IsListed S) (Contains groups) (Contains fresh) (Contains groups2) (Contains fresh2) round (listed_grows S)
      (λ m c. let (k, n, lt, e, arc) = (arcs m).0 (only m c) in (n, subst (λ (l : List Node). Contains l n) is (k, lt, e), arc))
      (λ n m c arc. covers m ((arcs m).1 (any_contains (λ (h : Node). IsGroupArc S h m) nodes n (subst (λ (l : List Node). Contains l n) (sym is) c) arc)))
      all

  pub groups_last : (groups fresh : List Node) → IsRound (IsGroupArc S) (IsOwner S) (IsListed S) (Contains groups) (Contains fresh) → fresh ≡ [] → AreAll (IsListed S) groups
  groups_last groups fresh round none =
      last_round (IsGroupArc S) (IsOwner S) (IsListed S) (Contains groups) (Contains fresh) round (λ n c. nothing_yet fresh n none c) (listed_least S)

  pub listed_closed : (groups : List Node) → AreAll (IsListed S) groups → (n m : Node) → Contains groups n → IsGroupArc S n m → Contains groups m
  listed_closed groups all n m c arc = (all m).1 (listed_grows S n m ((all n).0 c) arc)

-- ---- rounds of ids

pub has_nothing : (ids : List ℕ) (id : ℕ) → ids ≡ [] → has ids id ≡ true → ⊥
has_nothing ids id none h = false≢true (ap (λ l. has l id) (sym none) ∙ h)

pub none_of_length : {A : Type 0} (xs : List A) → length xs ≡ 0 → xs ≡ []
none_of_length [] e = refl
none_of_length (x ∷ xs) e = absurd (omega (arith, e))

module _ (arcs : List (List ℕ)) (from : ℕ) where
  abbrev pub IsIdRound : List ℕ → List ℕ → Type 0
  IsIdRound all fresh = IsRound (IsIdArc arcs) (λ i. i ≡ from) (IdWalk arcs from) (λ i. has all i ≡ true) (λ i. has fresh i ≡ true)

  pub ids_first : (all fresh : List ℕ) → ((i : ℕ) → (has all i ≡ true) ↔ (i ≡ from)) → ((i : ℕ) → (has fresh i ≡ true) ↔ (i ≡ from)) → IsIdRound all fresh
  ids_first all fresh one other = first_round (IsIdArc arcs) (λ i. i ≡ from) (IdWalk arcs from) (λ i. has all i ≡ true) (λ i. has fresh i ≡ true) one
      (λ i. (λ h. (one i).1 ((other i).0 h), λ h. (other i).1 ((one i).0 h))) (id_first arcs from)

  pub ids_next : (all fresh ids ends fresh2 all2 : List ℕ) → IsIdRound all fresh → ids ≡ fresh → ((j : ℕ) → (has ends j ≡ true) ↔ Any (λ i. IsIdArc arcs i j) ids)
      → ((i : ℕ) → has fresh2 i ≡ (has ends i && not (has all i))) → ((i : ℕ) → has all2 i ≡ (has all i || has fresh2 i)) → IsIdRound all2 fresh2
  ids_next all fresh ids ends fresh2 all2 round is leads new joins =
      next_round (IsIdArc arcs) (λ i. i ≡ from) (IdWalk arcs from) (λ i. has all i ≡ true) (λ i. has fresh i ≡ true) (λ i. has all2 i ≡ true) (λ i. has fresh2 i ≡ true) round (id_grows arcs from)
      (λ j h.
      let parts = and_parts (has ends j) (not (has all j)) (sym (new j) ∙ h) in
      let (k, i, lt, e, arc) = (leads j).0 parts.0 in
      (i, list_any-from_Contains nat_eq_equiv i fresh (subst (λ l. Contains l i) is (k, lt, e)), arc))
      (λ i j h arc.
      let (k, lt, e) = place_in fresh i h in
      let led = (leads j).1 (any_contains (λ n. IsIdArc arcs n j) ids i (subst (λ l. Contains l i) (sym is) (k, lt, at_any fresh k i lt e)) arc) in
      either j led (has all j) refl)
      (λ j. (λ h. or_cases (has all j) (has fresh2 j) (sym (joins j) ∙ h), λ h. joins j ∙ both (has all j) (has fresh2 j) h))
    where
      at_any : (xs : List ℕ) (k i : ℕ) → k < length xs → slice_index_or xs k 0 ≡ i → slice_index_or xs k i ≡ i
      at_any xs k i lt e = get_or_default xs k i 0 lt ∙ e

      either : (j : ℕ) → has ends j ≡ true → (b : Bool) → has all j ≡ b → (has all j ≡ true) ⊎ (has fresh2 j ≡ true)
      either j led true e = inl e
      either j led false e = inr (new j ∙ ap (λ b. b && not (has all j)) led ∙ ap not e)

      both : (a b : Bool) → (a ≡ true) ⊎ (b ≡ true) → (a || b) ≡ true
      both true b h = refl
      both false b (inl e) = absurd (false≢true e)
      both false b (inr e) = e

  pub ids_last : (all fresh : List ℕ) → IsIdRound all fresh → fresh ≡ [] → (i : ℕ) → (has all i ≡ true) ↔ IdWalk arcs from i
  ids_last all fresh round none = last_round (IsIdArc arcs) (λ i. i ≡ from) (IdWalk arcs from) (λ i. has all i ≡ true) (λ i. has fresh i ≡ true) round (λ i h. has_nothing fresh i none h) (id_least arcs from)

-- ---- the ids of nodes

pub ids_are : (groups nodes : List Node) (ids set : List ℕ) → IsStrictlyIncreasing set → ((id : ℕ) → has set id ≡ has ids id)
    → ((id : ℕ) → (has ids id ≡ true) ↔ Any (λ (n : Node). slice_get groups id ≡ Some n) nodes) → IsSetOf groups (Contains nodes) set
ids_are groups nodes ids set ascending same are = record {
  ascending = ascending;
  ids = λ id. (
    λ h. let (k, n, lt, e, at) = (are id).0 (sym (same id) ∙ h) in (n, at, (k, lt, e)),
    λ (n, at, c). same id ∙ (are id).1 (any_contains (λ (m : Node). slice_get groups id ≡ Some m) nodes n c at),
  );
}
