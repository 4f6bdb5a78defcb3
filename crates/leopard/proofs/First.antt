-- The first nodes of a set.
use Rattle.std.proofs.Common.{◌≡◌, ℕ, zero, suc, ◌<◌, ◌≤◌, List, [], ◌∷◌, take, length, get_or, refl, ap, arith, sym, subst, ◌∙◌, inl, inr, ⊎_elim, length-take}
use Rattle.std.specs.Prelude.{◌↔◌, ◌⊎◌, Contains, All, Any, Some, min}
use Rattle.std.specs.List.{AllByRecursion, slice_get}
use Rattle.std.specs.List.Sorted.{IsStrictlyIncreasing}
use Rattle.std.specs.List.Sorted.{IsStrictlySortedBy}
use Rattle.std.specs.declared.cmp.Ordering.{Ordering}
use Rattle.std.specs.declared.cmp.Ordering.TheVariants.{Less, Equal}
use Rattle.std.proofs.lemmas.Bool.{cases_lt}
use Rattle.std.proofs.lemmas.List.{get_or-take, get_or_default}
use Rattle.std.proofs.lemmas.Map.Views.{list_any-from_Contains}
use Rattle.std.specs.Cmp.{nat_eq_equiv}
use Rattle.std.proofs.lemmas.List.Elements.{All-nil, All-cons}
use Rattle.std.proofs.lemmas.Map.Keys.{Less-from_sorted}
use Rattle.std.proofs.lemmas.Option.{slice_get_within, slice_get-get_or, get_or_from_slice_get}
use Rattle.idsets.proofs.Having.{place_in}
use Rattle.idsets.proofs.Rising.{below_later, rising_take, rising_drop}
use Rattle.meaning.proofs.TupleSets.{nodes_total}
use Rattle.names.specs.Order.{node_cmp}
use Rattle.names.specs.declared.node.Node.{Node}
use Rattle.meaning.proofs.Lists.{contains_here, contains_there, contains_cases, contains_none}
use Rattle.leopard.specs.Answers.{AreFirst}
use Rattle.leopard.specs.inside.Asking.{AreAll, Gains}
use Rattle.leopard.specs.Finding.{Finds}
use Rattle.leopard.proofs.Numbers.{not_less_itself, each_less}
use Rattle.leopard.proofs.Gather.{any_contains}

each_taken : {K : Type 0} (P : K → Type 0) (k : ℕ) (xs : List K) → AllByRecursion P xs → AllByRecursion P (take k xs)
each_taken P zero xs all = tt
each_taken P (suc k) [] all = tt
each_taken P (suc k) (x ∷ xs) all = (all.0, each_taken P k xs all.1)

each_has : {K : Type 0} (P : K → Type 0) (xs : List K) (x : K) → AllByRecursion P xs → Contains xs x → P x
each_has P [] x all c = absurd (contains_none x c)
each_has P (y ∷ ys) x all c = ⊎_elim (λ e. subst P e all.0) (λ h. each_has P ys x all.1 h) (contains_cases y x ys c)

taken_sorted : {K : Type 0} (cmp : K → K → Ordering) (k : ℕ) (xs : List K) → IsStrictlySortedBy cmp xs → IsStrictlySortedBy cmp (take k xs)
unfolding IsStrictlySortedBy
taken_sorted cmp zero xs s = tt
taken_sorted cmp (suc k) [] s = tt
taken_sorted cmp (suc k) (x ∷ xs) s = (each_taken (λ y. cmp x y ≡ Less) k xs s.0, taken_sorted cmp k xs s.1)

taken_few : {K : Type 0} (k : ℕ) (xs : List K) → length (take k xs) ≤ k
taken_few zero xs = omega arith
taken_few (suc k) [] = omega arith
taken_few (suc k) (x ∷ xs) = omega (arith, taken_few k xs)

taken_of : {K : Type 0} (k : ℕ) (xs : List K) (x : K) → Contains (take k xs) x → Contains xs x
taken_of zero xs x c = absurd (contains_none x c)
taken_of (suc k) [] x c = absurd (contains_none x c)
taken_of (suc k) (y ∷ ys) x c = ⊎_elim (λ e. subst (Contains (y ∷ ys)) e (contains_here y ys)) (λ h. contains_there y x ys (taken_of k ys x h)) (contains_cases y x (take k ys) c)

-- what is not taken comes after what is, and then as many are taken as may be
taken_or_after : {K : Type 0} (cmp : K → K → Ordering) (k : ℕ) (xs : List K) (x : K) → IsStrictlySortedBy cmp xs → Contains xs x
    → Contains (take k xs) x ⊎ ((length (take k xs) ≡ k) × All (λ y. cmp y x ≡ Less) (take k xs))
unfolding IsStrictlySortedBy
taken_or_after cmp zero xs x s c = inr (refl, All-nil (λ y. cmp y x ≡ Less))
taken_or_after cmp (suc k) [] x s c = absurd (contains_none x c)
taken_or_after cmp (suc k) (y ∷ ys) x s c = ⊎_elim
    (λ e. inl (subst (Contains (y ∷ take k ys)) e (contains_here y (take k ys))))
    (λ h. ⊎_elim
    (λ t. inl (contains_there y x (take k ys) t))
    (λ (len, all). inr (ap suc len, All-cons (λ z. cmp z x ≡ Less) y (take k ys) (each_has (λ z. cmp y z ≡ Less) ys x s.0 h) all))
    (taken_or_after cmp k ys x s.1 h))
    (contains_cases y x ys c)

-- the first of a set in order are the first of those that it has
pub are_first : (limit : ℕ) (P : Node → Type 0) (nodes first : List Node) → IsStrictlySortedBy node_cmp nodes → AreAll P nodes → first ≡ take limit nodes → AreFirst limit P first
are_first limit P nodes first sorted all is = subst (AreFirst limit P) (sym is) (record {
  sorted = taken_sorted node_cmp limit nodes sorted;
  few = taken_few limit nodes;
  only = λ n c. (all n).0 (taken_of limit nodes n c);
  others = λ n p. taken_or_after node_cmp limit nodes n sorted ((all n).1 p);
})

-- ---- those that are found, where all ids were turned into names

pub all_named : (names : List Node) (ids : List ℕ) (others nodes : List Node) → Gains (λ n. Any (λ id. slice_get names id ≡ Some n) ids) others nodes → AreAll (Finds names ids others) nodes
all_named names ids others nodes gains n = (
  λ c. ⊎_elim
      (λ h. inr h)
      (λ (k, id, lt, e, at). inl (id, at, list_any-from_Contains nat_eq_equiv id ids (k, lt, e)))
      ((gains n).0 c),
  λ f. (gains n).1 (⊎_elim
      (λ (id, at, h).
      let (k, lt, here) = place_in ids id h in
      inr (any_contains (λ j. slice_get names j ≡ Some n) ids id (k, lt, get_or_default ids k id 0 lt ∙ here) at))
      (λ c. inl c)
      f),
)

-- ---- the first of those that are found, where no more ids than that were turned into names

-- as many as there are of these stand first, and all of them below
taken_below : (ts ms : List Node) (n : Node) → IsStrictlySortedBy node_cmp ts → IsStrictlySortedBy node_cmp ms → ((x : Node) → Contains ts x → Contains ms x)
    → AllByRecursion (λ x. node_cmp x n ≡ Less) ts → (length (take (length ts) ms) ≡ length ts) × AllByRecursion (λ x. node_cmp x n ≡ Less) (take (length ts) ms)
unfolding IsStrictlySortedBy
taken_below [] ms n st sm within below = (refl, tt)
taken_below (t ∷ ts) [] n st sm within below = absurd (contains_none t (within t (contains_here t ts)))
taken_below (t ∷ ts) (m ∷ ms) n st sm within below =
    let t_there = contains_cases m t ms (within t (contains_here t ts)) in
    let m_below : node_cmp m n ≡ Less = ⊎_elim
    (λ e. subst (λ (x : Node). node_cmp x n ≡ Less) (sym e) below.0)
    (λ d. nodes_total.trans m t n (each_less m ms sm.0 t d) below.0)
    t_there in
    let later : (x : Node) → Contains ts x → Contains ms x = λ x c. ⊎_elim
    (λ e.
    let t_m : node_cmp t m ≡ Less = subst (λ (y : Node). node_cmp t y ≡ Less) (sym e) (each_less t ts st.0 x c) in
    ⊎_elim
    (λ f. absurd (not_less_itself m (subst (λ (y : Node). node_cmp y m ≡ Less) (sym f) t_m)))
    (λ d. absurd (not_less_itself m (nodes_total.trans m t m (each_less m ms sm.0 t d) t_m)))
    t_there)
    (λ d. d)
    (contains_cases m x ms (within x (contains_there t x ts c))) in
    let rest = taken_below ts ms n st.1 sm.1 later below.1 in
    (ap suc rest.0, (m_below, rest.1))

all_of : {K : Type 0} (P : K → Type 0) (xs : List K) → AllByRecursion P xs → All P xs
all_of P [] h = All-nil P
all_of P (x ∷ xs) h = All-cons P x xs h.0 (all_of P xs h.1)

by_places : (P : ℕ → Type 0) (xs : List ℕ) → ((k : ℕ) → k < length xs → P (get_or xs k 0)) → AllByRecursion P xs
by_places P [] h = tt
by_places P (x ∷ xs) h = (h 0 (omega arith), by_places P xs (λ k lt. h (suc k) (omega (arith, lt))))

rises_on : (x : ℕ) (xs : List ℕ) → IsStrictlyIncreasing (x ∷ xs) → IsStrictlyIncreasing xs
rises_on x xs up = rising_drop (x ∷ xs) 1 up

module _ (names : List Node) (sorted : IsStrictlySortedBy node_cmp names) (d : Node) where
  abbrev named : List ℕ → List Node
  named [] = []
  named (i ∷ is) = get_or names i d ∷ named is

  named_length : (is : List ℕ) → length (named is) ≡ length is
  named_length [] = refl
  named_length (i ∷ is) = ap suc (named_length is)

  named_after : (i : ℕ) (is : List ℕ) → AllByRecursion (λ j. i < j) is → AllByRecursion (λ j. j < length names) is → AllByRecursion (λ y. node_cmp (get_or names i d) y ≡ Less) (named is)
  named_after i [] after within = tt
  named_after i (j ∷ js) after within = (Less-from_sorted node_cmp names i j d sorted after.0 within.0, named_after i js after.1 within.1)

  named_sorted : (is : List ℕ) → IsStrictlyIncreasing is → AllByRecursion (λ j. j < length names) is → IsStrictlySortedBy node_cmp (named is)
  unfolding IsStrictlySortedBy
  named_sorted [] up within = tt
  named_sorted (i ∷ is) up within = (
    named_after i is (by_places (λ j. i < j) is (λ k lt. below_later (i ∷ is) 0 (suc k) up (omega arith) (omega (arith, lt)))) within.1,
    named_sorted is (rises_on i is up) within.1,
  )

  named_below : (id : ℕ) (n : Node) → get_or names id d ≡ n → id < length names → (is : List ℕ) → AllByRecursion (λ j. j < id) is → AllByRecursion (λ y. node_cmp y n ≡ Less) (named is)
  named_below id n at lt [] below = tt
  named_below id n at lt (i ∷ is) below = (subst (λ (y : Node). node_cmp (get_or names i d) y ≡ Less) at (Less-from_sorted node_cmp names i id d sorted below.0 lt), named_below id n at lt is below.1)

  named_any : (is : List ℕ) → AllByRecursion (λ j. j < length names) is → (x : Node) → Contains (named is) x → Any (λ id. slice_get names id ≡ Some x) is
  named_any [] within x c = absurd (contains_none x c)
  named_any (i ∷ is) within x c = ⊎_elim
      (λ e. any_contains (λ id. slice_get names id ≡ Some x) (i ∷ is) i (contains_here i is) (slice_get-get_or names i d within.0 ∙ ap (λ y. Some y) e))
      (λ h. let (k, j, lt, e, at) = named_any is within.1 x h in any_contains (λ id. slice_get names id ≡ Some x) (i ∷ is) j (contains_there i j is (k, lt, e)) at)
      (contains_cases (get_or names i d) x (named is) c)

each_weaker : (P Q : ℕ → Type 0) (xs : List ℕ) → ((x : ℕ) → P x → Q x) → AllByRecursion P xs → AllByRecursion Q xs
each_weaker P Q [] f h = tt
each_weaker P Q (x ∷ xs) f h = (f x h.0, each_weaker P Q xs f h.1)

module _ (limit : ℕ) (names : List Node) (ids firsts : List ℕ) (others nodes out : List Node) (sorted : IsStrictlySortedBy node_cmp names) (up : IsStrictlyIncreasing ids)
    (few : firsts ≡ take (min limit (length ids)) ids) (in_order : IsStrictlySortedBy node_cmp nodes) (gains : Gains (λ n. Any (λ id. slice_get names id ≡ Some n) firsts) others nodes)
    (is : out ≡ take limit nodes) where
  found_only : (n : Node) → Contains nodes n → Finds names ids others n
  found_only n c = ⊎_elim
      (λ h. inr h)
      (λ (k, id, lt, e, at).
      inl (id, at, list_any-from_Contains nat_eq_equiv id ids (taken_of (min limit (length ids)) ids id (subst (λ l. Contains l id) few (k, lt, e)))))
      ((gains n).0 c)

  found_rest : (n : Node) → Finds names ids others n → Contains (take limit nodes) n ⊎ ((length (take limit nodes) ≡ limit) × All (λ m. node_cmp m n ≡ Less) (take limit nodes))
  found_rest n (inr c) = taken_or_after node_cmp limit nodes n in_order ((gains n).1 (inl c))
  found_rest n (inl (id, at, h)) = by_place (place_in ids id h).0 (place_in ids id h).1 (place_in ids id h).2 (cases_lt (place_in ids id h).0 limit)
    where
      by_place : (k : ℕ) → k < length ids → get_or ids k 0 ≡ id → (k < limit) ⊎ (limit ≤ k) → Contains (take limit nodes) n ⊎ ((length (take limit nodes) ≡ limit) × All (λ m. node_cmp m n ≡ Less) (take limit nodes))
      by_place k lt here (inl l) =
          let m : ℕ = min limit (length ids) in
          let k_m : k < m = omega (arith, l, lt) in
          let there : Contains (take m ids) id = (k, omega (arith, length-take m ids, k_m, lt), get_or-take m ids k id k_m ∙ get_or_default ids k id 0 lt ∙ here) in
          taken_or_after node_cmp limit nodes n in_order ((gains n).1 (inr (any_contains (λ j. slice_get names j ≡ Some n) firsts id (subst (λ l. Contains l id) (sym few) there) at)))
      by_place k lt here (inr r) =
          let m : min limit (length ids) ≡ limit = omega (arith, r, lt) in
          let fs : List ℕ = take limit ids in
          let is_fs : firsts ≡ fs = few ∙ ap (λ j. take j ids) m in
          let long : length fs ≡ limit = omega (arith, length-take limit ids, r, lt) in
          let top : id < length names = slice_get_within names id n at in
          let below : AllByRecursion (λ j. j < id) fs = by_places (λ j. j < id) fs (λ j l. omega (arith, get_or-take limit ids j 0 (omega (arith, l, long)), below_later ids j k up (omega (arith, l, long, r)) lt, here)) in
          let within : AllByRecursion (λ j. j < length names) fs = each_weaker (λ j. j < id) (λ j. j < length names) fs (λ j l. omega (arith, l, top)) below in
          let ts : List Node = named names sorted n fs in
          let stand = taken_below ts nodes n (named_sorted names sorted n fs (rising_take ids limit up) within) in_order
          (λ x c. (gains x).1 (inr (subst (Any (λ j. slice_get names j ≡ Some x)) (sym is_fs) (named_any names sorted n fs within x c))))
          (named_below names sorted n id n (get_or_from_slice_get names id n n at) top fs below) in
          let as_many : length ts ≡ limit = named_length names sorted n fs ∙ long in
          let firsts_below = subst (λ j. (length (take j nodes) ≡ j) × AllByRecursion (λ x. node_cmp x n ≡ Less) (take j nodes)) as_many stand in
          inr (firsts_below.0, all_of (λ x. node_cmp x n ≡ Less) (take limit nodes) firsts_below.1)

  pub first_found : AreFirst limit (Finds names ids others) out
  first_found = subst (AreFirst limit (Finds names ids others)) (sym is) (record {
    sorted = taken_sorted node_cmp limit nodes in_order;
    few = taken_few limit nodes;
    only = λ n c. found_only n (taken_of limit nodes n c);
    others = found_rest;
  })

-- ---- there is one answer

unlike : Less ≡ Equal → ⊥
unlike e = cc

both_ways : (a b : Node) → node_cmp a b ≡ Less → node_cmp b a ≡ Less → ⊥
both_ways a b e f = not_less_itself a (nodes_total.trans a b a e f)

-- lists in order that have the same nodes are one
sorted_one : (xs ys : List Node) → IsStrictlySortedBy node_cmp xs → IsStrictlySortedBy node_cmp ys → ((n : Node) → Contains xs n → Contains ys n) → ((n : Node) → Contains ys n → Contains xs n) → xs ≡ ys
unfolding IsStrictlySortedBy
sorted_one [] [] sx sy to from = refl
sorted_one [] (y ∷ ys) sx sy to from = absurd (contains_none y (from y (contains_here y ys)))
sorted_one (x ∷ xs) [] sx sy to from = absurd (contains_none x (to x (contains_here x xs)))
sorted_one (x ∷ xs) (y ∷ ys) sx sy to from =
    let same : x ≡ y = ⊎_elim
    (λ e. sym e)
    (λ d. ⊎_elim
    (λ f. f)
    (λ g. absurd (both_ways y x (each_less y ys sy.0 x d) (each_less x xs sx.0 y g)))
    (contains_cases x y xs (from y (contains_here y ys))))
    (contains_cases y x ys (to x (contains_here x xs))) in
    ap (λ n. n ∷ xs) same ∙ ap (λ ns. y ∷ ns) (sorted_one xs ys sx.1 sy.1
    (λ n c. ⊎_elim
    (λ e. absurd (not_less_itself x (subst (λ (k : Node). node_cmp x k ≡ Less) (sym (same ∙ e)) (each_less x xs sx.0 n c))))
    (λ d. d)
    (contains_cases y n ys (to n (contains_there x n xs c))))
    (λ n c. ⊎_elim
    (λ e. absurd (not_less_itself y (subst (λ (k : Node). node_cmp y k ≡ Less) (sym (sym same ∙ e)) (each_less y ys sy.0 n c))))
    (λ d. d)
    (contains_cases x n xs (from n (contains_there y n ys c)))))

rec_of : {K : Type 0} (P : K → Type 0) (xs : List K) → ((x : K) → Contains xs x → P x) → AllByRecursion P xs
rec_of P [] h = tt
rec_of P (x ∷ xs) h = (h x (contains_here x xs), rec_of P xs (λ y c. h y (contains_there x y xs c)))

take_whole : {K : Type 0} (k : ℕ) (xs : List K) → length xs ≤ k → take k xs ≡ xs
take_whole zero [] le = refl
take_whole zero (x ∷ xs) le = absurd (omega (arith, le))
take_whole (suc k) [] le = refl
take_whole (suc k) (x ∷ xs) le = ap (λ ys. x ∷ ys) (take_whole k xs (omega (arith, le)))

module _ (limit : ℕ) (P : Node → Type 0) where
  first_in : (one other : List Node) → AreFirst limit P one → AreFirst limit P other → (n : Node) → Contains one n → Contains other n
  first_in one other a b n c = ⊎_elim
      (λ d. d)
      (λ (full, all).
      let below : (m : Node) → Contains other m → node_cmp m n ≡ Less = λ m d. all_has (λ m. node_cmp m n ≡ Less) other all m d in
      let within : (m : Node) → Contains other m → Contains one m = λ m d. ⊎_elim
      (λ e. e)
      (λ (long, each). absurd (both_ways m n (below m d) (all_has (λ k. node_cmp k m ≡ Less) one each n c)))
      (a.others m (b.only m d)) in
      let stand = taken_below other one n b.sorted a.sorted within (rec_of (λ m. node_cmp m n ≡ Less) other below) in
      let whole : take (length other) one ≡ one = take_whole (length other) one (omega (arith, a.few, full)) in
      absurd (not_less_itself n (each_has (λ m. node_cmp m n ≡ Less) one n (subst (AllByRecursion (λ m. node_cmp m n ≡ Less)) whole stand.1) c)))
      (b.others n (a.only n c))
    where
      all_has : {K : Type 0} (Q : K → Type 0) (xs : List K) → All Q xs → (x : K) → Contains xs x → Q x
      all_has Q xs all x (k, lt, at) = subst Q at (all k x lt)

  pub one_answer : (one other : List Node) → AreFirst limit P one → AreFirst limit P other → one ≡ other
  one_answer one other a b = sorted_one one other a.sorted b.sorted (first_in one other a b) (first_in other one b a)

-- the first of the same nodes, in other words
pub first_as : (limit : ℕ) (P Q : Node → Type 0) (nodes : List Node) → ((n : Node) → P n ↔ Q n) → AreFirst limit P nodes → AreFirst limit Q nodes
first_as limit P Q nodes same are = record {
  sorted = are.sorted;
  few = are.few;
  only = λ n c. (same n).0 (are.only n c);
  others = λ n q. are.others n ((same n).1 q);
}
