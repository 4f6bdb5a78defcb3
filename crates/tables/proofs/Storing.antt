-- A list of commits, over what stands at the floor, that can be loaded.
use Rattle.std.proofs.Common.{◌≡◌, ℕ, ◌+◌, ◌-◌, ◌<◌, ◌≤◌, List, [], ◌∷◌, ◌++◌, length, take, drop, zero, suc, get_or, refl, ap, sym, ◌∙◌, subst, arith, T}
use Rattle.std.specs.Prelude.{Bool, true, false, ◌&&◌, map}
use Rattle.std.specs.FinMap as finite
use Rattle.std.specs.FinMap.{is_sorted}
use Rattle.std.specs.FinMap.Entries.{below_all}
use Rattle.std.specs.List.{AllByRecursion}
use Rattle.std.specs.List.Sorted.{IsStrictlySortedBy}
use Rattle.std.specs.Ordering.{is_lt}
use Rattle.std.specs.declared.cmp.Ordering.{Ordering}
use Rattle.std.specs.declared.cmp.Ordering.TheVariants.{Less, Equal, Greater}
use Rattle.std.proofs.lemmas.List.{take-append-le, drop-take}
use Rattle.names.specs.Order.{tuple_cmp}
use Rattle.names.specs.declared.tuple.Tuple.{Tuple}
use Rattle.names.specs.declared.commit.Commit.{Commit}
use Rattle.meaning.specs.TupleSet as set
use Rattle.meaning.specs.TupleSet.{Tuples}
use Rattle.meaning.specs.Config.{Configured, empty_config}
use Rattle.meaning.specs.Snap.{Snap}
use Rattle.meaning.specs.History.{History, after_commits}
use Rattle.meaning.proofs.TupleSets.{from_items}
use Rattle.rows.specs.Retained.{Retained, newest, newest_of, snap_at, with_commit, after_trim, AreAdmitted, HasRoom, store_from, empty_store}
use Rattle.rows.specs.Loads.{IsWithin, retained_of}
use Rattle.rows.specs.Follows.{IsNext}
use Rattle.rows.specs.declared.loaded.Loaded.{Loaded}
use Rattle.rows.proofs.Admitting.{newest_admitted, none_admitted, of_all}
use Rattle.rows.proofs.Loading as loading
use Rattle.tables.specs.Limits.{IsLoadable}
use Rattle.tables.specs.Listing.{listed, IsListed}
use Rattle.tables.proofs.Room.{stays_within, trims_within, renumbered}

-- ---- lists

take_none : {A : Type 0} (xs : List A) → take 0 xs ≡ []
take_none [] = refl
take_none (x ∷ xs) = refl

self_taken : {A : Type 0} (n : ℕ) (xs : List A) → take n xs ≡ take (length (take n xs)) xs
self_taken {A = A} zero xs = sym (ap (λ (ys : List A). take (length ys) xs) (take_none xs))
self_taken (suc n) [] = refl
self_taken (suc n) (x ∷ xs) = ap (λ ys. x ∷ ys) (self_taken n xs)

length_taken : {A : Type 0} (n : ℕ) (xs : List A) → n ≤ length xs → length (take n xs) ≡ n
length_taken zero xs h = ap length (take_none xs)
length_taken (suc n) [] h = absurd (omega (arith, h))
length_taken (suc n) (x ∷ xs) h = ap suc (length_taken n xs (omega (arith, h)))

most_taken : {A : Type 0} (n : ℕ) (xs : List A) → length (take n xs) ≤ length xs
most_taken zero xs = let none = ap length (take_none xs) in omega (arith, none)
most_taken (suc n) [] = omega arith
most_taken (suc n) (x ∷ xs) = let rest = most_taken n xs in omega (arith, rest)

taken_twice : {A : Type 0} (n m : ℕ) (xs : List A) → n ≤ m → take n (take m xs) ≡ take n xs
taken_twice zero m xs h = take_none (take m xs) ∙ sym (take_none xs)
taken_twice (suc n) zero xs h = absurd (omega (arith, h))
taken_twice (suc n) (suc m) [] h = refl
taken_twice (suc n) (suc m) (x ∷ xs) h = ap (λ ys. x ∷ ys) (taken_twice n m xs (omega (arith, h)))

pub first_fits : {A : Type 0} (xs ys : List A) → xs ≡ take (length xs) ys → length xs ≤ length ys
first_fits xs ys first = let same = ap length first in let most = most_taken (length xs) ys in omega (arith, same, most)

-- ---- the items of a set are in order

less_is : (o : Ordering) → T (is_lt o) → o ≡ Less
less_is Less h = refl
less_is Equal h = absurd h
less_is Greater h = absurd h

both_left : (a b : Bool) → T (a && b) → T a
both_left true b h = tt
both_left false b h = h

both_right : (a b : Bool) → T (a && b) → T b
both_right true b h = h
both_right false b h = absurd h

below_keys : (t : Tuple) (es : List (Tuple × Unit {0})) → T (below_all tuple_cmp t es) → AllByRecursion (λ y. tuple_cmp t y ≡ Less) (map (λ e. e.0) es)
below_keys t [] h = tt
below_keys t (e ∷ es) h = (less_is (tuple_cmp t e.0) (both_left (is_lt (tuple_cmp t e.0)) (below_all tuple_cmp t es) h), below_keys t es (both_right (is_lt (tuple_cmp t e.0)) (below_all tuple_cmp t es) h))

sorted_keys : (es : List (Tuple × Unit {0})) → T (is_sorted tuple_cmp es) → IsStrictlySortedBy tuple_cmp (map (λ e. e.0) es)
unfolding IsStrictlySortedBy
sorted_keys [] h = tt
sorted_keys (e ∷ es) h = (below_keys e.0 es (both_left (below_all tuple_cmp e.0 es) (is_sorted tuple_cmp es) h), sorted_keys es (both_right (below_all tuple_cmp e.0 es) (is_sorted tuple_cmp es) h))

sorted_items : (s : Tuples) → IsStrictlySortedBy tuple_cmp (set.items s)
sorted_items s = sorted_keys (finite.entries s) (finite.entries_sorted s)

-- ---- a new store

none_within : (number : ℕ) (h : History) → h ≡ [] → IsLoadable (store_from number h)
none_within number h none =
    let few = finite.len-empty tuple_cmp (Unit {0}) in
    subst (λ (xs : History). IsLoadable (store_from number xs)) (sym none) (record {
      revs = omega arith;
      rows = omega (arith, few);
      admitted = of_all (store_from number []) (none_admitted empty_config);
      each_ordered = refl;
    })

pub none_is : (number : ℕ) (rows : Retained) (h : History) → rows ≡ empty_store 0 → h ≡ [] → listed number rows h ≡ empty_store number
none_is number rows h empty none = ap (λ (r : Retained). listed number r h) empty ∙ ap (listed number (empty_store 0)) none

pub none_listed : (number : ℕ) (rows : Retained) (h : History) → rows ≡ empty_store 0 → h ≡ [] → IsListed number rows h
none_listed number rows h empty none =
    subst (λ (r : Retained). IsListed number r h) (sym empty) (subst (IsListed number (empty_store 0)) (sym none) (record { first = refl; loadable = none_within number [] refl }))

-- ---- a copy of the commit was pushed

pub pushed_listed : (number : ℕ) (rows t : Retained) (xs ys zs : History) (c d : Commit Configured) → listed number rows xs ≡ t → IsListed number rows xs → IsNext t d
    → ((r : Retained) (e : Commit Configured) → AreAdmitted (newest_of r).held → IsNext r e → HasRoom r e) → ys ≡ xs → c ≡ d → zs ≡ ys ++ c ∷ [] → IsListed number rows zs
pushed_listed number rows t xs ys zs c d is held can room same copy pushed =
    let next : IsNext (listed number rows xs) d = subst (λ (r : Retained). IsNext r d) (sym is) can in
    let all : xs ++ d ∷ [] ≡ zs = cc in
    subst (IsListed number rows) all (record {
      first = held.first ∙ sym (take-append-le (length rows.commits) xs (d ∷ []) (first_fits rows.commits xs held.first));
      loadable = stays_within (listed number rows xs) d held.loadable (room (listed number rows xs) d (newest_admitted (listed number rows xs) held.loadable.admitted) next);
    })

-- ---- as it is loaded

abbrev pub loaded_of : ℕ → Retained → History → Loaded
loaded_of number rows h = record { number = number; floor = rows.floor; config = rows.base.config; tuples = set.items rows.base.tuples; commits = h }

pub retained_loaded : (number : ℕ) (rows : Retained) (h : History) → retained_of (loaded_of number rows h) ≡ listed number rows h
retained_loaded number rows h = ap (λ (s : Tuples). record { number = number; floor = rows.floor; base = record { config = rows.base.config; tuples = s }; commits = h }) (from_items rows.base.tuples)

pub within_loaded : (number : ℕ) (rows : Retained) (h : History) → IsLoadable (listed number rows h) → IsWithin (loaded_of number rows h)
within_loaded number rows h loadable =
    let all : IsLoadable (retained_of (loaded_of number rows h)) = subst IsLoadable (sym (retained_loaded number rows h)) loadable in
    record { ordered = sorted_items rows.base.tuples; revs = all.revs; rows = all.rows; admitted = all.admitted; each_ordered = all.each_ordered }

same_loaded : (number f g : ℕ) (c d : Configured) (ts us : List Tuple) (h k : History) → f ≡ g → c ≡ d → ts ≡ us → h ≡ k
    → ◌≡◌ {A = Loaded} (record { number = number; floor = f; config = c; tuples = ts; commits = h }) (record { number = number; floor = g; config = d; tuples = us; commits = k })
same_loaded number f g c d ts us h k p q r s = cc

at_floor : (r : Retained) (f : ℕ) → f ≡ r.floor → snap_at r f ≡ r.base
at_floor r f is = ap (after_commits r.base) (ap (λ n. take n r.commits) none ∙ take_none r.commits)
  where
    none : f - r.floor ≡ 0
    none = omega (arith, is)

pub is_loaded : (number f : ℕ) (rows : Retained) (view : Snap) (config : Configured) (ts : List Tuple) (h xs : History) → f ≡ rows.floor → view ≡ snap_at rows f → config ≡ view.config → ts ≡ set.items view.tuples → h ≡ xs
    → ◌≡◌ {A = Loaded} (record { number = number; floor = f; config = config; tuples = ts; commits = h }) (loaded_of number rows xs)
is_loaded number f rows view config ts h xs at is config_is tuples_is same =
    let base = is ∙ at_floor rows f at in
    same_loaded number f rows.floor config rows.base.config ts (set.items rows.base.tuples) h xs at (config_is ∙ ap (λ (s : Snap). s.config) base) (tuples_is ∙ ap (λ (s : Snap). set.items s.tuples) base) same

-- ---- the rows take commits

pub room_listed : (r : Retained) (h : History) (k : ℕ) (c : Commit Configured) → IsLoadable (listed r.number r h) → k < length h → c ≡ get_or h k c → HasRoom (listed r.number r (take k h)) c
room_listed r h k c loadable small is =
    subst (λ (q : Retained). HasRoom q c) (retained_loaded r.number r (take k h)) (loading.has_room (loaded_of r.number r h) k c (within_loaded r.number r h loadable) small is)

pub next_listed : (r : Retained) (h : History) (k : ℕ) (c : Commit Configured) → k < length h → c ≡ get_or h k c → with_commit (listed r.number r (take k h)) c ≡ listed r.number r (take (k + 1) h)
next_listed r h k c small is =
    ap (λ (q : Retained). with_commit q c) (sym (retained_loaded r.number r (take k h))) ∙ loading.next_loaded (loaded_of r.number r h) k c small is ∙ retained_loaded r.number r (take (k + 1) h)

-- those that they have taken
pub first_taken : (rows q : Retained) (h : History) (k : ℕ) → q ≡ listed rows.number rows (take k h) → q.commits ≡ take (length q.commits) h
first_taken rows q h k is = ap (λ (r : Retained). r.commits) is ∙ self_taken k h ∙ sym (ap (λ (r : Retained). take (length r.commits) h) is)

pub same_taken : (rows q : Retained) (h : History) → q ≡ listed rows.number rows h → q ≡ listed rows.number rows q.commits
same_taken rows q h is = is ∙ ap (λ (r : Retained). listed rows.number rows r.commits) (sym is)

pub up_taken : (rows q : Retained) (h : History) (k rev : ℕ) → q ≡ listed rows.number rows (take k h) → k ≤ length h → rev - rows.floor ≤ k → rev ≤ newest q
up_taken rows q h k rev is fits far =
    let long = length_taken k h fits in
    subst (λ (r : Retained). rev ≤ newest r) (sym is) (omega (arith, long, far))

-- ---- the floor is raised

-- `mid` are the rows after they took commits, `new` after their trim
module _ (number : ℕ) (rows mid new : Retained) (xs zs : History) (floor : ℕ) (held : IsListed number rows xs) (same : mid ≡ listed rows.number rows mid.commits) (first : mid.commits ≡ take (length mid.commits) xs)
    (low : rows.floor ≤ floor) (high : floor ≤ rows.floor + length xs) (up : floor ≤ newest mid) (raised : new ≡ after_trim mid floor) (dropped : zs ≡ drop (floor - mid.floor) xs) where
  floors : mid.floor ≡ rows.floor
  floors = ap (λ (r : Retained). r.floor) same

  bases : mid.base ≡ rows.base
  bases = ap (λ (r : Retained). r.base) same

  count : ℕ
  count = floor - rows.floor

  enough : floor - rows.floor ≤ length mid.commits
  enough = let f = floors in omega (arith, f, up)

  taken : take (floor - rows.floor) mid.commits ≡ take (floor - rows.floor) xs
  taken = ap (take (floor - rows.floor)) first ∙ taken_twice (floor - rows.floor) (length mid.commits) xs enough

  base_is : (snap_at mid floor) ≡ snap_at (listed number rows xs) floor
  base_is =
      ap (λ f. after_commits mid.base (take (floor - f) mid.commits)) floors ∙ ap (λ (s : Snap). after_commits s (take (floor - rows.floor) mid.commits)) bases ∙ ap (after_commits rows.base) taken

  left_is : zs ≡ drop (floor - rows.floor) xs
  left_is = dropped ∙ ap (λ f. drop (floor - f) xs) floors

  same_parts : (b c : Snap) (h k : History) → b ≡ c → h ≡ k → ◌≡◌ {A = Retained} (record { number = number; floor = floor; base = b; commits = h }) (record { number = number; floor = floor; base = c; commits = k })
  same_parts b c h k p q = cc

  pub trimmed_is : listed number new zs ≡ after_trim (listed number rows xs) floor
  trimmed_is = ap (λ (r : Retained). listed number r zs) raised ∙ same_parts (snap_at mid floor) (snap_at (listed number rows xs) floor) zs (drop (floor - rows.floor) xs) base_is left_is

  -- of the commits that are left, the rows have the first
  rest_is : drop (floor - mid.floor) mid.commits ≡ take (length (drop (floor - mid.floor) mid.commits)) zs
  rest_is = subst (λ (ys : History). ys ≡ take (length ys) zs) (sym parts) (self_taken (length mid.commits - (floor - mid.floor)) zs)
    where
      split : (floor - mid.floor) + (length mid.commits - (floor - mid.floor)) ≡ length mid.commits
      split = let e = enough in let f = floors in omega (arith, e, f)

      parts : drop (floor - mid.floor) mid.commits ≡ take (length mid.commits - (floor - mid.floor)) zs
      parts =
          ap (drop (floor - mid.floor)) (first ∙ ap (λ n. take n xs) (sym split))
          ∙ drop-take (floor - mid.floor) (length mid.commits - (floor - mid.floor)) xs
          ∙ ap (take (length mid.commits - (floor - mid.floor))) (sym dropped)

  pub trimmed_listed : IsListed number new zs
  trimmed_listed = record {
    first = subst (λ (r : Retained). r.commits ≡ take (length r.commits) zs) (sym raised) rest_is;
    loadable = subst IsLoadable (sym trimmed_is) (trims_within (listed number rows xs) floor low high held.loadable);
  }

pub still_listed : (number : ℕ) (rows mid : Retained) (xs : History) → IsListed number rows xs → mid ≡ listed rows.number rows mid.commits → mid.commits ≡ take (length mid.commits) xs → IsListed number mid xs
still_listed number rows mid xs held same first = record { first = first; loadable = subst (λ (r : Retained). IsLoadable (listed number r xs)) (sym same) held.loadable }

pub still_is : (number : ℕ) (rows mid : Retained) (xs : History) → mid ≡ listed rows.number rows mid.commits → listed number mid xs ≡ listed number rows xs
still_is number rows mid xs same = ap (λ (r : Retained). listed number r xs) same

pub can_load : (number : ℕ) (rows : Retained) (xs : History) → IsListed number rows xs → IsLoadable (listed rows.number rows xs)
can_load number rows xs held = renumbered (listed number rows xs) rows.number held.loadable
