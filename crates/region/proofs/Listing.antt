-- Lists beside sets.
use Rattle.std.proofs.Common.{rules, ℕ, zero, suc, ◌<◌, ◌+◌, length, take, get_or, ⊎_elim, ◌⊎◌, inl, inr, ◌≡◌, Bool, true, false, ◌||◌, cond, not, nat_eq, List, [], ◌∷◌, ◌++◌, refl, sym, ◌∙◌, ap, arith}
use Rattle.std.specs.Prelude.{Result, Ok, Err, OnOk, OnErr}
use Rattle.std.specs.Ordering.{nat_cmp, is_eq}
use Rattle.std.proofs.lemmas.List.{take_more}
use Rattle.std.proofs.lemmas.Bool.{or_cases, eqb-true, false≢true}
use Rattle.least_sets.proofs.Gives.{has_cases}
use Rattle.std.specs.List.{list_any, IsDistinct}
use Rattle.std.specs.BTreeMap.{is_at}
use Rattle.std.specs.BTreeSet.{BTreeSet, contains}
use Rattle.least_sets.specs.World.{has}
use Rattle.least_sets.specs.Walks.{Adds}
use Rattle.least_sets.proofs.Found.{distinct_none, adds_push}
use Rattle.region.specs.Nodes.{IsListOf}

pub eq_is : (a b : ℕ) → is_eq (nat_cmp a b) ≡ nat_eq a b
eq_is a b = Prim.search rules

pub turn_eq : (a b : ℕ) → nat_eq a b ≡ nat_eq b a
turn_eq a b = Prim.search rules

cond_or : (a b : Bool) → cond a true b ≡ (b || a)
cond_or true true = refl
cond_or true false = refl
cond_or false true = refl
cond_or false false = refl

pub listing_none : (list : List ℕ) (seen : BTreeSet ℕ) → list ≡ [] → seen.keys ≡ [] → IsListOf list seen
listing_none list seen e f = record {
  distinct = distinct_none list e;
  members = λ u. ap (λ ks. list_any (is_at (nat_cmp u)) ks) f ∙ sym (ap (λ xs. has xs u) e);
}

pub listing_more : (list longer : List ℕ) (seen wider : BTreeSet ℕ) (id : ℕ) → IsListOf list seen → longer ≡ list ++ id ∷ []
    → contains nat_cmp seen id ≡ false → ((q : ℕ) → contains nat_cmp wider q ≡ cond (is_eq (nat_cmp id q)) true (contains nat_cmp seen q)) → IsListOf longer wider
listing_more list longer seen wider id was e off more = record {
  distinct = rw e adds.distinct;
  members = λ u. more u ∙ ap (λ b. cond b true (contains nat_cmp seen u)) (eq_is id u ∙ turn_eq id u)
      ∙ cond_or (nat_eq u id) (contains nat_cmp seen u) ∙ ap (λ b. b || nat_eq u id) (was.members u)
      ∙ sym (adds.members u) ∙ ap (λ xs. has xs u) (sym e);
}
  where
    adds : Adds list (list ++ id ∷ []) (λ u. nat_eq u id)
    adds = adds_push list id was.distinct (sym (was.members id) ∙ off)

pub listing_adds : (list longer : List ℕ) (seen : BTreeSet ℕ) (id : ℕ) → IsListOf list seen → longer ≡ list ++ id ∷ []
    → contains nat_cmp seen id ≡ false → Adds list longer (λ u. nat_eq u id)
listing_adds list longer seen id was e off = rw e (adds_push list id was.distinct (sym (was.members id) ∙ off))

or_already : (a b : Bool) → (b ≡ true → a ≡ true) → a ≡ (a || b)
or_already true b f = refl
or_already false true f = f refl
or_already false false f = refl

-- what is there is not added
pub adds_none : (xs : List ℕ) (more : ℕ → Bool) → IsDistinct nat_eq xs → ((u : ℕ) → more u ≡ true → has xs u ≡ true) → Adds xs xs more
adds_none xs more d f = record {
  members = λ u. or_already (has xs u) (more u) (f u);
  distinct = d;
  front = λ i le. refl;
  longer = omega arith;
}

pub not_true : (x : Bool) → not x ≡ true → x ≡ false
not_true true h = sym h
not_true false h = refl

pub on_err_all : {T E P : Type 0} (r : Result T E) → P → OnErr r P
on_err_all (Ok x) p = tt
on_err_all (Err e) p = p

pub on_ok_then : {T E P Q : Type 0} (r : Result T E) → (P → Q) → OnOk r P → OnOk r Q
on_ok_then (Ok x) f p = f p
on_ok_then (Err e) f p = tt

pub on_ok_both : {T E P Q R : Type 0} (r : Result T E) → (P → Q → R) → OnOk r P → OnOk r Q → OnOk r R
on_ok_both (Ok x) f p q = f p q
on_ok_both (Err e) f p q = tt

place_one : (xs : List ℕ) (i d : ℕ) → i < length xs → get_or xs i d ≡ get_or xs i (get_or xs i d)
place_one [] i d lt = absurd (omega arith)
place_one (x ∷ xs) zero d lt = refl
place_one (x ∷ xs) (suc i) d lt = place_one xs i d (omega arith)

pub place_same : (xs ys : List ℕ) (i d : ℕ) → xs ≡ ys → i < length xs → get_or xs i d ≡ get_or ys i (get_or xs i d)
place_same xs ys i d e lt = place_one xs i d lt ∙ ap (λ zs. get_or zs i (get_or xs i d)) e

pub has_next : (xs : List ℕ) (i m d : ℕ) → i < length xs → has (take (i + 1) xs) m ≡ true → (has (take i xs) m ≡ true) ⊎ (m ≡ get_or xs i d)
has_next xs i m d lt h = ⊎_elim (λ a. inl a)
    (λ a. ⊎_elim (λ q. inr (eqb-true m (get_or xs i d) q)) (λ q. absurd (false≢true q)) (or_cases (nat_eq m (get_or xs i d)) false a))
    (has_cases (take i xs) (get_or xs i d ∷ []) m (ap (λ ys. has ys m) (sym (take_more xs i d lt)) ∙ h))
