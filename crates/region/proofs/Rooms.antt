-- How many users the nodes do not hold.
use Rattle.std.proofs.Common.{ℕ, zero, suc, ◌≡◌, ◌<◌, ◌≤◌, ◌^◌, Bool, true, nat_eq, List, [], ◌∷◌, length, get_or, refl, sym, ◌∙◌, ap, subst, arith, ⊎_elim}
use Rattle.std.specs.Prelude.{Some}
use Rattle.std.specs.List.{slice_get}
use Rattle.std.proofs.lemmas.Bool.{or_left, or_right, or_cases, eq-eqb, eqb-true, false≢true}
use Rattle.region.specs.declared.rule.Told.{Told}
use Rattle.least_sets.specs.World.{Fact}
use Rattle.region.specs.Rules.{fact_of}
use Rattle.least_sets.specs.Steps.{free}
use Rattle.least_sets.proofs.Free.{free_le, free_lt}
use Rattle.region.specs.Steps.{rooms, Gains, Tells, is_told}

pub some_eq : {x y : Told} → Some x ≡ Some y → x ≡ y
some_eq e = cc

pub rooms_le : (told : List Told) (b c : ℕ → ℕ → Bool) → ((u m : ℕ) → b u m ≡ true → c u m ≡ true) → rooms told c ≤ rooms told b
rooms_le [] b c f = omega arith
rooms_le (t ∷ ts) b c f =
    let x : free (2 ^ 64) (λ u. c u t.node) ≤ free (2 ^ 64) (λ u. b u t.node) = free_le (2 ^ 64) (λ u. b u t.node) (λ u. c u t.node) (λ u. f u t.node) in
    let y : rooms ts c ≤ rooms ts b = rooms_le ts b c f in
    omega arith

pub rooms_lt : (told : List Told) (b c : ℕ → ℕ → Bool) → ((u m : ℕ) → b u m ≡ true → c u m ≡ true)
    → (i : ℕ) (t : Told) → slice_get told i ≡ Some t → Gains t.node b c → rooms told c < rooms told b
rooms_lt [] b c f i d e g = absurd (cc)
rooms_lt (t ∷ ts) b c f zero d e g =
    let at : Gains t.node b c = subst (λ (x : Told). Gains x.node b c) (sym (some_eq e)) g in
    let x : free (2 ^ 64) (λ u. c u t.node) < free (2 ^ 64) (λ u. b u t.node) = free_lt (2 ^ 64) (λ u. b u t.node) (λ u. c u t.node) (λ u. f u t.node) at.0 at.1 at.2 at.3 in
    let y : rooms ts c ≤ rooms ts b = rooms_le ts b c f in
    omega arith
rooms_lt (t ∷ ts) b c f (suc i) d e g =
    let x : free (2 ^ 64) (λ u. c u t.node) ≤ free (2 ^ 64) (λ u. b u t.node) = free_le (2 ^ 64) (λ u. b u t.node) (λ u. c u t.node) (λ u. f u t.node) in
    let y : rooms ts c < rooms ts b = rooms_lt ts b c f i d e g in
    omega arith

pub tells_at : (world : ℕ → Fact) (told : List Told) → Tells world told → (i : ℕ) (t : Told) → slice_get told i ≡ Some t → world t.node ≡ fact_of t
tells_at world [] all i t e = absurd (cc)
tells_at world (x ∷ xs) all zero t e = subst (λ (y : Told). world y.node ≡ fact_of y) (some_eq e) all.0
tells_at world (x ∷ xs) all (suc i) t e = tells_at world xs all.1 i t e

pub told_at : (told : List Told) (i : ℕ) (t : Told) → slice_get told i ≡ Some t → is_told told t.node ≡ true
told_at [] i t e = absurd (cc)
told_at (x ∷ xs) zero t e = or_left (nat_eq t.node x.node) (is_told xs t.node) (eq-eqb t.node x.node (ap (λ (y : Told). y.node) (sym (some_eq e))))
told_at (x ∷ xs) (suc i) t e = or_right (nat_eq t.node x.node) (is_told xs t.node) (told_at xs i t e)

-- a node told of has a place
pub place_of : (told : List Told) (n : ℕ) → is_told told n ≡ true → (i : ℕ) × (t : Told) × (slice_get told i ≡ Some t) × (t.node ≡ n)
place_of [] n h = absurd (false≢true h)
place_of (x ∷ xs) n h = ⊎_elim
    (λ e. (zero, x, refl, sym (eqb-true n x.node e)))
    (λ r. let p = place_of xs n r in (suc p.0, p.1, p.2, p.3))
    (or_cases (nat_eq n x.node) (is_told xs n) h)

pub slice_at : (xs : List Told) (i : ℕ) (t : Told) → i < length xs → t ≡ get_or xs i t → slice_get xs i ≡ Some t
slice_at [] i t lt e = absurd (omega arith)
slice_at (x ∷ xs) zero t lt e = ap (λ (y : Told). Some y) (sym e)
slice_at (x ∷ xs) (suc i) t lt e = slice_at xs i t (omega arith) e

pub same_told : (told : List Told) (i : ℕ) (x y : Told) → slice_get told i ≡ Some x → slice_get told i ≡ Some y → x ≡ y
same_told told i x y e f = some_eq (sym e ∙ f)

pub get_or_same : (xs : List Told) (i : ℕ) (d : Told) → i < length xs → get_or xs i d ≡ get_or xs i (get_or xs i d)
get_or_same [] i d lt = absurd (omega arith)
get_or_same (x ∷ xs) zero d lt = refl
get_or_same (x ∷ xs) (suc i) d lt = get_or_same xs i d (omega arith)
