-- Sets that were worked out in pieces.
use Rattle.std.proofs.Common.{◌≡◌, ℕ, zero, suc, ◌<◌, ◌+◌, ◌-◌, List, [], ◌∷◌, length, get_or, map, refl, ap, sym, subst, ◌∙◌, arith, Result, Ok, Err}
use Rattle.std.specs.Prelude.{IfOk, MatchResult}
use Rattle.std.specs.List.{AllZip, range_with_len}
use Rattle.rayon.specs.Numbers.{nat_range}
use Rattle.leopard.specs.inside.Closing.{IsWalkSet, AreWalkSetsTo, AreWalkSets}

-- Where each answer of a list is there, what was said of each holds of its value.
all_ok : {X Y : Type 0} (E : Type 0) (P : X → Y → Type 0) (xs : List X) (ys : List Y) → AllZip (λ x (r : Result Y E). IfOk r (P x)) xs (map Ok ys) → AllZip P xs ys
all_ok E P [] [] h = tt
all_ok E P [] (y ∷ ys) h = absurd h
all_ok E P (x ∷ xs) [] h = absurd h
all_ok E P (x ∷ xs) (y ∷ ys) h = (h.0, all_ok E P xs ys h.1)

pub given : {X Y E V : Type 0} (P : X → Y → Type 0) (items : V → List Y) (bad : E → Type 0) (Q : V → Type 0) (xs : List X) (answers : List (Result Y E)) (sets : Result V E)
    → AllZip (λ x r. IfOk r (P x)) xs answers
    → MatchResult sets (λ v. (ys : List Y) × (answers ≡ map Ok ys) × (items v ≡ ys)) bad
    → ((v : V) → AllZip P xs (items v) → Q v)
    → IfOk sets Q
given P items bad Q xs answers (Ok v) each h goes = goes v (all_ok _ P xs (items v) (subst (λ l. AllZip (λ x r. IfOk r (P x)) xs l) (h.1 ∙ ap (map Ok) (sym h.2)) each))
given P items bad Q xs answers (Err e) each h goes = tt

zip_each : (P : ℕ → List ℕ → Type 0) (a n : ℕ) (y : List ℕ) (ys : List (List ℕ)) → P a y → ((k : ℕ) → k < n → P (a + 1 + k) (get_or ys k [])) → (k : ℕ) → k < suc n → P (a + k) (get_or (y ∷ ys) k [])
zip_each P a n y ys first rest zero lt = let e : a ≡ a + 0 = omega arith in subst (λ j. P j y) e first
zip_each P a n y ys first rest (suc k) lt = let e : a + 1 + k ≡ a + suc k = omega arith in subst (λ j. P j (get_or ys k [])) e (rest k (omega (arith, lt)))

zip_at : (P : ℕ → List ℕ → Type 0) (a n : ℕ) (ys : List (List ℕ)) → AllZip P (range_with_len a n) ys → (length ys ≡ n) × ((k : ℕ) → k < n → P (a + k) (get_or ys k []))
zip_at P a zero [] h = (refl, λ k lt. absurd (omega (arith, lt)))
zip_at P a zero (y ∷ ys) h = absurd h
zip_at P a (suc n) [] h = absurd h
zip_at P a (suc n) (y ∷ ys) h = let rest = zip_at P (a + 1) n ys h.1 in (ap suc rest.0, zip_each P a n y ys h.0 rest.1)

pub walks_in_pieces : (arcs sets : List (List ℕ)) → AllZip (IsWalkSet arcs) (nat_range 0 (length arcs)) sets → AreWalkSets arcs sets
walks_in_pieces arcs sets h =
    let each = zip_at (IsWalkSet arcs) 0 (length arcs - 0) sets h in
    let long : length arcs - 0 ≡ length arcs = omega arith in
    record {
      count = each.0 ∙ long;
      each = λ at lt. let e : 0 + at ≡ at = omega arith in subst (λ j. IsWalkSet arcs j (get_or sets at [])) e (each.1 at (omega (arith, lt, long)));
    }
