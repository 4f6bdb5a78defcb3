-- Where a text is cut at the first of its separators.
use Rattle.std.proofs.Common.{◌≡◌, ℕ, ◌<◌, ◌++◌, ◌&&◌, Bool, true, false, List, [], ◌∷◌, Option, Some, None, MatchOption, Bor, length, get_or, not, refl, sym, ap, ◌∙◌, arith, true≢false, append-nil}
use Rattle.std.specs.List.{list_all}
use Rattle.std.proofs.Math.Dec.{eqb}
use Rattle.std.proofs.lemmas.Bool.{eqb-true, eq-eqb}
use Rattle.std.proofs.lemmas.List.Folds.{list_all-append, list_all_at}
use Rattle.std.proofs.lemmas.Str.Pattern.{IsSplitOnceResult, split_after, split_parts}
use Rattle.names.specs.Spelling.{relation_part}

abbrev pub is_other : ℕ → ℕ → Bool
is_other c b = not (eqb b c)

-- no byte of the text is c
pub record Lacks (c : ℕ) (text : List ℕ) : Type 0 where
  pub others : list_all (is_other c) text ≡ true

pub both : (a b : Bool) → (a && b) ≡ true → (a ≡ true) × (b ≡ true)
both true b h = (refl, h)
both false b h = cc

other_than : (p : ℕ → Bool) (c b : ℕ) → p c ≡ false → p b ≡ true → (t : Bool) → eqb b c ≡ t → not t ≡ true
other_than p c b refused passes false e = refl
other_than p c b refused passes true e = absurd (true≢false (sym passes ∙ ap p (eqb-true b c e) ∙ refused))

all_others : (p : ℕ → Bool) (c : ℕ) → p c ≡ false → (xs : List ℕ) → list_all p xs ≡ true → list_all (is_other c) xs ≡ true
all_others p c refused [] h = refl
all_others p c refused (x ∷ xs) h =
    let parts = both _ _ h in
    let here : is_other c x ≡ true = other_than p c x refused parts.0 (eqb x c) refl in
    rw here (all_others p c refused xs parts.1)

-- a text of allowed bytes lacks each byte that is not allowed
pub lacks_refused : (p : ℕ → Bool) (c : ℕ) → p c ≡ false → (xs : List ℕ) → list_all p xs ≡ true → Lacks c xs
lacks_refused p c refused xs h = record { others = all_others p c refused xs h }

pub lacks_joined : (c b : ℕ) → is_other c b ≡ true → (xs ys : List ℕ) → Lacks c xs → Lacks c ys → Lacks c (xs ++ b ∷ ys)
lacks_joined c b other xs ys x y = record { others = rw (list_all-append, x.others, other) y.others }

no_index : (c : ℕ) (xs : List ℕ) → Lacks c xs → (i : ℕ) → i < length xs → get_or xs i 0 ≡ c → ⊥
no_index c xs x i inside e =
    let same : eqb (get_or xs i 0) c ≡ true = grind (arith, e) in
    let fails : is_other c (get_or xs i 0) ≡ false = ap not same in
    absurd (true≢false (sym x.others ∙ list_all_at (is_other c) xs i 0 inside fails))

-- the cut is where the part before the separator lacks it
pub cut_at : (c : ℕ) (text front back : List ℕ) (r : Option (Bor (List ℕ) × Bor (List ℕ))) → IsSplitOnceResult c text r → c < 128 → front ++ c ∷ back ≡ text → Lacks c front
    → MatchOption r ⊥ (λ x. (x.0.now ≡ front) × (x.1.now ≡ back))
cut_at c text front back r split small e lacks = split_after c text front back r split small (sym e) (no_index c front lacks)

-- a text that lacks the separator is not cut
pub not_cut : (c : ℕ) (text : List ℕ) (a b : Bor (List ℕ)) → IsSplitOnceResult c text (Some (a, b)) → c < 128 → Lacks c text → ⊥
not_cut c text a b split small lacks =
    let parts = split_parts c text (Some (a, b)) split small in
    let whole : list_all (is_other c) (a.now ++ c ∷ b.now) ≡ true = ap (list_all (is_other c)) (sym parts.0) ∙ lacks.others in
    let ends : (list_all (is_other c) a.now && list_all (is_other c) (c ∷ b.now)) ≡ true = sym (list_all-append (is_other c) a.now (c ∷ b.now)) ∙ whole in
    let tail = both _ _ ends in
    let here = both _ _ tail.1 in
    let itself : eqb c c ≡ true = eq-eqb c c refl in
    absurd (true≢false (sym here.0 ∙ ap not itself))

-- where an optional relation stands behind the front, the cut tells whether there is one
pub cut_optional : (text front : List ℕ) (relation : Option (List ℕ)) (r : Option (Bor (List ℕ) × Bor (List ℕ))) → IsSplitOnceResult 35 text r → front ++ relation_part relation ≡ text → Lacks 35 front
    → MatchOption r ((relation ≡ None) × (front ≡ text)) (λ x. (x.0.now ≡ front) × (relation ≡ Some x.1.now))
cut_optional text front None None split e lacks = (refl, sym (append-nil front) ∙ e)
cut_optional text front None (Some x) split e lacks =
    let same : front ≡ text = sym (append-nil front) ∙ e in
    absurd (not_cut 35 text x.0 x.1 split (omega arith) (rw (← same) lacks))
cut_optional text front (Some relation) None split e lacks = absurd (cut_at 35 text front relation None split (omega arith) e lacks)
cut_optional text front (Some relation) (Some x) split e lacks =
    let parts = cut_at 35 text front relation (Some x) split (omega arith) e lacks in
    (parts.0, ap Some (sym parts.1))
