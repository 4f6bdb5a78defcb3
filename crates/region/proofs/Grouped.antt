-- Tables that lead to places.
use Rattle.std.proofs.Common.{ℕ, ◌≡◌, ◌+◌, Bool, true, false, ◌||◌, ◌&&◌, nat_eq, List, sym, ◌∙◌, ap, subst, arith, ⊎_elim}
use Rattle.std.specs.Prelude.{Some}
use Rattle.std.specs.List.{slice_get}
use Rattle.std.proofs.lemmas.Bool.{cases_Bool, cases_lt, or_left, or_right, and_from, eq-eqb, eqb-true}
use Rattle.least_sets.specs.World.{has, arcs_of}
use Rattle.region.specs.declared.rule.Told.{Told}
use Rattle.region.specs.Rules.{shape_of}
use Rattle.region.specs.Steps.{AreNamed, AreGrouped}
use Rattle.region.proofs.Rooms.{same_told}

pub named_none : (told : List Told) (back : ℕ → ℕ → Bool) → AreNamed 0 told back
named_none told back i t lt is m h = absurd (omega arith)

pub named_more : (told : List Told) (count : ℕ) (t : Told) (names : List ℕ) (b c : ℕ → ℕ → Bool) → slice_get told count ≡ Some t
    → ((m : ℕ) → has names m ≡ has (arcs_of (shape_of t.rule)) m)
    → ((x y : ℕ) → c x y ≡ (b x y || (nat_eq y count && has names x)))
    → AreNamed count told b → AreNamed (count + 1) told c
named_more told count t names b c at named grown so_far i d lt is m h = ⊎_elim
    (λ before. grown m i ∙ or_left (b m i) (nat_eq i count && has names m) (so_far i d before is m h))
    (λ from. let same : i ≡ count = omega arith in
    let one : d ≡ t = same_told told i d t is (subst (λ j. slice_get told j ≡ Some t) (sym same) at) in
    grown m i ∙ or_right (b m i) (nat_eq i count && has names m)
    (and_from (nat_eq i count) (has names m) (eq-eqb i count same) (named m ∙ ap (λ (y : Told). has (arcs_of (shape_of y.rule)) m) (sym one) ∙ h)))
    (cases_lt i count)

pub grouped_none : (told : List Told) (groups : ℕ → ℕ → Bool) → AreGrouped 0 told groups
grouped_none told groups i t lt is = absurd (omega arith)

pub grouped_more : (told : List Told) (count : ℕ) (t : Told) (b c : ℕ → ℕ → Bool) → slice_get told count ≡ Some t
    → ((x y : ℕ) → nat_eq t.level x ≡ false → c x y ≡ b x y)
    → ((y : ℕ) → c t.level y ≡ (nat_eq y count || b t.level y))
    → AreGrouped count told b → AreGrouped (count + 1) told c
grouped_more told count t b c at same more so_far i d lt is = ⊎_elim
    (λ before. kept (so_far i d before is))
    (λ from. let e : i ≡ count = omega arith in
    let one : t ≡ d = same_told told count t d at (subst (λ j. slice_get told j ≡ Some d) e is) in
    subst (λ (y : Told). c y.level i ≡ true) one (more i ∙ or_left (nat_eq i count) (b t.level i) (eq-eqb i count e)))
    (cases_lt i count)
  where
    kept : b d.level i ≡ true → c d.level i ≡ true
    kept h = ⊎_elim
        (λ e. let level : t.level ≡ d.level = eqb-true t.level d.level e in
        subst (λ x. c x i ≡ true) level (more i ∙ or_right (nat_eq i count) (b t.level i) (subst (λ x. b x i ≡ true) (sym level) h)))
        (λ e. same d.level i e ∙ h)
        (cases_Bool (nat_eq t.level d.level))
