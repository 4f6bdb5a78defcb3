-- The exchange that adds a step keeps the rule.
use Rattle.std.proofs.Common.{◌≡◌, ℕ, ◌+◌, ◌<◌, ◌≤◌, ◌^◌, ◌==◌, Bool, true, false, List, [], ◌∷◌, ◌++◌, length, refl, ap, sym, subst, arith, inl, length-append, None}
use Rattle.std.proofs.lemmas.List.{append-nil}
use Rattle.std.proofs.lemmas.Bool.Decides.{nat_tests}
use mathlib.Core.List.{IsPrefix}
use prog.Atomic.{either}
use Rattle.logbook.specs.Pages.{Cell, cell, keeps, no_nib, step, Moves, Goes}
use Rattle.shown.specs.declared.step.Step.{Step}
use Rattle.published.specs.Book.{CountsLog, Adds}
use Rattle.published.proofs.Prefixes.{prefix_whole}

abbrev pub shows_none : List Step → List Step
shows_none log = []

abbrev pub moves_freely : List Step → List Step → ℕ → Type 0
moves_freely xs ys n = Unit {0}

pub adds_goes : (log v : List Step) (e : Step) (old : ℕ) → length v ≡ old → old < 2 ^ 62 → length log ≤ 2 ^ 62 → IsPrefix v log
    → (b : Bool) → (length log == old) ≡ b
    → Goes CountsLog shows_none moves_freely 0 (v, (no_nib, None)) (λ n. either (n == old) (old + 1) n) (Adds (step 0 old (old + 1) e) (v, (no_nib, None))) ((length log, true) ∷ (0, true) ∷ []) log
adds_goes log v e old len room bound pre true is =
    let here : length log ≡ old = grind (arith, nat_tests) in
    let same : v ≡ log = prefix_whole v log pre (omega arith) in
    let bound' : length (log ++ e ∷ []) ≤ 2 ^ 62 = omega (arith, length-append log (e ∷ [])) in
    let n : either (length log == old) (old + 1) (length log) ≡ length (log ++ e ∷ []) = rw is (omega (arith, length-append log (e ∷ []))) in (
      keeps,
      e ∷ [],
      None,
      tt,
      record { words = ap (λ (k : ℕ). (k, true) ∷ (0, true) ∷ []) n; bound = bound' },
      inl (refl, refl),
      (bound', rw is (ap (λ w. w ++ e ∷ []) (sym same))),
    )
adds_goes log v e old len room bound pre false is =
    let all : log ++ [] ≡ log = append-nil log in
    let bound' : length (log ++ []) ≤ 2 ^ 62 = subst (λ (l : List Step). length l ≤ 2 ^ 62) (sym all) bound in
    let n : either (length log == old) (old + 1) (length log) ≡ length (log ++ []) = rw is (ap length (sym all)) in (
      keeps,
      [],
      None,
      tt,
      record { words = ap (λ (k : ℕ). (k, true) ∷ (0, true) ∷ []) n; bound = bound' },
      inl (refl, refl),
      (bound', rw is (ap length all)),
    )

-- whatever the book is, the exchange adds the step to all that was seen, or finds that the list is longer
pub adds_moves : (v : List Step) (e : Step) (old : ℕ) → length v ≡ old → old < 2 ^ 62
    → Moves CountsLog shows_none moves_freely 0 (v, (no_nib, None)) (λ n. either (n == old) (old + 1) n) (Adds (step 0 old (old + 1) e) (v, (no_nib, None)))
adds_moves v e old len room cs log kept pre away =
    let P : List Cell → Type 0 = λ c. (0 < length c) × ((cell c 0).1 ≡ true) × Goes CountsLog shows_none moves_freely 0 (v, (no_nib, None)) (λ n. either (n == old) (old + 1) n) (Adds (step 0 old (old + 1) e) (v, (no_nib, None))) c log in
    subst P (sym kept.words) (omega arith, refl, adds_goes log v e old len room kept.bound pre (length log == old) refl)
