-- What a step adds to a standing, and that a commit is taken off again.
use Rattle.std.proofs.Common.{◌≡◌, ◌-◌, ℕ, Bool, ◌∙◌, List, [], ◌∷◌, ◌++◌, ap, ap₂, length, take, arith, length-append}
use Rattle.std.specs.Prelude.{None}
use Rattle.std.proofs.Math.Seq.{take-append_seam}
use Rattle.std.proofs.lemmas.Bool.{le-ltb, or_from}
use Rattle.std.proofs.lemmas.List.Sums.{fold-append}
use Rattle.names.specs.declared.commit.Commit.{Commit as Stored}
use Rattle.names.specs.declared.refusal.Refusal.TheVariants.{StaleBuild, WrongBuild}
use Rattle.meaning.specs.Config.{Configured}
use Rattle.meaning.specs.History.{History}
use Rattle.meaning.specs.Verdict.{or_else, refused_if}
use Rattle.rows.specs.Retained.{newest}
use Rattle.shown.specs.declared.step.Step.{Step}
use Rattle.shown.specs.declared.step.Step.TheVariants.{Commit}
use Rattle.shown.specs.Standing.{Standing, nothing, after_step, before_commit, standing, base_cause, CanGoBack, IsSteady}

pub standing_next : (steps : List Step) (step : Step) → standing (steps ++ step ∷ []) ≡ after_step (standing steps) step
standing_next steps step = fold-append after_step nothing steps (step ∷ [])

one_more : {A : Type 0} (xs : List A) (x : A) → take (length (xs ++ x ∷ []) - 1) (xs ++ x ∷ []) ≡ xs
one_more xs x =
    let len : length (xs ++ x ∷ []) - 1 ≡ length xs = omega (arith, length-append xs (x ∷ [])) in
    ap (λ (n : ℕ). take n (xs ++ x ∷ [])) len ∙ take-append_seam xs (x ∷ [])

-- a commit that was added can be taken off, since no part has taken it
pub can_go_back : (s : Standing) (commit : Stored Configured) → IsSteady s → CanGoBack (after_step s (Commit commit))
can_go_back s commit steady =
    let more = length-append s.kept.commits (commit ∷ []) in
    record { above = omega (arith, more, steady.index_there); index_before = omega (arith, more, steady.index_there); hot_before = omega (arith, more, steady.hot_there) }

pub back_again : (s : Standing) (commit : Stored Configured) → before_commit (after_step s (Commit commit)) ≡ s
back_again s commit = ap (λ (h : History). record { kept = record { number = s.kept.number; floor = s.kept.floor; base = s.kept.base; commits = h }; base = s.base; index = s.index; hot = s.hot; marks = s.marks }) (one_more s.kept.commits commit)

-- nothing speaks against a base of the newest revision
pub newest_fits : (s : Standing) → IsSteady s → base_cause s (newest s.kept) ≡ None
newest_fits s steady =
    let to = newest s.kept in
    ap₂ (λ (a b : Bool). or_else (refused_if StaleBuild a) (refused_if WrongBuild b))
    (or_from _ _ (le-ltb to s.kept.floor (omega arith)) (le-ltb to s.base (omega (arith, steady.base_read, steady.index_there))))
    (le-ltb to to (omega arith))
