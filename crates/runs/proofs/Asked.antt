-- The lines that were answered are lines of the input.
use Rattle.std.proofs.Common.{ℕ, List, [], ◌∷◌, ◌++◌, take, zero, suc, sym, ap, subst, ◌∙◌, inl, inr}
use Rattle.desk.specs.TableChanges.{TableChange}
use Rattle.lines.specs.Text.{lines_of}
use Rattle.answers.specs.Machine.{Step}
use Rattle.lines.specs.Machine.{Fed}
use Rattle.lines.proofs.Feeding.{lines_of_fed}
use Rattle.runs.specs.Runs.{IsAskedIn}

asked_before : (lines more : List (List ℕ)) (c : TableChange) → IsAskedIn lines c → IsAskedIn (lines ++ more) c
asked_before [] more c is = absurd is
asked_before (line ∷ lines) more c (inl is) = inl is
asked_before (line ∷ lines) more c (inr is) = inr (asked_before lines more c is)

pub asked_first : (n : ℕ) (lines : List (List ℕ)) (c : TableChange) → IsAskedIn (take n lines) c → IsAskedIn lines c
asked_first zero lines c is = absurd is
asked_first (suc n) [] c is = absurd is
asked_first (suc n) (line ∷ lines) c (inl is) = inl is
asked_first (suc n) (line ∷ lines) c (inr is) = inr (asked_first n lines c is)

pub asked_fed : {S : Type 0} (step : Step S) (s : S) (input rest text : List ℕ) (t : S) (f : Fed step s input rest text t) (c : TableChange)
    → IsAskedIn f.lines c → IsAskedIn (lines_of input) c
asked_fed step s input rest text t f c is =
    subst (λ (lines : List (List ℕ)). IsAskedIn lines c) (sym (ap lines_of f.split ∙ lines_of_fed f.lines rest f.whole)) (asked_before f.lines (lines_of rest) c is)
