-- What was fed, line by line.
use Rattle.std.proofs.Common.{◌≡◌, ◌≢◌, ℕ, ◌++◌, List, [], ◌∷◌, refl, sym, ap, subst, ◌∙◌, arith, append_assoc}
use Rattle.std.proofs.lemmas.Grind.{flat_map-append}
use Rattle.std.proofs.lemmas.List.{append-nil}
use Rattle.std.specs.List.{AllByRecursion, flat_map}
use Rattle.lines.specs.Text.{lines_of, ended, HasNoEnd}
use Rattle.answers.specs.Machine.{Step}
use Rattle.lines.specs.Machine.{Answers, Run, Fed}

-- a run goes on by one line
pub run_more : {S : Type 0} (step : Step S) (lines : List (List ℕ)) (s : S) (text : List ℕ) (t : S) (line more : List ℕ) (u : S)
    → Run step s lines text t → Answers step t line more u → Run step s (lines ++ line ∷ []) (text ++ more) u
run_more step [] s text t line more u h a = (more, u, [], subst (λ v. Answers step v line more u) h.1 a, (refl, refl), rw h.0 (sym (append-nil more)))
run_more step (x ∷ lines) s text t line more u h a =
    (h.0, h.1, h.2 ++ more, h.3, run_more step lines h.1 h.2 t line more u h.4 a, rw h.5 (append_assoc h.0 h.2 more))

no_end_more : (line : List ℕ) (b : ℕ) → HasNoEnd line → b ≢ 10 → HasNoEnd (line ++ b ∷ [])
no_end_more [] b h n = (n, tt)
no_end_more (x ∷ line) b h n = (h.0, no_end_more line b h.1 n)

all_more : (lines : List (List ℕ)) (line : List ℕ) → AllByRecursion HasNoEnd lines → HasNoEnd line → AllByRecursion HasNoEnd (lines ++ line ∷ [])
all_more [] line h n = (n, tt)
all_more (x ∷ lines) line h n = (h.0, all_more lines line h.1 n)

pub fed_none : {S : Type 0} (step : Step S) (s : S) → Fed step s [] [] [] s
fed_none step s = record { lines = []; split = refl; whole = tt; partial = tt; run = (refl, refl) }

-- a byte that ends no line
pub fed_byte : {S : Type 0} (step : Step S) (s : S) (bytes rest text : List ℕ) (t : S) (b : ℕ)
    → Fed step s bytes rest text t → b ≢ 10 → Fed step s (bytes ++ b ∷ []) (rest ++ b ∷ []) text t
fed_byte step s bytes rest text t b f n = record {
  lines = f.lines;
  split = rw f.split (append_assoc (flat_map ended f.lines) rest (b ∷ []));
  whole = f.whole;
  partial = no_end_more rest b f.partial n;
  run = f.run;
}

-- the end of a line, which is answered
pub fed_line : {S : Type 0} (step : Step S) (s : S) (bytes rest text : List ℕ) (t : S) (more : List ℕ) (u : S)
    → Fed step s bytes rest text t → Answers step t rest more u → Fed step s (bytes ++ 10 ∷ []) [] (text ++ more) u
fed_line step s bytes rest text t more u f a = record {
  lines = f.lines ++ rest ∷ [];
  split = rw (f.split, flat_map-append ended f.lines (rest ∷ [])) (simp (append_assoc, append-nil));
  whole = all_more f.lines rest f.whole f.partial;
  partial = tt;
  run = run_more step f.lines s text t rest more u f.run a;
}

lines_of_line : (line rest : List ℕ) → HasNoEnd line → lines_of (line ++ 10 ∷ rest) ≡ line ∷ lines_of rest
lines_of_line [] rest h = refl
lines_of_line (x ∷ line) rest h = let e = lines_of_line line rest h.1 in let n = h.0 in grind (arith, e, n)

pub lines_of_rest : (x : ℕ) (line : List ℕ) → HasNoEnd (x ∷ line) → lines_of (x ∷ line) ≡ (x ∷ line) ∷ []
lines_of_rest x [] h = let n = h.0 in grind (arith, n)
lines_of_rest x (y ∷ line) h = let e = lines_of_rest y line h.1 in let n = h.0 in grind (arith, e, n)

pub lines_of_fed : (lines : List (List ℕ)) (rest : List ℕ) → AllByRecursion HasNoEnd lines → lines_of (flat_map ended lines ++ rest) ≡ lines ++ lines_of rest
lines_of_fed [] rest h = refl
lines_of_fed (line ∷ lines) rest h =
    rw (append_assoc (ended line) (flat_map ended lines) rest, append_assoc line (10 ∷ []) (flat_map ended lines ++ rest))
    (lines_of_line line (flat_map ended lines ++ rest) h.0 ∙ ap (λ ls. line ∷ ls) (lines_of_fed lines rest h.1))
