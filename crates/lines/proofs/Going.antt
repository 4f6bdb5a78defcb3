-- How what was served goes on.
use Rattle.std.proofs.Common.{◌≡◌, ◌≢◌, ℕ, ◌+◌, ◌<◌, ◌≤◌, ◌++◌, ◌==◌, Bool, true, false, List, [], ◌∷◌, length, take, drop, refl, sym, ap, subst, ◌∙◌, arith, append_assoc, nat_le, get_or, not, ◌&&◌, true≢false, inl, inr}
use Rattle.std.specs.Prelude.{Option, Some, None, Result, Ok, Err, MatchResult, is_err}
use Rattle.std.specs.List.{flat_map}
use Rattle.std.specs.Io.KnownBytes.{Consumes}
use Rattle.std.proofs.lemmas.List.{append-nil, take-append-drop, take_more, take_all}
use Rattle.std.proofs.Math.Seq.{take-append_seam}
use Rattle.names.specs.declared.limits.TheConstants.{MAX_BODY_LEN}
use Rattle.names.specs.declared.call.Call.{Call}
use Rattle.names.specs.Calls.{call_of}
use Rattle.lines.specs.Text.{lines_of, word_of, body_of, ended, HasNoEnd}
use Rattle.lines.specs.PendingLine.{PendingLine, pending_of, with_byte}
use Rattle.answers.specs.Machine.{Step}
use Rattle.lines.specs.Machine.{IsAnswer, Answers, Run, Fed}
use Rattle.tracked_io.specs.Wrote.{Taken, Took, Wrote, WroteSome}
use Rattle.lines.specs.Served.{Served, Cut}
use Rattle.lines.specs.Going.{AnswersPending, Going, CutShort, CutAtEnd}
use Rattle.tracked_io.specs.Waiting.{OneRead, with_read}
use Rattle.lines.proofs.Keeping.{pending_more, fits_pending, whole_when_fits, call_pending, empty_from_pending}
use Rattle.lines.proofs.Feeding.{run_more, fed_none, fed_byte, fed_line, lines_of_fed, lines_of_rest}
use Rattle.tracked_io.proofs.Appending.{took_none, took_both, took_kept, some_after}

answer_by : {S : Type 0} (step : Step S) (t : S) (fits : Bool) (call : Option Call) (b1 b2 text : List ℕ) (u : S)
    → (fits ≡ true → b1 ≡ b2) → IsAnswer step t fits call b1 text u → IsAnswer step t fits call b2 text u
answer_by step t true call b1 b2 text u e h = let P : List ℕ → Type 0 = λ b. IsAnswer step t true call b text u in subst P (e refl) h
answer_by step t false call b1 b2 text u e h = h

-- what is kept of a line decides its answer
pub answer_kept : {S : Type 0} (step : Step S) (t : S) (line text : List ℕ) (u : S)
    → AnswersPending step t (pending_of line) text u → Answers step t line text u
answer_kept step t line text u h =
    let P : Bool → Type 0 = λ b. IsAnswer step t b (call_of (pending_of line).word) (pending_of line).body text u in
    let one : IsAnswer step t (nat_le (length (body_of line)) MAX_BODY_LEN) (call_of (pending_of line).word) (pending_of line).body text u = subst P (fits_pending MAX_BODY_LEN (body_of line)) h in
    let Q : Option Call → Type 0 = λ c. IsAnswer step t (nat_le (length (body_of line)) MAX_BODY_LEN) c (pending_of line).body text u in
    let two : IsAnswer step t (nat_le (length (body_of line)) MAX_BODY_LEN) (call_of (word_of line)) (pending_of line).body text u = subst Q (call_pending (word_of line)) one in
    answer_by step t _ _ _ _ text u (whole_when_fits MAX_BODY_LEN (body_of line)) two

pub going_none : {S : Type 0} (step : Step S) (s : S) (held : Taken) → Going step s held [] (pending_of []) s held
going_none step s held = record { paused = ([], [], fed_none step s, took_none held); pending_is = refl }

pub going_byte : {S : Type 0} (step : Step S) (s : S) (held : Taken) (input : List ℕ) (line : PendingLine) (t : S) (holds : Taken) (b : ℕ) (line_after : PendingLine)
    → Going step s held input line t holds → b ≢ 10 → line_after ≡ with_byte line b → Going step s held (input ++ b ∷ []) line_after t holds
going_byte step s held input line t holds b line_after g n e = record {
  paused = (g.paused.0 ++ b ∷ [], g.paused.1, fed_byte step s input g.paused.0 g.paused.1 t b g.paused.2 n, g.paused.3);
  pending_is = e ∙ ap (λ k. with_byte k b) g.pending_is ∙ pending_more g.paused.0 b;
}

short_from_fed : {S : Type 0} (step : Step S) (s : S) (held : Taken) (input rest text : List ℕ) (t : S) (holds : Taken)
    → Fed step s input rest text t → WroteSome held holds text → CutShort step s held input t holds
short_from_fed step s held input rest text t holds f w = record { more = rest; text = text; lines = f.lines; split = f.split; whole = f.whole; run = f.run; wrote = w }

answered_by : {S E : Type 0} (step : Step S) (r : Result (Unit {0}) E) (s : S) (held : Taken) (input rest text : List ℕ) (holds after : Taken) (u : S) (more : List ℕ)
    → Took held holds text → Fed step s (input ++ 10 ∷ []) [] (text ++ more) u → Wrote r holds after more
    → MatchResult r (λ _. Going step s held (input ++ 10 ∷ []) (pending_of []) u after) (λ _. CutShort step s held (input ++ 10 ∷ []) u after)
answered_by step (Ok x) s held input rest text holds after u more a f w =
    record { paused = ([], text ++ more, f, took_both held holds after text more a w); pending_is = refl }
answered_by step (Err e) s held input rest text holds after u more a f w = short_from_fed step s held _ _ _ u after f (some_after held holds after text more a w)

-- the line ends, and is answered
pub going_line : {S E : Type 0} (step : Step S) (r : Result (Unit {0}) E) (s : S) (held : Taken) (input : List ℕ) (line : PendingLine) (t : S) (holds after : Taken) (text : List ℕ) (u : S) (line_after : PendingLine)
    → Going step s held input line t holds → AnswersPending step t line text u → Wrote r holds after text → line_after ≡ pending_of []
    → MatchResult r (λ _. Going step s held (input ++ 10 ∷ []) line_after u after) (λ _. CutShort step s held (input ++ 10 ∷ []) u after)
going_line step r s held input line t holds after text u line_after g h w e =
    let P : PendingLine → Type 0 = λ k. AnswersPending step t k text u in
    let a = answer_kept step t g.paused.0 text u (subst P g.pending_is h) in
    let f = fed_line step s input g.paused.0 g.paused.1 t text u g.paused.2 a in
    let Q : PendingLine → Type 0 = λ k. MatchResult r (λ _. Going step s held (input ++ 10 ∷ []) k u after) (λ _. CutShort step s held (input ++ 10 ∷ []) u after) in
    subst Q (sym e) (answered_by step r s held input g.paused.0 g.paused.1 holds after u text g.paused.3 f w)

-- bytes that were not fed change nothing
pub short_more : {S : Type 0} (step : Step S) (s : S) (held : Taken) (input : List ℕ) (t : S) (holds : Taken) (more : List ℕ)
    → CutShort step s held input t holds → CutShort step s held (input ++ more) t holds
short_more step s held input t holds more c = record {
  more = c.more ++ more;
  text = c.text;
  lines = c.lines;
  split = ap (λ z. z ++ more) c.split ∙ append_assoc (flat_map ended c.lines) c.more more;
  whole = c.whole;
  run = c.run;
  wrote = c.wrote;
}

one_more : (input bytes : List ℕ) (i d : ℕ) → i < length bytes → (input ++ take i bytes) ++ get_or bytes i d ∷ [] ≡ input ++ take (i + 1) bytes
one_more input bytes i d h = append_assoc input (take i bytes) (get_or bytes i d ∷ []) ∙ ap (λ z. input ++ z) (sym (take_more bytes i d h))

pub going_more : {S : Type 0} (step : Step S) (s : S) (held : Taken) (input bytes : List ℕ) (i d : ℕ) (line : PendingLine) (t : S) (holds : Taken) → i < length bytes
    → Going step s held ((input ++ take i bytes) ++ get_or bytes i d ∷ []) line t holds → Going step s held (input ++ take (i + 1) bytes) line t holds
going_more step s held input bytes i d line t holds h g = let P : List ℕ → Type 0 = λ z. Going step s held z line t holds in subst P (one_more input bytes i d h) g

pub short_within : {S : Type 0} (step : Step S) (s : S) (held : Taken) (input bytes : List ℕ) (i d : ℕ) (t : S) (holds : Taken) → i < length bytes
    → CutShort step s held ((input ++ take i bytes) ++ get_or bytes i d ∷ []) t holds → CutShort step s held (input ++ bytes) t holds
short_within step s held input bytes i d t holds h c =
    let P : List ℕ → Type 0 = λ z. CutShort step s held z t holds in
    let all : (input ++ take (i + 1) bytes) ++ drop (i + 1) bytes ≡ input ++ bytes = append_assoc input (take (i + 1) bytes) (drop (i + 1) bytes) ∙ ap (λ z. input ++ z) (take-append-drop (i + 1) bytes) in
    subst P all (short_more step s held _ t holds (drop (i + 1) bytes) (subst P (one_more input bytes i d h) c))

pub going_all : {S : Type 0} (step : Step S) (s : S) (held : Taken) (input bytes : List ℕ) (i : ℕ) (line : PendingLine) (t : S) (holds : Taken) → length bytes ≤ i
    → Going step s held (input ++ take i bytes) line t holds → Going step s held (input ++ bytes) line t holds
going_all step s held input bytes i line t holds h g = let P : List ℕ → Type 0 = λ z. Going step s held z line t holds in subst P (ap (λ z. input ++ z) (take_all i bytes h)) g

pub cut_from_short : {S : Type 0} (step : Step S) (s : S) (held : Taken) (input : List ℕ) (t : S) (holds : Taken) (reads : List OneRead) → CutShort step s held input t holds → Cut step s held reads input t holds
cut_from_short step s held input t holds reads c =
    let first : take (length c.lines) (lines_of input) ≡ c.lines = rw (c.split, lines_of_fed c.lines c.more c.whole) (take-append_seam {A = List ℕ} c.lines (lines_of c.more)) in
    (length c.lines, c.text, rw first c.run, c.wrote, inl (c.more, c.split ∙ ap (λ (ls : List (List ℕ)). flat_map ended ls ++ c.more) (sym first)))

-- the read before the end gave nothing
pub cut_from_end : {S : Type 0} (step : Step S) (s : S) (held : Taken) (input : List ℕ) (t : S) (holds : Taken) (before reads : List OneRead) (at : Taken) (gave : List ℕ)
    → reads ≡ with_read before at gave → gave ≡ [] → CutAtEnd step s held input t holds → Cut step s held reads input t holds
cut_from_end step s held input t holds before reads at gave is none c =
    (c.count, c.text, c.run, c.wrote, inr (before, record { held = at; gave = gave }, is, none))

lines_of_input : {S : Type 0} (step : Step S) (s : S) (input rest text : List ℕ) (t : S) (f : Fed step s input rest text t) → lines_of input ≡ f.lines ++ lines_of rest
lines_of_input step s input rest text t f = rw f.split (lines_of_fed f.lines rest f.whole)

-- the input ends where a line does
pub served_whole : {S : Type 0} (step : Step S) (s : S) (held : Taken) (input : List ℕ) (line : PendingLine) (t : S) (holds : Taken)
    → Going step s held input line t holds → (not line.spaced && length line.word == 0) ≡ true → Served step s held input t holds
served_whole step s held input line t holds g e =
    let P : PendingLine → Type 0 = λ k. (not k.spaced && length k.word == 0) ≡ true in
    let none : g.paused.0 ≡ [] = empty_from_pending g.paused.0 (subst P g.pending_is e) in
    let f = g.paused.2 in
    let all : lines_of input ≡ f.lines = lines_of_input step s input g.paused.0 g.paused.1 t f ∙ ap (λ z. f.lines ++ lines_of z) none ∙ append-nil f.lines in
    (g.paused.1, rw all f.run, g.paused.3)

last_line : (rest : List ℕ) → HasNoEnd rest → (not (pending_of rest).spaced && length (pending_of rest).word == 0) ≡ false → lines_of rest ≡ rest ∷ []
last_line [] h e = absurd (true≢false e)
last_line (x ∷ rest) h e = lines_of_rest x rest h

ended_by : {S E : Type 0} (step : Step S) (r : Result (Unit {0}) E) (s : S) (held : Taken) (input : List ℕ) (lines : List (List ℕ)) (text : List ℕ) (holds after : Taken) (more : List ℕ) (u : S)
    → lines_of input ≡ lines → Run step s lines (text ++ more) u → Took held holds text → Wrote r holds after more
    → MatchResult r (λ _. Served step s held input u after) (λ _. CutAtEnd step s held input u after)
ended_by step (Ok x) s held input lines text holds after more u e ran a w = (text ++ more, rw e ran, took_both held holds after text more a w)
ended_by step (Err x) s held input lines text holds after more u e ran a w =
    record { count = length lines; text = text ++ more; run = rw (e, take_all (length lines) lines (omega arith)) ran; wrote = some_after held holds after text more a w }

-- the last line has no end, and is answered
pub served_last : {S E : Type 0} (step : Step S) (r : Result (Unit {0}) E) (s : S) (held : Taken) (input : List ℕ) (line : PendingLine) (t : S) (holds after : Taken) (text : List ℕ) (u : S)
    → Going step s held input line t holds → (not line.spaced && length line.word == 0) ≡ false
    → AnswersPending step t line text u → Wrote r holds after text
    → MatchResult r (λ _. Served step s held input u after) (λ _. CutAtEnd step s held input u after)
served_last {S} {E} step r s held input line t holds after text u g e h w =
    let P : PendingLine → Type 0 = λ k. (not k.spaced && length k.word == 0) ≡ false in
    let Q : PendingLine → Type 0 = λ k. AnswersPending step t k text u in
    let f = g.paused.2 in
    let one : lines_of g.paused.0 ≡ g.paused.0 ∷ [] = last_line g.paused.0 f.partial (subst P g.pending_is e) in
    let all : lines_of input ≡ f.lines ++ g.paused.0 ∷ [] = lines_of_input step s input g.paused.0 g.paused.1 t f ∙ ap (λ z. f.lines ++ z) one in
    let a = answer_kept step t g.paused.0 text u (subst Q g.pending_is h) in
    let ran = run_more step f.lines s g.paused.1 t g.paused.0 text u f.run a in
    ended_by step r s held input (f.lines ++ g.paused.0 ∷ []) g.paused.1 holds after text u all ran g.paused.3 w

pub consumes_none : (known : Option (List ℕ)) → Consumes known known []
consumes_none None = tt
consumes_none (Some xs) = refl

pub consumes_more : (a b c : Option (List ℕ)) (xs ys : List ℕ) → Consumes a b xs → Consumes b c ys → Consumes a c (xs ++ ys)
consumes_more None b c xs ys h k = tt
consumes_more (Some s) None c xs ys h k = absurd h
consumes_more (Some s) (Some t) None xs ys h k = absurd k
consumes_more (Some s) (Some t) (Some u) xs ys h k = h ∙ ap (λ z. xs ++ z) k ∙ sym (append_assoc xs ys u)

pub going_start : {S : Type 0} (step : Step S) (s : S) (held : Taken) (line : PendingLine) → line ≡ pending_of [] → Going step s held [] line s held
going_start step s held line e = let P : PendingLine → Type 0 = λ k. Going step s held [] k s held in subst P (sym e) (going_none step s held)

pub match_at_ok : {E : Type 0} (P Q : Type 0) (r : Result (Unit {0}) E) → is_err r ≡ false → MatchResult r (λ _. P) (λ _. Q) → P
match_at_ok P Q (Ok x) e h = h
match_at_ok P Q (Err x) e h = absurd (true≢false e)

pub match_at_err : {E : Type 0} (P Q : Type 0) (r : Result (Unit {0}) E) → is_err r ≡ true → MatchResult r (λ _. P) (λ _. Q) → Q
match_at_err P Q (Ok x) e h = absurd (true≢false (sym e))
match_at_err P Q (Err x) e h = h

-- a flush changes nothing, or ends what was served
pub served_keeps : {S : Type 0} (step : Step S) (s : S) (held : Taken) (input : List ℕ) (t : S) (holds after : Taken)
    → Served step s held input t holds → after ≡ holds → Served step s held input t after
served_keeps step s held input t holds after v k = (v.0, v.1, took_kept held holds after v.0 v.2 k)

pub going_keeps : {S : Type 0} (step : Step S) (s : S) (held : Taken) (input : List ℕ) (line : PendingLine) (t : S) (holds after : Taken)
    → Going step s held input line t holds → after ≡ holds → Going step s held input line t after
going_keeps step s held input line t holds after g k = record {
  paused = (g.paused.0, g.paused.1, g.paused.2, took_kept held holds after g.paused.1 g.paused.3 k);
  pending_is = g.pending_is;
}

all_written : (held holds after : Taken) (text : List ℕ) → Took held holds text → after ≡ holds → WroteSome held after text
all_written held holds after text a k = (text, [], sym (append-nil text), took_kept held holds after text a k)

pub cut_from_served : {S : Type 0} (step : Step S) (s : S) (held : Taken) (input : List ℕ) (t : S) (holds after : Taken)
    → Served step s held input t holds → after ≡ holds → CutAtEnd step s held input t after
cut_from_served step s held input t holds after v k = record {
  count = length (lines_of input);
  text = v.0;
  run = rw (take_all (length (lines_of input)) (lines_of input) (omega arith)) v.1;
  wrote = all_written held holds after v.0 v.2 k;
}

pub cut_from_going : {S : Type 0} (step : Step S) (s : S) (held : Taken) (input : List ℕ) (line : PendingLine) (t : S) (holds after : Taken) (reads : List OneRead)
    → Going step s held input line t holds → after ≡ holds → Cut step s held reads input t after
cut_from_going step s held input line t holds after reads g k =
    cut_from_short step s held input t after reads (short_from_fed step s held input g.paused.0 g.paused.1 t after g.paused.2 (all_written held holds after g.paused.1 g.paused.3 k))

pub served_flushed : {S E : Type 0} (step : Step S) (r : Result (Unit {0}) E) (s : S) (held : Taken) (input : List ℕ) (t : S) (holds after : Taken)
    → Served step s held input t holds → after ≡ holds → MatchResult r (λ _. Served step s held input t after) (λ _. CutAtEnd step s held input t after)
served_flushed step (Ok x) s held input t holds after v k = served_keeps step s held input t holds after v k
served_flushed step (Err e) s held input t holds after v k = cut_from_served step s held input t holds after v k

-- a read at the end consumes nothing
pub consumes_end : (a b c : Option (List ℕ)) (xs buf : List ℕ) (n : ℕ) → Consumes a b xs → Consumes b c (take n buf) → n ≡ 0 → Consumes a c xs
consumes_end a b c xs buf n h k e =
    let P : ℕ → Type 0 = λ m. Consumes b c (take m buf) in
    let Q : List ℕ → Type 0 = λ z. Consumes a c z in
    subst Q (append-nil xs) (consumes_more a b c xs [] h (subst P e k))

pub none_taken : (n : ℕ) (buf : List ℕ) → n ≡ 0 → take n buf ≡ []
none_taken n buf e = ap (λ m. take m buf) e
