-- A connection that reads on, or ends before a request has come whole.
use Rattle.std.proofs.Common.{◌≡◌, ℕ, ◌++◌, Bool, true, false, List, [], ◌∷◌, length, ◌+◌, ◌<◌, ◌≤◌, drop, refl, sym, ap, ◌∙◌, subst, arith, append_assoc, true≢false, inl, inr}
use Rattle.std.specs.Prelude.{Option, Some, None, Result, Ok, Err, MatchResult, is_err}
use Rattle.std.specs.Io.KnownBytes.{Consumes, Keeps, IsAtEnd}
use Rattle.std.proofs.lemmas.List.{append-nil, length-append, length-drop, drop-append-le}
use Rattle.tracked_io.specs.Tracking.{TrackedReading, TrackedWriting}
use Rattle.tracked_io.specs.Waiting.{OneRead, with_read, Waited}
use Rattle.tracked_io.specs.Wrote.{Taken, Took, WroteSome}
use Rattle.tracked_io.proofs.Waiting.{gave_waited, reads_none, reads_both, waited_none, waited_more, waited_both, waited_as}
use Rattle.tracked_io.proofs.Appending.{took_none, took_kept, took_both, some_after}
use Rattle.answers.specs.declared.end.End.{End}
use Rattle.answers.specs.declared.end.End.TheVariants.{Closed, Asked, Broken, ReadFault, WriteFault, Memory}
use Rattle.answers.specs.Ends.{is_read_fault, is_write_fault}
use Rattle.httparse.specs.Grammar.{RequestHead}
use Rattle.http_api.specs.declared.looking.Heading.{Heading}
use Rattle.http_api.specs.Heads.{Begins, max_head}
use Rattle.http_api.specs.Connection.{NoRequest, at_end, cut_in_head, cut_in_body, IsFew}
use Rattle.http_api.specs.inside.Looking.{HasHeading, Waits}
use Rattle.http_api.proofs.Lasting.{begins_more}
use Rattle.http_api.specs.inside.Receiving.{IsPause, EndsSo, EndsAfter, HandedOn, Place, IsUnfinished, WaitsBehind, ReadOn, Ended, IsFewFor}

pub at_ok : {T E : Type 0} (P : T → Type 0) (Q : E → Type 0) (r : Result T E) → is_err r ≡ false → MatchResult r P Q → (t : T) × P t
at_ok P Q (Ok t) fine m = (t, m)
at_ok P Q (Err e) fine m = absurd (true≢false fine)

pub at_err : {T E : Type 0} (P : T → Type 0) (Q : E → Type 0) (r : Result T E) → is_err r ≡ true → MatchResult r P Q → (e : E) × Q e
at_err P Q (Ok t) bad m = absurd (true≢false (sym bad))
at_err P Q (Err e) bad m = (e, m)

pub consumes_none : (a b : Option (List ℕ)) → Keeps a b → Consumes a b []
consumes_none None b k = tt
consumes_none (Some x) None k = absurd k
consumes_none (Some x) (Some y) k = sym k

pub nothing : (xs : List ℕ) → length xs ≡ 0 → xs ≡ []
nothing [] e = refl
nothing (x ∷ xs) e = absurd (omega (arith, e))

pub took_nothing : (a b : Taken) → b ≡ a → Took a b []
took_nothing a b k = took_kept a a b [] (took_none a) k

pub no_text : (a b : Taken) → b ≡ a → WroteSome a b []
no_text a b k = ([], [], refl, took_nothing a b k)

-- an input that stops there, of which nothing is to be written
pub pause_ends : (input : List ℕ) (a b : Taken) (end : End) → IsPause end → NoRequest input [] end → b ≡ a → EndsSo input a b end
pause_ends input a b end (inl e) n k = subst (EndsSo input a b) (sym e) (subst (NoRequest input []) e n, took_nothing a b k)
pause_ends input a b end (inr e) n k = subst (EndsSo input a b) (sym e) (subst (NoRequest input []) e n, took_nothing a b k)

pub no_fault : (end : End) → IsPause end → (false ≡ is_read_fault end) × (false ≡ is_write_fault end)
no_fault end (inl e) = (sym (ap is_read_fault e), sym (ap is_write_fault e))
no_fault end (inr e) = (sym (ap is_read_fault e), sym (ap is_write_fault e))

-- one read, while no whole request waits
pub waited_once : (waiting : List ℕ) (held holds : Taken) (end : End) (old new : List OneRead) (more : List ℕ) → IsPause end → NoRequest waiting [] end → IsFew waiting → holds ≡ held
    → new ≡ with_read old holds more → Waited (WaitsBehind waiting held) old new more
waited_once waiting held holds end old new more pause none few keeps e =
    let here : IsUnfinished (waiting ++ []) = subst IsUnfinished (sym (append-nil waiting)) (end, pause, none, few) in
    waited_more (WaitsBehind waiting held) old old new [] holds more (waited_none (WaitsBehind waiting held) old) e (here, keeps)

-- nothing more was read before the end
pub ended_now : {R W : Type 0} (remaining : R → Option (List ℕ)) (old : Place R W) (reader : TrackedReading R) (writer : TrackedWriting W) (end : End)
    (more : List ℕ) → Consumes (remaining old.1.inner) (remaining reader.inner) more → Waited (WaitsBehind old.0 old.2.taken) old.1.reads reader.reads more → more ≡ [] → (IsPause end → IsAtEnd (remaining reader.inner))
    → EndsSo old.0 old.2.taken writer.taken end → IsFew old.0 → reader.failed ≡ is_read_fault end → HandedOn writer end → Ended remaining old reader writer end
ended_now remaining old reader writer end more consumes waited none all ends few failed handed = record {
  more = more;
  reads = (consumes, gave_waited _ _ _ more waited);
  waited = waited;
  all = all;
  ends = subst (λ (i : List ℕ). EndsSo i old.2.taken writer.taken end) (sym (ap (λ m. old.0 ++ m) none ∙ append-nil old.0)) ends;
  few = subst IsFew (sym (ap (λ m. old.0 ++ m) none ∙ append-nil old.0)) few;
  reader_failed = failed;
  handed_on = handed;
}

kept_took : (a b c : Taken) (text : List ℕ) → b ≡ a → Took b c text → Took a c text
kept_took a b c text k h = took_both a b c [] text (took_nothing a b k) h

kept_some : (a b c : Taken) (text : List ℕ) → b ≡ a → WroteSome b c text → WroteSome a c text
kept_some a b c text k w = some_after a b c [] text (took_nothing a b k) w

-- the same end, from before what changed nothing
ends_kept : (input : List ℕ) (a b c : Taken) (end : End) {before : List ℕ} → before ≡ input → b ≡ a → EndsSo before b c end → EndsSo input a c end
ends_kept input a b c end {before} same k e = by_end end (subst (λ (i : List ℕ). EndsSo i b c end) same e)
  where
    by_end : (x : End) → EndsSo input b c x → EndsSo input a c x
    by_end Closed h = (h.0, kept_took a b c [] k h.1)
    by_end Asked h = (h.0, h.1, kept_took a b c h.0 k h.2)
    by_end Broken h = (h.0, kept_took a b c [] k h.1)
    by_end ReadFault h = (h.0, h.1, h.2, kept_took a b c [] k h.3)
    by_end WriteFault h = (h.0, h.1, h.2, kept_some a b c h.1 k h.3)
    by_end Memory h = absurd h

abbrev is_asked : End → Bool
is_asked Asked = true
is_asked _ = false

closed_is_not_asked : Closed ≡ Asked → ⊥
closed_is_not_asked e = true≢false (sym (ap is_asked e))

broken_is_not_asked : Broken ≡ Asked → ⊥
broken_is_not_asked e = true≢false (sym (ap is_asked e))

-- after a refusal
pub ended_refused : {R W : Type 0} (remaining : R → Option (List ℕ)) (old : Place R W) (writer : TrackedWriting W) (end : End)
    (text : List ℕ) → old.1.failed ≡ false → NoRequest old.0 text Asked → IsFew old.0 → EndsAfter text old.2 writer end → Ended remaining old old.1 writer end
ended_refused remaining old writer end text works n few (handed, inl (e, h)) =
    let ends : EndsSo old.0 old.2.taken writer.taken end = subst (EndsSo old.0 old.2.taken writer.taken) (sym e) (text, n, h) in
    ended_now remaining old old.1 writer end [] (reads_none remaining old.1).0 (waited_none _ _) refl (λ p. absurd (not_asked p)) ends few (works ∙ sym (ap is_read_fault e)) handed
  where
    not_asked : IsPause end → ⊥
    not_asked (inl p) = closed_is_not_asked (sym p ∙ e)
    not_asked (inr p) = broken_is_not_asked (sym p ∙ e)
ended_refused remaining old writer end text works n few (handed, inr (e, h)) =
    let ends : EndsSo old.0 old.2.taken writer.taken end = subst (EndsSo old.0 old.2.taken writer.taken) (sym e) (Asked, text, n, h) in
    ended_now remaining old old.1 writer end [] (reads_none remaining old.1).0 (waited_none _ _) refl (λ p. absurd (true≢false (sym (ap is_write_fault e) ∙ sym (no_fault end p).1))) ends few (works ∙ sym (ap is_read_fault e)) handed

-- what waits, where no more comes
pub waits_none : (input : List ℕ) → input ≡ [] → NoRequest input [] Closed
waits_none input e = at_end e refl refl

pub waits_some : (input : List ℕ) → Waits input → (input ≡ [] → ⊥) → NoRequest input [] Broken
waits_some input (inl e) some = absurd (some e)
waits_some input (inr e) some = cut_in_head e refl refl

pub heading_more : (input more : List ℕ) (h : RequestHead) (heading : Heading) → HasHeading input h heading → HasHeading (input ++ more) h heading
heading_more input more h heading x = record {
  begins = subst (λ (r : List ℕ). Begins (input ++ more) h r) (sym (drop-append-le heading.head input more x.within)) (begins_more input more h _ x.begins);
  within = omega (arith, x.within, length-append input more);
  short = x.short;
  heads = x.heads;
}

-- the body has not come whole
pub body_cut : (input : List ℕ) (h : RequestHead) (heading : Heading) → HasHeading input h heading → length input < heading.head + heading.body → NoRequest input [] Broken
body_cut input h heading x short = cut_in_body h (drop heading.head input) heading.body x.begins x.heads.frames x.heads.fits (omega (arith, short, x.within, length-drop heading.head input)) refl refl

-- what waits for its body's end is few
pub few_for_body : (input : List ℕ) (h : RequestHead) (heading : Heading) → HasHeading input h heading → IsFewFor heading input → IsFew input
few_for_body input h heading x (inl short) = inl short
few_for_body input h heading x (inr short) = inr (record {
  head = h;
  tail = drop heading.head input;
  size = heading.body;
  begins = x.begins;
  frames = x.heads.frames;
  fits = x.heads.fits;
  within = omega (arith, short, length-drop heading.head input);
})

-- what is left behind the request fits a head's room
pub few_behind : (input : List ℕ) (heading : Heading) → IsFewFor heading input → length (drop (heading.head + heading.body) input) ≤ max_head
few_behind input heading (inl short) = omega (arith, short, length-drop (heading.head + heading.body) input)
few_behind input heading (inr short) = omega (arith, short, length-drop (heading.head + heading.body) input)

module _ {R W : Type 0} (remaining : R → Option (List ℕ)) where
  -- nothing was read yet
  pub read_on_none : (at : Place R W) → at.1.failed ≡ false → at.2.failed ≡ false → ReadOn remaining at at
  read_on_none at r w = record {
    more = [];
    reads = reads_none remaining at.1;
    waited = waited_none _ at.1.reads;
    holds = sym (append-nil at.0);
    keeps = refl;
    reader_works = r;
    writer_works = w;
  }

  -- what waits behind more, waits behind all
  behind_more : (a b : Place R W) (p : ReadOn remaining a b) (input : List ℕ) (holds : Taken) → WaitsBehind b.0 b.2.taken input holds → WaitsBehind a.0 a.2.taken (p.more ++ input) holds
  behind_more a b p input holds w = (subst IsUnfinished (ap (λ m. m ++ input) p.holds ∙ append_assoc a.0 p.more input) w.0, w.1 ∙ p.keeps)

  waited_later : (a b : Place R W) (p : ReadOn remaining a b) (reads : List OneRead) (more : List ℕ) → Waited (WaitsBehind b.0 b.2.taken) b.1.reads reads more
      → Waited (WaitsBehind a.0 a.2.taken) a.1.reads reads (p.more ++ more)
  waited_later a b p reads more w = waited_both _ a.1.reads b.1.reads reads p.more more p.waited (waited_as _ _ (behind_more a b p) b.1.reads reads more w)

  -- and then more
  pub read_on_more : (a b c : Place R W) → ReadOn remaining a b → ReadOn remaining b c → ReadOn remaining a c
  read_on_more a b c p q = record {
    more = p.more ++ q.more;
    reads = reads_both remaining a.1 b.1 c.1 p.more q.more p.reads q.reads;
    waited = waited_later a b p c.1.reads q.more q.waited;
    holds = q.holds ∙ ap (λ m. m ++ q.more) p.holds ∙ append_assoc a.0 p.more q.more;
    keeps = q.keeps ∙ p.keeps;
    reader_works = q.reader_works;
    writer_works = q.writer_works;
  }

  -- and then the end
  pub ended_later : (a b : Place R W) (reader : TrackedReading R) (writer : TrackedWriting W) (end : End) → ReadOn remaining a b
      → Ended remaining b reader writer end → Ended remaining a reader writer end
  ended_later a b reader writer end p e = record {
    more = p.more ++ e.more;
    reads = reads_both remaining a.1 b.1 reader p.more e.more p.reads e.reads;
    waited = waited_later a b p reader.reads e.more e.waited;
    all = e.all;
    ends = ends_kept _ _ _ writer.taken end (ap (λ m. m ++ e.more) p.holds ∙ append_assoc a.0 p.more e.more) p.keeps e.ends;
    few = subst IsFew (ap (λ m. m ++ e.more) p.holds ∙ append_assoc a.0 p.more e.more) e.few;
    reader_failed = e.reader_failed;
    handed_on = e.handed_on;
  }
