-- How a connection goes on, and ends.
use Rattle.std.proofs.Common.{◌≡◌, ℕ, suc, ◌+◌, ◌-◌, ◌≤◌, ◌++◌, false, List, [], length, take, drop, refl, sym, ap, ◌∙◌, subst, arith, inl, inr, slice_range}
use Rattle.std.specs.Prelude.{Option, Ok, Err}
use Rattle.std.specs.Io.KnownBytes.{IsAtEnd}
use Rattle.std.proofs.lemmas.List.{append-nil, take-append-drop, drop-drop, length-take-le, length-drop}
use Rattle.httparse.specs.Grammar.{RequestHead}
use Rattle.tracked_io.specs.Tracking.{TrackedReading, TrackedWriting, Reads}
use Rattle.tracked_io.specs.Waiting.{Waited}
use Rattle.tracked_io.specs.Wrote.{Taken, Took, WroteSome}
use Rattle.tracked_io.proofs.Waiting.{reads_none, reads_both, waited_none, waited_both, waited_as}
use Rattle.tracked_io.proofs.Appending.{took_none, took_both, took_kept, some_after}
use Rattle.answers.specs.declared.end.End.{End}
use Rattle.answers.specs.declared.end.End.TheVariants.{Closed, Asked, Broken, ReadFault, WriteFault, Memory}
use Rattle.http_api.specs.declared.looking.Heading.{Heading}
use Rattle.http_api.specs.declared.framing.Framing.TheVariants.{Sized}
use Rattle.answers.specs.Ends.{is_read_fault}
use Rattle.answers.specs.Machine.{Step}
use Rattle.http_api.specs.Connection.{Next, stop, NoRequest, HasRequest, IsFew, Turn, Goes, Text, no_request}
use Rattle.http_api.specs.Talks.{Talked, TalkCut}
use Rattle.http_api.specs.inside.Looking.{HasHeading}
use Rattle.http_api.specs.inside.Receiving.{IsPause, EndsSo, WaitsBehind, ReadOn, Ended}
use Rattle.http_api.specs.inside.Settling.{IsSettled}
use Rattle.http_api.specs.inside.Going.{State, IsTalked, Going, Finished}
use Rattle.http_api.proofs.Lasting.{goes_more, goes_next}
use Rattle.http_api.proofs.Pausing.{took_nothing}

-- the request that has come whole
pub whole_request : (input : List ℕ) (h : RequestHead) (heading : Heading) → HasHeading input h heading → heading.head + heading.body ≤ length input
    → HasRequest input h (slice_range input heading.head (heading.head + heading.body)) (drop (heading.head + heading.body) input)
whole_request input h heading x whole =
    let tail = drop heading.head input in
    let span : heading.head + heading.body - heading.head ≡ heading.body = omega arith in
    let body : slice_range input heading.head (heading.head + heading.body) ≡ take heading.body tail = ap (λ n. take n tail) span in
    let size : length (take heading.body tail) ≡ heading.body = length-take-le heading.body tail (omega (arith, length-drop heading.head input, whole)) in
    let made : HasRequest input h (take heading.body tail) (drop (heading.head + heading.body) input) = record {
      tail = tail;
      begins = x.begins;
      frames = x.heads.frames ∙ ap Sized (sym size);
      fits = omega (arith, size, x.heads.fits);
      parts = sym (take-append-drop heading.body tail) ∙ ap (λ r. take heading.body tail ++ r) (drop-drop heading.body heading.head input);
    } in
    subst (λ (b : List ℕ). HasRequest input h b (drop (heading.head + heading.body) input)) (sym body) made

module _ {S R W : Type 0} (step : Step S) (remaining : R → Option (List ℕ)) where
  pub going_none : (first : State S R W) (waiting : List ℕ) → waiting ≡ [] → first.1.failed ≡ false → first.2.failed ≡ false → Going step remaining first 0 waiting first
  going_none first waiting none r w = record {
    input = [];
    text = [];
    reads = reads_none remaining first.1;
    waited = waited_none _ first.1.reads;
    goes = (none, refl, refl);
    wrote = took_none _;
    reader_works = r;
    writer_works = w;
  }

  text_ends : (first : State S R W) (count : ℕ) (waits : List ℕ) (now : State S R W) (g : Going step remaining first count waits now) (more text : List ℕ) (t : S) (next : Next)
      → Turn step now.0 (suc count) (waits ++ more) text t next → Text step first.0 (g.input ++ more) (g.text ++ text) t next
  text_ends first count waits now g more text t next turn = record {
    count = count;
    rest = waits ++ more;
    before = g.text;
    mid = now.0;
    last = text;
    goes = goes_more step first.0 1 count g.input more waits g.text now.0 g.goes;
    turn = turn;
    says = refl;
  }

  talked : (first : State S R W) (count : ℕ) (waits : List ℕ) (now : State S R W) (g : Going step remaining first count waits now) (more text : List ℕ) (t : S) (holds : Taken) (end : End)
      → IsFew (waits ++ more) → Turn step now.0 (suc count) (waits ++ more) text t (stop end) → Took now.2.taken holds text
      → Talked step first.0 first.2.taken (g.input ++ more) t holds end
  unfolding text_ends
  talked first count waits now g more text t holds end few turn wrote = record {
    text = g.text ++ text;
    is_text = text_ends first count waits now g more text t (stop end) turn;
    few = few;
    wrote = took_both _ _ _ _ _ g.wrote wrote;
  }

  -- where no whole request waits, the text is that of all that was read
  unfinished_talked : (first : State S R W) (count : ℕ) (waits : List ℕ) (s : S) (r : TrackedReading R) (w : TrackedWriting W) (g : Going step remaining first count waits (s, r, w)) (more : List ℕ) (holds : Taken)
      → WaitsBehind waits w.taken more holds → IsTalked step first.0 first.2 (g.input ++ more) holds
  unfinished_talked first count waits s r w g more holds ((end, inl p, n, few), keeps) =
      let none : NoRequest (waits ++ more) [] Closed = subst (NoRequest (waits ++ more) []) p n in
      (s, inl (talked first count waits (s, r, w) g more [] s holds Closed few (no_request Closed none refl refl) (took_nothing _ _ keeps)))
  unfinished_talked first count waits s r w g more holds ((end, inr p, n, few), keeps) =
      let none : NoRequest (waits ++ more) [] Broken = subst (NoRequest (waits ++ more) []) p n in
      (s, inr (talked first count waits (s, r, w) g more [] s holds Broken few (no_request Broken none refl refl) (took_nothing _ _ keeps)))

  pub waited_later : (first : State S R W) (count : ℕ) (waits : List ℕ) (s : S) (r : TrackedReading R) (w : TrackedWriting W) (g : Going step remaining first count waits (s, r, w)) (r1 : TrackedReading R) (more : List ℕ)
      → Waited (WaitsBehind waits w.taken) r.reads r1.reads more → Waited (IsTalked step first.0 first.2) first.1.reads r1.reads (g.input ++ more)
  waited_later first count waits s r w g r1 more v = waited_both _ first.1.reads r.reads r1.reads g.input more g.waited (waited_as _ _ (unfinished_talked first count waits s r w g) r.reads r1.reads more v)

  pub going_reads : (first : State S R W) (count : ℕ) (waits waiting : List ℕ) (s : S) (r0 r1 : TrackedReading R) (w0 w1 : TrackedWriting W)
      → Going step remaining first count waits (s, r0, w0) → ReadOn remaining (waits, r0, w0) (waiting, r1, w1) → Going step remaining first count waiting (s, r1, w1)
  going_reads first count waits waiting s r0 r1 w0 w1 g p = record {
    input = g.input ++ p.more;
    text = g.text;
    reads = reads_both remaining first.1 r0 r1 g.input p.more g.reads p.reads;
    waited = waited_later first count waits s r0 w0 g r1 p.more p.waited;
    goes = subst (λ (x : List ℕ). Goes step first.0 1 count (g.input ++ p.more) x g.text s) (sym p.holds) (goes_more step first.0 1 count g.input p.more waits g.text s g.goes);
    wrote = took_kept first.2.taken w0.taken w1.taken g.text g.wrote p.keeps;
    reader_works = p.reader_works;
    writer_works = p.writer_works;
  }

  pub going_settled : (first : State S R W) (count : ℕ) (waits rest : List ℕ) (s t : S) (r : TrackedReading R) (w0 w1 : TrackedWriting W) (u : Unit {0})
      → Going step remaining first count waits (s, r, w0) → IsSettled step s (count + 1) waits rest w0.taken t w1.taken (Ok u) → w1.failed ≡ false
      → Going step remaining first (count + 1) rest (t, r, w1)
  going_settled first count waits rest s t r w0 w1 u g (more, turn, wrote) works =
      let next : count + 1 ≡ suc count = omega arith in
      let goes : Goes step first.0 1 (suc count) g.input rest (g.text ++ more) t = goes_next step first.0 1 count g.input waits g.text s rest more t g.goes turn in
      record {
        input = g.input;
        text = g.text ++ more;
        reads = g.reads;
        waited = g.waited;
        goes = subst (λ (n : ℕ). Goes step first.0 1 n g.input rest (g.text ++ more) t) (sym next) goes;
        wrote = took_both _ _ _ _ _ g.wrote wrote;
        reader_works = g.reader_works;
        writer_works = works;
      }

  cut : (first : State S R W) (count : ℕ) (waits : List ℕ) (now : State S R W) (g : Going step remaining first count waits now) (more text : List ℕ) (t : S) (w : TrackedWriting W) (next : Next)
      → IsFew (waits ++ more) → Turn step now.0 (suc count) (waits ++ more) text t next → WroteSome now.2.taken w.taken text
      → TalkCut step first.0 first.2.taken (g.input ++ more) t w.taken
  unfolding text_ends
  cut first count waits now g more text t w next few turn some = record {
    text = g.text ++ text;
    next = next;
    is_text = text_ends first count waits now g more text t next turn;
    few = few;
    wrote = some_after _ _ _ _ _ g.wrote some;
  }

  -- it ends before another request has come whole
  pub ended_finished : (first : State S R W) (count : ℕ) (waits : List ℕ) (s : S) (r0 r1 : TrackedReading R) (w0 w1 : TrackedWriting W) (end : End)
      → Going step remaining first count waits (s, r0, w0) → Ended remaining (waits, r0, w0) r1 w1 end → Finished step remaining first (s, r1, w1) end
  ended_finished first count waits s r0 r1 w0 w1 end g e = by_end end e.all e.ends
    where
      reads : Reads remaining first.1 r1 (g.input ++ e.more)
      reads = reads_both remaining first.1 r0 r1 g.input e.more g.reads e.reads

      by_end : (x : End) → (IsPause x → IsAtEnd (remaining r1.inner)) → EndsSo (waits ++ e.more) w0.taken w1.taken x → Finished step remaining first (s, r1, w1) x
      by_end Closed all h = (g.input ++ e.more, (reads, all (inl refl)), talked first count waits (s, r0, w0) g e.more [] s w1.taken Closed e.few (no_request Closed h.0 refl refl) h.1)
      by_end Broken all h = (g.input ++ e.more, (reads, all (inr refl)), talked first count waits (s, r0, w0) g e.more [] s w1.taken Broken e.few (no_request Broken h.0 refl refl) h.1)
      by_end Asked all h = (g.input ++ e.more, reads, talked first count waits (s, r0, w0) g e.more h.0 s w1.taken Asked e.few (no_request Asked h.1 refl refl) h.2)
      by_end ReadFault all (x, inl p, n, wrote) = (g.input ++ e.more, reads, inl (talked first count waits (s, r0, w0) g e.more [] s w1.taken Closed e.few (no_request Closed (subst (NoRequest (waits ++ e.more) []) p n) refl refl) wrote))
      by_end ReadFault all (x, inr p, n, wrote) = (g.input ++ e.more, reads, inr (talked first count waits (s, r0, w0) g e.more [] s w1.taken Broken e.few (no_request Broken (subst (NoRequest (waits ++ e.more) []) p n) refl refl) wrote))
      by_end WriteFault all (x, text, n, some) = (g.input ++ e.more, reads, cut first count waits (s, r0, w0) g e.more text s w1 (stop x) e.few (no_request x n refl refl) some)
      by_end Memory all h = absurd h

  -- it ends with a request
  pub settled_finished : (first : State S R W) (count : ℕ) (waits rest : List ℕ) (s t : S) (r : TrackedReading R) (w0 w1 : TrackedWriting W) (end : End)
      → Going step remaining first count waits (s, r, w0) → IsFew waits → IsSettled step s (count + 1) waits rest w0.taken t w1.taken (Err end)
      → Finished step remaining first (t, r, w1) end × (false ≡ is_read_fault end)
  settled_finished first count waits rest s t r w0 w1 end g few h = by_end end h
    where
      next : count + 1 ≡ suc count
      next = omega arith

      input : g.input ++ [] ≡ g.input
      input = append-nil g.input

      still : IsFew (waits ++ [])
      still = subst IsFew (sym (append-nil waits)) few

      here : (n : Next) (text : List ℕ) → Turn step s (count + 1) waits text t n → Turn step s (suc count) (waits ++ []) text t n
      here n text turn =
          let P : List ℕ → Type 0 = λ i. Turn step s (suc count) i text t n in
          let Q : ℕ → Type 0 = λ k. Turn step s k waits text t n in
          subst P (sym (append-nil waits)) (subst Q next turn)

      by_end : (x : End) → IsSettled step s (count + 1) waits rest w0.taken t w1.taken (Err x) → Finished step remaining first (t, r, w1) x × (false ≡ is_read_fault x)
      by_end Asked (text, turn, wrote) = ((g.input ++ [], subst (Reads remaining first.1 r) (sym input) g.reads, talked first count waits (s, r, w0) g [] text t w1.taken Asked still (here (stop Asked) text turn) wrote), refl)
      by_end Memory (text, turn, wrote) = ((g.input ++ [], subst (Reads remaining first.1 r) (sym input) g.reads, talked first count waits (s, r, w0) g [] text t w1.taken Memory still (here (stop Memory) text turn) wrote), refl)
      by_end WriteFault (text, n, turn, some) = ((g.input ++ [], subst (Reads remaining first.1 r) (sym input) g.reads, cut first count waits (s, r, w0) g [] text t w1 n still (here n text turn) some), refl)
      by_end Closed h = absurd h
      by_end Broken h = absurd h
      by_end ReadFault h = absurd h
