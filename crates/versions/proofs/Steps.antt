-- One event more, or one less.
use Rattle.std.proofs.Common.{◌≡◌, ℕ, ◌+◌, ◌<◌, List, [], ◌∷◌, ◌++◌, length, take, zero, suc, ap, sym, ◌∙◌, append_assoc, arith, get_or, length-append}
use Rattle.std.specs.Prelude.{Bool, true, false, cond}
use Rattle.std.proofs.lemmas.List.{append-nil}
use Rattle.std.proofs.Math.Seq.{take-append_seam}
use Rattle.names.specs.Order.{is_same_tuple}
use Rattle.names.specs.declared.tuple.Tuple.{Tuple}
use Rattle.names.specs.declared.commit.Event.{Event}
use Rattle.meaning.specs.TupleSet.{Tuples}
use Rattle.meaning.specs.History.{after_event, replay}
use Rattle.versions.specs.declared.version.Version.{Version}
use Rattle.versions.specs.Versions.{version_of, versions_in, drop_last}
use Rattle.versions.proofs.VersionRuns.{take_none}

-- the versions of one event more
pub versions_more : (rev : ℕ) (es : List Event) (k : ℕ) (e : Event) (q : Tuple) → k < length es → e ≡ get_or es k e
    → versions_in rev (take (suc k) es) q ≡ versions_in rev (take k es) q ++ cond (is_same_tuple q e.tuple) (version_of rev e ∷ []) []
versions_more rev [] k e q small is = absurd (omega (arith, small))
versions_more rev (x ∷ es) zero e q small is =
    ap (λ (xs : List Event). versions_in rev (x ∷ xs) q) (take_none es)
    ∙ ap (λ (y : Event). cond (is_same_tuple q y.tuple) (version_of rev y ∷ []) []) (sym is)
    ∙ ap (λ (xs : List Event). versions_in rev xs q ++ cond (is_same_tuple q e.tuple) (version_of rev e ∷ []) []) (sym (take_none (x ∷ es)))
versions_more rev (x ∷ es) (suc k) e q small is = one (is_same_tuple q x.tuple) (versions_more rev es k e q (omega arith) is)
  where
    one : (same : Bool) → versions_in rev (take (suc k) es) q ≡ versions_in rev (take k es) q ++ cond (is_same_tuple q e.tuple) (version_of rev e ∷ []) []
        → cond same (version_of rev x ∷ versions_in rev (take (suc k) es) q) (versions_in rev (take (suc k) es) q) ≡ cond same (version_of rev x ∷ versions_in rev (take k es) q) (versions_in rev (take k es) q) ++ cond (is_same_tuple q e.tuple) (version_of rev e ∷ []) []
    one true rest = ap (λ ms. version_of rev x ∷ ms) rest
    one false rest = rest

pub replay_more : (s : Tuples) (es : List Event) (k : ℕ) (e : Event) → k < length es → e ≡ get_or es k e → replay s (take (suc k) es) ≡ after_event (replay s (take k es)) e
replay_more s [] k e small is = absurd (omega (arith, small))
replay_more s (x ∷ es) zero e small is =
    ap (replay (after_event s x)) (take_none es) ∙ ap (after_event s) (sym is) ∙ ap (λ (xs : List Event). after_event (replay s xs) e) (sym (take_none (x ∷ es)))
replay_more s (x ∷ es) (suc k) e small is = replay_more (after_event s x) es k e (omega arith) is

last_dropped : (ms : List Version) (m : Version) → drop_last (ms ++ m ∷ []) ≡ ms
last_dropped ms m =
    let sum : length (ms ++ m ∷ []) ≡ length ms + length (m ∷ []) = length-append ms (m ∷ []) in
    ap (λ (n : ℕ). take n (ms ++ m ∷ [])) (omega (arith, sum)) ∙ take-append_seam ms (m ∷ [])

-- a version put where its event's tuple is
pub put_one : (rev : ℕ) (es : List Event) (k : ℕ) (e : Event) (q : Tuple) (before old new : List Version) → k < length es → e ≡ get_or es k e
    → old ≡ before ++ versions_in rev (take k es) q → new ≡ cond (is_same_tuple q e.tuple) (old ++ version_of rev e ∷ []) old
    → new ≡ before ++ versions_in rev (take (suc k) es) q
put_one rev es k e q before old new small is was now =
    now ∙ ap (λ (ms : List Version). cond (is_same_tuple q e.tuple) (ms ++ version_of rev e ∷ []) ms) was ∙ one (is_same_tuple q e.tuple) ∙ ap (λ (ms : List Version). before ++ ms) (sym (versions_more rev es k e q small is))
  where
    one : (same : Bool) → cond same ((before ++ versions_in rev (take k es) q) ++ version_of rev e ∷ []) (before ++ versions_in rev (take k es) q) ≡ before ++ (versions_in rev (take k es) q ++ cond same (version_of rev e ∷ []) [])
    one true = append_assoc before (versions_in rev (take k es) q) (version_of rev e ∷ [])
    one false = ap (λ (ms : List Version). before ++ ms) (sym (append-nil (versions_in rev (take k es) q)))

-- and taken off again
pub off_one : (rev : ℕ) (es : List Event) (k : ℕ) (e : Event) (q : Tuple) (before old new : List Version) → k < length es → e ≡ get_or es k e
    → old ≡ before ++ versions_in rev (take (suc k) es) q → new ≡ cond (is_same_tuple q e.tuple) (drop_last old) old
    → new ≡ before ++ versions_in rev (take k es) q
off_one rev es k e q before old new small is was now =
    now ∙ ap (λ (ms : List Version). cond (is_same_tuple q e.tuple) (drop_last ms) ms) (was ∙ ap (λ (ms : List Version). before ++ ms) (versions_more rev es k e q small is)) ∙ one (is_same_tuple q e.tuple)
  where
    one : (same : Bool) → cond same (drop_last (before ++ (versions_in rev (take k es) q ++ cond same (version_of rev e ∷ []) []))) (before ++ (versions_in rev (take k es) q ++ cond same (version_of rev e ∷ []) [])) ≡ before ++ versions_in rev (take k es) q
    one true = ap drop_last (sym (append_assoc before (versions_in rev (take k es) q) (version_of rev e ∷ []))) ∙ last_dropped (before ++ versions_in rev (take k es) q) (version_of rev e)
    one false = ap (λ (ms : List Version). before ++ ms) (append-nil (versions_in rev (take k es) q))

-- with no event left
pub off_all : (rev : ℕ) (es : List Event) (q : Tuple) (before : List Version) → before ++ versions_in rev (take 0 es) q ≡ before
off_all rev es q before = ap (λ (xs : List Event). before ++ versions_in rev xs q) (take_none es) ∙ append-nil before
