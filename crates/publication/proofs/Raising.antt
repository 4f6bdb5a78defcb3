-- What a higher floor keeps.
use Rattle.std.proofs.Common.{◌≡◌, ℕ, ◌+◌, ◌-◌, ◌<◌, ◌≤◌, Bool, true, false, List, [], ◌∷◌, ◌++◌, length, take, drop, map, refl, ap, sym, subst, ◌∙◌, arith, Option, Some, None}
use Rattle.std.specs.Prelude.{◌||◌, not, nat_lt}
use Rattle.std.specs.List.{list_any}
use Rattle.std.proofs.Math.Seq.{take-add}
use Rattle.std.proofs.lemmas.List.{take-append-drop, take-append-le, drop-append-le, drop-drop, length-drop}
use Rattle.std.proofs.lemmas.Bool.Decides.{nat_tests}
use Rattle.names.specs.declared.limits.TheConstants.{MAX_REV, MAX_ROWS, MAX_TUPLES}
use Rattle.names.specs.declared.write.Op.{Op}
use Rattle.names.specs.declared.commit.Event.{Event}
use Rattle.names.specs.declared.commit.Commit.{Commit}
use Rattle.names.specs.declared.commit.Commit.TheVariants.{Tuples, Config}
use Rattle.names.specs.declared.refusal.Refusal.{Refusal}
use Rattle.names.specs.declared.refusal.Refusal.TheVariants.{Malformed, UnknownRelation, TypeRefused, TwiceInOneWrite, AlreadyThere, NotThere, Full}
use Rattle.meaning.specs.Config.{Configured}
use Rattle.meaning.specs.Snap.{Snap}
use Rattle.meaning.specs.TupleSet as set
use Rattle.meaning.specs.History.{History, after_commit, after_commits, replay, puts_in}
use Rattle.meaning.specs.Verdict.{Newest, event_of, or_else, refused_if, at_place, first_from, is_in_range, is_unknown, is_untyped, is_twice, inserts_again, deletes_nothing, is_full, write_cause}
use Rattle.rows.specs.Retained.{Retained, newest, newest_of, spans_of, snap_at, with_commit, after_trim, commits_between}
use Rattle.rows.specs.Ordered.{is_in_order}
use Rattle.rows.specs.Follows.{commit_cause, touch_of, IsNext}
use Rattle.rows.proofs.Committing.{tuples_within}
use Rattle.rows.proofs.Trimming.{spans_split}
use Rattle.shown.specs.Standing.{Standing, CanRaise}
use Rattle.publication.specs.Keeping.{KeepsRetained}
use Rattle.publication.specs.World.{can_raise}
use Rattle.publication.specs.Runs.{with_commits}

-- ---- snapshots

after_append : (s : Snap) (g h : History) → after_commits s (g ++ h) ≡ after_commits (after_commits s g) h
after_append s [] h = refl
after_append s (c ∷ g) h = after_append (after_commit s c) g h

after_parts : (s : Snap) (k m : ℕ) (h : History) → after_commits (after_commits s (take k h)) (take m (drop k h)) ≡ after_commits s (take (k + m) h)
after_parts s k m h = sym (ap (after_commits s) (take-add k m h) ∙ after_append s (take k h) (take m (drop k h)))

after_all : (s : Snap) (k : ℕ) (h : History) → after_commits (after_commits s (take k h)) (drop k h) ≡ after_commits s h
after_all s k h = sym (after_append s (take k h) (drop k h)) ∙ ap (after_commits s) (take-append-drop k h)

module _ (r : Retained) (floor : ℕ) where
  pub snap_stays : r.floor ≤ floor → (rev : ℕ) → floor ≤ rev → snap_at (after_trim r floor) rev ≡ snap_at r rev
  snap_stays above rev later =
      let sum : (floor - r.floor) + (rev - floor) ≡ rev - r.floor = omega (arith, above, later) in
      after_parts r.base (floor - r.floor) (rev - floor) r.commits ∙ ap (λ (n : ℕ). after_commits r.base (take n r.commits)) sum

  commits_stay : r.floor ≤ floor → (from to : ℕ) → floor ≤ from → commits_between (after_trim r floor) from to ≡ commits_between r from to
  commits_stay above from to later =
      let sum : (floor - r.floor) + (from - floor) ≡ from - r.floor = omega (arith, above, later) in
      ap (take (to - from)) (drop-drop (from - floor) (floor - r.floor) r.commits ∙ ap (λ (n : ℕ). drop n r.commits) sum)

  pub newest_stays : r.floor ≤ floor → floor ≤ newest r → newest (after_trim r floor) ≡ newest r
  newest_stays above there = let left = length-drop (floor - r.floor) r.commits in omega (arith, left, above, there)

  pub keeps_retained : r.floor ≤ floor → floor ≤ newest r → KeepsRetained r floor
  keeps_retained above there = record { snaps = snap_stays above; commits = commits_stay above; newest_there = newest_stays above there }

-- ---- histories

none_taken : (h : History) → take 0 h ≡ []
none_taken [] = refl
none_taken (c ∷ h) = refl

none_dropped : (h : History) → drop 0 h ≡ h
none_dropped [] = refl
none_dropped (c ∷ h) = refl

-- the floor that is there is no other
pub trim_none : (r : Retained) → after_trim r r.floor ≡ r
trim_none r =
    let none : r.floor - r.floor ≡ 0 = omega arith in
    let base : snap_at r r.floor ≡ r.base = ap (λ (n : ℕ). after_commits r.base (take n r.commits)) none ∙ ap (after_commits r.base) (none_taken r.commits) in
    let rest : drop (r.floor - r.floor) r.commits ≡ r.commits = ap (λ (n : ℕ). drop n r.commits) none ∙ none_dropped r.commits in
    λ i. record { number = r.number; floor = r.floor; base = base i; commits = rest i }

-- the floor is raised, and then once more
pub trim_again : (r : Retained) (floor higher : ℕ) → r.floor ≤ floor → floor ≤ higher → after_trim (after_trim r floor) higher ≡ after_trim r higher
trim_again r floor higher above more =
    let sum : (floor - r.floor) + (higher - floor) ≡ higher - r.floor = omega (arith, above, more) in
    let rest : drop (higher - floor) (drop (floor - r.floor) r.commits) ≡ drop (higher - r.floor) r.commits =
    drop-drop (higher - floor) (floor - r.floor) r.commits ∙ ap (λ (n : ℕ). drop n r.commits) sum in
    λ i. record { number = r.number; floor = higher; base = snap_stays r floor above higher more i; commits = rest i }

-- commits above the floor that it is raised to
pub trim_more : (r : Retained) (floor : ℕ) (h : History) → floor ≤ newest r → after_trim (with_commits r h) floor ≡ with_commits (after_trim r floor) h
trim_more r floor h there =
    let few : floor - r.floor ≤ length r.commits = omega (arith, there) in
    let base = ap (after_commits r.base) (take-append-le (floor - r.floor) r.commits h few) in
    let rest = drop-append-le (floor - r.floor) r.commits h few in
    λ i. record { number = r.number; floor = floor; base = base i; commits = rest i }

pub trim_commit : (r : Retained) (floor : ℕ) (c : Commit Configured) → floor ≤ newest r → after_trim (with_commit r c) floor ≡ with_commit (after_trim r floor) c
trim_commit r floor c there = trim_more r floor (c ∷ []) there

-- ---- what can follow

on_none : (a x y : Option Refusal) → (x ≡ None → y ≡ None) → or_else a x ≡ None → or_else a y ≡ None
on_none None x y f h = f h
on_none (Some why) x y f h = h

no_more : (p q q' r : Bool) → (q ≡ false → q' ≡ false) → refused_if Full (p || q || r) ≡ None → refused_if Full (p || q' || r) ≡ None
no_more true q q' r f h = h
no_more false true q' r f h = absurd (cc h)
no_more false false true r f h = absurd (cc (f refl))
no_more false false false r f h = h

no_less : (limit a b : ℕ) → a ≤ b → nat_lt limit b ≡ false → nat_lt limit a ≡ false
no_less limit a b fewer h = grind (arith, nat_tests)

-- the same newest revision, with so many rows
abbrev with_rows : Newest → ℕ → Newest
with_rows n rows = record { rev = n.rev; rows = rows; held = n.held }

module _ (n : Newest) (rows : ℕ) (fewer : rows ≤ n.rows) where
  still_room : (es : List Event) → refused_if Full (is_full n es) ≡ None → refused_if Full (is_full (with_rows n rows) es) ≡ None
  still_room es =
      no_more (nat_lt MAX_TUPLES (set.len (replay n.held.tuples es))) (nat_lt MAX_ROWS (n.rows + puts_in es)) (nat_lt MAX_ROWS (rows + puts_in es)) (nat_lt MAX_REV (n.rev + 1))
      (no_less MAX_ROWS (rows + puts_in es) (n.rows + puts_in es) (omega (arith, fewer)))

  still_written : (ops : List Op) → write_cause n ops ≡ None → write_cause (with_rows n rows) ops ≡ None
  still_written ops =
      on_none (refused_if Malformed (not (is_in_range ops))) _ _
      (on_none (refused_if UnknownRelation (list_any (is_unknown n.held.config) ops)) _ _
      (on_none (refused_if TypeRefused (list_any (is_untyped n.held.config) ops)) _ _
      (on_none (refused_if TwiceInOneWrite (is_twice ops)) _ _
      (on_none (at_place (λ i. AlreadyThere i) (first_from (inserts_again n.held.tuples) 0 ops)) _ _
      (on_none (at_place (λ i. NotThere i) (first_from (deletes_nothing n.held.tuples) 0 ops)) _ _
      (still_room (map event_of ops)))))))

  still_next : (c : Commit Configured) → commit_cause n c ≡ None → commit_cause (with_rows n rows) c ≡ None
  still_next (Tuples events) = on_none (refused_if Malformed (not (is_in_order events))) _ _ (still_written (map touch_of events))
  still_next (Config config) = λ h. h

-- what can follow the history can follow it from a higher floor on
pub trim_next : (r : Retained) (floor : ℕ) (c : Commit Configured) → r.floor ≤ floor → floor ≤ newest r → IsNext r c → IsNext (after_trim r floor) c
trim_next r floor c above there next =
    let split = spans_split r floor in
    let within = tuples_within r.base (take (floor - r.floor) r.commits) in
    let fewer : spans_of (after_trim r floor) ≤ spans_of r = omega (arith, split, within) in
    let revs = newest_stays r floor above there in
    let held = after_all r.base (floor - r.floor) r.commits in
    let same : newest_of (after_trim r floor) ≡ with_rows (newest_of r) (spans_of (after_trim r floor)) = λ i. record { rev = revs i; rows = spans_of (after_trim r floor); held = held i } in
    subst (λ (n : Newest). commit_cause n c ≡ None) (sym same) (still_next (newest_of r) (spans_of (after_trim r floor)) fewer c next)

-- ---- the test

raises : (s : Standing) (floor : ℕ) → can_raise s floor ≡ true → CanRaise s floor
raises s floor h = record { above = grind (arith, nat_tests); there = grind (arith, nat_tests); index = grind (arith, nat_tests); hot = grind (arith, nat_tests) }

tells : (s : Standing) (floor : ℕ) → s.kept.floor < floor → floor ≤ newest s.kept → floor ≤ s.index → floor ≤ s.hot → can_raise s floor ≡ true
tells s floor above there index hot = grind (arith, nat_tests)

-- the test tells whether the floor can be raised so
pub raises_where : (s : Standing) (floor : ℕ) → (can_raise s floor ≡ true → CanRaise s floor) × (CanRaise s floor → can_raise s floor ≡ true)
raises_where s floor = (raises s floor, λ can. tells s floor can.above can.there can.index can.hot)
