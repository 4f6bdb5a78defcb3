-- Where the tuples of a revision come from: the floor, or a commit that puts them.
use Rattle.std.proofs.Common.{◌≡◌, ℕ, ◌-◌, List, [], ◌∷◌, length, take, drop, ap, sym, ◌∙◌, inl, inr, ⊎_elim, Bool, true, false, take-append-drop}
use Rattle.std.specs.Prelude.{◌⊎◌, ◌&&◌, not}
use mathlib.Core.Bool.{true≢false}
use Rattle.std.specs.List.{list_any}
use Rattle.std.proofs.lemmas.List.Folds.{list_any-append}
use Rattle.names.specs.Order.{is_same_tuple}
use Rattle.names.specs.declared.tuple.Tuple.{Tuple}
use Rattle.names.specs.declared.commit.Event.{Event}
use Rattle.names.specs.declared.commit.EventKind.{EventKind}
use Rattle.names.specs.declared.commit.EventKind.TheVariants.{Put, Del}
use Rattle.names.specs.declared.commit.Commit.{Commit}
use Rattle.names.specs.declared.commit.Commit.TheVariants as commits
use Rattle.meaning.specs.TupleSet as set
use Rattle.meaning.specs.TupleSet.{Tuples}
use Rattle.meaning.specs.Config.{Configured}
use Rattle.meaning.specs.Snap.{Snap}
use Rattle.meaning.specs.History.{History, after_kind, replay, after_commit, after_commits}
use Rattle.meaning.proofs.TupleSets.{contains_insert, contains_remove}
use Rattle.rows.specs.Retained.{Retained, snap_at, after_trim, without_newest}
use Rattle.by_subject.specs.Complete.{puts_tuple, puts, is_put, Covers, IsOf, IsCompleteFor}
use Rattle.by_subject.proofs.Tests.{first_of, second_of, one_of}

-- ---- tests of some of a list

any_take : {A : Type 0} (p : A → Bool) (k : ℕ) (xs : List A) → list_any p (take k xs) ≡ true → list_any p xs ≡ true
any_take p k xs any =
    ap (list_any p) (sym (take-append-drop k xs)) ∙ list_any-append p (take k xs) (drop k xs) ∙ first_of (list_any p (take k xs)) (list_any p (drop k xs)) any

any_drop : {A : Type 0} (p : A → Bool) (k : ℕ) (xs : List A) → list_any p (drop k xs) ≡ true → list_any p xs ≡ true
any_drop p k xs any =
    ap (list_any p) (sym (take-append-drop k xs)) ∙ list_any-append p (take k xs) (drop k xs) ∙ second_of (list_any p (take k xs)) (list_any p (drop k xs)) any

-- ---- one tuple

module _ (t : Tuple) where
  by_kind : (s : Tuples) (k : EventKind) (u : Tuple) → set.contains (after_kind k u s) t ≡ true → (set.contains s t ≡ true) ⊎ ((is_put k && is_same_tuple t u) ≡ true)
  by_kind s Put u has = ⊎_elim (λ e. inr e) (λ e. inl e) (one_of (is_same_tuple t u) (set.contains s t) (sym (contains_insert s u t) ∙ has))
  by_kind s Del u has = inl (both (not (is_same_tuple t u)) (set.contains s t) (sym (contains_remove s u t) ∙ has))
    where
      both : (a b : Bool) → (a && b) ≡ true → b ≡ true
      both true b h = h
      both false b h = absurd (true≢false (sym h))

  by_events : (s : Tuples) (es : List Event) → set.contains (replay s es) t ≡ true → (set.contains s t ≡ true) ⊎ (list_any (puts_tuple t) es ≡ true)
  by_events s [] has = inl has
  by_events s (e ∷ es) has =
      ⊎_elim
      (λ before. ⊎_elim (λ there. inl there) (λ put. inr (first_of (puts_tuple t e) (list_any (puts_tuple t) es) put)) (by_kind s e.kind e.tuple before))
      (λ later. inr (second_of (puts_tuple t e) (list_any (puts_tuple t) es) later))
      (by_events (after_kind e.kind e.tuple s) es has)

  by_commit : (s : Snap) (c : Commit Configured) → set.contains (after_commit s c).tuples t ≡ true → (set.contains s.tuples t ≡ true) ⊎ (puts t c ≡ true)
  by_commit s (commits.Tuples events) has = by_events s.tuples events has
  by_commit s (commits.Config config) has = inl has

  pub by_commits : (s : Snap) (h : History) → set.contains (after_commits s h).tuples t ≡ true → (set.contains s.tuples t ≡ true) ⊎ (list_any (puts t) h ≡ true)
  by_commits s [] has = inl has
  by_commits s (c ∷ h) has =
      ⊎_elim
      (λ before. ⊎_elim (λ there. inl there) (λ put. inr (first_of (puts t c) (list_any (puts t) h) put)) (by_commit s c before))
      (λ later. inr (second_of (puts t c) (list_any (puts t) h) later))
      (by_commits (after_commit s c) h has)

-- a tuple of a revision is one that the history had
had_at : (r : Retained) (rev : ℕ) (t : Tuple) → set.contains (snap_at r rev).tuples t ≡ true → IsOf r t
had_at r rev t has = ⊎_elim (λ there. inl there) (λ put. inr (any_take (puts t) (rev - r.floor) r.commits put)) (by_commits t r.base (take (rev - r.floor) r.commits) has)

-- ---- what is complete stays so

pub covers : (r : Retained) (found : Tuples) → IsCompleteFor r found → (rev : ℕ) → Covers found (snap_at r rev).tuples
covers r found complete rev = λ t has. complete t (had_at r rev t has)

pub after_trimming : (r : Retained) (found : Tuples) (floor : ℕ) → IsCompleteFor r found → IsCompleteFor (after_trim r floor) found
after_trimming r found floor complete = λ t is. complete t (⊎_elim (had_at r floor t) (λ put. inr (any_drop (puts t) (floor - r.floor) r.commits put)) is)

pub without_one : (r : Retained) (found : Tuples) → IsCompleteFor r found → IsCompleteFor (without_newest r) found
without_one r found complete = λ t is. complete t (⊎_elim (λ there. inl there) (λ put. inr (any_take (puts t) (length r.commits - 1) r.commits put)) is)
