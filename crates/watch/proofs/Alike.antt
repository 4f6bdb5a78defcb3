-- Sets of tuples that stay alike while events are done on both.
use Rattle.std.proofs.Common.{◌≡◌, ℕ, ◌+◌, ◌-◌, ◌≤◌, List, [], ◌∷◌, ◌++◌, take, drop, zero, suc, refl, ap, sym, subst, ◌∙◌, Bool, true, false, cond, arith}
use Rattle.std.specs.Prelude.{not, ◌&&◌, ◌||◌, map, filter}
use Rattle.std.specs.Ordering.{eq_by_cmp}
use Rattle.std.proofs.lemmas.List.{map-append}
use Rattle.std.proofs.lemmas.Map.Views.{tells_apart}
use Rattle.names.specs.Order.{tuple_cmp}
use Rattle.names.specs.declared.tuple.Tuple.{Tuple}
use Rattle.names.specs.declared.commit.Event.{Event}
use Rattle.names.specs.declared.commit.EventKind.{EventKind}
use Rattle.names.specs.declared.commit.EventKind.TheVariants.{Put, Del}
use Rattle.names.specs.declared.commit.Commit.{Commit}
use Rattle.names.specs.declared.commit.Commit.TheVariants.{Tuples, Config}
use Rattle.meaning.specs.TupleSet as set
use Rattle.meaning.specs.Config.{Configured}
use Rattle.meaning.specs.Snap.{Snap}
use Rattle.meaning.specs.History.{History, after_kind, after_event, replay, after_commit, after_commits}
use Rattle.meaning.proofs.TupleSets.{contains_insert, contains_remove, same_tuples, exact_tuples}
use Rattle.rows.specs.Retained.{Retained, newest, snap_at, commits_between}
use Rattle.watch.specs.declared.watched.Namespaces.{Namespaces}
use Rattle.watch.specs.declared.watched.Namespaces.TheVariants.{All}
use Rattle.watch.specs.declared.watched.WatchedEvent.{WatchedEvent}
use Rattle.watch.specs.Watched.{is_watched, watched_of, watched_in, watched}
use Rattle.watch.specs.Replays.{AreAlike, Replays, ReplaysAll, events_of, replayed}

after_alike : (k : EventKind) (u : Tuple) (a b : set.Tuples) (t : Tuple) → set.contains a t ≡ set.contains b t
    → set.contains (after_kind k u a) t ≡ set.contains (after_kind k u b) t
after_alike Put u a b t h = contains_insert a u t ∙ ap (λ x. eq_by_cmp tuple_cmp t u || x) h ∙ sym (contains_insert b u t)
after_alike Del u a b t h = contains_remove a u t ∙ ap (λ x. not (eq_by_cmp tuple_cmp t u) && x) h ∙ sym (contains_remove b u t)

-- what happens to another tuple
after_other : (k : EventKind) (u : Tuple) (b : set.Tuples) (t : Tuple) → eq_by_cmp tuple_cmp t u ≡ false → set.contains (after_kind k u b) t ≡ set.contains b t
after_other Put u b t other = contains_insert b u t ∙ ap (λ x. x || set.contains b t) other
after_other Del u b t other = contains_remove b u t ∙ ap (λ x. not x && set.contains b t) other

module _ (n : Namespaces) where
  -- a tuple that is watched is none that is not
  apart : (t u : Tuple) → is_watched n t ≡ true → is_watched n u ≡ false → (e : Bool) → eq_by_cmp tuple_cmp t u ≡ e → eq_by_cmp tuple_cmp t u ≡ false
  apart t u there gone false is = is
  apart t u there gone true is = let same = ap (is_watched n) (tells_apart exact_tuples t u is) in cc

  module _ (rev : ℕ) where
    events_alike : (es : List Event) (a b : set.Tuples) → AreAlike n a b → AreAlike n (replay a (events_of (watched_of n rev es))) (replay b es)
    events_alike [] a b alike = alike
    events_alike (e ∷ es) a b alike = go (is_watched n e.tuple) refl (events_alike es (after_event a e) (after_event b e)) (events_alike es a (after_event b e))
      where
        at : Event → WatchedEvent
        at f = record { rev = rev; event = f }

        done : set.Tuples → set.Tuples → Type 0
        done x y = AreAlike n x y → AreAlike n (replay x (events_of (watched_of n rev es))) (replay y es)

        go : (w : Bool) → is_watched n e.tuple ≡ w → done (after_event a e) (after_event b e) → done a (after_event b e)
            → AreAlike n (replay a (events_of (map at (cond w (e ∷ filter (λ f. is_watched n f.tuple) es) (filter (λ f. is_watched n f.tuple) es))))) (replay b (e ∷ es))
        go true is both one = both (λ t w. after_alike e.kind e.tuple a b t (alike t w))
        go false is both one = one (λ t w. alike t w ∙ sym (after_other e.kind e.tuple b t (apart t e.tuple w is (eq_by_cmp tuple_cmp t e.tuple) refl)))

  commit_alike : (rev : ℕ) (c : Commit Configured) (a : set.Tuples) (s : Snap) → AreAlike n a s.tuples
      → AreAlike n (replay a (events_of (watched_in n rev c))) (after_commit s c).tuples
  commit_alike rev (Tuples events) a s alike = events_alike rev events a s.tuples alike
  commit_alike rev (Config config) a s alike = alike

replay_append : (a : set.Tuples) (es fs : List Event) → replay a (es ++ fs) ≡ replay (replay a es) fs
replay_append a [] fs = refl
replay_append a (e ∷ es) fs = replay_append (after_event a e) es fs

pub commits_alike : (n : Namespaces) (above : ℕ) (h : History) (a : set.Tuples) (s : Snap) → AreAlike n a s.tuples
    → AreAlike n (replay a (events_of (watched n above h))) (after_commits s h).tuples
commits_alike n above [] a s alike = alike
commits_alike n above (c ∷ cs) a s alike =
    let first = events_of (watched_in n (above + 1) c) in
    let rest = events_of (watched n (above + 1) cs) in
    let both : replay a (events_of (watched n above (c ∷ cs))) ≡ replay (replay a first) rest =
    ap (replay a) (map-append (λ (w : WatchedEvent). w.event) (watched_in n (above + 1) c) (watched n (above + 1) cs)) ∙ replay_append a first rest in
    subst (λ (x : set.Tuples). AreAlike n x (after_commits s (c ∷ cs)).tuples) (sym both) (commits_alike n (above + 1) cs (replay a first) (after_commit s c) (commit_alike n (above + 1) c a s alike))

none_taken : (h : History) → take 0 h ≡ []
none_taken [] = refl
none_taken (c ∷ h) = refl

none_dropped : (h : History) → drop 0 h ≡ h
none_dropped [] = refl
none_dropped (c ∷ h) = refl

nothing_taken : (k : ℕ) → take {A = Commit Configured} k [] ≡ []
nothing_taken zero = refl
nothing_taken (suc k) = refl

-- a history in two parts
after_parts : (k m : ℕ) (s : Snap) (h : History) → after_commits s (take (k + m) h) ≡ after_commits (after_commits s (take k h)) (take m (drop k h))
after_parts zero m s h = let e : 0 + m ≡ m = omega arith in ap (λ (k : ℕ). after_commits s (take k h)) e ∙ ap (λ (x : History). after_commits s (take m x)) (sym (none_dropped h)) ∙ ap (λ (x : Snap). after_commits x (take m (drop 0 h))) (sym (ap (after_commits s) (none_taken h)))
after_parts (suc k) m s [] = ap (after_commits s) (nothing_taken (suc k + m)) ∙ sym (ap (after_commits s) (nothing_taken m))
after_parts (suc k) m s (c ∷ h) = let e : suc k + m ≡ suc (k + m) = omega arith in ap (λ (j : ℕ). after_commits s (take j (c ∷ h))) e ∙ after_parts k m (after_commit s c) h

between : (r : Retained) (from to : ℕ) → r.floor ≤ from → from ≤ to → (snap_at r to).tuples ≡ (after_commits (snap_at r from) (commits_between r from to)).tuples
between r from to above order =
    ap (λ k. (after_commits r.base (take k r.commits)).tuples) (omega (arith, above, order))
    ∙ ap (λ (s : Snap). s.tuples) (after_parts (from - r.floor) (to - from) r.base r.commits)

pub replays : (r : Retained) (n : Namespaces) (from to : ℕ) → r.floor ≤ from → from ≤ to → to ≤ newest r → Replays r n from to
replays r n from to above order there t w =
    commits_alike n from (commits_between r from to) (snap_at r from).tuples (snap_at r from) (λ t w. refl) t w
    ∙ ap (λ (s : set.Tuples). set.contains s t) (sym (between r from to above order))

pub replays_all : (r : Retained) (from to : ℕ) → r.floor ≤ from → from ≤ to → to ≤ newest r → ReplaysAll r from to
replays_all r from to above order there = same_tuples (replayed r All from to) (snap_at r to).tuples (λ t. replays r All from to above order there t refl)
