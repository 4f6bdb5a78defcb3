-- Members of marked nodes while the history grows, loses its newest commit, or is trimmed, and while its commits are taken.
use Rattle.std.proofs.Common.{◌≡◌, ℕ, ◌+◌, ◌-◌, ◌<◌, ◌≤◌, ◌++◌, ◌∷◌, List, [], length, take, drop, refl, ap, sym, subst, ◌∙◌, arith, get_or}
use Rattle.std.specs.Prelude.{Option, Some, None, Result, Ok, Err, IfSome, OnOk}
use Rattle.std.specs.Result.{result_ok}
use Rattle.std.proofs.lemmas.List.{take-take, take_more, length-drop, length-take-le}
use Rattle.names.specs.declared.commit.Commit.{Commit}
use Rattle.names.specs.declared.node.Node.{Node}
use Rattle.meaning.specs.Config.{Configured}
use Rattle.meaning.specs.Snap.{Snap}
use Rattle.meaning.specs.History.{after_commit, after_commits}
use Rattle.group_index.specs.declared.index.GroupIndex.{GroupIndex}
use Rattle.hot.specs.Kept.{IsHot}
use Rattle.hot.specs.declared.hot.Hot.{Hot}
use Rattle.rows.specs.Retained.{Retained, newest, snap_at, with_commit, after_trim, commits_between}
use Rattle.shown.specs.Standing.{Standing, IsSteady, CanGoBack, CanRaise, before_commit}
use Rattle.shown.specs.inside.Basing.{AreKeptMembers, AreMarked, IsIndexIn, IsSound}
use Rattle.shown.proofs.Basing.{snap_with, snap_without, snap_above, after_append, after_parts, kept_above}

-- ---- the members that are kept

-- they stay right where the revision holds what it held, and the same nodes are marked
pub moved : (s t : Standing) (members : Option Hot) → snap_at t.kept t.hot ≡ snap_at s.kept s.hot → t.marks ≡ s.marks → AreKeptMembers s members → AreKeptMembers t members
moved s t None same alike right = tt
moved s t (Some hot) same alike right = (subst (λ (S : Snap). IsHot hot S) (sym same) right.0, subst (λ (marks : List Node). AreMarked marks hot) (sym alike) right.1)

module _ (s : Standing) (members : Option Hot) (steady : IsSteady s) where
  pub members_with : (c : Commit Configured) → AreKeptMembers s members
      → AreKeptMembers (record { kept = with_commit s.kept c; base = s.base; index = s.index; hot = s.hot; marks = s.marks }) members
  members_with c = moved s (record { kept = with_commit s.kept c; base = s.base; index = s.index; hot = s.hot; marks = s.marks }) members (snap_with s.kept c s.hot steady.hot_there) refl

  pub members_without : CanGoBack s → AreKeptMembers s members → AreKeptMembers (before_commit s) members
  members_without can = moved s (before_commit s) members (snap_without s.kept s.hot can.hot_before can.above) refl

  pub members_above : (floor : ℕ) → CanRaise s floor → AreKeptMembers s members
      → AreKeptMembers (record { kept = after_trim s.kept floor; base = s.base; index = s.index; hot = s.hot; marks = s.marks }) members
  members_above floor can =
      let above = can.above in
      moved s (record { kept = after_trim s.kept floor; base = s.base; index = s.index; hot = s.hot; marks = s.marks }) members (snap_above s.kept floor (omega (arith, above)) s.hot can.hot) refl

-- ---- the commits between two revisions

-- what the first of them leave
abbrev pub snap_in : Retained → ℕ → ℕ → ℕ → Snap
snap_in r from to i = after_commits (snap_at r from) (take i (commits_between r from to))

pub snap_between : (r : Retained) (from to i rev : ℕ) → r.floor ≤ from → i ≤ to - from → rev ≡ from + i → snap_in r from to i ≡ snap_at r rev
snap_between r from to i rev retained few is =
    let above = drop (from - r.floor) r.commits in
    let sum : (from - r.floor) + i ≡ rev - r.floor = omega (arith, retained, is) in
    ap (after_commits (snap_at r from)) (take-take i (to - from) above few)
    ∙ after_parts r.base (from - r.floor) i r.commits
    ∙ ap (λ (n : ℕ). after_commits r.base (take n r.commits)) sum

pub snap_next : (r : Retained) (from to i : ℕ) (c : Commit Configured) → i < length (commits_between r from to) → c ≡ get_or (commits_between r from to) i c
    → snap_in r from to (i + 1) ≡ after_commit (snap_in r from to i) c
snap_next r from to i c small is =
    let commits = commits_between r from to in
    ap (after_commits (snap_at r from)) (take_more commits i c small ∙ ap (λ (d : Commit Configured). take i commits ++ d ∷ []) (sym is))
    ∙ after_append (snap_at r from) (take i commits) (c ∷ [])

pub length_between : (r : Retained) (from to : ℕ) → r.floor ≤ from → from ≤ to → to ≤ newest r → length (commits_between r from to) ≡ to - from
length_between r from to retained order there =
    let left = length-drop (from - r.floor) r.commits in
    length-take-le (to - from) (drop (from - r.floor) r.commits) (omega (arith, left, retained, order, there))

-- the snapshot of the next revision
pub view_next : (r : Retained) (from to i : ℕ) (c : Commit Configured) (view : Snap) → r.floor ≤ from → from ≤ to → to ≤ newest r → i < length (commits_between r from to) → c ≡ get_or (commits_between r from to) i c
    → view ≡ snap_at r (from + i + 1) → (view ≡ snap_in r from to (i + 1)) × (view ≡ after_commit (snap_in r from to i) c)
view_next r from to i c view retained order there small is seen =
    let long = length_between r from to retained order there in
    let at = seen ∙ sym (snap_between r from to (i + 1) (from + i + 1) retained (omega (arith, small, long)) (omega arith)) in
    (at, at ∙ snap_next r from to i c small is)

-- which is that after a commit on the snapshot of the revision before
pub view_after : (r : Retained) (from to i : ℕ) (c : Commit Configured) (view : Snap) → r.floor ≤ from → from ≤ to → to ≤ newest r → i < length (commits_between r from to) → c ≡ get_or (commits_between r from to) i c
    → view ≡ snap_at r (from + i + 1) → view ≡ after_commit (snap_at r (from + i)) c
view_after r from to i c view retained order there small is seen =
    let long = length_between r from to retained order there in
    (view_next r from to i c view retained order there small is seen).1
    ∙ ap (λ (S : Snap). after_commit S c) (snap_between r from to i (from + i) retained (omega (arith, small, long)) refl)

pub all_taken : (r : Retained) (from to i : ℕ) → r.floor ≤ from → from ≤ to → to ≤ newest r → length (commits_between r from to) ≤ i → i ≤ length (commits_between r from to) → snap_in r from to i ≡ snap_at r to
all_taken r from to i retained order there more few =
    let long = length_between r from to retained order there in
    snap_between r from to i to retained (omega (arith, few, long)) (omega (arith, order, more, few, long))

-- ---- what is done

pub done : {A E P : Type 0} (r : Result A E) (u : A) → Some u ≡ result_ok r → OnOk r P → P
done (Ok x) u is p = p
done (Err e) u is p = absurd cc

-- ---- a higher floor

pub above_floor : (s now : Standing) (floor : ℕ) → s ≡ now → CanRaise now floor → s.kept.floor ≤ floor
above_floor s now floor same room =
    let above = (subst (λ (t : Standing). CanRaise t floor) (sym same) room).above in
    omega (arith, above)

pub sound_above : (s now : Standing) (old index : Option GroupIndex) (members : Option Hot) (floor : ℕ) (new : Retained) → s ≡ now → CanRaise now floor → IsSound s old members
    → ((snaps : ℕ → Snap) (from cursor : ℕ) → IfSome old (IsIndexIn snaps from cursor) → IfSome index (IsIndexIn snaps floor cursor))
    → (s.kept.floor ≤ floor → new ≡ after_trim s.kept floor) → IsSound (record { kept = new; base = s.base; index = s.index; hot = s.hot; marks = s.marks }) index members
sound_above s now old index members floor new same room sound up raised =
    let can = subst (λ (t : Standing). CanRaise t floor) (sym same) room in
    let above = can.above in
    let is = raised (omega (arith, above)) in
    let left = length-drop (floor - s.kept.floor) s.kept.commits in
    subst (λ (r : Retained). IsSound (record { kept = r; base = s.base; index = s.index; hot = s.hot; marks = s.marks }) index members) (sym is) (record {
      steady = record {
        index_retained = can.index;
        index_there = omega (arith, left, above, can.there, sound.steady.index_there);
        base_read = sound.steady.base_read;
        hot_retained = can.hot;
        hot_there = omega (arith, left, above, can.there, sound.steady.hot_there);
        marked_once = sound.steady.marked_once;
      };
      index_right = kept_above s index floor can (up (snap_at s.kept) s.kept.floor s.index sound.index_right);
      members_right = members_above s members sound.steady floor can sound.members_right;
    })
