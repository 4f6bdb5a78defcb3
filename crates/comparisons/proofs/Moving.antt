-- What is kept is that of its revisions while the history grows, is trimmed, and its next commit is taken.
use Rattle.std.proofs.Common.{◌≡◌, ℕ, ◌+◌, ◌-◌, ◌<◌, ◌≤◌, ◌++◌, ◌∷◌, List, [], length, take, drop, refl, ap, sym, subst, ◌∙◌, arith, get_or, length-append}
use Rattle.std.specs.Prelude.{Option, Some, None, Result, Ok, Err, IfSome, IfOk, OnOk, max}
use Rattle.std.specs.declared.alloc.AllocError.{AllocError}
use Rattle.std.proofs.Math.Seq.{take-add}
use Rattle.std.proofs.lemmas.List.{length-drop, length-take-le, take-append-le, take-take, take_more}
use Rattle.names.specs.declared.commit.Commit.{Commit}
use Rattle.names.specs.declared.commit.Commit.TheVariants.{Tuples}
use Rattle.names.specs.declared.commit.Event.{Event}
use Rattle.meaning.specs.Config.{Configured}
use Rattle.meaning.specs.Snap.{Snap}
use Rattle.meaning.specs.Reads.{IsValid}
use Rattle.meaning.specs.History.{History, after_commit, after_commits}
use Rattle.delta.specs.Layers.{AreKept, AreRoots}
use Rattle.delta.specs.Layers as layers
use Rattle.direct.specs.Revisions as revisions
use Rattle.group_index.specs.Indices.{IsGroupIndexOf, TellsOf, base_of, cursor_of}
use Rattle.group_index.specs.declared.at.At.{At}
use Rattle.group_index.specs.declared.index.GroupIndex.{GroupIndex}
use Rattle.hot.specs.Kept.{IsHot}
use Rattle.hot.specs.declared.hot.Hot.{Hot}
use Rattle.rows.specs.Retained.{Retained, IsRetained, newest, snap_at, empty_store, with_commit, after_trim, commits_between}
use Rattle.comparisons.specs.Following.{AreMembersIn, IsIndexIn, IsFollowing}

pub some_is : {A : Type 0} (o : Option A) (x : A) (P : A → Type 0) → o ≡ Some x → IfSome o P → P x
some_is {A = A} o x P is p = subst (λ (q : Option A). IfSome q P) is p

pub if_ok : {T E : Type 0} (P Q : T → Type 0) (r : Result T E) → ((x : T) → P x → Q x) → IfOk r P → IfOk r Q
if_ok P Q (Ok x) f p = f x p
if_ok P Q (Err e) f p = tt

pub ok_all : {T E P Q R S : Type 0} (r : Result T E) → (P → Q → R → S) → OnOk r P → OnOk r Q → OnOk r R → OnOk r S
ok_all (Ok x) f p q s = f p q s
ok_all (Err e) f p q s = tt

-- ---- snapshots

snap_with : (r : Retained) (c : Commit Configured) (rev : ℕ) → rev ≤ newest r → snap_at (with_commit r c) rev ≡ snap_at r rev
snap_with r c rev there = ap (after_commits r.base) (take-append-le (rev - r.floor) r.commits (c ∷ []) (omega (arith, there)))

after_append : (s : Snap) (g h : History) → after_commits s (g ++ h) ≡ after_commits (after_commits s g) h
after_append s [] h = refl
after_append s (c ∷ g) h = after_append (after_commit s c) g h

after_parts : (s : Snap) (k m : ℕ) (h : History) → after_commits (after_commits s (take k h)) (take m (drop k h)) ≡ after_commits s (take (k + m) h)
after_parts s k m h = sym (ap (after_commits s) (take-add k m h) ∙ after_append s (take k h) (take m (drop k h)))

snap_above : (r : Retained) (floor : ℕ) → r.floor ≤ floor → (rev : ℕ) → floor ≤ rev → snap_at (after_trim r floor) rev ≡ snap_at r rev
snap_above r floor above rev later =
    let sum : (floor - r.floor) + (rev - floor) ≡ rev - r.floor = omega (arith, above, later) in
    after_parts r.base (floor - r.floor) (rev - floor) r.commits ∙ ap (λ (n : ℕ). after_commits r.base (take n r.commits)) sum

-- ---- members

module _ (r : Retained) (hot : Hot) (cursor : ℕ) (are : AreMembersIn r hot cursor) where
  -- they are those of a view at the cursor
  pub of_view : (view : Snap) → view ≡ snap_at r cursor → IsHot hot view
  of_view view seen = subst (λ (S : Snap). IsHot hot S) (sym seen) are.members

  -- others are kept of the same revision
  pub renewed : (new : Hot) → ((S : Snap) → IsHot hot S → IsHot new S) → AreMembersIn r new cursor
  renewed new keeps = record { retained = are.retained; members = keeps (snap_at r cursor) are.members }

  pub marked : (new : Hot) (view : Snap) → view ≡ snap_at r cursor → (IsHot hot view → IsHot new view) → AreMembersIn r new cursor
  marked new view seen keeps = record { retained = are.retained; members = subst (λ (S : Snap). IsHot new S) seen (keeps (of_view view seen)) }

  -- they begin anew at another revision
  pub begun_anew : (new : Hot) (view : Snap) (rev : ℕ) → IsRetained r rev → view ≡ snap_at r rev → ((S : Snap) → IsHot hot S → IsHot new view) → AreMembersIn r new rev
  begun_anew new view rev retained seen keeps = record { retained = retained; members = subst (λ (S : Snap). IsHot new S) seen (keeps (snap_at r cursor) are.members) }

  members_with : (c : Commit Configured) → AreMembersIn (with_commit r c) hot cursor
  members_with c =
      let retained = are.retained in
      let longer = length-append r.commits (c ∷ []) in
      record {
        retained = record { not_below = retained.not_below; not_above = omega (arith, retained.not_above, longer) };
        members = subst (λ (S : Snap). IsHot hot S) (sym (snap_with r c cursor retained.not_above)) are.members;
      }

  members_above : (floor : ℕ) → r.floor ≤ floor → floor ≤ cursor → AreMembersIn (after_trim r floor) hot cursor
  members_above floor above below =
      let retained = are.retained in
      let left = length-drop (floor - r.floor) r.commits in
      record {
        retained = record { not_below = below; not_above = omega (arith, retained.not_above, left, above, below) };
        members = subst (λ (S : Snap). IsHot hot S) (sym (snap_above r floor above cursor below)) are.members;
      }

-- the snapshot after the next commit
pub next : (r : Retained) (from : ℕ) (c : Commit Configured) (view : Snap) → r.floor ≤ from → from + 1 ≤ newest r → c ≡ get_or (commits_between r from (from + 1)) 0 c → view ≡ snap_at r (from + 1)
    → view ≡ after_commit (snap_at r from) c
next r from c view retained there at seen =
    let k : ℕ = from - r.floor in
    let n : ℕ = (from + 1) - from in
    let above : History = drop k r.commits in
    let left : length above ≡ length r.commits - k = length-drop k r.commits in
    let few : n ≤ length above = omega (arith, left, retained, there) in
    let long : length (take n above) ≡ n = length-take-le n above few in
    let some : 0 < length (take n above) = omega (arith, long) in
    let one : take 1 above ≡ c ∷ [] = sym (take-take 1 n above (omega arith)) ∙ take_more (take n above) 0 c some ∙ ap (λ (d : Commit Configured). d ∷ []) (sym at) in
    let sum : k + 1 ≡ (from + 1) - r.floor = omega (arith, retained) in
    seen ∙ ap (λ (m : ℕ). after_commits r.base (take m r.commits)) (sym sum) ∙ sym (after_parts r.base k 1 r.commits) ∙ ap (after_commits (snap_at r from)) one

pub some_next : (r : Retained) (from : ℕ) (h : History) → r.floor ≤ from → from + 1 ≤ newest r → h ≡ commits_between r from (from + 1) → 0 < length h
some_next r from h retained there is =
    let n : ℕ = (from + 1) - from in
    let above : History = drop (from - r.floor) r.commits in
    let left : length above ≡ length r.commits - (from - r.floor) = length-drop (from - r.floor) r.commits in
    let few : n ≤ length above = omega (arith, left, retained, there) in
    let long : length (take n above) ≡ n = length-take-le n above few in
    let same : length h ≡ length (take n above) = ap length is in
    omega (arith, long, same)

-- the next commit is taken
pub taken : (r : Retained) (old new : Hot) (from : ℕ) (c : Commit Configured) (h : History) (view : Snap) → AreMembersIn r old from → from + 1 ≤ newest r → h ≡ commits_between r from (from + 1) → c ≡ get_or h 0 c
    → view ≡ snap_at r (from + 1) → ((S : Snap) → IsHot old S → view ≡ after_commit S c → IsHot new view) → AreMembersIn r new (from + 1)
taken r old new from c h view following there is at seen takes =
    let below = following.retained.not_below in
    let same : c ≡ get_or (commits_between r from (from + 1)) 0 c = subst (λ (g : History). c ≡ get_or g 0 c) is at in
    record {
      retained = record { not_below = omega (arith, below); not_above = there };
      members = subst (λ (S : Snap). IsHot new S) seen (takes (snap_at r from) following.members (next r from c view below there same seen));
    }

-- before the first commit
pub at_first : (r : Retained) → r ≡ empty_store 0 → IsRetained r 0
at_first r is = subst (λ (t : Retained). IsRetained t 0) (sym is) (record { not_below = omega arith; not_above = omega arith })

-- ---- the group index

-- an index is that of all snapshots that are the same from its base to its cursor
alike : (index : GroupIndex) (snaps others : ℕ → Snap) → ((rev : ℕ) → base_of index ≤ rev → rev ≤ cursor_of index → others rev ≡ snaps rev)
    → IsGroupIndexOf index snaps → IsGroupIndexOf index others
alike index snaps others same is =
    let layer = index.layer in
    let closures = is.closures in
    let order = closures.order in
    let top = same layer.cursor order (omega arith) in
    let base = index.one_base in
    let cursor = index.one_cursor in
    record {
      closures = record {
        order = order;
        distinct = closures.distinct;
        kept = subst (λ (S : Snap). AreKept S layer.nodes layer.roots layer.sets.rows) (sym top) closures.kept;
        roots = subst (λ (S : Snap). AreRoots S layer.nodes layer.roots) (sym top) closures.roots;
        tells = λ rev from to. subst (λ (S : Snap). layers.Tells layer rev S) (sym (same rev from to)) (closures.tells rev from to);
      };
      direct = record {
        order = is.direct.order;
        tells = λ rev from to. subst (λ (S : Snap). revisions.Tells index.direct rev S) (sym (same rev (omega (arith, from, base)) (omega (arith, to, cursor)))) (is.direct.tells rev from to);
      };
    }

index_with : (r : Retained) (c : Commit Configured) (index : GroupIndex) → IsIndexIn r index → IsIndexIn (with_commit r c) index
index_with r c index is =
    let longer = length-append r.commits (c ∷ []) in
    let there = is.there in
    record {
      index_of = alike index (snap_at r) (snap_at (with_commit r c)) (λ rev from to. snap_with r c rev (omega (arith, to, there))) is.index_of;
      retained = is.retained;
      there = omega (arith, there, longer);
    }

some_index_with : (r : Retained) (c : Commit Configured) (index : Option GroupIndex) → IfSome index (IsIndexIn r) → IfSome index (IsIndexIn (with_commit r c))
some_index_with r c None is = tt
some_index_with r c (Some index) is = index_with r c index is

index_above : (r : Retained) (floor : ℕ) (index : GroupIndex) → r.floor ≤ floor → floor ≤ base_of index → IsIndexIn r index → IsIndexIn (after_trim r floor) index
index_above r floor index above below is =
    let order = is.index_of.closures.order in
    let there = is.there in
    let left = length-drop (floor - r.floor) r.commits in
    record {
      index_of = alike index (snap_at r) (snap_at (after_trim r floor)) (λ rev from to. snap_above r floor above rev (omega (arith, below, from))) is.index_of;
      retained = below;
      there = omega (arith, order, there, left, above, below);
    }

-- one of one revision
pub index_at : (r : Retained) (rev : ℕ) (index : GroupIndex) (view : Snap) → IsRetained r rev → view ≡ snap_at r rev → ((snaps : ℕ → Snap) → snaps rev ≡ view → IsGroupIndexOf index snaps)
    → base_of index ≡ rev → cursor_of index ≡ rev → IsIndexIn r index
index_at r rev index view retained seen gives base at =
    let below = retained.not_below in
    let above = retained.not_above in
    record { index_of = gives (snap_at r) (sym seen); retained = omega (arith, base, below); there = omega (arith, at, above) }

-- the floor is not above its cursor
pub from_floor : (r : Retained) (index : GroupIndex) → IsIndexIn r index → r.floor ≤ cursor_of index
from_floor r index is =
    let order = is.index_of.closures.order in
    let retained = is.retained in
    omega (arith, order, retained)

pub next_retained : (r : Retained) (index : GroupIndex) (from : ℕ) → from ≡ cursor_of index → from + 1 ≤ newest r → IsIndexIn r index → IsRetained r (from + 1)
next_retained r index from at there is =
    let below = from_floor r index is in
    record { not_below = omega (arith, at, below); not_above = there }

pub later : (r : Retained) (index : GroupIndex) (from : ℕ) (c : Commit Configured) (h : History) (view : Snap) → IsIndexIn r index → from ≡ cursor_of index → from + 1 ≤ newest r
    → h ≡ commits_between r from (from + 1) → c ≡ get_or h 0 c → view ≡ snap_at r (from + 1) → view ≡ after_commit (snap_at r (cursor_of index)) c
later r index from c h view is at there are one seen =
    let below : r.floor ≤ from = subst (λ (n : ℕ). r.floor ≤ n) (sym at) (from_floor r index is) in
    let same : c ≡ get_or (commits_between r from (from + 1)) 0 c = subst (λ (g : History). c ≡ get_or g 0 c) are one in
    subst (λ (n : ℕ). view ≡ after_commit (snap_at r n) c) at (next r from c view below there same seen)

-- after the commit of the next revision
module _ (index : GroupIndex) (rev : ℕ) (view : Snap) (commit : Commit Configured) where
  abbrev pub IsAfter : GroupIndex → Type 0
  IsAfter next = (r : Retained) → IsIndexIn r index → rev ≤ newest r → snap_at r rev ≡ view → view ≡ after_commit (snap_at r (cursor_of index)) commit → IsIndexIn r next

  pub after_config : (o : Result GroupIndex AllocError) → rev ≡ cursor_of index + 1 → IfOk o (λ next. (snaps : ℕ → Snap) → snaps rev ≡ view → IsGroupIndexOf next snaps)
      → IfOk o (λ next. base_of next ≡ rev) → IfOk o (λ next. cursor_of next ≡ rev) → IfOk o IsAfter
  after_config (Err e) next_is gives base cursor = tt
  after_config (Ok next) next_is gives base cursor = λ r is there seen later.
      let below = from_floor r index is in
      index_at r rev next view (record { not_below = omega (arith, next_is, below); not_above = there }) (sym seen) gives base cursor

  pub after_events : (o : Result GroupIndex AllocError) (events : List Event) → commit ≡ Tuples events → rev ≡ cursor_of index + 1
      → IfOk o (λ next. (snaps : ℕ → Snap) → IsGroupIndexOf index snaps → layers.IsNext snaps (cursor_of index) events view → IsGroupIndexOf next snaps)
      → IfOk o (λ next. base_of next ≡ base_of index) → IfOk o (λ next. cursor_of next ≡ cursor_of index + 1) → IfOk o IsAfter
  after_events (Err e) events are next_is gives base cursor = tt
  after_events (Ok next) events are next_is gives base cursor = λ r is there seen later.
      let retained = is.retained in
      record {
        index_of = gives (snap_at r) is.index_of (record {
          now = subst (λ (n : ℕ). snap_at r n ≡ view) next_is seen;
          after = subst (λ (c : Commit Configured). view ≡ after_commit (snap_at r (cursor_of index)) c) are later;
        });
        retained = subst (λ (n : ℕ). r.floor ≤ n) (sym base) retained;
        there = omega (arith, cursor, next_is, there);
      }

-- with a new base
pub rebased : (r : Retained) (old new : GroupIndex) (rev : ℕ) (view : Snap) → IsRetained r rev → view ≡ snap_at r rev → base_of old ≤ rev
    → ((snaps : ℕ → Snap) → IsGroupIndexOf old snaps → base_of old ≤ rev → snaps rev ≡ view → IsGroupIndexOf new snaps)
    → base_of new ≡ rev → cursor_of new ≡ max (cursor_of old) rev → IsIndexIn r old → IsIndexIn r new
rebased r old new rev view retained seen up gives base at is =
    let there = is.there in
    let below = retained.not_below in
    let above = retained.not_above in
    record {
      index_of = gives (snap_at r) is.index_of up (sym seen);
      retained = omega (arith, base, below);
      there = omega (arith, at, there, above);
    }

pub raised : (r : Retained) (old new : GroupIndex) (rev : ℕ) → ((snaps : ℕ → Snap) → IsGroupIndexOf old snaps → base_of old ≤ rev → IsGroupIndexOf new snaps)
    → base_of old ≤ rev → base_of new ≡ rev → cursor_of new ≡ cursor_of old → IsIndexIn r old → IsIndexIn r new
raised r old new rev gives up base at is =
    let retained = is.retained in
    let there = is.there in
    record {
      index_of = gives (snap_at r) is.index_of up;
      retained = omega (arith, base, up, retained);
      there = omega (arith, at, there);
    }

-- what it tells of a retained revision
pub told : (r now : Retained) (index : Option GroupIndex) (x : GroupIndex) (found : Option At) (rev : ℕ) → r ≡ now → index ≡ Some x → IfSome index (IsIndexIn r)
    → IfSome found (λ at. (snaps : ℕ → Snap) → IsGroupIndexOf x snaps → TellsOf at (snaps rev)) → IfSome found (λ at. TellsOf at (snap_at now rev))
told r now index x None rev same is right gives = tt
told r now index x (Some at) rev same is right gives =
    let kept : IsIndexIn r x = some_is index x (IsIndexIn r) is right in
    subst (λ (t : Retained). TellsOf at (snap_at t rev)) same (gives (snap_at r) kept.index_of)

-- ---- both

module _ (r : Retained) (hot : Hot) (cursor : ℕ) (groups : Option GroupIndex) (following : IsFollowing r hot cursor groups) where
  -- one commit more
  pub with_one : (new : Retained) (c : Commit Configured) → new ≡ with_commit r c → IsFollowing new hot cursor groups
  with_one new c is = subst (λ (t : Retained). IsFollowing t hot cursor groups) (sym is) (record {
    hot_right = members_with r hot cursor following.hot_right c;
    groups_right = some_index_with r c groups following.groups_right;
  })

  -- a higher floor, not above a cursor, with a base that is not below it
  pub with_floor : (new : Retained) (floor : ℕ) (index : GroupIndex) → r.floor ≤ floor → floor ≤ cursor → floor ≤ base_of index → IsIndexIn r index → new ≡ after_trim r floor → IsFollowing new hot cursor (Some index)
  with_floor new floor index above below base is trimmed = subst (λ (t : Retained). IsFollowing t hot cursor (Some index)) (sym trimmed) (record {
    hot_right = members_above r hot cursor following.hot_right floor above below;
    groups_right = index_above r floor index above base is;
  })

  -- other members, or another index
  pub with_members : (new : Hot) (at : ℕ) → AreMembersIn r new at → IsFollowing r new at groups
  with_members new at are = record { hot_right = are; groups_right = following.groups_right }

  pub with_index : (new : Option GroupIndex) → IfSome new (IsIndexIn r) → IsFollowing r hot cursor new
  with_index new is = record { hot_right = following.hot_right; groups_right = is }

-- before the first commit
pub begun : (r : Retained) (hot : Hot) (index : GroupIndex) (view seen : Snap) → r ≡ empty_store 0 → view ≡ snap_at r 0 → seen ≡ snap_at r 0 → IsValid view → ((S : Snap) → IsValid S → IsHot hot S)
    → ((snaps : ℕ → Snap) → snaps 0 ≡ seen → IsGroupIndexOf index snaps) → base_of index ≡ 0 → cursor_of index ≡ 0 → IsFollowing r hot 0 (Some index)
begun r hot index view seen is at same valid each gives base cursor = record {
  hot_right = record { retained = at_first r is; members = each (snap_at r 0) (subst (λ (S : Snap). IsValid S) at valid) };
  groups_right = index_at r 0 index seen (at_first r is) same gives base cursor;
}
