-- What is true of a standing stays so where a part takes commits, and where a node is marked.
use Rattle.std.proofs.Common.{◌≡◌, ℕ, ◌+◌, ◌-◌, ◌≤◌, List, [], ◌∷◌, length, drop, refl, ap, sym, subst, ◌∙◌, arith}
use Rattle.std.specs.Prelude.{Option, Some, None, IfSome, min, max}
use Rattle.std.specs.List.{IsDistinct}
use Rattle.std.proofs.lemmas.List.{length-take}
use Rattle.names.specs.declared.commit.Commit.TheVariants.{Tuples, Config}
use Rattle.names.specs.declared.marking.Marking.{Marking}
use Rattle.names.specs.declared.node.Node.{Node}
use Rattle.names.specs.Order.{is_same_node}
use Rattle.meaning.specs.Snap.{Snap}
use Rattle.meaning.specs.History.{History}
use Rattle.group_index.specs.declared.index.GroupIndex.{GroupIndex}
use Rattle.hot.specs.Kept.{IsHot, HasSameMarks}
use Rattle.hot.specs.declared.hot.Hot.{Hot}
use Rattle.rows.specs.Retained.{Retained, newest, snap_at, commits_between, last_config}
use Rattle.shown.specs.Marks.{after_marking}
use Rattle.shown.specs.Standing.{Standing, cursor_after}
use Rattle.shown.specs.inside.Basing.{AreKeptMembers, AreMarked, IsIndexIn, IsSound}
use Rattle.shown.proofs.Following.{moved as members_moved}
use Rattle.shown.proofs.MarkedNodes.{are_same, once_after}

last_within : (base rev : ℕ) (h : History) → base ≤ rev → last_config base rev h ≤ rev + length h
last_within base rev [] below = omega arith
last_within base rev (Tuples events ∷ h) below = omega (arith, last_within base (rev + 1) h (omega arith))
last_within base rev (Config config ∷ h) below = omega (arith, last_within (rev + 1) (rev + 1) h (omega arith))

-- the last configuration of the commits up to a revision is not above it
base_within : (r : Retained) (base from to : ℕ) → base ≤ from → from ≤ to → last_config base from (commits_between r from to) ≤ to
base_within r base from to below order =
    let few = length-take (to - from) (drop (from - r.floor) r.commits) in
    omega (arith, last_within base from (commits_between r from to) below, few)

pub sound_taken : (s now before : Standing) (index new : Option GroupIndex) (members : Option Hot) (commits base to : ℕ) → s ≡ now → before ≡ now → to ≡ cursor_after now.kept before.index commits
    → base ≡ last_config s.base s.index (commits_between s.kept s.index to) → IfSome new (IsIndexIn (snap_at now.kept) now.kept.floor to) → IsSound s index members
    → IsSound (record { kept = s.kept; base = base; index = to; hot = s.hot; marks = s.marks }) new members
sound_taken s now before index new members commits base to same was reaches is right sound =
    let steady = sound.steady in
    let at : to ≡ min (s.index + commits) (newest s.kept) =
    reaches ∙ ap (λ (t : Standing). cursor_after now.kept t.index commits) was ∙ ap (λ (t : Standing). cursor_after t.kept t.index commits) (sym same) in
    let later : s.index ≤ to = omega (arith, at, steady.index_there) in
    let after : Standing = record { kept = s.kept; base = base; index = to; hot = s.hot; marks = s.marks } in
    record {
      steady = record {
        index_retained = omega (arith, later, steady.index_retained);
        index_there = omega (arith, at);
        base_read = subst (λ (n : ℕ). n ≤ to) (sym is) (base_within s.kept s.base s.index to steady.base_read later);
        hot_retained = steady.hot_retained;
        hot_there = steady.hot_there;
        marked_once = steady.marked_once;
      };
      index_right = subst (λ (t : Standing). IfSome new (IsIndexIn (snap_at t.kept) t.kept.floor to)) (sym same) right;
      members_right = members_moved s after members refl refl sound.members_right;
    }

-- the index has a new base
pub sound_rebased : (s : Standing) (index new : Option GroupIndex) (members : Option Hot) (rev next : ℕ) → s.kept.floor ≤ rev → s.base ≤ rev → rev ≤ newest s.kept → next ≡ max s.index rev
    → IfSome new (IsIndexIn (snap_at s.kept) s.kept.floor next) → IsSound s index members → IsSound (record { kept = s.kept; base = rev; index = next; hot = s.hot; marks = s.marks }) new members
sound_rebased s index new members rev next retained up there is right sound =
    let steady = sound.steady in
    let after : Standing = record { kept = s.kept; base = rev; index = next; hot = s.hot; marks = s.marks } in
    record {
      steady = record {
        index_retained = omega (arith, is, retained);
        index_there = omega (arith, is, there, steady.index_there);
        base_read = omega (arith, is);
        hot_retained = steady.hot_retained;
        hot_there = steady.hot_there;
        marked_once = steady.marked_once;
      };
      index_right = right;
      members_right = members_moved s after members refl refl sound.members_right;
    }

kept_new : (s : Standing) (new : Option Hot) → IfSome new (λ hot. IsHot hot (snap_at s.kept s.hot)) → IfSome new (λ hot. AreMarked s.marks hot) → AreKeptMembers s new
kept_new s None hot are = tt
kept_new s (Some table) hot are = (hot, are)

-- a part has taken commits
pub sound_hot : (s now before : Standing) (index : Option GroupIndex) (members new : Option Hot) (commits to : ℕ) → s ≡ now → before ≡ now → to ≡ cursor_after now.kept before.hot commits
    → IfSome new (λ hot. IsHot hot (snap_at now.kept to)) → IfSome new (λ hot. AreMarked now.marks hot) → IsSound s index members
    → IsSound (record { kept = s.kept; base = s.base; index = s.index; hot = to; marks = s.marks }) index new
sound_hot s now before index members new commits to same was reaches hot are sound =
    let steady = sound.steady in
    let at : to ≡ min (s.hot + commits) (newest s.kept) =
    reaches ∙ ap (λ (t : Standing). cursor_after now.kept t.hot commits) was ∙ ap (λ (t : Standing). cursor_after t.kept t.hot commits) (sym same) in
    let after : Standing = record { kept = s.kept; base = s.base; index = s.index; hot = to; marks = s.marks } in
    record {
      steady = record {
        index_retained = steady.index_retained;
        index_there = steady.index_there;
        base_read = steady.base_read;
        hot_retained = omega (arith, at, steady.hot_retained, steady.hot_there);
        hot_there = omega (arith, at);
        marked_once = steady.marked_once;
      };
      index_right = sound.index_right;
      members_right = kept_new after new
          (subst (λ (t : Standing). IfSome new (λ hot. IsHot hot (snap_at t.kept to))) (sym same) hot)
          (subst (λ (t : Standing). IfSome new (λ hot. AreMarked t.marks hot)) (sym same) are);
    }

-- the kept members have the marks
pub have_marks : (s : Standing) (members : Option Hot) → AreKeptMembers s members → IfSome members (λ hot. AreMarked s.marks hot)
have_marks s None right = tt
have_marks s (Some hot) right = right.1

-- a node was marked, or is so no longer
module _ (s : Standing) (index : Option GroupIndex) (members new : Option Hot) (marks : List Node) (marking : Marking) (sound : IsSound s index members) (is : marks ≡ after_marking s.marks marking) where
  pub sound_marked : IfSome new (λ hot. IsHot hot (snap_at s.kept s.hot)) → IfSome new (λ hot. AreMarked marks hot)
      → IsSound (record { kept = s.kept; base = s.base; index = s.index; hot = s.hot; marks = marks }) index new
  sound_marked hot are =
      let steady = sound.steady in
      let after : Standing = record { kept = s.kept; base = s.base; index = s.index; hot = s.hot; marks = marks } in
      record {
        steady = record {
          index_retained = steady.index_retained;
          index_there = steady.index_there;
          base_read = steady.base_read;
          hot_retained = steady.hot_retained;
          hot_there = steady.hot_there;
          marked_once = subst (λ (ns : List Node). IsDistinct is_same_node ns) (sym is) (once_after s.marks marking steady.marked_once);
        };
        index_right = sound.index_right;
        members_right = kept_new after new hot are;
      }

  pub sound_unkept : new ≡ None → IsSound (record { kept = s.kept; base = s.base; index = s.index; hot = s.hot; marks = marks }) index new
  sound_unkept none =
      sound_marked
      (subst (λ (o : Option Hot). IfSome o (λ hot. IsHot hot (snap_at s.kept s.hot))) (sym none) tt)
      (subst (λ (o : Option Hot). IfSome o (λ hot. AreMarked marks hot)) (sym none) tt)

  pub sound_remarked : (kept : Option Hot) (seen : List Node) (view : Snap) → kept ≡ members → seen ≡ marks → view ≡ snap_at s.kept s.hot → IfSome new (λ hot. IsHot hot view)
      → ((before : List Node) → IsDistinct is_same_node before → IfSome kept (λ hot. AreMarked before hot) → seen ≡ after_marking before marking → IfSome new (λ hot. AreMarked seen hot))
      → IsSound (record { kept = s.kept; base = s.base; index = s.index; hot = s.hot; marks = marks }) index new
  sound_remarked kept seen view taken all at hot are =
      let had = subst (λ (o : Option Hot). IfSome o (λ table. AreMarked s.marks table)) (sym taken) (have_marks s members sound.members_right) in
      sound_marked
      (subst (λ (S : Snap). IfSome new (λ table. IsHot table S)) at hot)
      (subst (λ (ns : List Node). IfSome new (λ table. AreMarked ns table)) all (are s.marks sound.steady.marked_once had (all ∙ is)))

-- the members are those of before, with the same marks
pub still_marked : (marks : List Node) (members : Option Hot) (hot : Hot) (later : Option Hot) → members ≡ Some hot → IfSome members (λ table. AreMarked marks table) → IfSome later (λ table. HasSameMarks hot table)
    → IfSome later (λ table. AreMarked marks table)
still_marked marks members hot None is are same = tt
still_marked marks members hot (Some table) is are same = are_same marks hot table (subst (λ (o : Option Hot). IfSome o (λ t. AreMarked marks t)) is are) same

-- nothing is marked, and the cursors are at the newest
pub sound_first : (r : Retained) (rev : ℕ) (marks : List Node) → rev ≡ newest r → marks ≡ [] → IsSound (record { kept = r; base = rev; index = rev; hot = rev; marks = marks }) None None
unfolding IsDistinct
sound_first r rev marks at none = record {
  steady = record {
    index_retained = omega (arith, at);
    index_there = omega (arith, at);
    base_read = omega arith;
    hot_retained = omega (arith, at);
    hot_there = omega (arith, at);
    marked_once = subst (λ (ns : List Node). IsDistinct is_same_node ns) (sym none) tt;
  };
  index_right = tt;
  members_right = tt;
}
