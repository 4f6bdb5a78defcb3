-- The group index that is kept stays right while the history grows, loses its newest commit, or is trimmed.
use Rattle.std.proofs.Common.{◌≡◌, ℕ, ◌+◌, ◌-◌, ◌<◌, ◌≤◌, [], ◌∷◌, ◌++◌, length, take, drop, refl, ap, sym, subst, ◌∙◌, arith}
use Rattle.std.specs.Prelude.{Option, Some, None, IfSome}
use Rattle.std.proofs.Math.Seq.{take-add}
use Rattle.std.proofs.lemmas.List.{take-append-le, take-take}
use Rattle.names.specs.declared.commit.Commit.{Commit}
use Rattle.meaning.specs.Config.{Configured}
use Rattle.meaning.specs.Snap.{Snap}
use Rattle.meaning.specs.History.{History, after_commit, after_commits}
use Rattle.delta.specs.Layers.{AreKept, AreRoots}
use Rattle.delta.specs.Layers as layers
use Rattle.direct.specs.Revisions as revisions
use Rattle.group_index.specs.Indices.{IsGroupIndexOf, TellsOf, base_of, cursor_of}
use Rattle.group_index.specs.declared.at.At.{At}
use Rattle.group_index.specs.declared.index.GroupIndex.{GroupIndex}
use Rattle.rows.specs.Retained.{Retained, newest, snap_at, with_commit, without_newest, after_trim}
use Rattle.shown.specs.Standing.{Standing, IsSteady, CanGoBack, CanRaise, before_commit}
use Rattle.shown.specs.inside.Basing.{IsIndexIn, IsKeptIndex}

-- ---- snapshots

pub snap_with : (r : Retained) (c : Commit Configured) (rev : ℕ) → rev ≤ newest r → snap_at (with_commit r c) rev ≡ snap_at r rev
snap_with r c rev there = ap (after_commits r.base) (take-append-le (rev - r.floor) r.commits (c ∷ []) (omega (arith, there)))

pub snap_without : (r : Retained) (rev : ℕ) → rev < newest r → r.floor < newest r → snap_at (without_newest r) rev ≡ snap_at r rev
snap_without r rev there above = ap (after_commits r.base) (take-take (rev - r.floor) (length r.commits - 1) r.commits (omega (arith, there, above)))

pub after_append : (s : Snap) (g h : History) → after_commits s (g ++ h) ≡ after_commits (after_commits s g) h
after_append s [] h = refl
after_append s (c ∷ g) h = after_append (after_commit s c) g h

pub after_parts : (s : Snap) (k m : ℕ) (h : History) → after_commits (after_commits s (take k h)) (take m (drop k h)) ≡ after_commits s (take (k + m) h)
after_parts s k m h = sym (ap (after_commits s) (take-add k m h) ∙ after_append s (take k h) (take m (drop k h)))

pub snap_above : (r : Retained) (floor : ℕ) → r.floor ≤ floor → (rev : ℕ) → floor ≤ rev → snap_at (after_trim r floor) rev ≡ snap_at r rev
snap_above r floor above rev later =
    let sum : (floor - r.floor) + (rev - floor) ≡ rev - r.floor = omega (arith, above, later) in
    after_parts r.base (floor - r.floor) (rev - floor) r.commits ∙ ap (λ (n : ℕ). after_commits r.base (take n r.commits)) sum

-- ---- the index that is kept

-- an index is that of all snapshots that are the same from its base to its cursor
pub alike : (index : GroupIndex) (snaps others : ℕ → Snap) → ((rev : ℕ) → base_of index ≤ rev → rev ≤ cursor_of index → others rev ≡ snaps rev)
    → IsGroupIndexOf index snaps → IsGroupIndexOf index others
alike index snaps others same is =
    let layer = index.layer in
    let closures = is.closures in
    let order = closures.order in
    let top = same layer.cursor order (omega arith) in
    let base = index.one_base in
    let cursor = index.one_cursor in
    record {
      closures = record {
        order = order;
        distinct = closures.distinct;
        kept = subst (λ (S : Snap). AreKept S layer.nodes layer.roots layer.sets.rows) (sym top) closures.kept;
        roots = subst (λ (S : Snap). AreRoots S layer.nodes layer.roots) (sym top) closures.roots;
        tells = λ rev from to. subst (λ (S : Snap). layers.Tells layer rev S) (sym (same rev from to)) (closures.tells rev from to);
      };
      direct = record {
        order = is.direct.order;
        tells = λ rev from to. subst (λ (S : Snap). revisions.Tells index.direct rev S) (sym (same rev (omega (arith, from, base)) (omega (arith, to, cursor)))) (is.direct.tells rev from to);
      };
    }

-- so is one that is kept of all that are the same from the floor to the cursor
pub kept_alike : (index : Option GroupIndex) (snaps others : ℕ → Snap) (floor cursor : ℕ) → ((rev : ℕ) → floor ≤ rev → rev ≤ cursor → others rev ≡ snaps rev)
    → IfSome index (IsIndexIn snaps floor cursor) → IfSome index (IsIndexIn others floor cursor)
kept_alike None snaps others floor cursor same right = tt
kept_alike (Some index) snaps others floor cursor same right =
    let retained = right.retained in
    let come = right.come in
    record {
      index_of = alike index snaps others (λ rev from to. same rev (omega (arith, retained, from)) (omega (arith, come, to))) right.index_of;
      retained = retained;
      come = come;
    }

-- it tells of no revision after the cursor
pub comes_to : (index : Option GroupIndex) (snaps : ℕ → Snap) (floor cursor rev : ℕ) → rev ≤ cursor → IfSome index (IsIndexIn snaps floor cursor) → IfSome index (λ i. rev ≤ cursor_of i)
comes_to None snaps floor cursor rev below right = tt
comes_to (Some index) snaps floor cursor rev below right = let come = right.come in omega (arith, below, come)

module _ (s : Standing) (index : Option GroupIndex) (steady : IsSteady s) where
  pub kept_with : (c : Commit Configured) → IsKeptIndex s index
      → IsKeptIndex (record { kept = with_commit s.kept c; base = s.base; index = s.index; hot = s.hot; marks = s.marks }) index
  kept_with c = kept_alike index (snap_at s.kept) (snap_at (with_commit s.kept c)) s.kept.floor s.index (λ rev from to. snap_with s.kept c rev (omega (arith, to, steady.index_there)))

  pub kept_without : CanGoBack s → IsKeptIndex s index → IsKeptIndex (before_commit s) index
  kept_without can = kept_alike index (snap_at s.kept) (snap_at (without_newest s.kept)) s.kept.floor s.index
      (λ rev from to. snap_without s.kept rev (omega (arith, to, can.index_before)) can.above)

-- with a higher base it is that of the history with a higher floor
pub kept_above : (s : Standing) (index : Option GroupIndex) (floor : ℕ) → CanRaise s floor → IfSome index (IsIndexIn (snap_at s.kept) floor s.index)
    → IsKeptIndex (record { kept = after_trim s.kept floor; base = s.base; index = s.index; hot = s.hot; marks = s.marks }) index
kept_above s index floor can =
    let above = can.above in
    kept_alike index (snap_at s.kept) (snap_at (after_trim s.kept floor)) floor s.index (λ rev from to. snap_above s.kept floor (omega (arith, above)) rev from)

-- ---- what it tells

pub told : (s now : Standing) (index : Option GroupIndex) (x : GroupIndex) (found : Option At) (rev : ℕ) → s ≡ now → index ≡ Some x → IsKeptIndex s index
    → IfSome found (λ at. (snaps : ℕ → Snap) → IsGroupIndexOf x snaps → TellsOf at (snaps rev)) → IfSome found (λ at. TellsOf at (snap_at now.kept rev))
told s now index x None rev same is right gives = tt
told s now index x (Some at) rev same is right gives =
    let kept : IsIndexIn (snap_at s.kept) s.kept.floor s.index x = subst (λ (o : Option GroupIndex). IsKeptIndex s o) is right in
    subst (λ (t : Standing). TellsOf at (snap_at t.kept rev)) same (gives (snap_at s.kept) kept.index_of)
