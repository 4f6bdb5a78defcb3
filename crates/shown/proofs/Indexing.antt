-- The group index after a commit, with a new base, and with a higher floor.
use Rattle.std.proofs.Common.{◌≡◌, ℕ, ◌+◌, ◌<◌, ◌≤◌, ap, sym, subst, ◌∙◌, arith}
use Rattle.std.specs.Prelude.{Result, Ok, Err, IfOk, max}
use Rattle.std.specs.declared.alloc.AllocError.{AllocError}
use Rattle.names.specs.declared.commit.Commit.{Commit}
use Rattle.meaning.specs.Config.{Configured}
use Rattle.meaning.specs.Snap.{Snap}
use Rattle.meaning.specs.History.{after_commit}
use Rattle.group_index.specs.Indices.{IsGroupIndexOf, base_of, cursor_of}
use Rattle.group_index.specs.declared.index.GroupIndex.{GroupIndex}
use Rattle.shown.specs.inside.Basing.{IsIndexIn}

-- ---- after a commit of a configuration

module _ (index : GroupIndex) (rev : ℕ) (view : Snap) (commit : Commit Configured) where
  -- it is the index after the commit, wherever the other is that before it
  abbrev pub IsAfter : GroupIndex → Type 0
  IsAfter next = (snaps : ℕ → Snap) (floor cursor : ℕ) → IsIndexIn snaps floor cursor index → snaps rev ≡ view → view ≡ after_commit (snaps cursor) commit → IsIndexIn snaps floor rev next

  pub after_config : (r : Result GroupIndex AllocError) → rev ≡ cursor_of index + 1 → IfOk r (λ next. (snaps : ℕ → Snap) → snaps rev ≡ view → IsGroupIndexOf next snaps)
      → IfOk r (λ next. base_of next ≡ rev) → IfOk r (λ next. cursor_of next ≡ rev) → IfOk r IsAfter
  after_config (Err e) next_is gives base cursor = tt
  after_config (Ok next) next_is gives base cursor = λ snaps floor at was there later.
      let order = was.index_of.closures.order in
      let retained = was.retained in
      record {
        index_of = gives snaps there;
        retained = omega (arith, base, next_is, order, retained);
        come = cursor;
      }

-- ---- with a new base

module _ (snaps : ℕ → Snap) (floor cursor rev : ℕ) (old : GroupIndex) (was : IsIndexIn snaps floor cursor old) where
  -- a base that is above the revision stays
  pub above : rev < base_of old → IsIndexIn snaps floor (max cursor rev) old
  above up =
      let order = was.index_of.closures.order in
      let come = was.come in
      record { index_of = was.index_of; retained = was.retained; come = omega (arith, order, come, up) }

  pub rebased : (new : GroupIndex) → floor ≤ rev → IsGroupIndexOf new snaps → base_of new ≡ rev → cursor_of new ≡ max (cursor_of old) rev → IsIndexIn snaps floor (max cursor rev) new
  rebased new retained is base at = record {
    index_of = is;
    retained = subst (λ (n : ℕ). floor ≤ n) (sym base) retained;
    come = at ∙ ap (λ (n : ℕ). max n rev) was.come;
  }

-- the index of one revision
pub begun : (snaps : ℕ → Snap) (floor rev : ℕ) (index : GroupIndex) → floor ≤ rev → IsGroupIndexOf index snaps → base_of index ≡ rev → cursor_of index ≡ rev → IsIndexIn snaps floor rev index
begun snaps floor rev index retained is base at = record {
  index_of = is;
  retained = subst (λ (n : ℕ). floor ≤ n) (sym base) retained;
  come = at;
}
