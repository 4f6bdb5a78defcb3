-- What a connection holds and leaves of a history.
use Rattle.std.proofs.Common.{◌≡◌, ◌⊎◌, ◌≤◌, ◌+◌, ◌*◌, ℕ, List, [], ◌∷◌, inl, inr, IsTrue, refl, sym, ap, subst, ◌∙◌, arith}
use Rattle.std.specs.Prelude.{Bool, true, false, min, ◌-◌, ◌^◌}
use Rattle.std.specs.List.{AllByRecursion}
use Rattle.std.proofs.lemmas.Bool.{cases_lt}
use Rattle.sqlite.specs.Store.{Ghosts}
use Rattle.sqlite.specs.Disk.{MoreFaults}
use Rattle.sqlite.specs.Order.{Row}
use Rattle.sqlite.specs.Schema.{Schema}
use Rattle.sqlite.specs.Tree.{Trees}
use Rattle.sqlite.specs.Effect.{Database, IsDatabase}
use Rattle.sqlite.specs.State.{State, HasCleanDisk, IsUnchanged, Survives}
use Rattle.sqlite.specs.View.{doubt}
use Rattle.sqlite.specs.Held.{Held, state}
use Rattle.sqlite.proofs.StateLemmas.{survives_then, survives_weaker}
use Rattle.rows.specs.Retained.{Retained, newest}
use Rattle.tables.specs.Changing.{IsChangeOf, with_change}
use Rattle.tables.specs.Device.{HasFailed, Lasts}
use Rattle.tables.specs.declared.change.TableChange.{TableChange}
use Rattle.sqlite_tables.specs.Format.{schema}
use Rattle.sqlite_tables.specs.Numbered.{IsNumbered, AreNumbered, AreNumberedTo}
use Rattle.sqlite_tables.specs.Tables.{Contents, Holds}
use Rattle.sqlite_tables.specs.Steps.{Alters, Stores, Stays, Undoes, LeavesAtMost, MayStore}
use Rattle.store.specs.Written.{IsHistory}
use Rattle.store.specs.History.{TreesHold, HasCommitted, KeepsHistory, KeepsOn, LeavesHistory, LeavesAlone, HoldChanged, LeavesChanged, KeptBefore, IsSettled, device_of}

pub clean_before : (old new : State) (P : Trees → Type 0) → Survives old new P → HasCleanDisk new → HasCleanDisk old
clean_before old new P survives clean = omega (arith, survives.clean, clean)

-- two calls, of which the second commits nothing
pub survives_quiet : (a b c : State) (P : Trees → Type 0) → Survives a b P → Survives b c (λ _. ⊥) → Survives a c P
survives_quiet a b c P first second = survives_then a b c P (λ _. ⊥) P (λ _ db is. is) (λ _ db none. absurd none) first second

-- nothing has happened
pub survives_same : (s : State) (P : Trees → Type 0) → Survives s s P
survives_same s P = record { clean = omega arith; shield = λ x. x; counts = omega arith; limit = refl; closes = λ _ is. inl is; crash = λ _ db left. inl left }

-- ---- rowids

all_more : (m n : ℕ) (rows : List Row) → m ≤ n → AllByRecursion (IsNumbered m) rows → AllByRecursion (IsNumbered n) rows
all_more m n [] le are = tt
all_more m n (r ∷ rs) le are = ((are.0.0, are.0.1, let least = are.0.2 in omega (arith, le, least)), all_more m n rs le are.1)

pub numbered_more : (m n : ℕ) (trees : Trees) → m ≤ n → AreNumberedTo m trees → AreNumberedTo n trees
numbered_more m n trees le are = record { spans = all_more m n (trees 0) le are.spans; entries = are.entries }

-- ---- trees and databases

-- a database of the format is its trees
of_format : (d : Database) → d.schema ≡ schema → d ≡ record { schema = schema; trees = d.trees }
of_format d is = ap (λ (k : Schema). let e : Database = record { schema = k; trees = d.trees } in e) is

pub trees_hold : (d : Database) (h : Contents) (r : Retained) → Holds d h → IsDatabase d → IsHistory h r → AreNumbered (newest r) d.trees → TreesHold d.trees r
trees_hold d h r holds sound history numbered =
    let same = of_format d holds.schema_is in
    record { sound = subst (λ (e : Database). IsDatabase e) same sound; contents = h; holds = subst (λ (e : Database). Holds e h) same holds; history = history; numbered = numbered }

pub holds_now : (s : State) (r : Retained) → (k : HasCommitted s r) → Holds s.now k.held.contents
holds_now s r k = subst (λ (e : Database). Holds e k.held.contents) (sym (of_format s.now k.schema_is)) k.held.holds

pub sound_now : (s : State) (r : Retained) → HasCommitted s r → IsDatabase s.now
sound_now s r k = subst (λ (e : Database). IsDatabase e) (sym (of_format s.now k.schema_is)) k.held.sound

pub committed_with : (s : State) (h : Contents) (r : Retained) → s.committed ≡ s.now → Holds s.now h → IsDatabase s.now → IsHistory h r → AreNumbered (newest r) s.now.trees → HasCommitted s r
committed_with s h r committed holds sound history numbered = record { committed = committed; schema_is = holds.schema_is; held = trees_hold s.now h r holds sound history numbered }

-- what another state sees and has committed is what this one has
carried : (old new : State) (r : Retained) → HasCommitted old r → new.now ≡ old.now → new.committed ≡ old.committed → HasCommitted new r
carried old new r k now_is committed_is = record {
  committed = committed_is ∙ k.committed ∙ sym now_is;
  schema_is = ap (λ (d : Database). d.schema) now_is ∙ k.schema_is;
  held = subst (λ (t : Trees). TreesHold t r) (sym (ap (λ (d : Database). d.trees) now_is)) k.held;
}

-- ---- a change

-- the change leads from the one history to the other, and to no rowid above those of its newest revision
pub record LeadsTo (f : Contents → Contents) (last : ℕ) (r x : Retained) : Type 0 where
  pub follows : (h : Contents) → IsHistory h r → IsHistory (f h) x
  pub more : newest r ≤ newest x
  pub within : last ≤ 256 * newest x

pub altered_hold : (old : State) (d : Database) (f : Contents → Contents) (last : ℕ) (r x : Retained) → HasCommitted old r → Alters f last old.now d → LeadsTo f last r x
    → (h : Contents) × Holds d h × IsDatabase d × IsHistory h x × AreNumbered (newest x) d.trees
altered_hold old d f last r x k made leads =
    let h = k.held.contents in
    let holds = holds_now old r k in
    let more = leads.more in (
      f h,
      made.holds h holds,
      made.sound h holds (sound_now old r k),
      leads.follows h k.held.history,
      made.numbered h holds (256 * newest x) leads.within (numbered_more (256 * newest r) (256 * newest x) old.now.trees (omega (arith, more)) k.held.numbered),
    )

module _ {S : Type 0} (g : Ghosts S) where
  -- what was stored
  pub holds_stored : (old new : Held S) (r x : Retained) (f : Contents → Contents) (last : ℕ) (P : Trees → Type 0) → KeepsHistory g old r → Survives (state g old) (state g new) P
      → Stores g old new f last → LeadsTo f last r x → KeepsHistory g new x
  holds_stored old new r x f last P keeps survives stores leads clean is_open =
      let did = stores clean in
      let k = keeps (clean_before (state g old) (state g new) P survives clean) did.was_open in
      let new_is = altered_hold (state g old) (state g new).now f last r x k did.made leads in
      committed_with (state g new) new_is.0 x did.committed new_is.1 new_is.2 new_is.3 new_is.4

  -- what a crash may leave of a change
  pub leaves_changed : (old new : Held S) (change : TableChange) (f : Contents → Contents) (last : ℕ) → LeavesAtMost g old new f last
      → ((r : Retained) → IsChangeOf r change → LeadsTo f last r (with_change r change)) → LeavesChanged g old new change
  leaves_changed old new change f last survives leads =
      survives_weaker (state g old) (state g new) (MayStore (state g old) f last) (HoldChanged g old change)
      (λ clean trees may r keeps is.
      let k = keeps (clean_before (state g old) (state g new) (MayStore (state g old) f last) survives clean) may.was_open in
      let it = altered_hold (state g old) may.db f last r (with_change r change) k may.made (leads r is) in
      subst (λ (t : Trees). TreesHold t (with_change r change)) (sym may.is) (trees_hold may.db it.0 (with_change r change) it.1 it.2 it.3 it.4))
      survives

  pub leaves_alone : (old new : Held S) → LeavesAlone g old new → (rs : List Retained) → LeavesHistory g old rs → LeavesHistory g new rs
  leaves_alone old new survives rs leaves clean trees left =
      elim (survives.crash clean trees left) [
        | inl was ↦ leaves (clean_before (state g old) (state g new) (λ _. ⊥) survives clean) trees was
        | inr none ↦ absurd none
      ]

  pub leaves_more : (old new : Held S) (change : TableChange) → LeavesChanged g old new change → (r : Retained) (rs : List Retained) → KeepsHistory g old r → LeavesHistory g old rs
      → IsChangeOf r change → LeavesHistory g new (with_change r change ∷ rs)
  leaves_more old new change survives r rs keeps leaves is clean trees left =
      elim (survives.crash clean trees left) [
        | inl was ↦ let it = leaves (clean_before (state g old) (state g new) (HoldChanged g old change) survives clean) trees was in (it.0, inr it.1, it.2)
        | inr hold ↦ (with_change r change, inl refl, hold r keeps is)
      ]

  -- ---- a call that was refused

  pub keeps_undone : (old new : Held S) (P : Trees → Type 0) → Survives (state g old) (state g new) P → Undoes g old new → KeepsOn g old new
  keeps_undone old new P survives undone r keeps clean is_open =
      let back = undone clean is_open in
      let k = keeps (clean_before (state g old) (state g new) P survives clean) back.was_open in
      carried (state g old) (state g new) r k (back.now ∙ k.committed) back.committed

  pub keeps_stays : (old new : Held S) (P : Trees → Type 0) → Survives (state g old) (state g new) P → Stays g old new → KeepsOn g old new
  keeps_stays old new P survives stays r keeps clean is_open =
      let left = stays clean is_open in
      let k = keeps (clean_before (state g old) (state g new) P survives clean) left.was_open in
      let same : (state g new).now ≡ (state g old).now = elim left.now [ inl was ↦ was | inr back ↦ back ∙ k.committed ] in
      carried (state g old) (state g new) r k same left.committed

  pub keeps_same : (old new : Held S) (P : Trees → Type 0) → Survives (state g old) (state g new) P → (HasCleanDisk (state g new) → IsUnchanged (state g old) (state g new)) → KeepsOn g old new
  keeps_same old new P survives same r keeps clean is_open =
      let still = same clean in
      carried (state g old) (state g new) r (keeps (clean_before (state g old) (state g new) P survives clean) still.0.was_open) still.0.now_is still.0.committed_is

  -- ---- what is kept after a call was kept before

  -- what an unchanged connection keeps, it kept
  pub kept_same : (old new : Held S) → (HasCleanDisk (state g new) → IsUnchanged (state g old) (state g new)) → KeptBefore g old new
  kept_same old new same r keeps clean is_open was_clean was_open =
      let still = same clean in
      carried (state g new) (state g old) r (keeps clean (is_open clean)) (sym still.0.now_is) (sym still.0.committed_is)

  -- and so does one on which nothing was done but outside a transaction
  pub kept_undone : (old new : Held S) → IsSettled g old → Undoes g old new → KeptBefore g old new
  kept_undone old new settled undone r keeps clean is_open was_clean was_open =
      let back = undone clean (is_open clean) in
      carried (state g new) (state g old) r (keeps clean (is_open clean)) (settled was_open ∙ sym back.now) (sym back.committed)

  pub keeps_twice : (a b c : Held S) → KeepsOn g a b → KeepsOn g b c → KeepsOn g a c
  keeps_twice a b c one two r keeps = two r (one r keeps)

  -- outside a transaction
  pub undoes_settled : (old new : Held S) → IsSettled g old → Stays g old new → Undoes g old new
  undoes_settled old new settled stays clean is_open =
      let left = stays clean is_open in
      record { was_open = left.was_open; now = elim left.now [ inl was ↦ was ∙ settled left.was_open | inr back ↦ back ]; committed = left.committed }

  pub undoes_same : (c : Held S) → IsSettled g c → Undoes g c c
  undoes_same c settled clean is_open = record { was_open = is_open; now = settled is_open; committed = refl }

  pub undoes_twice : (a b c : Held S) (P : Trees → Type 0) → Survives (state g b) (state g c) P → Undoes g a b → Undoes g b c → Undoes g a c
  undoes_twice a b c P survives one two clean is_open =
      let second = two clean is_open in
      let first = one (clean_before (state g b) (state g c) P survives clean) second.was_open in
      record { was_open = first.was_open; now = second.now ∙ first.committed; committed = second.committed ∙ first.committed }

-- ---- the device

pub lasts : (old new : State) (P : Trees → Type 0) → Survives old new P → Lasts (device_of old) (device_of new)
lasts old new P survives = record {
  doubt = survives.clean;
  counts = survives.counts;
  closes = λ clean was. elim (survives.closes clean was) [ inl still ↦ inl still | inr more ↦ inr (λ _. more) ];
}

-- a call, and what was asked after it: the device failed in the one or in the other
pub failed_in_two : (a b c : State) (E : Type 0) (P : Trees → Type 0) → Survives a b P → Survives b c (λ _. ⊥) → (HasCleanDisk b → E → MoreFaults a.faults b.faults)
    → E ⊎ (HasCleanDisk c → IsTrue b.is_open → MoreFaults b.faults c.faults) → IsTrue a.is_open → HasCleanDisk c → MoreFaults a.faults c.faults
failed_in_two a b c E P first second call (inl other) was_open clean =
    let more = call (clean_before b c (λ _. ⊥) second clean) other in
    omega (arith, more, second.counts)
failed_in_two a b c E P first second call (inr asked) was_open clean =
    elim (first.closes (clean_before b c (λ _. ⊥) second clean) was_open) [
      | inl still ↦ let more = asked clean still in omega (arith, more, first.counts)
      | inr more ↦ omega (arith, more, second.counts)
    ]

pub clean_or_not : (clean : Bool) → (doubt clean ≡ 0) ⊎ (doubt clean ≡ 0 → ⊥)
unfolding doubt
clean_or_not true = inl refl
clean_or_not false = inr (λ e. omega (arith, e))

-- the device failed, or there is none that would say so
pub failed_or_none : (old new : State) (Keeps : Retained → Type 0) → (HasCleanDisk new → (r : Retained) → HasCleanDisk old → Keeps r → MoreFaults old.faults new.faults)
    → HasFailed (device_of old) (device_of new) ⊎ ((r : Retained) → HasCleanDisk old → ¬ (Keeps r))
failed_or_none old new Keeps says = elim (clean_or_not new.is_clean) [
  | inr never ↦ inl (λ clean. absurd (never clean))
  | inl clean ↦ elim (cases_lt new.faults (min (old.faults + 1) (2 ^ 64 - 1))) [
    | inr more ↦ inl (λ _. more)
    | inl fewer ↦ inr (λ r calm keeps. let more = says clean r calm keeps in omega (arith, more, fewer))
  ]
]
