-- A run that starts from tables which were made, or opened.
use Rattle.std.proofs.Common.{◌≡◌, ◌≢◌, ◌⊎◌, ℕ, [], ◌∷◌, IsTrue, refl, sym, subst, ◌∙◌, inl, inr}
use Rattle.std.specs.Prelude.{Option, Some, None, Ok, Err, Result, IfOk, IfErr, IfSome, IsErrAnd}
use Rattle.sqlite.specs.Store.{Ghosts}
use Rattle.sqlite.specs.Tree.{Trees}
use Rattle.sqlite.specs.State.{State, Survives}
use Rattle.sqlite.specs.Held.{Held, state}
use Rattle.sqlite_disk.specs.Disk.{MoreFaults}
use Rattle.rows.specs.Retained.{Retained, empty_store}
use Rattle.tables.specs.Device.{HasFailed, IsClean, IsOpen, Lasts}
use Rattle.tables.specs.Leaving.{IsOneOf}
use Rattle.tables.specs.declared.tables.TablesError.{TablesError}
use Rattle.tables.specs.declared.tables.TablesError.TheVariants as causes
use Rattle.tables.proofs.Lasting.{lasts_self, clean_before, failed_after}
use Rattle.names.specs.declared.refusal.Refusal.{Refusal}
use Rattle.names.specs.declared.refusal.Refusal.TheVariants.{Memory, StoreFault}
use Rattle.command_line.specs.declared.fault.Fault.{Fault}
use Rattle.command_line.specs.declared.fault.Fault.TheVariants.{Refused}
use Rattle.desk.specs.Posts.{ComesBack, FailsToLoad}
use Rattle.sqlite_tables.specs.Format.{schema}
use Rattle.sqlite_tables.specs.Leaves.{IsBlank}
use Rattle.store.specs.History.{TreesHold, KeepsHistory, LeavesHistory, LeavesAtMostNew, IsFaultOfDevice, device_of, device_below}
use Rattle.store.specs.StoreParts.{connection}
use Rattle.store.specs.declared.store.Store.{Store}
use Rattle.store.specs.inside.Settling.{Settles, leaves_settled}
use Rattle.runs.specs.Over.{over, Begins, LeavesRefused, CannotBegin, IsDeserved}
use Rattle.runs.specs.inside.Starting.{IsMade, StartsFrom, FailsToStart}

goes_on : (a b : State) (P : Trees → Type 0) → Survives a b P → Lasts (device_of a) (device_of b)
goes_on a b P h = record { doubt = h.clean; counts = h.counts; closes = λ clean is_open. shut (h.closes clean is_open) }
  where
    shut : IsTrue b.is_open ⊎ MoreFaults a.faults b.faults → IsTrue b.is_open ⊎ HasFailed (device_of a) (device_of b)
    shut (inl still) = inl still
    shut (inr more) = inr (λ clean. more)

module _ {S : Type 0} (g : Ghosts S) (conn : Held S) where
  same_device : (other : Held S) → other ≡ conn → Lasts (device_below g conn) (device_below g other)
  same_device other same = subst (λ (c : Held S). Lasts (device_below g conn) (device_below g c)) (sym same) (lasts_self (device_below g conn))

  pub begins : (store : Option ℕ) (started : Held S) → StartsFrom g conn store started → (x : Retained) → KeepsHistory g started x → ((r : Retained) → KeepsHistory g started r → x ≡ r) → Begins g conn store x
  begins None started from x kept is = (subst (λ (c : Held S). KeepsHistory g c x) from kept, λ held keeps. is held (subst (λ (c : Held S). KeepsHistory g c held) (sym from) keeps))
  begins (Some number) started from x kept is = is (empty_store number) from.keeps

  pub started_lasts : (store : Option ℕ) (started : Held S) → StartsFrom g conn store started → Lasts (device_below g conn) (device_below g started)
  started_lasts None started from = same_device started from
  started_lasts (Some number) started from = goes_on (state g conn) (state g started) _ from.crash

  pub failed_lasts : (store : Option ℕ) (why : TablesError) (left : Held S) → FailsToStart g conn store why left → Lasts (device_below g conn) (device_below g left)
  failed_lasts None why left fails = same_device left fails.1
  failed_lasts (Some number) why left fails = goes_on (state g conn) (state g left) _ fails.0

  crash_leaves : (number : ℕ) (left : Held S) → LeavesAtMostNew g conn left number → LeavesRefused g conn (Some number) left
  crash_leaves number left survives = λ clean trees may. either trees (survives.crash clean trees may)
    where
      either : (trees : Trees) → (state g conn).may_leave trees ⊎ (IsBlank g conn × TreesHold trees (empty_store number)) → (state g conn).may_leave trees ⊎ TreesHold trees (empty_store number)
      either trees (inl was) = inl was
      either trees (inr new) = inr new.1

  pub failed_leaves : (store : Option ℕ) (why : TablesError) (left : Held S) → FailsToStart g conn store why left → LeavesRefused g conn store left
  failed_leaves None why left fails =
      (λ r keeps. subst (λ (c : Held S). KeepsHistory g c r) (sym fails.1) keeps, λ rs leaves. subst (λ (c : Held S). LeavesHistory g c rs) (sym fails.1) leaves, λ r keeps clean is_open. subst (λ (c : Held S). KeepsHistory g c r) fails.1 keeps)
  failed_leaves (Some number) why left fails = crash_leaves number left fails.0

  only_new : (number : ℕ) (trees : Trees) → ((r : Retained) × IsOneOf (empty_store number ∷ []) r × TreesHold trees r) → TreesHold trees (empty_store number)
  only_new number trees one = new one.1
    where
      new : IsOneOf (empty_store number ∷ []) one.0 → TreesHold trees (empty_store number)
      new (inl is) = subst (λ (r : Retained). TreesHold trees r) is one.2
      new (inr none) = absurd none

  pub back_leaves : Settles g → (store : Option ℕ) (tables back : Store S g) → StartsFrom g conn store (connection tables) → ComesBack (over g) tables back → LeavesRefused g conn store (connection back)
  back_leaves settles None tables back from comes = (
    λ r keeps. comes.holds r (subst (λ (c : Held S). KeepsHistory g c r) (sym from) keeps),
    λ rs leaves. comes.leaves rs (subst (λ (c : Held S). LeavesHistory g c rs) (sym from) leaves),
    λ r keeps clean is_open. subst (λ (c : Held S). KeepsHistory g c r) from (comes.only r keeps clean is_open),
  )
  back_leaves settles (Some number) tables back from comes = λ clean trees may.
      inr (only_new number trees (comes.leaves (empty_store number ∷ []) (leaves_settled tables settles (empty_store number) from.keeps from.stands) clean trees may))

  no_history : (d : Held S) → IsOpen (device_below g conn) → (state g conn).now.schema ≢ schema → (r : Retained) → IsClean (device_below g conn) → ¬ (KeepsHistory g conn r)
  no_history d is_open other r clean keeps = other (keeps clean (is_open clean)).schema_is

  pub failed_deserved : (store : Option ℕ) (why : TablesError) (left : Held S) → FailsToStart g conn store why left → why ≡ causes.Fault → IsOpen (device_below g conn) → IsDeserved g conn store left
  failed_deserved None why left fails fault is_open = inr (no_history left is_open fails.2)
  failed_deserved (Some number) why left fails fault is_open = λ blank clean.
      fails.1 fault (is_open (clean_before (device_below g conn) (device_below g left) (goes_on (state g conn) (state g left) _ fails.0) clean)) blank clean

  made_failed : (number : ℕ) (tables back : Store S g) → IsMade g conn number (connection tables) → Lasts (device_below g (connection tables)) (device_below g (connection back))
      → FailsToLoad (over g) tables back → HasFailed (device_below g conn) (device_below g (connection back))
  made_failed number tables back made lasts (inl failed) = failed_after (device_below g conn) (device_below g (connection tables)) (device_below g (connection back)) (goes_on (state g conn) (state g (connection tables)) _ made.crash) failed
  made_failed number tables back made lasts (inr none) = λ clean.
      absurd (none (empty_store number) (clean_before (device_below g (connection tables)) (device_below g (connection back)) lasts clean) made.keeps)

  pub load_deserved : (store : Option ℕ) (tables back : Store S g) → StartsFrom g conn store (connection tables) → Lasts (device_below g (connection tables)) (device_below g (connection back))
      → (IsOpen (device_below g (connection tables)) → FailsToLoad (over g) tables back) → IsOpen (device_below g conn) → IsDeserved g conn store (connection back)
  load_deserved None tables back from lasts fails is_open = moved (fails (subst (λ (c : Held S). IsOpen (device_below g c)) (sym from) is_open))
    where
      moved : FailsToLoad (over g) tables back → IsDeserved g conn None (connection back)
      moved (inl failed) = inl (subst (λ (c : Held S). HasFailed (device_below g c) (device_below g (connection back))) from failed)
      moved (inr none) = inr (λ r clean keeps. none r (subst (λ (c : Held S). IsClean (device_below g c)) (sym from) clean) (subst (λ (c : Held S). KeepsHistory g c r) (sym from) keeps))
  load_deserved (Some number) tables back from lasts fails is_open = λ blank. made_failed number tables back from lasts (fails from.stands)

  -- a desk that could not be opened on the tables: why it was refused tells of a fault only where one is deserved
  pub unopened_deserved : (store : Option ℕ) (tables back : Store S g) (why : Refusal) → StartsFrom g conn store (connection tables) → ComesBack (over g) tables back
      → (why ≡ StoreFault → IsOpen (device_below g (connection tables)) → FailsToLoad (over g) tables back) → Refused why ≡ Refused StoreFault → IsOpen (device_below g conn) → IsDeserved g conn store (connection back)
  unopened_deserved store tables back why from comes fails is = load_deserved store tables back from comes.lasts (λ whole. fails (let e : why ≡ StoreFault = cc in e) whole)

  -- ---- what a call that makes or opens says of it

  pub made_ok : (store : Option ℕ) (number : ℕ) → store ≡ Some number → (r : Result (Store S g) (TablesError × Held S)) → IfOk r (λ s. KeepsHistory g (connection s) (empty_store number))
      → IfOk r (λ s. IsOpen (device_below g (connection s))) → IfOk r (λ s. LeavesAtMostNew g conn (connection s) number) → IfOk r (λ s. StartsFrom g conn store (connection s))
  made_ok store number is (Ok s) keeps is_open crash = subst (λ (o : Option ℕ). StartsFrom g conn o (connection s)) (sym is) (record { keeps = keeps; stands = is_open; crash = crash })
  made_ok store number is (Err e) keeps is_open crash = tt

  pub made_err : (store : Option ℕ) (number : ℕ) → store ≡ Some number → (r : Result (Store S g) (TablesError × Held S)) → IfErr r (λ e. LeavesAtMostNew g conn e.1 number)
      → IfErr r (λ e. IsFaultOfDevice g conn e.1 e.0) → IfErr r (λ e. FailsToStart g conn store e.0 e.1)
  made_err store number is (Ok s) crash caused = tt
  made_err store number is (Err e) crash caused = subst (λ (o : Option ℕ). FailsToStart g conn o e.0 e.1) (sym is) (crash, caused)

  pub opened_ok : (store : Option ℕ) → store ≡ None → (r : Result (Store S g) (TablesError × Held S)) → IfOk r (λ s. connection s ≡ conn) → IfOk r (λ s. StartsFrom g conn store (connection s))
  opened_ok store is (Ok s) same = subst (λ (o : Option ℕ). StartsFrom g conn o (connection s)) (sym is) same
  opened_ok store is (Err e) same = tt

  pub opened_err : (store : Option ℕ) → store ≡ None → (r : Result (Store S g) (TablesError × Held S)) → IfErr r (λ e. (e.0 ≡ causes.Fault) × (e.1 ≡ conn) × ((state g conn).now.schema ≢ schema))
      → IfErr r (λ e. FailsToStart g conn store e.0 e.1)
  opened_err store is (Ok s) refused = tt
  opened_err store is (Err e) refused = subst (λ (o : Option ℕ). FailsToStart g conn o e.0 e.1) (sym is) refused

  pub opened_taken : (store : Option ℕ) → store ≡ None → (r : Result (Store S g) (TablesError × Held S)) → IfOk r (λ _. (state g conn).now.schema ≡ schema)
      → IfErr r (λ e. (e.0 ≡ causes.Fault) × (e.1 ≡ conn) × ((state g conn).now.schema ≢ schema)) → CannotBegin g conn store → IsErrAnd r (λ e. (e.0 ≡ causes.Fault) × (e.1 ≡ conn))
  opened_taken store is (Ok s) format refused cannot = absurd (subst (λ (o : Option ℕ). CannotBegin g conn o) is cannot format)
  opened_taken store is (Err e) format refused cannot = (refused.0, refused.1)

pub at_some : (P : ℕ → Type 0) (store : Option ℕ) (number : ℕ) → store ≡ Some number → IfSome store P → P number
at_some P store number is h = subst (λ (o : Option ℕ). IfSome o P) is h

-- what is told as a fault was one
pub was_fault : (why : TablesError) (told : Fault) → (why ≡ causes.Memory → told ≡ Refused Memory) → told ≡ Refused StoreFault → why ≡ causes.Fault
was_fault causes.Memory told memory is = let e : Refused Memory ≡ Refused StoreFault = sym (memory refl) ∙ is in cc
was_fault causes.Fault told memory is = refl
