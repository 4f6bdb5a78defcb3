-- What a whole transaction makes, what a crash leaves of it, and why it is refused.
use Rattle.std.proofs.Common.{◌≡◌, ◌≢◌, ◌≤◌, ◌⊎◌, IsTrue, true, List, [], ◌∷◌, Ok, Err, Result, OnErr, IsErrAnd, inl, inr, refl, sym, ap, subst, ◌∙◌, false, true≢false, ℕ, arith}
use Rattle.std.specs.Borrow.{MutBor}
use Rattle.sqlite.specs.Store.{Ghosts}
use Rattle.sqlite.specs.Schema.{Schema}
use Rattle.sqlite.specs.Table.{Table}
use Rattle.sqlite.specs.Tree.{Trees}
use Rattle.sqlite_disk.specs.Disk.{MoreFaults}
use Rattle.sqlite_schema.specs.declared.schema.Index.{Index}
use Rattle.sqlite_schema.specs.declared.schema.View.{View}
use Rattle.sqlite.specs.Effect.{Database}
use Rattle.sqlite.specs.State.{HasCleanDisk, Shows, State, Survives}
use Rattle.sqlite.specs.Held.{Held, state}
use Rattle.sqlite.specs.Steps.{FailsToCommit}
use Rattle.sqlite.specs.declared.error.Error.{Error}
use Rattle.sqlite.specs.declared.error.Error.TheVariants.{SqliteFailure}
use Rattle.sqlite.specs.declared.error.ErrorCode.TheVariants.{OutOfMemory}
use Rattle.sqlite.proofs.StateLemmas.{survives_then}
use Rattle.sqlite.proofs.Callers.{survives_begin}
use Rattle.sqlite_tables.specs.Format.{schema, row_index, state_index}
use Rattle.sqlite_tables.specs.Tables.{Contents, Holds}
use Rattle.sqlite_tables.specs.Steps.{Alters, Founds, HasNew, HasNone, HasStored, IsQuiet, IsUndone, MayStore, Turns, Undoes}
use Rattle.sqlite_tables.specs.Leaves.{MayCreate, StandsNew}
use Rattle.sqlite_tables.specs.Caused.{HasFailed, IsCaused, IsCausedInside, IsReady}
use Rattle.sqlite_tables.proofs.Fixed.Causes.{failed_device}
use Rattle.sqlite_tables.proofs.Inside.{calm}
use Rattle.sqlite_tables.proofs.Texts.{indexes_are}

-- begun over `old` at `tx`, worked up to `last`, committed at `end`, which is what the connection is from then on
module _ {S : Type 0} (g : Ghosts S) (old : Held S) (tx last : MutBor (Held S)) (end new : Held S) (begun : tx.now ≡ record old { in_transaction = true }) (same : end ≡ new) (R : Database → Database → Type 0)
    (ran : HasCleanDisk (state g last.now) → Turns R (state g tx.now) (state g last.now)) (quiet : IsQuiet g tx last) (was_open : HasCleanDisk (state g last.now) → IsTrue (state g tx.now).is_open) where
  from_old : HasCleanDisk (state g last.now) → R (state g old).now (state g last.now).now
  from_old clean = subst (λ (h : Held S). R (state g h).now (state g last.now).now) begun (ran clean).does

  old_open : HasCleanDisk (state g last.now) → IsTrue (state g old).is_open
  old_open clean = subst (λ (h : Held S). IsTrue (state g h).is_open) begun (was_open clean)

  -- a crash leaves what it left before, or what was committed
  pub leaves_whole : (May : Trees → Type 0) → ((db : Database) → IsTrue (state g old).is_open → R (state g old).now db → May db.trees) → Survives (state g last.now) (state g end) (λ db. db ≡ (state g last.now).now.trees)
      → Survives (state g old) (state g new) May
  leaves_whole May may commit =
      let inside = subst (λ (h : Held S). Survives (state g h) (state g last.now) (λ _. ⊥)) begun quiet.survives in
      let at_last : HasCleanDisk (state g end) → HasCleanDisk (state g last.now) = λ clean. omega (arith, commit.clean, clean) in
      subst (λ (h : Held S). Survives (state g old) (state g h) May) same
      (survives_then (state g old) (state g last.now) (state g end) _ _ May (λ _ db none. absurd none)
      (λ clean db is. subst May (sym is) (may (state g last.now).now (old_open (at_last clean)) (from_old (at_last clean)))) (survives_begin g old (state g last.now) _ inside) commit)

  -- a commit that was done shows it
  pub shows_whole : Survives (state g last.now) (state g end) (λ db. db ≡ (state g last.now).now.trees)
      → (HasCleanDisk (state g end) → Shows (state g last.now) (state g end) (state g last.now).now (state g last.now).now false)
      → HasCleanDisk (state g new) → IsTrue (state g old).is_open × IsTrue (state g new).is_open × ((state g new).committed ≡ (state g new).now) × R (state g old).now (state g new).now
  shows_whole commit shown clean =
      let closed : HasCleanDisk (state g end) = subst (λ (h : Held S). HasCleanDisk (state g h)) (sym same) clean in
      let at_last : HasCleanDisk (state g last.now) = omega (arith, commit.clean, closed) in
      let shows = shown closed in
      let now : R (state g old).now (state g end).now = subst (λ (d : Database). R (state g old).now d) (sym shows.now_is) (from_old at_last) in
      subst (λ (h : Held S). IsTrue (state g old).is_open × IsTrue (state g h).is_open × ((state g h).committed ≡ (state g h).now) × R (state g old).now (state g h).now) same
      (old_open at_last, shows.is_open, shows.committed_is ∙ sym shows.now_is, now)

  -- a commit that fails has undone it
  pub undone_whole : (e : Error) → Survives (state g last.now) (state g end) (λ db. db ≡ (state g last.now).now.trees) → (HasCleanDisk (state g end) → FailsToCommit (state g last.now) (state g end) e) → Undoes g old new
  undone_whole e commit fails = subst (λ h. Undoes g old h) same (λ clean is. by_cause clean is (fails clean))
    where
      by_cause : HasCleanDisk (state g end) → IsTrue (state g end).is_open → FailsToCommit (state g last.now) (state g end) e → IsUndone (state g old) (state g end)
      by_cause clean is (inl failed) =
          let back = failed.3 in
          let at_last : HasCleanDisk (state g last.now) = omega (arith, commit.clean, clean) in
          let keeps = quiet.keeps_commit at_last in
          let was : (state g last.now).committed ≡ (state g old).committed = subst (λ h. (state g last.now).committed ≡ (state g h).committed) begun (keeps.committed (back.was_open is)) in
          record { was_open = old_open at_last; now = (back.undone is).0 ∙ was; committed = (back.undone is).1 ∙ was }
      by_cause clean is (inr late) =
          let goes : IsTrue (state g last.now).in_transaction = (ran (omega (arith, commit.clean, clean))).goes_on (subst (λ h. IsTrue (state g h).in_transaction) (sym begun) refl) in
          absurd (true≢false (sym goes ∙ late.1))

  -- a commit that fails for anything but memory fails by the device
  pub commit_caused : (e : Error) (Fits : Database → Type 0) → Survives (state g last.now) (state g end) (λ db. db ≡ (state g last.now).now.trees) → (HasCleanDisk (state g end) → FailsToCommit (state g last.now) (state g end) e)
      → HasCleanDisk (state g new) → e ≢ SqliteFailure OutOfMemory → HasFailed (state g old) (state g new) Fits
  commit_caused e Fits commit fails clean other ready fits =
      subst (λ h. MoreFaults (state g old).faults (state g h).faults) same (by_cause (fails closed))
    where
      closed : HasCleanDisk (state g end)
      closed = subst (λ (h : Held S). HasCleanDisk (state g h)) (sym same) clean

      at_last : HasCleanDisk (state g last.now)
      at_last = omega (arith, commit.clean, closed)

      counts : (state g old).faults ≤ (state g last.now).faults
      counts = subst (λ (h : Held S). (state g h).faults ≤ (state g last.now).faults) begun quiet.survives.counts

      stays : IsTrue (state g last.now).is_open ⊎ MoreFaults (state g old).faults (state g last.now).faults
      stays = subst (λ (h : Held S). IsTrue (state g h).is_open → IsTrue (state g last.now).is_open ⊎ MoreFaults (state g h).faults (state g last.now).faults) begun (quiet.survives.closes at_last) ready.is_open

      by_cause : FailsToCommit (state g last.now) (state g end) e → MoreFaults (state g old).faults (state g end).faults
      by_cause (inl failed) = elim stays [
        | inl is ↦ elim (failed_device (state g last.now) (state g end) ⊥ e other is failed) [ inl more ↦ omega (arith, more, counts) | inr none ↦ absurd none ]
        | inr more ↦ omega (arith, more, commit.counts)
      ]
      by_cause (inr late) =
          let goes : IsTrue (state g last.now).in_transaction = (ran at_last).goes_on (subst (λ h. IsTrue (state g h).in_transaction) (sym begun) refl) in
          absurd (true≢false (sym goes ∙ late.1))

-- begun over `old` at `tx`, worked up to `mid`, and dropped at `end`, which is what the connection is from then on
module _ {S : Type 0} (g : Ghosts S) (old : Held S) (tx mid : MutBor (Held S)) (end new : Held S) (begun : tx.now ≡ record old { in_transaction = true }) (same : end ≡ new) (left : Survives (state g mid.now) (state g end) (λ _. ⊥)) where
  pub dropped_caused : (e : Error) (Fits : Database → Type 0) → (IsTrue (state g tx.now).in_transaction → HasCleanDisk (state g mid.now) → e ≢ SqliteFailure OutOfMemory → HasFailed (state g tx.now) (state g mid.now) Fits)
      → HasCleanDisk (state g new) → e ≢ SqliteFailure OutOfMemory → HasFailed (state g old) (state g new) Fits
  dropped_caused e Fits caused = subst (λ h. HasCleanDisk (state g h) → e ≢ SqliteFailure OutOfMemory → HasFailed (state g old) (state g h) Fits) same at_end
    where
      at_end : HasCleanDisk (state g end) → e ≢ SqliteFailure OutOfMemory → HasFailed (state g old) (state g end) Fits
      at_end clean other ready fits =
          let inside : IsTrue (state g tx.now).in_transaction = subst (λ h. IsTrue (state g h).in_transaction) (sym begun) refl in
          let more : MoreFaults (state g old).faults (state g mid.now).faults =
          subst (λ (h : Held S). HasFailed (state g h) (state g mid.now) Fits) begun (caused inside (omega (arith, left.clean, clean)) other) (record { is_open = ready.is_open; unlimited = ready.unlimited }) fits in
          omega (arith, more, left.counts)

pub on_err : {A E : Type 0} (r : Result A E) (P : Type 0) → P → OnErr r P
on_err (Ok a) P h = tt
on_err (Err e) P h = h

-- two changes, one after the other
module _ {S : Type 0} (g : Ghosts S) (a b c : MutBor (Held S)) (quiet : IsQuiet g b c) where
  pub changes_then : (f k : Contents → Contents) (n m last : ℕ) → n ≤ last → m ≤ last → (HasCleanDisk (state g b.now) → Turns (Alters f n) (state g a.now) (state g b.now))
      → (HasCleanDisk (state g c.now) → Turns (Alters k m) (state g b.now) (state g c.now)) → HasCleanDisk (state g c.now) → Turns (Alters (λ h. k (f h)) last) (state g a.now) (state g c.now)
  changes_then f k n m last low next one two clean =
      let first = one (calm g b c quiet clean) in
      let second = two clean in
      record {
        goes_on = λ is. second.goes_on (first.goes_on is);
        does = record {
          holds = λ h is. second.does.holds (f h) (first.does.holds h is);
          numbered = λ h is top up was. second.does.numbered (f h) (first.does.holds h is) top (omega (arith, next, up)) (first.does.numbered h is top (omega (arith, low, up)) was);
          sound = λ h is was. second.does.sound (f h) (first.does.holds h is) (first.does.sound h is was);
        };
      }

  pub makes_then : (P Q T : Database → Type 0) → (HasCleanDisk (state g b.now) → Turns (Founds P Q) (state g a.now) (state g b.now))
      → (HasCleanDisk (state g c.now) → Turns (Founds Q T) (state g b.now) (state g c.now)) → HasCleanDisk (state g c.now) → Turns (Founds P T) (state g a.now) (state g c.now)
  makes_then P Q T one two clean =
      let first = one (calm g b c quiet clean) in
      let second = two clean in
      record { goes_on = λ is. second.goes_on (first.goes_on is); does = λ is. second.does (first.does is).0 }

-- what such a step gives the next one
pub founded : {S : Type 0} (g : Ghosts S) (a b : MutBor (Held S)) (P Q : Database → Type 0) → (HasCleanDisk (state g b.now) → Turns (Founds P Q) (state g a.now) (state g b.now)) → HasCleanDisk (state g b.now)
    → (IsTrue (state g a.now).in_transaction → IsTrue (state g b.now).in_transaction) × (P (state g a.now).now → Q (state g b.now).now)
founded g a b P Q made clean = ((made clean).goes_on, λ is. ((made clean).does is).0)

-- the second of two is refused by the device, where the first made what it needs
pub caused_then : {S : Type 0} (g : Ghosts S) (a b c : MutBor (Held S)) (e : Error) (Fits Then : Database → Type 0) → IsQuiet g a b → IsQuiet g b c
    → (HasCleanDisk (state g b.now) → (IsTrue (state g a.now).in_transaction → IsTrue (state g b.now).in_transaction) × (Fits (state g a.now).now → Then (state g b.now).now))
    → (IsTrue (state g b.now).in_transaction → HasCleanDisk (state g c.now) → e ≢ SqliteFailure OutOfMemory → HasFailed (state g b.now) (state g c.now) Then)
    → IsTrue (state g a.now).in_transaction → HasCleanDisk (state g c.now) → e ≢ SqliteFailure OutOfMemory → HasFailed (state g a.now) (state g c.now) Fits
caused_then g a b c e Fits Then one two made caused inside clean other ready fits =
    let at_mid : HasCleanDisk (state g b.now) = calm g b c two clean in
    let on = made at_mid in
    elim (one.survives.closes at_mid ready.is_open) [
      | inl still ↦
          let here : IsReady (state g b.now) = record { is_open = still; unlimited = one.survives.limit ∙ ready.unlimited } in
          let more = caused (on.0 inside) clean other here (on.1 fits) in
          omega (arith, more, one.survives.counts)
      | inr more ↦ omega (arith, more, two.survives.counts)
    ]

-- the error is passed on
pub refuses : {S A : Type 0} (g : Ghosts S) (old new : MutBor (Held S)) (r : Result A Error) (e : Error) (Fits : Database → Type 0) → IsErrAnd r (λ y. y ≡ e)
    → (IsTrue (state g old.now).in_transaction → HasCleanDisk (state g new.now) → e ≢ SqliteFailure OutOfMemory → HasFailed (state g old.now) (state g new.now) Fits) → IsCausedInside g old new r Fits
refuses g old new (Ok a) e Fits none caused inside clean = absurd none
refuses g old new (Err y) e Fits is caused inside clean = λ other. caused inside clean (subst (λ x. x ≢ SqliteFailure OutOfMemory) is other)

pub refuses_whole : {S A : Type 0} (g : Ghosts S) (old new : Held S) (r : Result A Error) (e : Error) (Fits : Database → Type 0) → IsErrAnd r (λ y. y ≡ e)
    → (HasCleanDisk (state g new) → e ≢ SqliteFailure OutOfMemory → HasFailed (state g old) (state g new) Fits) → IsCaused g old new r Fits
refuses_whole g old new (Ok a) e Fits none caused clean = absurd none
refuses_whole g old new (Err y) e Fits is caused clean = λ other. caused clean (subst (λ x. x ≢ SqliteFailure OutOfMemory) is other)

-- a change under rowids up to a higher one
pub changes_up : {S : Type 0} (g : Ghosts S) (a b : MutBor (Held S)) (f : Contents → Contents) (n m : ℕ) → n ≤ m → (HasCleanDisk (state g b.now) → Turns (Alters f n) (state g a.now) (state g b.now))
    → HasCleanDisk (state g b.now) → Turns (Alters f m) (state g a.now) (state g b.now)
changes_up g a b f n m low one clean =
    let it = one clean in
    record { goes_on = it.goes_on; does = record { holds = it.does.holds; numbered = λ h is top up was. it.does.numbered h is top (omega (arith, low, up)) was; sound = it.does.sound } }

-- the same change in other words
pub changes_as : {S : Type 0} (g : Ghosts S) (a b : MutBor (Held S)) (f k : Contents → Contents) (last : ℕ) → ((h : Contents) → f h ≡ k h) → (HasCleanDisk (state g b.now) → Turns (Alters f last) (state g a.now) (state g b.now))
    → HasCleanDisk (state g b.now) → Turns (Alters k last) (state g a.now) (state g b.now)
changes_as g a b f k last same one clean =
    let it = one clean in
    record { goes_on = it.goes_on; does = record { holds = λ h is. subst (Holds (state g b.now).now) (same h) (it.does.holds h is); numbered = it.does.numbered; sound = it.does.sound } }

pub has_stored : (f : Contents → Contents) (last : ℕ) (old new : State) → IsTrue old.is_open × IsTrue new.is_open × (new.committed ≡ new.now) × Alters f last old.now new.now → HasStored f last old new
has_stored f last old new h = record { was_open = h.0; is_open = h.1; committed = h.2; made = h.3 }

pub may_store : (f : Contents → Contents) (last : ℕ) (old : State) (db : Database) → IsTrue old.is_open → Alters f last old.now db → MayStore old f last db.trees
may_store f last old db is made = record { db = db; is = refl; was_open = is; made = made }

pub stands_new : (number : ℕ) (old new : State) → IsTrue old.is_open × IsTrue new.is_open × (new.committed ≡ new.now) × Founds HasNone (HasNew number) old.now new.now → HasNone old.now → StandsNew new number
stands_new number old new h none = record { is_open = h.1; committed = h.2; new = (h.3 none).0; sound = (h.3 none).1 }

pub may_create : (number : ℕ) (old : State) (db : Database) → IsTrue old.is_open → Founds HasNone (HasNew number) old.now db → MayCreate old number db.trees
may_create number old db is made = record { db = db; is = refl; was_open = is; made = made }

-- a schema by its parts
pub schema_is : (s : Schema) → s.tables ≡ schema.tables → s.indexes ≡ row_index ∷ state_index ∷ [] → s.views ≡ [] → s ≡ schema
schema_is s tables indexes views =
    ap (λ (t : List Table). record s { tables = t }) tables ∙ (ap (λ (i : List Index). record schema { indexes = i; views = s.views }) (indexes ∙ sym indexes_are) ∙ ap (λ (v : List View). record schema { views = v }) views)
