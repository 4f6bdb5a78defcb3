-- At which revisions a question may be answered, and why it is refused.
use Rattle.std.specs.Prelude.{◌≡◌, ℕ, ◌<◌, ◌≤◌}
use Rattle.names.specs.declared.refusal.Refusal.{Refusal}
use Rattle.names.specs.declared.refusal.Refusal.TheVariants.{ForeignZookie, Future, Expired}
use Rattle.zookie.specs.declared.consistency.Consistency.{Consistency}
use Rattle.zookie.specs.declared.consistency.Consistency.TheVariants.{Latest, AtLeast, Exactly}

-- the revision is as fresh as the question asks (Zanzibar, section 2.2)
abbrev pub IsFreshEnough : Consistency → ℕ → ℕ → Type 0
IsFreshEnough Latest newest rev = rev ≡ newest
IsFreshEnough (AtLeast zookie) newest rev = zookie.rev ≤ rev
IsFreshEnough (Exactly zookie) newest rev = rev ≡ zookie.rev

-- a question may be answered at the revision: it is kept, shown and fresh enough
abbrev pub Fits : Consistency → (floor newest rev : ℕ) → Type 0
Fits consistency floor newest rev
    = (floor ≤ rev) × (rev ≤ newest) × IsFreshEnough consistency newest rev

-- its zookie is another store's
abbrev pub IsForeign : Consistency → (store : ℕ) → Type 0
IsForeign Latest store = ⊥
IsForeign (AtLeast zookie) store = ¬ (zookie.store ≡ store)
IsForeign (Exactly zookie) store = ¬ (zookie.store ≡ store)

-- its zookie is above the newest revision
abbrev pub IsFuture : Consistency → (newest : ℕ) → Type 0
IsFuture Latest newest = ⊥
IsFuture (AtLeast zookie) newest = newest < zookie.rev
IsFuture (Exactly zookie) newest = newest < zookie.rev

-- it asks for a revision below the floor, which is not kept
abbrev pub IsExpired : Consistency → (floor : ℕ) → Type 0
IsExpired Latest floor = ⊥
IsExpired (AtLeast zookie) floor = ⊥
IsExpired (Exactly zookie) floor = zookie.rev < floor

-- none of the three causes applies
abbrev pub IsAnswerable : Consistency → (store floor newest : ℕ) → Type 0
IsAnswerable consistency store floor newest = (¬ IsForeign consistency store)
    × (¬ IsFuture consistency newest) × (¬ IsExpired consistency floor)

-- the first of the causes that applies
abbrev pub IsFirstCause : Consistency → (store floor newest : ℕ) → Refusal → Type 0
IsFirstCause consistency store floor newest ForeignZookie = IsForeign consistency store
IsFirstCause consistency store floor newest Future = (¬ IsForeign consistency store)
    × IsFuture consistency newest
IsFirstCause consistency store floor newest Expired = (¬ IsForeign consistency store)
    × (¬ IsFuture consistency newest) × IsExpired consistency floor
IsFirstCause consistency store floor newest _ = ⊥

-- the revision at which a question is answered: where an older one serves, that of the index
abbrev pub IsChoice : Consistency → (newest index rev : ℕ) → Type 0
IsChoice Latest newest index rev = rev ≡ newest
IsChoice (AtLeast zookie) newest index rev = (zookie.rev ≤ index → rev ≡ index)
    × (index < zookie.rev → rev ≡ newest)
IsChoice (Exactly zookie) newest index rev = rev ≡ zookie.rev
