-- Files that no call was made on.
use Rattle.std.proofs.Common.{◌≡◌, ℕ, Bool, cond, List, [], ◌∷◌, ap, ap₂, subst, ◌∙◌, inl, inr}
use Rattle.std.specs.Prelude.{if◌then◌else◌}
use Rattle.sqlite_disk.specs.History.{MayLeave}
use Rattle.sqlite_disk.specs.Events.{Event, replay, settled}
use Rattle.sqlite_wal.specs.Recovery.{Image}

-- what a crash leaves of a file after these calls
abbrev pub left_after : Bool → List ℕ → List Event → List ℕ → Type 0
left_after mixes start history c = let m = replay start history in MayLeave mixes m.seen m.synced m.steps c

abbrev pub start_in : List ℕ → List ℕ → Bool → List ℕ
start_in log db is_log = cond is_log log db

only_start : (mixes : Bool) (start : List ℕ) (key : ℕ) (c : List ℕ) → left_after mixes start (settled key ∷ []) c → c ≡ start
only_start mixes start key c (inl seen) = seen
only_start mixes start key c (inr synced) = synced

pub file_is_left : (mixes : Bool) (start : List ℕ) (history : List Event) (key : ℕ) (c : List ℕ) → history ≡ settled key ∷ [] → left_after mixes start history c → c ≡ start
file_is_left mixes start history key c is may = only_start mixes start key c (subst (λ (h : List Event). left_after mixes start h c) is may)

pub file_is_seen : (start : List ℕ) (history : List Event) (key : ℕ) → history ≡ settled key ∷ [] → (replay start history).seen ≡ start
file_is_seen start history key is = ap (λ (h : List Event). (replay start h).seen) is

pub file_is_unfailed : (start : List ℕ) (history : List Event) (key : ℕ) → history ≡ settled key ∷ [] → (replay start history).faults ≡ 0
file_is_unfailed start history key is = ap (λ (h : List Event). (replay start h).faults) is

pub image_is : {log db a b : List ℕ} → a ≡ log → b ≡ db → (let i : Image = record { log = a; db = b } in i) ≡ (let j : Image = record { log = log; db = db } in j)
image_is p q = ap₂ (λ x y. let i : Image = record { log = x; db = y } in i) p q

abbrev pub start_for : List ℕ → List ℕ → Bool → List ℕ
start_for log db is_log = if is_log then log else db

-- a file that was just given: which of the two it is, and that nothing but its first call was made
pub seen_is : (log db : List ℕ) (is_log which : Bool) (history : List Event) (key : ℕ) → is_log ≡ which → history ≡ settled key ∷ [] → (replay (start_for log db is_log) history).seen ≡ start_for log db which
seen_is log db is_log which history key one none = file_is_seen (start_for log db is_log) history key none ∙ ap (start_for log db) one

pub left_is : (mixes : Bool) (log db : List ℕ) (is_log which : Bool) (history : List Event) (key : ℕ) (c : List ℕ) → is_log ≡ which → history ≡ settled key ∷ [] → left_after mixes (start_for log db is_log) history c
    → c ≡ start_for log db which
left_is mixes log db is_log which history key c one none may = file_is_left mixes (start_for log db is_log) history key c none may ∙ ap (start_for log db) one
