-- What is done under a lock as one history, and what each of those who do it knows of it.
use Rattle.std.specs.Prelude.{◌≡◌, ◌≤◌, ◌==◌, ℕ, List, [], ◌∷◌, ◌++◌, length, Bool, true, false}
use mathlib.Core.List.{IsPrefix}
use mathlib.Core.Option.{some}
use lib.ListN.{get_elem?}
use Rattle.atomic_table.specs.Seated.{TableId}
use Rattle.one_history.specs.declared.entry.Entry.{Entry}
use Rattle.one_history.specs.declared.rule.View.{View}

abbrev pub no_table : TableId
no_table = record { words = 0; slots = 0; views_name = 0; atom = 0; block = 0; offset = 0; slot_names = [] }

-- What a worker knows: its number, the history that it has seen, and its own entries.
pub record Hand (E : Type 0) : Type 0 where
  pub by : ℕ
  pub seen : List (Entry E)
  pub mine : List (Entry E)

module _ {E : Type 0} where
  -- the entries of one worker that has done this, in order
  abbrev pub signed : ℕ → List E → List (Entry E)
  signed by [] = []
  signed by (x ∷ xs) = record { by = by; what = x } ∷ signed by xs

  abbrev pub put_if : Bool → Entry E → List (Entry E) → List (Entry E)
  put_if true e es = e ∷ es
  put_if false e es = es

  -- those entries of a history that one worker made, in order
  abbrev pub entries_by : ℕ → List (Entry E) → List (Entry E)
  entries_by by [] = []
  entries_by by (e ∷ es) = put_if (by == e.by) e (entries_by by es)

  -- the view of the holder of the lock, who knows all entries
  abbrev pub knower : List (Entry E) → View E
  knower all = record { keeps = true; all = all; works = false; seen = []; mine = [] }

  -- the view of a worker
  abbrev pub worker : List (Entry E) → List (Entry E) → View E
  worker seen mine = record { keeps = false; all = []; works = true; seen = seen; mine = mine }

  -- the view of a worker that holds the lock
  abbrev pub holder : List (Entry E) → List (Entry E) → List (Entry E) → View E
  holder all seen mine = record { keeps = true; all = all; works = true; seen = seen; mine = mine }

  abbrev pub nobody : View E
  nobody = record { keeps = false; all = []; works = false; seen = []; mine = [] }

  abbrev pub with_keeper : View E → View E → View E
  with_keeper v w = record { keeps = w.keeps; all = w.all; works = v.works; seen = v.seen; mine = v.mine }

  -- Who keeps the history is one alone, and knows all of it. A worker has seen a beginning of it, and its own entries are
  -- all that stand in it under its number.
  abbrev pub Fits : ℕ → List (Entry E) → ℕ → View E → Type 0
  Fits seat log by v =
      (v.keeps ≡ true → (by ≡ seat) × (v.all ≡ log))
      × (v.works ≡ true → IsPrefix v.seen log × (entries_by by log ≡ v.mine))

  -- There is one history, which each view fits, and it has no entry under a number that was not given out.
  abbrev pub Kept : List ℕ → List (View E) → Type 0
  Kept words views =
      (seat : ℕ) × (log : List (Entry E))
      × ((by : ℕ) (v : View E) → get_elem? views by ≡ some v → Fits seat log by v)
      × ((by : ℕ) → length views ≤ by → entries_by by log ≡ [])

  -- Behind the whole history, a beginning of which had been seen, stands what this worker has done.
  abbrev pub Added : ℕ → List E → View E → List ℕ → List ℕ → View E → Type 0
  Added by what v before after w =
      IsPrefix v.seen v.all
      × (w ≡ holder (v.all ++ signed by what) (v.all ++ signed by what) (v.mine ++ signed by what))
      × (entries_by by (v.all ++ signed by what) ≡ v.mine ++ signed by what)
