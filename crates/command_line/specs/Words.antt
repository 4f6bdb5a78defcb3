-- What the words of a command line ask for.
use Rattle.std.specs.Prelude.{ℕ, ◌≤◌, Bool, false, List, [], ◌∷◌, bytes_eq, codes, ⊤}
use Rattle.command_line.specs.declared.words.TheConstants.{MAX_STORE, MAX_WORKERS}
use Rattle.command_line.specs.declared.words.Place.{Place}
use Rattle.command_line.specs.declared.words.Place.TheVariants.{Memory, New, There}
use Rattle.command_line.specs.declared.words.Task.{Task}
use Rattle.command_line.specs.declared.words.Task.TheVariants.{Run, Serve, Config}

-- the word after the program's own is `serve`
abbrev pub asks_to_serve : List (List ℕ) → Bool
asks_to_serve [] = false
asks_to_serve (program ∷ []) = false
asks_to_serve (program ∷ word ∷ words) = bytes_eq word (codes "serve")

-- P where connections are to be served
abbrev pub OnServe : Task → Type 0 → Type 0
OnServe (Serve place port workers) P = P
OnServe (Run place) P = ⊤
OnServe (Config file) P = ⊤

-- a number of workers that the program serves by
abbrev pub AreWorkers : ℕ → Type 0
AreWorkers workers = (1 ≤ workers) × (workers ≤ MAX_WORKERS)

-- where connections are to be served, it is by such a number of workers
abbrev pub HasWorkers : Task → Type 0
HasWorkers (Serve place port workers) = AreWorkers workers
HasWorkers (Run place) = ⊤
HasWorkers (Config file) = ⊤

-- a number that a store can have
abbrev pub IsStore : ℕ → Type 0
IsStore store = (1 ≤ store) × (store ≤ MAX_STORE)

-- a store that is made has one of these
abbrev pub IsPlace : Place → Type 0
IsPlace (Memory store) = IsStore store
IsPlace (New file store) = IsStore store
IsPlace (There file) = ⊤

-- where a store is asked for, it is there or gets such a number
abbrev pub NamesStore : Task → Type 0
NamesStore (Run place) = IsPlace place
NamesStore (Serve place port workers) = IsPlace place
NamesStore (Config file) = ⊤
