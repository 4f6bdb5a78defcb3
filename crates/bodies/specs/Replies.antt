-- The bodies of the replies.
use Rattle.std.specs.Prelude.{ℕ, ◌≡◌, ◌∷◌, ◌++◌, [], List, Bool, cond, Option, Some, None, MatchOption, option_map, unwrap_or, ⊤, codes, length, map, ◌-◌}
use Rattle.std.specs.List.{slice_get}
use Rattle.names.specs.Refusals.{number_of, name_of, status_of, cause_name_of}
use Rattle.names.specs.Spelling.{tuple_text, relation_text}
use Rattle.names.specs.declared.refusal.Refusal.{Refusal}
use Rattle.names.specs.declared.refusal.Refusal.TheVariants.{ConditionFailed, AlreadyThere, NotThere, ConfigRefused, TupleInTheWay, Memory}
use Rattle.names.specs.declared.tuple.Tuple.{Tuple}
use Rattle.names.specs.declared.cause.Cause.{Cause}
use Rattle.names.specs.declared.cause.Cause.TheVariants.{Cycle}
use Rattle.names.specs.declared.cause.CycleStep.{CycleStep}
use Rattle.zookie.specs.Text.{zookie_text}
use Rattle.names.specs.declared.state.State.{State}
use Rattle.serde_json.specs.Data.{Data, boolean, number, unsigned, string, array, object, Items, Members, no_members, member}
use Rattle.serde_json.specs.View.{items_of}
use Rattle.serde_json.specs.Written.{compact_text}

-- the object of these members, in this order
abbrev pub members_of : List (List ℕ × Data) → Members
members_of [] = no_members
members_of (m ∷ ms) = member m.0 m.1 (members_of ms)

abbrev pub object_of : List (List ℕ × Data) → Data
object_of ms = object (members_of ms)

-- `{"shown": .., "zookie": ..}`
abbrev pub receipt_data : Bool → List ℕ → Data
receipt_data shown zookie = object_of ((codes "shown", boolean shown) ∷ (codes "zookie", string zookie) ∷ [])

-- `{"allowed": .., "zookie": ..}`
abbrev pub answer_data : Bool → List ℕ → Data
answer_data allowed zookie = object_of ((codes "allowed", boolean allowed) ∷ (codes "zookie", string zookie) ∷ [])

-- `{"cursor": .., "shown": ..}`
abbrev pub cursor_data : List ℕ → Bool → Data
cursor_data cursor shown = object_of ((codes "cursor", string cursor) ∷ (codes "shown", boolean shown) ∷ [])

-- `{"floor": .., "shown": ..}`
abbrev pub floor_data : List ℕ → Bool → Data
floor_data floor shown = object_of ((codes "floor", string floor) ∷ (codes "shown", boolean shown) ∷ [])

-- `{"marked": .., "shown": ..}`
abbrev pub marked_data : ℕ → Bool → Data
marked_data marked shown = object_of ((codes "marked", number (unsigned marked)) ∷ (codes "shown", boolean shown) ∷ [])

-- `{"base": .., "shown": ..}`
abbrev pub base_data : List ℕ → Bool → Data
base_data base shown = object_of ((codes "base", string base) ∷ (codes "shown", boolean shown) ∷ [])

-- the zookie of a revision of the store
abbrev pub rev_data : ℕ → ℕ → Data
rev_data store rev = string (zookie_text store rev)

-- the numbers of a store's published state
abbrev pub state_data : ℕ → State → Data
state_data store s = object_of ((codes "base", rev_data store s.base) ∷ (codes "floor", rev_data store s.floor) ∷ (codes "hot", rev_data store s.hot)
    ∷ (codes "index", rev_data store s.index) ∷ (codes "marked", number (unsigned s.marked)) ∷ (codes "newest", rev_data store s.newest)
    ∷ (codes "rows", number (unsigned s.rows)) ∷ (codes "tuples", number (unsigned s.tuples)) ∷ [])

-- a relation of a cycle, after `-` where the step to it is subtracted, and after `+` where it is
-- plain
abbrev pub signed_text : CycleStep → List ℕ
signed_text s = cond s.subtracted 45 43 ∷ relation_text s.to

-- the relation at which a cycle begins and ends: the one to which its last step leads
abbrev pub start_text : List CycleStep → List ℕ
start_text steps = unwrap_or (option_map (λ s. relation_text s.to) (slice_get steps (length steps - 1))) []

-- where the cycle begins, and then each relation with its sign
abbrev pub cycle_items : List CycleStep → Items
cycle_items steps = items_of (string (start_text steps) ∷ map (λ s. string (signed_text s)) steps)

-- `{"error": {.., "code": .., .., "name": .., ..}}`: a refusal's number and name, and in the three places these members
abbrev pub error_data : Refusal → List (List ℕ × Data) → List (List ℕ × Data) → List (List ℕ × Data) → Data
error_data why before between after = object_of ((codes "error", object_of (before ++ (codes "code", number (unsigned (number_of why))) ∷ between ++ (codes "name", string (name_of why)) ∷ after)) ∷ [])

-- with the place of an operation or of a condition
abbrev pub indexed_data : Refusal → ℕ → Data
indexed_data why index = error_data why [] ((codes "index", number (unsigned index)) ∷ []) []

-- with the cause, and for a cycle its relations
abbrev pub cycle_members : Cause → List (List ℕ × Data)
cycle_members (Cycle steps) = (codes "cycle", array (cycle_items steps)) ∷ []
cycle_members cause = []

abbrev pub refusal_data : Refusal → Data
refusal_data (ConditionFailed index) = indexed_data (ConditionFailed index) index
refusal_data (AlreadyThere index) = indexed_data (AlreadyThere index) index
refusal_data (NotThere index) = indexed_data (NotThere index) index
refusal_data (ConfigRefused cause) = error_data (ConfigRefused cause) ((codes "cause", string (cause_name_of cause)) ∷ []) (cycle_members cause) []
refusal_data (TupleInTheWay tuple) = error_data (TupleInTheWay tuple) [] [] ((codes "tuple", string (tuple_text tuple)) ∷ [])
refusal_data why = error_data why [] [] []

-- the reply has this status and says this, or there was no memory for it
abbrev pub Says : Option (ℕ × List ℕ) → ℕ → Data → Type 0
Says told status d = MatchOption told ⊤ (λ said. (said.0 ≡ status) × (said.1 ≡ compact_text d))

-- the reply says this refusal; for want of memory there is the one reply that takes none
abbrev pub SaysRefusal : Option (ℕ × List ℕ) → Refusal → Type 0
SaysRefusal told Memory = told ≡ None
SaysRefusal told why = Says told (status_of why) (refusal_data why)

-- a refusal at a chosen revision has its zookie
abbrev pub SaysRefusalAt : Option (ℕ × List ℕ) → Refusal → Option (List ℕ) → Type 0
SaysRefusalAt told why None = SaysRefusal told why
SaysRefusalAt told why (Some zookie) = Says told (status_of why) (error_data why [] [] ((codes "zookie", string zookie) ∷ []))
