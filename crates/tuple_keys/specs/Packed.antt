-- Events as one text, and where each ends in it.
use Rattle.std.specs.Prelude.{◌≡◌, ℕ, ◌+◌, ◌-◌, ◌==◌, cond, List, [], ◌∷◌, length, take, drop, slice_index}
use Rattle.std.specs.List.{AllByRecursion, flat_map}
use Rattle.names.specs.Spelling.{IsTuple}
use Rattle.names.specs.declared.commit.Event.{Event}
use Rattle.names.specs.declared.commit.EventKind.{EventKind}
use Rattle.names.specs.declared.commit.EventKind.TheVariants.{Put, Del}
use Rattle.tuple_keys.specs.Spelled.{spelled, tuple_of}

-- `+` for a put, `-` for a del
abbrev pub sign_of : EventKind → ℕ
sign_of Put = 43
sign_of Del = 45

abbrev pub kind_of : ℕ → EventKind
kind_of sign = cond (sign == 43) Put Del

-- the sign of an event, and its tuple's text
abbrev pub event_text : Event → List ℕ
event_text e = sign_of e.kind ∷ spelled e.tuple

-- the event of such a text
abbrev pub event_of : List ℕ → Event
event_of text = record { tuple = tuple_of (drop 1 text); kind = kind_of (slice_index text 0) }

-- the texts of events, one after another
abbrev pub text_of : List Event → List ℕ
text_of es = flat_map event_text es

-- where each of them ends, if the first starts at a place
abbrev pub ends_of : ℕ → List Event → List ℕ
ends_of start [] = []
ends_of start (e ∷ es) = (start + length (event_text e)) ∷ ends_of (start + length (event_text e)) es

-- the events of a text, from the one that starts at a place on
abbrev pub events_in : ℕ → List ℕ → List ℕ → List Event
events_in start text [] = []
events_in start text (end ∷ ends) = event_of (take (end - start) text) ∷ events_in end (drop (end - start) text) ends

-- the text and the ends are those of the events
pub record ArePacked (text ends : List ℕ) (events : List Event) : Type 0 where
  pub tuples : AllByRecursion (λ e. IsTuple e.tuple) events
  pub text_is : text_of events ≡ text
  pub ends_are : ends_of 0 events ≡ ends
