-- The order of a commit's events.
use Rattle.std.specs.Prelude.{◌≡◌, ◌&&◌, List, [], ◌∷◌, Bool, true, false}
use Rattle.std.specs.List.{list_all}
use Rattle.std.specs.Ordering.{is_lt}
use Rattle.names.specs.Order.{tuple_cmp}
use Rattle.names.specs.declared.commit.Event.{Event}
use Rattle.names.specs.declared.commit.Commit.{Commit}
use Rattle.names.specs.declared.commit.Commit.TheVariants as kinds
use Rattle.meaning.specs.Config.{Configured}
use Rattle.meaning.specs.History.{History}

-- the event's tuple is below that of the next
abbrev pub is_below : Event → List Event → Bool
is_below e [] = true
is_below e (f ∷ fs) = is_lt (tuple_cmp e.tuple f.tuple)

-- the events are in the order of their tuples, and no tuple comes twice
abbrev pub is_in_order : List Event → Bool
is_in_order [] = true
is_in_order (e ∷ es) = is_below e es && is_in_order es

-- the commit is a configuration, or there is an event in it and all are in order
abbrev pub is_ordered : Commit Configured → Bool
is_ordered (kinds.Tuples []) = false
is_ordered (kinds.Tuples (e ∷ es)) = is_in_order (e ∷ es)
is_ordered (kinds.Config config) = true

-- each commit is
abbrev pub AreOrdered : History → Type 0
AreOrdered commits = list_all is_ordered commits ≡ true
