-- Pages of watched events as JSON.
use Rattle.std.specs.Prelude.{ℕ, List, [], ◌∷◌, map, codes}
use Rattle.serde_json.specs.Data.{Data, string, array}
use Rattle.serde_json.specs.View.{items_of}
use Rattle.names.specs.Spelling.{tuple_text}
use Rattle.names.specs.declared.commit.EventKind.{EventKind}
use Rattle.names.specs.declared.commit.EventKind.TheVariants.{Put, Del}
use Rattle.watch.specs.declared.watched.WatchedEvent.{WatchedEvent}
use Rattle.watch.specs.declared.watched.Page.{Page}
use Rattle.bodies.specs.Replies.{object_of, rev_data}

abbrev pub event_word : EventKind → List ℕ
event_word Put = codes "put"
event_word Del = codes "del"

-- `{"event": "put" or "del", "tuple": tuple, "zookie": ..}`, with the zookie of the event's commit
abbrev pub event_data : ℕ → WatchedEvent → Data
event_data store w = object_of ((codes "event", string (event_word w.event.kind)) ∷ (codes "tuple", string (tuple_text w.event.tuple)) ∷ (codes "zookie", rev_data store w.rev) ∷ [])

-- `{"events": [event, ..], "heartbeat": ..}`, with the zookie of the revision that the page reaches
abbrev pub page_data : ℕ → Page → Data
page_data store page = object_of ((codes "events", array (items_of (map (event_data store) page.events))) ∷ (codes "heartbeat", rev_data store page.heartbeat) ∷ [])
