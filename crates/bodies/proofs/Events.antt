-- The values of events.
use Rattle.std.proofs.Common.{◌≡◌, ℕ, false, List, [], ◌∷◌, Result, Ok, Err, IfOk, map, refl, ap, ◌∙◌}
use Rattle.std.specs.declared.alloc.AllocError.{AllocError}
use Rattle.serde_json.specs.View.{view, items_of}
use Rattle.serde_json.specs.Written.{has_float, items_have_float}
use Rattle.serde_json.specs.declared.value.Value.{Value}
use Rattle.watch.specs.declared.watched.WatchedEvent.{WatchedEvent}
use Rattle.watch.specs.declared.watched.Page.{Page}
use Rattle.bodies.specs.Pages.{event_data, page_data}

events_plain : (store : ℕ) (ws : List WatchedEvent) → items_have_float (items_of (map (event_data store) ws)) ≡ false
events_plain store [] = refl
events_plain store (w ∷ ws) = events_plain store ws

pub page_plain : (store : ℕ) (page : Page) → has_float (page_data store page) ≡ false
page_plain store page = rw (events_plain store page.events) refl
