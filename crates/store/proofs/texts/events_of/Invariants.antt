use Rattle.std.proofs.Common.{◌≡◌, map, take, All}
use Rattle.names.specs.Spelling.{IsTuple}
use Rattle.store.specs.inside.EventTexts.{event_texts, event_texts_in}
use Rattle.store.proofs.texts.events_of.Given as goal

abbrev pub invariant-loop-i : goal.invariant-loop-i
invariant-loop-i l = (map event_texts_in l.texts.items ≡ map (event_texts l.puts) (take l.i l.events)) × All (λ e. IsTuple e.tuple) (take l.i l.events)
