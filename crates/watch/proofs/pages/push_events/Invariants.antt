use Rattle.std.proofs.Common.{◌≡◌, ◌++◌, take}
use Rattle.watch.specs.Watched.{watched_of}
use Rattle.watch.proofs.pages.push_events.Given as goal

-- those of the events so far
abbrev pub invariant-loop-i : goal.invariant-loop-i
invariant-loop-i l = l.events.items ≡ l.initial.events.items ++ watched_of l.namespaces l.rev (take l.i l.kept)
