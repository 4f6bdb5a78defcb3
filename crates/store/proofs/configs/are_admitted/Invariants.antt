use Rattle.std.proofs.Common.{ℕ, ◌<◌, get_or, map}
use Rattle.store.specs.declared.parts.ReadSpan.{ReadSpan}
use Rattle.store.specs.inside.Following.{IsAdmitted}
use Rattle.store.specs.inside.Reading.{as_span, as_config}
use Rattle.store.proofs.Alike.{AreSince}
use Rattle.store.proofs.configs.are_admitted.Given as goal

abbrev pub invariant-loop-span : goal.invariant-loop-span
invariant-loop-span l = record {
  admitted : (k : ℕ) (d : ReadSpan) → k < l.span-index → IsAdmitted l.floor (map as_config l.configs) (as_span (get_or l.spans k d));
  kinds : AreSince l.configs l.kinds.items;
}
