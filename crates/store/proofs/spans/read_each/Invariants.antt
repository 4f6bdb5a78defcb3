use Rattle.std.proofs.Common.{◌≡◌, ◌++◌, length, map}
use Rattle.std.specs.Prelude.{All}
use Rattle.std.specs.Vec.Iter.{into_iter_items, into_iter_len}
use Rattle.sqlite_tables.specs.Stored.{span_in}
use Rattle.store.specs.Written.{IsSpan, span_of}
use Rattle.store.specs.inside.Reading.{as_span}
use Rattle.store.specs.Refused.{IsOfSpan}
use Rattle.store.proofs.spans.read_each.Given as goal

-- what is read and what is left are all
abbrev pub invariant-loop-span : goal.invariant-loop-span
invariant-loop-span l = record {
  count : into_iter_len l.span-iterator ≡ length (into_iter_items l.span-iterator);
  same : map span_of (map as_span l.spans.items) ++ map span_in (into_iter_items l.span-iterator) ≡ map span_in l.fn.stored.items;
  are : All (λ s. IsSpan l.head.floor l.head.newest (as_span s)) l.spans.items;
  left : All (IsOfSpan l.head.floor l.head.newest) l.fn.stored.items → All (IsOfSpan l.head.floor l.head.newest) (into_iter_items l.span-iterator);
}
