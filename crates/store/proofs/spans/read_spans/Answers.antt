use Rattle.std.proofs.Common.{◌+◌, List, get_or, map, subst, arith}
use Rattle.std.specs.Prelude.{IsPermutation}
use Rattle.std.proofs.lemmas.List.Sorted.{IsPermutation-map, All-permutation}
use Rattle.sqlite_tables.specs.Tables.{Span}
use Rattle.store.specs.Written.{IsSpan, span_of}
use Rattle.store.specs.inside.Reading.{as_span}
use Rattle.store.proofs.Adjacent.{listed_from}
use Rattle.store.proofs.spans.read_spans.Goals as goal

pub returns-clause-same : goal.returns-clause-same
returns-clause-same c =
    let Q : List Span → Type 0 = λ l. IsPermutation l (map span_of (map as_span c.sort_unstable.new.self.items)) in
    subst Q c.in_ok-spans.ensures.same (IsPermutation-map span_of _ _ (IsPermutation-map as_span c.in_ok-spans.spans.items c.sort_unstable.new.self.items c.sort_unstable.ensures.permutation))

pub returns-clause-are : goal.returns-clause-are
returns-clause-are c = All-permutation (λ s. IsSpan c.args.head.floor c.args.head.newest (as_span s)) c.in_ok-spans.spans.items c.sort_unstable.new.self.items c.sort_unstable.ensures.permutation c.in_ok-spans.ensures.are

pub returns-clause-listed : goal.returns-clause-listed
returns-clause-listed c = λ k d lt. listed_from (get_or c.sort_unstable.new.self.items k d) (get_or c.sort_unstable.new.self.items (k + 1) d) (c.sort_unstable.ensures.sorted k d (omega arith) lt)
