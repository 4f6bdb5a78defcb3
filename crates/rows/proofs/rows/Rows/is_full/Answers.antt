use Rattle.std.proofs.Common.{◌≡◌, ℕ, ◌+◌, ◌≤◌, ap, ◌∙◌, sym, map, arith}
use Rattle.std.specs.Prelude.{count_by}
use Rattle.names.specs.declared.limits.TheConstants.{MAX_TUPLES}
use Rattle.meaning.specs.Snap.{Snap}
use Rattle.meaning.specs.Verdict.{Newest, is_full, event_of}
use Rattle.rows.specs.Retained.{newest_of}
use Rattle.rows.specs.Judging.{adds_tuple, takes_tuple}
use Rattle.rows.specs.inside.Counting.{is_new}
use Rattle.rows.proofs.Fullness.{too_many, too_long, by_revisions, new_are_added, deletes_are_taken, less, not_less}
use Rattle.rows.proofs.rows.Rows.is_full.Goals as goal
use Rattle.rows.proofs.rows.Rows.is_full.Goals.{then-counts-room-via-then-counts-room, then-counts-room-via-else-counts-room+then-are_more}

pub returns-then-counts-room : goal.returns-then-counts-room
returns-then-counts-room c =
    let newest : Newest = newest_of c.args.self.now in
    let ops = c.args.ops.now in
    let added : count_by (is_new c.args.view.now.tuples) ops ≡ count_by (adds_tuple newest.held.tuples) ops = new_are_added c.args.view.now.tuples ops c.requires.fresh ∙ ap (λ (x : Snap). count_by (adds_tuple x.tuples) ops) c.requires.newest in
    let taken : c.count_deletes.result ≡ count_by (takes_tuple newest.held.tuples) ops = c.count_deletes.ensures ∙ deletes_are_taken c.args.view.now.tuples ops c.requires.there ∙ ap (λ (x : Snap). count_by (takes_tuple x.tuples) ops) c.requires.newest in
    too_many newest.rev newest.rows newest.held ops c.requires.once c.counts-counts.result.tuples (count_by (is_new c.args.view.now.tuples) ops) c.count_deletes.result c.counts-counts.ensures.tuples added taken
    (elim c.then-counts-room.branch [ then-counts-room-via-then-counts-room w ↦ omega (arith, w.if-counts-room.true) | then-counts-room-via-else-counts-room+then-are_more w ↦ omega (arith, w.if-counts-room.false, less _ _ (sym w.are_more.ensures ∙ w.if-are_more.true)) ])

pub returns-then-counts-count_puts-gt-MAX_ROWS : goal.returns-then-counts-count_puts-gt-MAX_ROWS
returns-then-counts-count_puts-gt-MAX_ROWS c =
    let newest : Newest = newest_of c.args.self.now in
    let ops = c.args.ops.now in
    let added : count_by (is_new c.args.view.now.tuples) ops ≡ count_by (adds_tuple newest.held.tuples) ops = new_are_added c.args.view.now.tuples ops c.requires.fresh ∙ ap (λ (x : Snap). count_by (adds_tuple x.tuples) ops) c.requires.newest in
    let taken : c.count_deletes.result ≡ count_by (takes_tuple newest.held.tuples) ops = c.count_deletes.ensures ∙ deletes_are_taken c.args.view.now.tuples ops c.requires.there ∙ ap (λ (x : Snap). count_by (takes_tuple x.tuples) ops) c.requires.newest in
    let fits : c.counts-counts.result.tuples + (count_by (is_new c.args.view.now.tuples) ops) ≤ MAX_TUPLES + c.count_deletes.result = omega (arith, c.if-counts-room.false, not_less _ _ (sym c.are_more.ensures ∙ c.if-are_more.false)) in
    too_long newest.rev c.counts-counts.result.rows newest.held ops c.requires.once c.counts-counts.result.tuples (count_by (is_new c.args.view.now.tuples) ops) c.count_deletes.result c.counts-counts.ensures.tuples added taken
    c.count_puts.result c.count_puts.ensures fits c.if-counts-count_puts-gt-MAX_ROWS.true
    ∙ ap (λ (n : ℕ). is_full (record { rev = newest.rev; rows = n; held = newest.held }) (map event_of ops)) c.counts-counts.ensures.rows

pub returns-else-counts-count_puts-gt-MAX_ROWS : goal.returns-else-counts-count_puts-gt-MAX_ROWS
returns-else-counts-count_puts-gt-MAX_ROWS c =
    let newest : Newest = newest_of c.args.self.now in
    let ops = c.args.ops.now in
    let added : count_by (is_new c.args.view.now.tuples) ops ≡ count_by (adds_tuple newest.held.tuples) ops = new_are_added c.args.view.now.tuples ops c.requires.fresh ∙ ap (λ (x : Snap). count_by (adds_tuple x.tuples) ops) c.requires.newest in
    let taken : c.count_deletes.result ≡ count_by (takes_tuple newest.held.tuples) ops = c.count_deletes.ensures ∙ deletes_are_taken c.args.view.now.tuples ops c.requires.there ∙ ap (λ (x : Snap). count_by (takes_tuple x.tuples) ops) c.requires.newest in
    let fits : c.counts-counts.result.tuples + (count_by (is_new c.args.view.now.tuples) ops) ≤ MAX_TUPLES + c.count_deletes.result = omega (arith, c.if-counts-room.false, not_less _ _ (sym c.are_more.ensures ∙ c.if-are_more.false)) in
    by_revisions c.newest.result c.counts-counts.result.rows newest.held ops c.requires.once c.counts-counts.result.tuples (count_by (is_new c.args.view.now.tuples) ops) c.count_deletes.result c.counts-counts.ensures.tuples added taken
    c.count_puts.result c.count_puts.ensures fits c.if-counts-count_puts-gt-MAX_ROWS.false
    ∙ ap (λ (n : ℕ). is_full (record { rev = n; rows = c.counts-counts.result.rows; held = newest.held }) (map event_of ops)) c.newest.ensures.newest
    ∙ ap (λ (n : ℕ). is_full (record { rev = newest.rev; rows = n; held = newest.held }) (map event_of ops)) c.counts-counts.ensures.rows
