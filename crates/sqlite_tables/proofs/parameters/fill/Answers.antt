use Rattle.std.proofs.Common.{◌≡◌, ◌<◌, ◌+◌, ◌*◌, ℕ, zero, suc, ℤ, pos, List, [], ◌∷◌, ◌++◌, length, take, slice_index_or, ap, ◌∙◌, arith, w64}
use Rattle.std.proofs.lemmas.Int.{to_z_pos}
use Rattle.std.proofs.lemmas.List.{take_more_set}
use mir.Val.{to_z}
use Rattle.sqlite_value.specs.declared.value.ValueRef.TheVariants as lent
use Rattle.sqlite.specs.declared.types.Value.TheVariants.{Int}
use Rattle.sqlite.specs.Order.{Row}
use Rattle.sqlite.specs.Values.{bound}
use Rattle.sqlite_tables.specs.declared.stored.StoredEvent.{StoredEvent}
use Rattle.sqlite_tables.specs.inside.Together.{row_values, rows_values}
use Rattle.sqlite_tables.proofs.parameters.fill.Goals as goal

-- the values of one row more
row_more : (first at : ℕ) (events : List StoredEvent) (d : StoredEvent) → at < length events
    → rows_values first (take at events) ++ row_values (first + at) (slice_index_or events at d).tuple ≡ rows_values first (take (at + 1) events)
row_more first at [] d within = absurd (omega (arith, within))
row_more first zero (e ∷ events) d within = let here : first + 0 ≡ first = omega arith in ap (λ (n : ℕ). row_values n e.tuple) here
row_more first (suc at) (e ∷ events) d within =
    let next : first + suc at ≡ first + 1 + at = omega arith in
    let count : suc (at + 1) ≡ suc at + 1 = omega arith in
    ap (λ (n : ℕ). row_values first e.tuple ++ (rows_values (first + 1) (take at events) ++ row_values n (slice_index_or events at d).tuple)) next
    ∙ (ap (λ (more : Row). row_values first e.tuple ++ more) (row_more (first + 1) at events d (omega (arith, within))) ∙ ap (λ (n : ℕ). rows_values first (take n (e ∷ events))) count)

pub loop-at-init : goal.loop-at-init
loop-at-init c =
    let values = c.args.values.now in
    let some : 0 < length values = omega (arith, c.requires.room) in
    ap bound (take_more_set values 0 (lent.Int (to_z w64 c.args.rev)) some) ∙ ap (λ (z : ℤ). Int z ∷ []) (to_z_pos w64 c.args.rev c.requires.small)

pub loop-at-preserved : goal.loop-at-preserved
loop-at-preserved c =
    let at = c.loop-at.at in
    let first = c.args.first in
    let events = c.args.events.now in
    let item : StoredEvent = c.index-events-at.result in
    let new = c.fill_row.new.values in
    let here : 5 * (at + 1) + 1 ≡ 5 * at + 1 + 5 = omega arith in
    ap (λ (n : ℕ). bound (take n new)) here
    ∙ (c.fill_row.ensures.front ∙ (ap (λ (r : Row). r ++ row_values (first + at) (slice_index_or events at item).tuple) c.loop-at.invariant
    ∙ ap (λ (more : Row). Int (pos c.args.rev) ∷ more) (row_more first at events item c.loop-at-test.true)))
