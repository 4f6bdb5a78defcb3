use Rattle.std.proofs.Common.{ℕ, ◌≡◌, ◌+◌, ◌||◌, [], List, refl, sym, subst, arith}
use Rattle.std.specs.Prelude.{Contains}
use Rattle.least_sets.specs.World.{has}
use Rattle.region.proofs.Listing.{on_err_all}
use Rattle.region.specs.Refreshed.{IsRefreshed}
use Rattle.delta.specs.Layers.{IsAbove}
use Rattle.delta.specs.Telling.{MayTell}
use Rattle.delta.specs.inside.Growing.{more_both}
use Rattle.delta.specs.inside.Putting.{IsWithout}
use Rattle.delta.proofs.After.{kept_same}
use Rattle.delta.proofs.Numbered.{numbers_set}
use Rattle.delta.proofs.Recalled.{MayRecall, recalled, refreshed_by, events_set}
use Rattle.delta.proofs.Rows.{up_to_more}
use Rattle.delta.proofs.Taken.{kept_layer, tuples_of}
use Rattle.delta.proofs.Taking.{took, asked_for}
use Rattle.delta.proofs.layer.Layer.take.Goals as goal

pub returns-in_err-turned-clause-err : goal.returns-in_err-turned-clause-err
returns-in_err-turned-clause-err g c = on_err_all c.from_residual.result (λ snaps is.
    kept_layer c.args.self.now _ snaps is refl refl refl c.in_err-turned.ensures.more refl (λ n. refl) refl)

pub returns-in_err-changed-clause-err : goal.returns-in_err-changed-clause-err
returns-in_err-changed-clause-err g c = on_err_all c.from_residual-in_err-changed.result (λ snaps is.
    kept_layer c.args.self.now _ snaps is refl refl refl c.in_ok-turned.ensures.more refl (λ n. refl) refl)

pub returns-in_err-added-clause-err : goal.returns-in_err-added-clause-err
returns-in_err-added-clause-err g c = on_err_all c.from_residual-in_err-added.result (λ snaps is.
    kept_layer c.args.self.now _ snaps is refl refl refl c.in_ok-turned.ensures.more c.in_err-added.ensures.err (λ n. refl) refl)

pub invariant_of-self-in-Ok : goal.invariant_of-self-in-Ok
invariant_of-self-in-Ok g c =
    let layer = c.args.self.now in
    let done = c.in-Ok.ensures in
    record {
      whole = done.whole;
      noted = up_to_more (layer.cursor + 1) layer.cursor layer.sets.rows c.renew-done.new.sets.rows layer.earlier.items c.renew-done.new.earlier.items done.noted (omega arith) layer.noted;
    }

pub returns-in-Ok-clause-layer : goal.returns-in-Ok-clause-layer
returns-in-Ok-clause-layer g c = λ snaps is next.
    let layer = c.args.self.now in
    let done = c.in-Ok.ensures in
    let above = numbers_set c.above_events.new.nodes c.in_ok-turned.turned.items c.of-turned.result (IsAbove layer.config (Contains (tuples_of c.args.events.now))) c.of-turned.ensures.members c.in_ok-turned.ensures.numbers in
    let are = events_set c.above_events.new.nodes c.args.events.now c.in_ok-changed.changed.items c.of-changed.result c.of-changed.ensures.members c.in_ok-changed.ensures in
    let all = subst (λ (ts : List ℕ). (i : ℕ) → has c.put_each.new.ids i ≡ (has layer.roots i || has ts i)) c.as_slice-turned.ensures.ids c.in_ok-added.ensures.all in
    let r = subst (λ (ts : List ℕ). IsRefreshed (MayTell (g.A.CountedArcs.snap c.args.arcs.now) c.renew-done.new.nodes) layer.sets.rows c.renew-done.new.sets.rows c.put_each.new.ids ts c.of-changed.result [] done.refreshed.0) c.as_slice-turned.ensures.ids
    (refreshed_by (MayRecall layer.sets.rows c.of-changed.result (g.A.CountedArcs.snap c.args.arcs.now) c.renew-done.new.nodes) (MayTell (g.A.CountedArcs.snap c.args.arcs.now) c.renew-done.new.nodes) layer.sets.rows c.renew-done.new.sets.rows c.put_each.new.ids c.as_slice-turned.result.now c.of-changed.result [] done.refreshed.0
    (recalled (snaps layer.cursor) (g.A.CountedArcs.snap c.args.arcs.now) c.args.events.now next.after c.above_events.new.nodes c.renew-done.new.nodes layer.roots c.of-changed.result layer.sets.rows done.more are
    (kept_same (snaps layer.cursor) layer.nodes c.above_events.new.nodes layer.roots layer.sets.rows layer.sets.rows c.in_ok-turned.ensures.more (λ n. refl) is.kept))
    done.refreshed.1) in
    took layer _ snaps c.args.events.now (g.A.CountedArcs.snap c.args.arcs.now) c.above_events.new.nodes c.of-turned.result c.of-changed.result done.refreshed.0
    c.in_ok-turned.ensures.more done.more above are all r is next c.groups_are_walks.ensures refl refl refl done.noted

pub returns-in-Ok-clause-asked : goal.returns-in-Ok-clause-asked
returns-in-Ok-clause-asked g c = λ snaps is next.
    let layer = c.args.self.now in
    let done = c.in-Ok.ensures in
    let above = numbers_set c.above_events.new.nodes c.in_ok-turned.turned.items c.of-turned.result (IsAbove layer.config (Contains (tuples_of c.args.events.now))) c.of-turned.ensures.members c.in_ok-turned.ensures.numbers in
    let are = events_set c.above_events.new.nodes c.args.events.now c.in_ok-changed.changed.items c.of-changed.result c.of-changed.ensures.members c.in_ok-changed.ensures in
    let all = subst (λ (ts : List ℕ). (i : ℕ) → has c.put_each.new.ids i ≡ (has layer.roots i || has ts i)) c.as_slice-turned.ensures.ids c.in_ok-added.ensures.all in
    let r = subst (λ (ts : List ℕ). IsRefreshed (MayTell (g.A.CountedArcs.snap c.args.arcs.now) c.renew-done.new.nodes) layer.sets.rows c.renew-done.new.sets.rows c.put_each.new.ids ts c.of-changed.result [] done.refreshed.0) c.as_slice-turned.ensures.ids
    (refreshed_by (MayRecall layer.sets.rows c.of-changed.result (g.A.CountedArcs.snap c.args.arcs.now) c.renew-done.new.nodes) (MayTell (g.A.CountedArcs.snap c.args.arcs.now) c.renew-done.new.nodes) layer.sets.rows c.renew-done.new.sets.rows c.put_each.new.ids c.as_slice-turned.result.now c.of-changed.result [] done.refreshed.0
    (recalled (snaps layer.cursor) (g.A.CountedArcs.snap c.args.arcs.now) c.args.events.now next.after c.above_events.new.nodes c.renew-done.new.nodes layer.roots c.of-changed.result layer.sets.rows done.more are
    (kept_same (snaps layer.cursor) layer.nodes c.above_events.new.nodes layer.roots layer.sets.rows layer.sets.rows c.in_ok-turned.ensures.more (λ n. refl) is.kept))
    done.refreshed.1) in
    asked_for layer snaps c.args.events.now (g.A.CountedArcs.snap c.args.arcs.now) c.above_events.new.nodes c.renew-done.new.nodes c.of-turned.result c.put_each.new.ids c.of-changed.result done.refreshed.0 c.renew-done.new.sets.rows
    c.in_ok-turned.ensures.more done.more above are all r is next (g.A.CountedArcs.asked c.args.arcs.now) (g.A.CountedArcs.asked c.renew-done.new.arcs) done.refreshed.2

-- what was put in is taken out again
pub returns-clause-err : goal.returns-clause-err
returns-clause-err g c = λ snaps is.
    let layer = c.args.self.now in
    let e = c.in-Err.ensures in
    let roots = c.take_each.ensures layer.roots c.put_each.ensures.ascending (subst (λ (xs : List ℕ). IsWithout layer.roots c.put_each.new.ids xs) (sym c.deref.ensures.value) c.in_ok-added.ensures.added) in
    kept_layer layer _ snaps is refl refl refl (more_both layer.nodes c.above_events.new.nodes c.renew-done.new.nodes c.in_ok-turned.ensures.more e.more) roots e.err e.err_noted
