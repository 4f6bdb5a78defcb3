use Rattle.std.proofs.Common.{◌≡◌, ◌||◌, ◌++◌, List, [], ℕ, refl, ◌∙◌, ap, subst}
use Rattle.least_sets.specs.World.{has}
use Rattle.delta.specs.Noted.{led_in}
use Rattle.delta.specs.inside.Noting.{AreNotedOf}
use Rattle.delta.proofs.Renewed.{refreshed}
use Rattle.delta.proofs.Noting.{noted_of, untouched_led}
use Rattle.delta.proofs.Recalled.{MayRecall}
use Rattle.delta.proofs.renewing.renew.Goals as goal

pub fill-requires-clause-gathered : goal.fill-requires-clause-gathered
fill-requires-clause-gathered g c =
    let got = c.in_ok-region.ensures in
    (got.agree.0, c.args.roots.now, c.args.turned.now, c.args.changed.now, got.gathered got.agree.0 got.agree.1)

pub returns-clause-refreshed : goal.returns-clause-refreshed
returns-clause-refreshed g c =
    let got = c.in_ok-region.ensures in
    let region = c.in_ok-region.field-0.region in (
      c.in_ok-region.field-0.asked.items,
      refreshed (MayRecall c.args.sets.now.rows c.args.changed.now (g.A.CountedArcs.snap c.args.arcs.now) c.gathered.new.nodes) c.args.sets.now.rows c.fill.new.sets.rows c.args.roots.now c.args.turned.now c.args.changed.now
          [] c.in_ok-region.field-0.asked.items c.in_ok-region.field-0.asked.items region.told.items region.dropped.items
          got.told got.agree got.gathered got.asked refl c.in_ok-fill.ensures.nodes c.in_ok-fill.ensures.held,
      got.handed,
    )

pub returns-clause-noted : goal.returns-clause-noted
returns-clause-noted g c =
    let got = c.in_ok-region.ensures in
    let region = c.in_ok-region.field-0.region in
    let asked = c.in_ok-region.field-0.asked in
    let both = subst (λ (ds : List ℕ). (i : ℕ) → has c.in_ok-touched.touched i ≡ (has asked.items i || has ds i)) c.deref.ensures.value c.in_ok-touched.ensures.all in
    let are = subst (λ (xs : List ℕ). AreNotedOf c.args.rev (led_in c.args.sets.now.rows) xs c.in_ok-before.before.items) c.as_slice.ensures.ids c.in_ok-before.ensures in
    noted_of c.args.rev c.args.sets.now.rows c.fill.new.sets.rows c.in_ok-touched.touched c.args.earlier.now.items c.append.new.self.items c.in_ok-before.before.items c.leave_changed.new.list.items
    c.in_ok-touched.ensures.ascending
    (untouched_led c.args.sets.now.rows c.fill.new.sets.rows region.told.items region.dropped.items asked.items c.in_ok-touched.touched c.in_ok-fill.ensures.nodes c.in_ok-fill.ensures.others got.asked.asked both)
    are c.leave_changed.ensures.items (c.in_ok-append.ensures.items ∙ ap (λ es. es ++ c.leave_changed.new.list.items) c.in_ok-reserve.ensures.items)
