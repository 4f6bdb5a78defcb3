use Rattle.std.proofs.Common.{◌||◌, ap, ◌∙◌}
use Rattle.least_sets.specs.World.{has}
use Rattle.region.specs.Gathered.{IsAskedSome}
use Rattle.region.proofs.Listing.{on_err_all}
use Rattle.region.proofs.Swept.{gathered, root_asked}
use Rattle.region.proofs.Walked.{each_touched, each_told, none_asked, none_told}
use Rattle.region.proofs.gathering.gather.Goals as goal

pub returns-clause-gathered : goal.returns-clause-gathered
returns-clause-gathered g c = λ world as_told.
    let walked = c.in_ok-told.ensures.walked.each world as_told in
    gathered world c.args.old.now.rows c.in_ok-touched.touched c.in_ok-named.named c.args.roots.now c.args.turned.now c.in_ok-gone.gone c.into_list.result.items c.in_ok-told.told.items
    c.requires.closed walked.tells walked.needed walked.told_arcs walked.reached
    (rw c.deref.ensures.value at c.in_ok-named.ensures) c.in_ok-gone.ensures
    (λ n. ap (λ xs. has xs n) c.into_list.ensures ∙ c.in_ok-add_all.ensures.members n ∙ ap (λ xs. has c.in_ok-touched.touched n || has xs n) c.as_slice.ensures)
    c.in_ok-touched.ensures.before c.args.turned.now c.args.changed.now (λ n h. h)
    (λ n h k st. walked.from_roots n h (root_asked c.args.old.now.rows c.in_ok-touched.touched c.args.turned.now n k st) st)
    c.in_ok-touched.ensures.changed c.in_ok-touched.ensures.sound

pub returns-clause-told : goal.returns-clause-told
returns-clause-told g c = c.in_ok-told.ensures.walked.are_told

pub returns-clause-agree : goal.returns-clause-agree
returns-clause-agree g c = c.in_ok-told.ensures.walked.some

pub returns-in_err-touched-clause-refused : goal.returns-in_err-touched-clause-refused
returns-in_err-touched-clause-refused g c = on_err_all c.from_residual.result
    (none_told (g.F.Facts.tells c.args.facts.now) (λ world. IsAskedSome world c.args.old.now.rows c.args.roots.now c.args.changed.now (g.F.Facts.asked c.args.facts.now) (g.F.Facts.asked c.args.facts.now))
    (λ world. none_asked world c.args.old.now.rows c.args.roots.now c.args.changed.now (g.F.Facts.asked c.args.facts.now)))

pub returns-in_err-told-clause-refused : goal.returns-in_err-told-clause-refused
returns-in_err-told-clause-refused g c = on_err_all c.from_residual-in_err-told.result
    (each_touched (g.F.Facts.tells c.walk.new.facts) c.args.old.now.rows c.in_ok-touched.touched c.args.roots.now c.args.changed.now (g.F.Facts.asked c.args.facts.now) (g.F.Facts.asked c.walk.new.facts)
    c.in_ok-touched.ensures.sound c.in_err-told.ensures.refused)

pub returns-in_err-named-clause-refused : goal.returns-in_err-named-clause-refused
returns-in_err-named-clause-refused g c = on_err_all c.from_residual-in_err-named.result
    (each_told (g.F.Facts.tells c.walk.new.facts) c.args.old.now.rows c.in_ok-touched.touched c.args.roots.now c.args.turned.now c.args.changed.now (g.F.Facts.asked c.args.facts.now) (g.F.Facts.asked c.walk.new.facts)
    c.in_ok-told.told.items c.in_ok-touched.ensures.sound c.in_ok-told.ensures.walked c.in_ok-told.ensures.asked)

pub returns-in_err-gone-clause-refused : goal.returns-in_err-gone-clause-refused
returns-in_err-gone-clause-refused g c = on_err_all c.from_residual-in_err-gone.result
    (each_told (g.F.Facts.tells c.walk.new.facts) c.args.old.now.rows c.in_ok-touched.touched c.args.roots.now c.args.turned.now c.args.changed.now (g.F.Facts.asked c.args.facts.now) (g.F.Facts.asked c.walk.new.facts)
    c.in_ok-told.told.items c.in_ok-touched.ensures.sound c.in_ok-told.ensures.walked c.in_ok-told.ensures.asked)

pub returns-in_err-add_all-clause-refused : goal.returns-in_err-add_all-clause-refused
returns-in_err-add_all-clause-refused g c = on_err_all c.from_residual-in_err-add_all.result
    (each_told (g.F.Facts.tells c.walk.new.facts) c.args.old.now.rows c.in_ok-touched.touched c.args.roots.now c.args.turned.now c.args.changed.now (g.F.Facts.asked c.args.facts.now) (g.F.Facts.asked c.walk.new.facts)
    c.in_ok-told.told.items c.in_ok-touched.ensures.sound c.in_ok-told.ensures.walked c.in_ok-told.ensures.asked)

pub returns-in_err-touched-clause-later : goal.returns-in_err-touched-clause-later
returns-in_err-touched-clause-later g c = g.met.F.Facts.stays c.args.facts.now
