use Rattle.std.proofs.Common.{[], ◌∙◌, ap}
use Rattle.least_sets.specs.World.{has}
use Rattle.region.specs.Tables.{arc_in}
use Rattle.region.proofs.Listing.{on_ok_then}
use Rattle.region.proofs.Walked.{adds_those}
use Rattle.region.proofs.touched.add_namers.Goals as goal

pub returns-in-Some : goal.returns-in-Some
returns-in-Some c = on_ok_then c.add_those.result
    (adds_those c.args.found.now c.add_those.new.found c.as_slice.result.now (λ n. arc_in c.args.old.now.rows n c.args.node)
    (λ u h. ap (λ xs. has xs u) c.as_slice.ensures.ids ∙ c.in-Some.ensures u ∙ c.requires.backed u c.args.node h))
    c.add_those.ensures

pub returns-in-None : goal.returns-in-None
returns-in-None c = on_ok_then c.add_those-in-None.result
    (adds_those c.args.found.now c.add_those-in-None.new.found [] (λ n. arc_in c.args.old.now.rows n c.args.node)
    (λ u h. c.in-None.ensures u ∙ c.requires.backed u c.args.node h))
    c.add_those-in-None.ensures
