use Rattle.std.proofs.Common.{◌-◌, ◌≤◌, take, drop, length, ap, sym, subst, ◌∙◌}
use Rattle.rows.specs.Retained.{Retained, newest}
use Rattle.tables.proofs.Storing.{trimmed_listed}
use Rattle.tables.proofs.listed.Listed.raise.Goals as goal

pub invariant_of-self-2 : goal.invariant_of-self-2
invariant_of-self-2 c =
    let s = c.self.inside in
    let mid = c.absorb_up_to.new.rows in
    let low = subst (λ (r : Retained). r.floor ≤ c.args.floor) (sym c.self.view_is) c.requires.above in
    trimmed_listed s.number s.base mid c.trim.new.self s.commits.items c.drop_first.new.commits.items c.args.floor c.self.invariant c.absorb_up_to.ensures.same
    (c.absorb_up_to.ensures.first ∙ ap (take (length mid.commits)) c.deref.ensures.value) low (subst (λ (r : Retained). c.args.floor ≤ newest r) (sym c.self.view_is) c.requires.there)
    c.in-Ok.ensures.up (c.trim.ensures.raised (subst (λ (r : Retained). r.floor ≤ c.args.floor) (sym c.absorb_up_to.ensures.same) low))
    (c.drop_first.ensures ∙ ap (λ f. drop (c.args.floor - f) s.commits.items) c.floor.ensures)
