use Rattle.std.proofs.Common.{◌≤◌, subst, ℕ, ap, sym, ◌∙◌}
use Rattle.std.specs.Prelude.{not, nat_le}
use Rattle.rows.specs.Retained.{Retained, is_touched_after}
use Rattle.rows.specs.Representation.{as_retained}
use Rattle.rows.proofs.Touching.{unchanged_is}
use Rattle.rows.proofs.rows.Rows.is_unchanged.Goals as goal

pub returns : goal.returns
returns c =
    let s = c.self.inside in
    let r = as_retained s.number s.floor s.config s.tuples s.commits.items in
    ap (λ (n : ℕ). nat_le n c.args.rev) c.last_rev.ensures
    ∙ unchanged_is r s.tuples c.args.rev c.args.tuple.now c.self.invariant.versions (subst (λ (x : Retained). x.floor ≤ c.args.rev) (sym c.self.view_is) c.requires)
    ∙ ap (λ (x : Retained). not (is_touched_after x c.args.tuple.now c.args.rev)) c.self.view_is
