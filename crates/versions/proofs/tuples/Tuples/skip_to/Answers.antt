use Rattle.std.proofs.Common.{ap, ap₂, sym, ◌∙◌, subst}
use Rattle.std.specs.Prelude.{filter}
use Rattle.versions.specs.Ranges.{is_from, standing_in, IsRange}
use Rattle.versions.proofs.Ranging.{range_from, standing_from}
use Rattle.versions.proofs.tuples.Tuples.skip_to.Goals as goal

pub invariant_of-self : goal.invariant_of-self
invariant_of-self c =
    subst (IsRange c.self.inside.start) (sym c.skip_to.ensures) (range_from c.self.inside.start c.as_str.result.now c.self.inside.walk c.self.invariant)

pub returns : goal.returns
returns c =
    let s = c.self.inside in
    ap (standing_in s.start s.rev) c.skip_to.ensures
    ∙ standing_from s.start c.as_str.result.now c.as_str.ensures.spelling s.rev s.walk c.self.invariant.spelled
    ∙ ap₂ (λ t ts. filter (is_from t) ts) c.as_str.ensures.read c.self.view_is
