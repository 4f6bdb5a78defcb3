use Rattle.std.proofs.Common.{ℕ, List, ap, sym, subst, ◌∙◌}
use Rattle.versions.specs.Ranges.{standing_in, IsRange}
use Rattle.versions.proofs.Decoding.{sorted_view}
use Rattle.versions.proofs.Ranging.{all_standing, range_first}
use Rattle.versions.proofs.Together.{from}
use Rattle.versions.proofs.version_map.VersionMap.range.Goals as goal

pub invariant_of-result : goal.invariant_of-result
invariant_of-result c =
    let es = c.texts-texts.result.now in
    let here = sym (c.range-walk.ensures.between ∙ ap (λ (l : List ℕ). from l es) c.as_str.ensures) in
    subst (IsRange c.args.start) here
    (range_first c.args.start es c.texts-texts.ensures.spelled c.range-walk.ensures.ordered c.args.self.now c.texts-texts.ensures.entries c.requires)

pub returns : goal.returns
returns c =
    let es = c.texts-texts.result.now in
    let ordered = sorted_view es c.args.self.now c.texts-texts.ensures.entries c.texts-texts.ensures.spelled c.range-walk.ensures.ordered in
    record {
      all = λ test begin.
          ap (standing_in c.args.start c.args.rev) (c.range-walk.ensures.between ∙ ap (λ (l : List ℕ). from l es) c.as_str.ensures)
          ∙ all_standing c.args.start test begin c.args.rev es c.texts-texts.ensures.spelled c.args.self.now c.texts-texts.ensures.entries ordered;
      ordered = ordered;
    }
