use Rattle.std.proofs.Common.{◌≡◌, length, map, arith, get_or, subst, sym, ap, ◌∙◌}
use Rattle.std.specs.Prelude.{Contains}
use Rattle.std.proofs.lemmas.List.{length-map}
use Rattle.std.proofs.lemmas.List.Elements.{Contains-get_or}
use Rattle.strata.specs.Graph.{IsAnswer, AreLevels, IsCertificate}
use Rattle.config_text.specs.Forms.{defined_of}
use Rattle.config_text.specs.Parts.{parts_of}
use Rattle.config.specs.Cycles as named
use Rattle.config.specs.inside.Graph.{step_by_name}
use Rattle.config.proofs.ByName.{levels_by_name, cycle_by_name, levels_small, certificate_within}
use Rattle.config.proofs.Tested.{passed, ends_there}
use Rattle.config.proofs.levels.levels_of.Goals as goal

pub levels-requires : goal.levels-requires
levels-requires c = record {
  in_range = λ k d lt.
      let i = c.in_ok-graph.ensures.graph.sound (get_or c.in_ok-graph.graph.steps.items k d) (Contains-get_or c.in_ok-graph.graph.steps.items k d lt) in
      (omega (arith, i.from, c.in_ok-graph.ensures.count), omega (arith, i.to, c.in_ok-graph.ensures.count));
}

pub returns-in-Levels-clause-levels : goal.returns-in-Levels-clause-levels
returns-in-Levels-clause-levels c =
    let config = parts_of c.args.parts.now in
    let steps = c.in_ok-graph.graph.steps.items in
    let answer : IsAnswer steps c.in_ok-graph.graph.count c.in_ok-levels.field-0 = c.in_ok-levels.ensures in
    let are : AreLevels steps c.in_ok-graph.graph.count c.in-Levels.levels.items = subst (IsAnswer steps c.in_ok-graph.graph.count) c.in-Levels.is answer in
    levels_by_name config c.requires.named c.requires.ordered (ends_there config (passed config c.requires.causes)) steps c.in_ok-graph.ensures.graph c.in-Levels.levels.items (subst (λ n. AreLevels steps n c.in-Levels.levels.items) c.in_ok-graph.ensures.count are)

pub returns-in-Levels-clause-small : goal.returns-in-Levels-clause-small
returns-in-Levels-clause-small c =
    let steps = c.in_ok-graph.graph.steps.items in
    let answer : IsAnswer steps c.in_ok-graph.graph.count c.in_ok-levels.field-0 = c.in_ok-levels.ensures in
    let are : AreLevels steps c.in_ok-graph.graph.count c.in-Levels.levels.items = subst (IsAnswer steps c.in_ok-graph.graph.count) c.in-Levels.is answer in
    levels_small steps c.in_ok-graph.graph.count 4294967296 c.in-Levels.levels.items (λ s h. let i = c.in_ok-graph.ensures.graph.sound s h in omega (arith, i.from, c.in_ok-graph.ensures.count)) are (omega (arith, c.in_ok-graph.ensures.few))

pub all_by_name-requires : goal.all_by_name-requires
all_by_name-requires c =
    let config = parts_of c.args.parts.now in
    let steps = c.in_ok-graph.graph.steps.items in
    let cycle = c.in-Cycle.steps.items in
    let answer : IsAnswer steps c.in_ok-graph.graph.count c.in_ok-levels.field-0 = c.in_ok-levels.ensures in
    let is : IsCertificate steps cycle = subst (IsAnswer steps c.in_ok-graph.graph.count) c.in-Cycle.is answer in
    let long : length (map defined_of c.args.parts.now.relations.items) ≡ length c.args.parts.now.relations.items = length-map c.args.parts.now.relations.items defined_of in
    let same : c.deref.result.now ≡ cycle = c.deref.ensures.value in
    λ k d lt.
    let i = c.in_ok-graph.ensures.graph.sound (get_or c.deref.result.now k d) (certificate_within steps cycle is (get_or c.deref.result.now k d) (subst (λ xs. Contains xs (get_or c.deref.result.now k d)) same (Contains-get_or c.deref.result.now k d lt))) in
    omega (arith, i.to, long)

pub returns-clause-err : goal.returns-clause-err
returns-clause-err c =
    let config = parts_of c.args.parts.now in
    let steps = c.in_ok-graph.graph.steps.items in
    let cycle = c.in-Cycle.steps.items in
    let answer : IsAnswer steps c.in_ok-graph.graph.count c.in_ok-levels.field-0 = c.in_ok-levels.ensures in
    let is : IsCertificate steps cycle = subst (IsAnswer steps c.in_ok-graph.graph.count) c.in-Cycle.is answer in
    let by_name : named.IsCertificate config (map (step_by_name config) cycle) = cycle_by_name config c.requires.named c.requires.ordered (ends_there config (passed config c.requires.causes)) steps c.in_ok-graph.ensures.graph cycle is in
    let same : c.in_ok-cycle-in-Cycle.cycle ≡ map (step_by_name config) cycle = c.in_ok-cycle-in-Cycle.ensures ∙ ap (map (step_by_name config)) c.deref.ensures.value in
    subst (named.IsCertificate config) (sym same) by_name
