use Rattle.std.proofs.Common.{◌≡◌, get_or, ap, ◌∙◌}
use Rattle.config.proofs.Places.{has_place, step_is}
use Rattle.config.proofs.graph.is_step.Goals as goal

pub steps_to-requires : goal.steps_to-requires
steps_to-requires c =
    let items = c.args.parts.now.relations.items in
    let to : c.index-relations-step-2.result ≡ get_or items c.args.step.to c.index-relations-step-2.result = c.index-relations-step-2.is ∙ ap (λ rs. get_or rs c.args.step.to c.index-relations-step-2.result) c.as_slice-relations.ensures.value in
    record { there = has_place c.args.parts.now.namespaces.items items c.args.step.to c.index-relations-step-2.result c.requires.to to }

pub returns : goal.returns
returns c =
    let items = c.args.parts.now.relations.items in
    let from : c.index-relations-step.result ≡ get_or items c.args.step.from c.index-relations-step.result = c.index-relations-step.is ∙ ap (λ rs. get_or rs c.args.step.from c.index-relations-step.result) c.as_slice-relations.ensures.value in
    let to : c.index-relations-step-2.result ≡ get_or items c.args.step.to c.index-relations-step-2.result = c.index-relations-step-2.is ∙ ap (λ rs. get_or rs c.args.step.to c.index-relations-step-2.result) c.as_slice-relations.ensures.value in
    let is = step_is c.args.parts.now.namespaces.items items c.args.step c.index-relations-step.result c.index-relations-step-2.result c.requires.from c.requires.to from to in
    (λ t. is.0 (c.steps_to.ensures.0 t), λ i. c.steps_to.ensures.1 (is.1 i))
