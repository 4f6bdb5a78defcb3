use Rattle.std.proofs.Common.{ap, ◌∙◌}
use Rattle.meaning.specs.Config.{Configured, rel_of}
use Rattle.config.specs.Places.{StandsAt}
use Rattle.config.proofs.Searching.{read_there}
use Rattle.decide.proofs.Few.{some_mapped}
use Rattle.decide.proofs.Found.{asker_place, relation_gave}
use Rattle.decide.proofs.Relations.{within_relations}
use Rattle.decide.proofs.rewrites.relation_gives.Goals as goal

pub bounds-relations-place : goal.bounds-relations-place
bounds-relations-place c =
    let S = c.args.facts.now in
    let a = c.args.asking.now in
    let place = c.place_of-place.result in
    let stands = asker_place S a c.args.search.now place c.requires.asking c.place_of-place.ensures in
    within_relations c.config.result.now S.config c.relations.result.now a.node.now place c.relations.ensures.relations c.config.ensures stands

pub at-requires : goal.at-requires
at-requires c = some_mapped c.in_ok-at.at _ _ (λ i is. is.0) c.in_ok-at.ensures.at

pub gives-requires : goal.gives-requires
gives-requires c = record {
  asking = record {
    running = c.requires.asking.running;
    number = c.requires.asking.number;
    read = c.at.ensures c.args.facts.now c.args.asking.now.node.now.object c.in_ok-at.ensures.read c.in_ok-at.ensures.at;
  };
}

pub returns-clause-goes_on : goal.returns-clause-goes_on
returns-clause-goes_on c =
    let went = c.in_ok-found.ensures.goes_on in
    record {
      asking = record { running = went.asking.running; number = went.asking.number; read = c.requires.asking.read };
      grew = went.grew;
    }

pub returns-clause-found : goal.returns-clause-found
returns-clause-found c =
    let S = c.args.facts.now in
    let a = c.args.asking.now in
    let place = c.place_of-place.result in
    let stands : StandsAt S.config (rel_of a.node.now) place = asker_place S a c.args.search.now place c.requires.asking c.place_of-place.ensures in
    let d = c.index-relations-place.result in
    let relations = c.relations.ensures.relations ∙ ap (λ (x : Configured). x.relations) c.config.ensures in
    let is = read_there S.config c.relations.result.now (rel_of a.node.now) place d relations stands c.index-relations-place.is in
    relation_gave S a c.gives.new.search c.in_ok-found.found place stands d is c.in_ok-found.ensures.found
