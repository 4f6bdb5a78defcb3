use Rattle.std.proofs.Common.{◌≡◌, ap, sym, subst, ◌∙◌, arith, Some}
use Rattle.meaning.specs.Config.{Configured, Has, rel_of}
use Rattle.config_text.specs.declared.relation.Relation.{Relation}
use Rattle.config_text.specs.Forms.{defined_of}
use Rattle.config.proofs.Searching.{read_there}
use Rattle.expand.specs.Tree.{definition_of}
use Rattle.expand.proofs.Relations.{stands_defined, lacks_definition, closed_unknown, opened_known, stands_small}
use Rattle.expand.proofs.expanding.to_open.Goals as goal

pub returns-in-None-clause-closed : goal.returns-in-None-clause-closed
returns-in-None-clause-closed c =
    closed_unknown c.args.source.now.view.now c.args.walk.now.path.items c.args.node.now c.args.left
    (lacks_definition c.args.source.now.view.now.config c.args.node.now (λ has. c.in-None.ensures.none (subst (λ (k : Configured). Has k (rel_of c.args.node.now)) (sym c.requires) has)))

pub returns-in-Some-clause-opened : goal.returns-in-Some-clause-opened
returns-in-Some-clause-opened c =
    let n = c.args.node.now in
    let config = c.args.source.now.config.now in
    let d : Relation = c.index-relations-place.result in
    let stands = c.in-Some.ensures.found in
    let is = read_there config c.relations.result.now (rel_of n) c.in-Some.place d c.relations.ensures.relations stands c.index-relations-place.is in
    let found = subst (λ (k : Configured). definition_of k n ≡ Some (defined_of d)) c.requires (stands_defined config n c.in-Some.place stands ∙ ap Some is) in
    opened_known c.args.source.now.view.now c.args.walk.now.path.items n c.args.left (defined_of d) (omega (arith, c.if-left-eq0.false)) (sym c.is_open.ensures ∙ c.if-is_open.false) found

pub returns-in-Some-clause-small : goal.returns-in-Some-clause-small
returns-in-Some-clause-small c =
    let n = c.args.node.now in
    let config = c.args.source.now.config.now in
    let d : Relation = c.index-relations-place.result in
    let stands = c.in-Some.ensures.found in
    stands_small config n c.in-Some.place d stands (read_there config c.relations.result.now (rel_of n) c.in-Some.place d c.relations.ensures.relations stands c.index-relations-place.is)
