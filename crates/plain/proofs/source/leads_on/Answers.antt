use Rattle.std.proofs.Common.{◌≡◌, rules, subst, sym, ◌∙◌}
use Rattle.names.specs.declared.relation.RelationName.{RelationName}
use Rattle.plain.specs.inside.Source.{config_of, LeadsBy}
use Rattle.meaning.proofs.KnownRelations.{known_has, has_known}
use Rattle.plain.proofs.source.leads_on.Goals as goal

pub returns-then-has_relation : goal.returns-then-has_relation
returns-then-has_relation c =
    let parent = c.args.tuple.now.subject.object in
    let by = LeadsBy (config_of c.args.relations.now) c.args.relation.now c.args.held.now parent in
    let named : RelationName = record { namespace = parent.namespace; relation = c.args.relation.now } in
    let node : c.args.tuple.now.node ≡ record { object = c.args.object.now; relation = c.args.tupleset.now } = search rules in (
      λ t. (node, subst by (sym c.in-None.is) (known_has (config_of c.args.relations.now) named (sym c.has_relation.ensures ∙ c.if-has_relation.true), c.holds.ensures.0 t)),
      λ leads. c.holds.ensures.1 (subst by c.in-None.is leads.1).1,
    )

pub returns-else-has_relation : goal.returns-else-has_relation
returns-else-has_relation c =
    let parent = c.args.tuple.now.subject.object in
    let by = LeadsBy (config_of c.args.relations.now) c.args.relation.now c.args.held.now parent in
    let named : RelationName = record { namespace = parent.namespace; relation = c.args.relation.now } in (
      λ t. let e = sym c.if-has_relation.false ∙ t in cc,
      λ leads. c.has_relation.ensures ∙ has_known (config_of c.args.relations.now) named (subst by c.in-None.is leads.1).0,
    )
