use Rattle.std.proofs.Common.{sym, ap, ◌∙◌}
use Rattle.meaning.specs.Config.{Configured, rel_of}
use Rattle.meaning.proofs.KnownRelations.{has_known, not_known}
use Rattle.config.proofs.Searching.{declared_read}
use Rattle.config.proofs.config.Config.admits.Goals as goal

pub returns-in_default-clause-err : goal.returns-in_default-clause-err
returns-in_default-clause-err c = not_known c.args.self.now (rel_of c.args.tuple.now.node) c.in_default.ensures.none

pub returns-then-declares-clause-ok : goal.returns-then-declares-clause-ok
returns-then-declares-clause-ok c =
    declared_read c.args.self.now c.self.inside.relations.items c.args.tuple.now c.in-Some.place c.index.result.now (ap (λ (x : Configured). x.relations) c.self.view_is) c.in-Some.ensures.found c.index.ensures
    ∙ sym c.declares.ensures
    ∙ c.if-declares.true

pub returns-clause-err : goal.returns-clause-err
returns-clause-err c = (
  has_known c.args.self.now (rel_of c.args.tuple.now.node) (c.in-Some.ensures.found.defined, ((c.in-Some.place, c.in-Some.ensures.found.within, c.in-Some.ensures.found.there), c.in-Some.ensures.found.rel)),
  declared_read c.args.self.now c.self.inside.relations.items c.args.tuple.now c.in-Some.place c.index.result.now (ap (λ (x : Configured). x.relations) c.self.view_is) c.in-Some.ensures.found c.index.ensures
      ∙ sym c.declares.ensures
      ∙ c.if-declares.false,
)
