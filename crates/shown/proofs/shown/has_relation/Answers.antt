use Rattle.std.proofs.Common.{sym}
use Rattle.meaning.specs.Config.{rel_of}
use Rattle.meaning.proofs.KnownRelations.{has_known, not_known}
use Rattle.shown.proofs.shown.has_relation.Goals as goal

pub returns-in-Some : goal.returns-in-Some
returns-in-Some c = sym (has_known c.args.config.now (rel_of c.args.node.now) (c.in-Some.ensures.found.defined, ((c.in-Some._place, c.in-Some.ensures.found.within, c.in-Some.ensures.found.there), c.in-Some.ensures.found.rel)))

pub returns-in-None : goal.returns-in-None
returns-in-None c = sym (not_known c.args.config.now (rel_of c.args.node.now) c.in-None.ensures.none)
