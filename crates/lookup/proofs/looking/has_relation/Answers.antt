use Rattle.std.proofs.Common.{sym, subst}
use Rattle.names.specs.declared.node.Node.{Node}
use Rattle.meaning.specs.Config.{Has, rel_of}
use Rattle.meaning.proofs.KnownRelations.{has_known, not_known}
use Rattle.lookup.proofs.looking.has_relation.Goals as goal

pub returns-in-Some : goal.returns-in-Some
returns-in-Some c =
    let at = c.in-Some.ensures.found in
    sym (has_known c.args.config.now c.args.asked.now.relation (subst (λ (n : Node). Has c.args.config.now (rel_of n)) c.in_ok-node.ensures (at.defined, ((c.in-Some._place, at.within, at.there), at.rel))))

pub returns-in-None : goal.returns-in-None
returns-in-None c =
    sym (not_known c.args.config.now c.args.asked.now.relation (subst (λ (n : Node). Has c.args.config.now (rel_of n) → ⊥) c.in_ok-node.ensures c.in-None.ensures.none))
