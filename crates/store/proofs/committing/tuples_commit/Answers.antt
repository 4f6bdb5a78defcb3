use Rattle.std.proofs.Common.{◌<◌, List, length, ap, sym, subst, ◌∙◌, arith}
use Rattle.std.specs.Prelude.{None}
use Rattle.names.specs.declared.commit.Commit.{Commit}
use Rattle.names.specs.declared.commit.Commit.TheVariants as kinds
use Rattle.names.specs.declared.commit.Event.{Event}
use Rattle.meaning.specs.Config.{Configured}
use Rattle.store.specs.inside.Moves.{IsCommit}
use Rattle.store.proofs.Moving.{tuples_are}
use Rattle.store.proofs.committing.tuples_commit.Goals as goal

pub returns-clause-is : goal.returns-clause-is
returns-clause-is c = λ rev spans e.
    let some : 0 < length c.args.events.now = omega (arith, c.if-events-eq0.false) in
    subst (λ (x : Commit Configured). IsCommit rev spans None x) (sym (c.in_ok-of_events.ensures ∙ ap (λ (es : List Event). kinds.Tuples es) (c.deref.ensures.value ∙ c.in_ok-events.ensures))) (tuples_are c.args.events.now some c.requires rev spans e)
