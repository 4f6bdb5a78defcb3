use Rattle.std.proofs.Common.{ap, ◌∙◌, sym, subst}
use Rattle.std.specs.Prelude.{Some}
use Rattle.names.specs.declared.commit.Commit.{Commit}
use Rattle.names.specs.declared.commit.Commit.TheVariants as kinds
use Rattle.meaning.specs.Config.{Configured}
use Rattle.store.specs.inside.Moves.{IsCommit}
use Rattle.store.proofs.Moving.{config_is}
use Rattle.store.proofs.committing.config_commit.Goals as goal

pub returns-clause-is : goal.returns-clause-is
returns-clause-is c = λ rev spans e.
    subst (λ (x : Commit Configured). IsCommit rev spans (Some c.args.config.now) x) (sym (c.in_ok-of_config.ensures ∙ ap (λ (g : Configured). kinds.Config g) c.in_ok-again.ensures))
    (config_is c.args.config.now c.args.events.now c.if-events-ne0.false rev spans e)
