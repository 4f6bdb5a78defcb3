use Rattle.std.proofs.Common.{◌∙◌}
use Rattle.store.proofs.Deserving.{err_deserved}
use Rattle.store.proofs.Moving.{config_alone, events_come}
use Rattle.store.proofs.committing.commit_at.Goals as goal

pub returns-in-Some-clause-fault : goal.returns-in-Some-clause-fault
returns-in-Some-clause-fault c = err_deserved c.config_commit.result _ _
    (λ (spans, events, one). config_alone c.args.rev spans c.in-Some.config.now c.deref.result.now (c.deref.ensures.value ∙ events) _ c.in-Some.ensures one)
    c.config_commit.ensures.fault

pub returns-clause-fault : goal.returns-clause-fault
returns-clause-fault c = err_deserved c.tuples_commit.result _ _
    (λ (spans, events, one). events_come c.args.rev spans c.deref-in-None.result.now (c.deref-in-None.ensures.value ∙ events) _ c.in-None.ensures one)
    c.tuples_commit.ensures.fault
