use Rattle.std.proofs.Common.{refl, ◌∙◌}
use Rattle.direct.proofs.Revised.{direct_begins}
use Rattle.direct.proofs.direct.Direct.begun.Goals as goal

pub returns-clause-direct : goal.returns-clause-direct
returns-clause-direct c = λ snaps config tuples. direct_begins _ (snaps c.args.rev) c.args.rev (c.in_ok-config.ensures ∙ config) refl refl c.new.ensures.items
    c.args.tuples.now tuples c.in_ok-kept.ensures snaps refl
