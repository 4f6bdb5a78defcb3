use Rattle.keeper.proofs.Shown.{shown_not_ahead, told_not_ahead}
use Rattle.keeper.proofs.law.what_was_shown_is_not_of_the_future.Goals as goal

pub returns-clause-shown : goal.returns-clause-shown
returns-clause-shown g c = λ book desk receipt known question kept learnt judged asks tells shown.
    shown_not_ahead g.T.Tables book desk kept receipt known question learnt judged asks tells shown

pub returns-clause-newest : goal.returns-clause-newest
returns-clause-newest g c = λ book desk receipt known question kept learnt judged asks tells.
    told_not_ahead g.T.Tables book desk kept receipt known question learnt judged asks tells
