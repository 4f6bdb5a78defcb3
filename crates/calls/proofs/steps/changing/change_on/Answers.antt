use Rattle.std.proofs.Common.{ap, sym, ◌∙◌, subst}
use Rattle.published.specs.Known.{Known, Begins}
use Rattle.published.proofs.Prefixes.{prefix_trans}
use Rattle.calls.specs.steps.Change.{is_made, is_not_made}
use Rattle.calls.proofs.Refreshing.{still_refused}
use Rattle.calls.proofs.steps.changing.change_on.Goals as goal

pub learn-requires : goal.learn-requires
learn-requires g c = ap (λ (k : Known). k.book) c.in-Ok.ensures.told ∙ (c.change.ensures.book ∙ sym c.requires)

pub returns-in-Ok-clause-step : goal.returns-in-Ok-clause-step
returns-in-Ok-clause-step g c call body asks =
    is_made c.args.change c.in-Ok.done.made c.in-Ok.done.receipt asks c.in-Ok.ensures.ok c.made_reply.ensures c.change.ensures.seats

pub returns-in-Ok-clause-known : goal.returns-in-Ok-clause-known
returns-in-Ok-clause-known g c = subst (λ (k : Known). Begins k c.learn.new.self) c.in-Ok.ensures.told c.learn.ensures.told

pub refuse-requires : goal.refuse-requires
refuse-requires g c = c.requires ∙ sym c.change.ensures.book

pub returns-in-Err-clause-step : goal.returns-in-Err-clause-step
returns-in-Err-clause-step g c call body asks =
    is_not_made c.args.change c.in-Err.why asks (still_refused g.T.Tables c.args.desk.now c.change.new.self c.refuse.new.desk _ _ c.in-Err.why c.in-Err.ensures.err c.refuse.ensures.more c.refuse.ensures.same) c.refuse.ensures.says (c.refuse.ensures.seats ∙ c.change.ensures.seats)

pub returns-in-Err-clause-later : goal.returns-in-Err-clause-later
returns-in-Err-clause-later g c = prefix_trans c.args.desk.now.shown c.change.new.self.shown c.refuse.new.desk.shown c.change.ensures.later c.refuse.ensures.more.later
