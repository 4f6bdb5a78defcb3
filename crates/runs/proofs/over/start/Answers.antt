use Rattle.std.proofs.Common.{◌≤◌, ◌<◌, ◌^◌, subst}
use Rattle.runs.specs.Over.{CannotBegin}
use Rattle.runs.proofs.Starting.{made_ok, made_err, opened_ok, opened_err, opened_taken, at_some}
use Rattle.runs.proofs.over.start.Goals as goal

pub create-requires-clause-some : goal.create-requires-clause-some
create-requires-clause-some g c = (at_some (λ number. (1 ≤ number) × (number < 2 ^ 63)) c.args.store c.in-Some.number c.in-Some.is c.requires.number).0

pub create-requires-clause-small : goal.create-requires-clause-small
create-requires-clause-small g c = (at_some (λ number. (1 ≤ number) × (number < 2 ^ 63)) c.args.store c.in-Some.number c.in-Some.is c.requires.number).1

pub returns-in-Some-clause-ok : goal.returns-in-Some-clause-ok
returns-in-Some-clause-ok g c = made_ok g.S.Store c.args.conn c.args.store c.in-Some.number c.in-Some.is c.create.result c.create.ensures.held c.create.ensures.«open» c.create.ensures.made

pub returns-in-Some-clause-err : goal.returns-in-Some-clause-err
returns-in-Some-clause-err g c = made_err g.S.Store c.args.conn c.args.store c.in-Some.number c.in-Some.is c.create.result c.create.ensures.crash c.create.ensures.caused

pub returns-in-Some-clause-taken : goal.returns-in-Some-clause-taken
returns-in-Some-clause-taken g c = λ cannot. c.create.ensures.taken (subst (λ o. CannotBegin g.S.Store c.args.conn o) c.in-Some.is cannot)

pub returns-in-None-clause-ok : goal.returns-in-None-clause-ok
returns-in-None-clause-ok g c = opened_ok g.S.Store c.args.conn c.args.store c.in-None.is c.«open».result c.«open».ensures.same

pub returns-in-None-clause-err : goal.returns-in-None-clause-err
returns-in-None-clause-err g c = opened_err g.S.Store c.args.conn c.args.store c.in-None.is c.«open».result c.«open».ensures.refused

pub returns-in-None-clause-taken : goal.returns-in-None-clause-taken
returns-in-None-clause-taken g c = opened_taken g.S.Store c.args.conn c.args.store c.in-None.is c.«open».result c.«open».ensures.format c.«open».ensures.refused
