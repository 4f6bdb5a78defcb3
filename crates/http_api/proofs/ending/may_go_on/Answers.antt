use Rattle.std.proofs.Common.{sym, ◌∙◌, arith, inl}
use Rattle.http_api.proofs.Endings.{goes_on_with_room, goes_on_in_target, can_be_head, hopeless_without_end}
use Rattle.http_api.proofs.ending.may_go_on.Goals as goal

pub returns-then-room-ge15-clause-yes : goal.returns-then-room-ge15-clause-yes
returns-then-room-ge15-clause-yes c = λ is. goes_on_with_room _ (omega arith) c.requires.none c.requires.may

pub returns-then-count-eq1-clause-yes : goal.returns-then-count-eq1-clause-yes
returns-then-count-eq1-clause-yes c = λ is. goes_on_in_target _ (sym c.spaces-count.ensures ∙ c.if-count-eq1.true) c.requires.none c.requires.may

pub returns-clause-yes : goal.returns-clause-yes
returns-clause-yes c = λ is.
    let e = c.can_be_ended.ensures.yes is in
    inl (can_be_head _ e.0 e.2.0 e.2.1 c.requires.none e.2.2 e.1)

pub returns-clause-no : goal.returns-clause-no
returns-clause-no c = λ is. hopeless_without_end _ c.requires.none (λ one. absurd (c.if-count-eq1.false (c.spaces-count.ensures ∙ one))) (c.can_be_ended.ensures.no is)
