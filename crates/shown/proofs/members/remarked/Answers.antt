use Rattle.std.proofs.Common.{sym, subst}
use Rattle.names.specs.declared.marking.Marking.{Marking}
use Rattle.shown.specs.Marks.{after_marking}
use Rattle.shown.specs.inside.Basing.{AreMarked}
use Rattle.shown.proofs.Following.{done}
use Rattle.shown.proofs.MarkedNodes.{are_with, are_without}
use Rattle.shown.proofs.members.remarked.Goals as goal

pub returns-in_ok-ok-in-Mark-clause-marked : goal.returns-in_ok-ok-in-Mark-clause-marked
returns-in_ok-ok-in-Mark-clause-marked c before once are =
    subst (λ (m : Marking). AreMarked (after_marking before m) c.mark.new.self) (sym c.in-Mark.is)
    (are_with before c.args.hot c.mark.new.self are _ (done c.mark.result c.in_ok-ok-in-Mark.field-0 c.in_ok-ok-in-Mark.ensures.value c.mark.ensures.ok c.requires))

pub returns-in_ok-ok-in-Unmark-clause-marked : goal.returns-in_ok-ok-in-Unmark-clause-marked
returns-in_ok-ok-in-Unmark-clause-marked c before once are =
    subst (λ (m : Marking). AreMarked (after_marking before m) c.unmark.new.self) (sym c.in-Unmark.is)
    (are_without before c.args.hot c.unmark.new.self are _ once (done c.unmark.result c.in_ok-ok-in-Unmark.field-0 c.in_ok-ok-in-Unmark.ensures.value c.unmark.ensures.ok))
