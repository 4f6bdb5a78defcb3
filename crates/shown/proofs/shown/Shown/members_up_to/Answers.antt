use Rattle.std.proofs.Common.{List, sym, subst, ◌∙◌}
use Rattle.std.specs.Prelude.{Option, IfSome}
use Rattle.hot.specs.declared.hot.Hot.{Hot}
use Rattle.names.specs.declared.node.Node.{Node}
use Rattle.shown.specs.inside.Basing.{AreMarked}
use Rattle.shown.specs.Standing.{Standing}
use Rattle.shown.proofs.Taking.{have_marks, still_marked}
use Rattle.shown.proofs.shown.Shown.members_up_to.Goals as goal
use Rattle.shown.proofs.shown.Shown.members_up_to.Goals.{in-Some, in-None}

pub returns-clause-marked : goal.returns-clause-marked
returns-clause-marked c =
    let inside = c.self.inside in
    let stood : Standing = record { kept = inside.rows; base = inside.base; index = inside.index; hot = inside.hot; marks = inside.marks.items } in
    subst (λ (t : Standing). IfSome c.match-kept-2.result (λ hot. AreMarked t.marks hot)) c.self.view_is
    (elim c.match-kept-2.branch [
      | in-Some w ↦ subst (λ (o : Option Hot). IfSome o (λ hot. AreMarked inside.marks.items hot)) (sym w.result-is)
          (still_marked inside.marks.items inside.members w.in-Some.hot w.members_later.result (sym c.take-kept.ensures.value ∙ w.in-Some.is) (have_marks stood inside.members c.self.invariant.0.members_right) w.members_later.ensures.marked)
      | in-None w ↦ subst (λ (o : Option Hot). IfSome o (λ hot. AreMarked inside.marks.items hot)) (sym w.result-is)
          (subst (λ (ns : List Node). IfSome w.members_of.result (λ hot. AreMarked ns hot)) w.deref.ensures.value w.members_of.ensures.marked)
    ])
