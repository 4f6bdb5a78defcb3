use Rattle.std.proofs.Common.{ap, inl, inr, subst, sym}
use Rattle.names.specs.Calls.{told}
use Rattle.shown.specs.Standing.{standing}
use Rattle.keeper.specs.Kept.{KnowsMore}
use Rattle.keeper.specs.Questions.{AgainTold}
use Rattle.keeper.specs.Fronts.{FrontState, QuestionFrom, Sought}
use Rattle.keeper.proofs.Ahead.{sought}
use Rattle.keeper.proofs.Changed.{sought_on}
use Rattle.keeper.proofs.Told.{alone, asked_again}
use Rattle.keeper.proofs.front.Front.answer_question.Goals as goal
use Rattle.keeper.proofs.front.Front.answer_question.Goals.{in-Groups+in-Union-1, in-Groups+in-Intersection-1, in-Groups+in-Exclusion-1, in-Groups+in-Member2Group-1, in-Watch+in-These-1, in-Watch+in-All-1, in-Check-1}

pub returns-in-Told : goal.returns-in-Told
returns-in-Told g c =
    record { asked = alone c.args.self.now.known c.args.call c.args.body.now _ c.ask.new.self.known c.in-Told.ensures.told; deeds = inl c.ask.ensures.deeds }

pub returns-in-NotYet : goal.returns-in-NotYet
returns-in-NotYet g c =
    let q = c.in-NotYet.question in
    let is = c.in-NotYet.ensures.told in
    let old = c.args.self.now in
    let mid = c.refresh.new.self in
    let new : FrontState = record { known = c.ask_again.new.session; hand = c.self.inside.place } in
    let From = λ (s : FrontState). QuestionFrom g.T.Tables g.J.Naming.book g.J.KeeperName.starts old c.args.call c.args.body.now (told c.ask_again.result) s in
    let later = subst (λ (s : FrontState). KnowsMore s.known new.known) c.self.view_is c.ask_again.ensures.later in
    let again = subst (λ (s : FrontState). AgainTold s.known new.known q (told c.ask_again.result)) c.self.view_is c.ask_again.ensures.told in
    let seeks : Sought g.T.Tables g.J.Naming.book g.J.KeeperName.starts old new =
    sought_on g.T.Tables g.J.Naming.book g.J.KeeperName.starts old c.ask.new.self mid new c.ask.ensures.deeds (ap (λ (s : FrontState). s.hand) c.self.view_is) later c.refresh.ensures.tells.sought in
    let asked : From new = record {
      asked = asked_again old.known c.ask.new.self.known mid.known c.args.call c.args.body.now _ new.known q is.0 is.1 c.refresh.ensures.kept later again
          (sought (standing c.ask.new.self.known.steps) c.args.call c.args.body.now q is.0 is.2 seeks);
      deeds = inr seeks;
    } in
    elim c.match-question.branch [
      | in-Groups+in-Union-1 w ↦ subst From (sym w.self-is) asked
      | in-Groups+in-Intersection-1 w ↦ subst From (sym w.self-is) asked
      | in-Groups+in-Exclusion-1 w ↦ subst From (sym w.self-is) asked
      | in-Groups+in-Member2Group-1 w ↦ subst From (sym w.self-is) asked
      | in-Watch+in-These-1 w ↦ subst From (sym w.self-is) asked
      | in-Watch+in-All-1 w ↦ subst From (sym w.self-is) asked
      | in-Check-1 w ↦ subst From (sym w.self-is) asked
    ]
