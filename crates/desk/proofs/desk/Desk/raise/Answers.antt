use Rattle.std.proofs.Common.{◌≡◌, ap, sym, ◌∙◌, subst}
use Rattle.shown.specs.Standing.{Standing, CanRaise, after_step, standing}
use Rattle.desk.specs.TableChanges.{Raises, CanChange}
use Rattle.desk.specs.inside.Latching.{AgreeWith}
use Rattle.desk.specs.inside.Changing.{plain}
use Rattle.desk.proofs.Sound.{sound_same, sound_next}
use Rattle.desk.proofs.Unposted.{no_room, not_stored}
use Rattle.desk.proofs.desk.Desk.raise.Goals as goal

pub floor_change-trim-requires-clause-can : goal.floor_change-trim-requires-clause-can
floor_change-trim-requires-clause-can g c =
    let stands = c.self.invariant.stands ∙ ap standing (ap (λ d. d.posted) c.self.view_is) in
    subst (λ (s : Standing). CanRaise s c.args.floor) (sym stands) c.requires.can

pub returns-in_err-reserve-clause-err : goal.returns-in_err-reserve-clause-err
returns-in_err-reserve-clause-err g c =
    let inside = c.self.inside in
    let room = c.reserve.ensures.same in
    no_room g.T.Tables c.args.self.now inside.tables inside.own inside.publication c.reserve.new.self c.self.view_is c.requires.open c.self.invariant.stands c.self.invariant.beginning c.self.invariant.judged g.met.T.Tables.settled c.self.invariant.agrees
    room.0 room.1 room.2 c.from_residual.result _ c.from_residual.ensures.1

pub returns-in_err-step-clause-err : goal.returns-in_err-step-clause-err
returns-in_err-step-clause-err g c =
    let inside = c.self.inside in
    let stands : inside.own ≡ standing c.args.self.now.posted = c.self.invariant.stands ∙ ap standing (ap (λ d. d.posted) c.self.view_is) in
    let can : CanRaise inside.own c.args.floor = subst (λ (s : Standing). CanRaise s c.args.floor) (sym stands) c.requires.can in
    let room = c.reserve.ensures.same in
    let trim = c.floor_change-trim in
    not_stored g.T.Tables c.args.self.now inside.tables inside.own inside.publication c.reserve.new.self c.self.view_is c.requires.open c.self.invariant.stands c.self.invariant.beginning c.self.invariant.judged g.met.T.Tables.settled c.self.invariant.agrees
    room.0 room.1 room.2 c.from_residual-in_err-step.result c.in_err-step.field-0.0 c.store.new.tables (Raises c.args.floor) (plain trim.result) c.from_residual-in_err-step.ensures.1
    trim.ensures.plain (subst (CanChange inside.own.kept) (sym trim.ensures.plain) (can.above, can.there)) c.in_err-step.ensures.err c.store.ensures.lasts
    (subst (λ (s : Standing). AgreeWith g.T.Tables c.store.new.tables s.kept) c.in_err-step.ensures.undone c.store.ensures.agrees)

pub invariant_of-self-2 : goal.invariant_of-self-2
invariant_of-self-2 g c =
    let inside = c.self.inside in
    let room = c.reserve.ensures.same in
    let stored = c.in_ok-step.ensures in
    sound_next g.T.Tables inside.tables.failed inside.tables.tables inside.own c.reserve.new.self c.post.new.self
    (sound_same g.T.Tables inside.tables.failed inside.tables.tables inside.own inside.publication c.reserve.new.self c.self.invariant room.1 room.2)
    c.in_ok-step.step c.post.ensures.posted c.post.ensures.same.1 c.post.ensures.judged c.store.new.tables.failed c.store.new.tables.tables c.store.new.own
    (stored.done ∙ ap (after_step inside.own) (sym stored.step)) c.store.ensures.agrees
