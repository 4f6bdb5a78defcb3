use Rattle.std.proofs.Common.{subst}
use Rattle.one_history.specs.History.{Hand}
use Rattle.keeper.specs.declared.deeds.Deed.{Deed}
use Rattle.keeper.specs.Deeds.{IsNoted}
use Rattle.keeper.proofs.Doing.{noted_of}
use Rattle.keeper.proofs.deeds.Place.note.Goals as goal

pub returns : goal.returns
returns g c deed is =
    subst (λ (h : Hand Deed). IsNoted h c.args.log.now deed c.note.new.worker c.note.new.self) c.self.view_is
    (noted_of c.self.inside.worker c.note.new.worker c.args.log.now c.note.new.self g.N.Noted.what deed is
    c.note.ensures.noted c.note.ensures.begins c.note.ensures.by c.note.ensures.seen c.note.ensures.mine c.note.ensures.own)
