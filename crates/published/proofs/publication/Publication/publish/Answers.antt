use Rattle.std.proofs.Common.{sym, subst}
use Rattle.published.specs.Judged.{AreJudged}
use Rattle.published.proofs.Leading.{shows_more, room_left}
use Rattle.published.proofs.publication.Publication.publish.Goals as goal

pub returns-clause-more : goal.returns-clause-more
returns-clause-more g c =
    let h = c.publish_all.ensures in
    let i = c.self.inside in
    rw (← c.self.view_is) (shows_more i.book _ _ _ i.entered c.publish_all.new.entered i.backlog.items c.publish_all.new.backlog.items i.publisher c.publish_all.new.publisher c.publish_all.new.stuck h.leads c.self.invariant.judged h.posted h.later (room_left _ _ _ _ h.capacity h.fewer))

pub invariant_of-self : goal.invariant_of-self
invariant_of-self g c =
    let h = c.publish_all.ensures in
    record {
      of_name = c.self.invariant.of_name;
      leads = h.leads;
      judged = subst AreJudged (sym h.posted) c.self.invariant.judged;
      seated = c.self.invariant.seated;
    }
