use Rattle.published.proofs.Judging.{judged_post}
use Rattle.published.proofs.publication.Publication.post.Goals as goal

pub invariant_of-self : goal.invariant_of-self
invariant_of-self g c =
    let i = c.self.inside in
    let follows = rw (← c.self.view_is) at c.requires.follows in
    record {
      of_name = c.self.invariant.of_name;
      leads = c.self.invariant.leads;
      judged = judged_post i.entered.steps i.backlog.items _ c.args.step c.self.invariant.judged follows c.requires.later c.push_back_reserved.ensures.items;
      seated = c.self.invariant.seated;
    }

pub returns-clause-judged : goal.returns-clause-judged
returns-clause-judged g c =
    let i = c.self.inside in
    let follows = rw (← c.self.view_is) at c.requires.follows in
    record {
      posted_were = judged_post i.entered.steps i.backlog.items _ c.args.step c.self.invariant.judged follows c.requires.later c.push_back_reserved.ensures.items;
      shown_were = c.self.invariant.leads.stands.1;
    }
