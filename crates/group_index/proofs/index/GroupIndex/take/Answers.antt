use Rattle.std.proofs.Common.{sym, ◌∙◌, subst}
use Rattle.direct.specs.Revisions as revisions
use Rattle.group_index.proofs.index.GroupIndex.take.Goals as goal

pub returns-clause-index : goal.returns-clause-index
returns-clause-index g c = λ snaps is next. record {
  closures = c.in_ok-take.ensures.layer snaps is.closures next;
  direct = c.in_ok-take-2.ensures.direct snaps is.direct (subst (λ r. revisions.IsNext snaps r c.args.events.now) (sym c.args.self.one_cursor) (next.now ∙ next.after));
}

pub returns-clause-asked : goal.returns-clause-asked
returns-clause-asked g c = λ snaps is next. c.in_ok-take.ensures.asked snaps is.closures next
