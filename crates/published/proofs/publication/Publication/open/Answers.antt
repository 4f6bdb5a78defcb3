use Rattle.std.proofs.Common.{◌∙◌}
use Rattle.published.proofs.Opening.{first_alone, first_book, first_judged}
use Rattle.published.proofs.publication.Publication.open.Goals as goal

pub two_copies-requires-clause-book : goal.two_copies-requires-clause-book
two_copies-requires-clause-book g c = first_book c.args.opened.book c.args.opened.prefix c.in-Some.entered c.args.first c.args.opened.empty c.in-Some.ensures ∙ c.requires.named

pub two_copies-requires-clause-one : goal.two_copies-requires-clause-one
two_copies-requires-clause-one g c = first_alone c.args.opened.book c.args.opened.prefix c.in-Some.entered c.args.first c.args.opened.empty c.in-Some.ensures

pub begin-requires-clause-judged : goal.begin-requires-clause-judged
begin-requires-clause-judged g c =
    first_judged c.args.opened.book c.args.opened.prefix c.in-Some.entered c.args.first c.args.opened.empty c.in-Some.ensures c.requires.room
