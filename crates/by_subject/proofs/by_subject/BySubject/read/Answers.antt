use Rattle.std.proofs.Common.{◌≡◌, subst}
use Rattle.std.specs.Prelude.{◌↔◌, true, Contains, IfSome}
use Rattle.names.specs.declared.node.Node.{Node}
use Rattle.meaning.specs.TupleSet as set
use Rattle.by_subject.specs.Turned.{turned}
use Rattle.by_subject.specs.inside.Standing.{tuple_with}
use Rattle.std.proofs.lemmas.List.Filters.{dedup_is}
use Rattle.by_subject.proofs.Pages.{page_by_subject, tuples_tie}
use Rattle.by_subject.proofs.by_subject.BySubject.read.Goals as goal

pub returns : goal.returns
returns c =
    let nodes = subst (λ some. IfSome some (λ v. (n : Node) → Contains v.items n ↔ (set.contains c.args.self.now (turned (tuple_with c.args.subject.now n)) ≡ true))) c.in-Some.is c.in_ok-nodes.ensures in
    page_by_subject c.args.asked.now c.args.subject.now c.requires.subject c.args.self.now c.args.view.now.tuples c.requires.covers
    c.in-Some.nodes.items nodes _ tuples_tie
    c.in_ok-page.page.items c.sort_unstable.new.self.items c.dedup.new.self.items c.truncate.new.self.items
    c.in_ok-page.ensures c.sort_unstable.ensures.permutation c.sort_unstable.ensures.sorted (dedup_is _ _ _ c.dedup.ensures.filtered) c.truncate.ensures.items
