use Rattle.std.proofs.Common.{◌≡◌, false, subst}
use Rattle.meaning.specs.Config.{Configured}
use Rattle.idsets.specs.Naming.{AreDistinct}
use Rattle.leopard.specs.Causes.{names_unindexed}
use Rattle.leopard.specs.Exprs.{query_of}
use Rattle.leopard.specs.Finding.{Finds}
use Rattle.leopard.specs.Groups.{Means}
use Rattle.leopard.specs.Index.{Index}
use Rattle.leopard.proofs.First.{first_as}
use Rattle.leopard.proofs.Numbers.{sorted_distinct}
use Rattle.leopard.proofs.built.Built.groups.Goals as goal

pub returns-clause-groups : goal.returns-clause-groups
returns-clause-groups c S is =
    let x = c.args.self.now in
    let q = query_of c.args.expr.now in
    let found = c.in_ok-found.found in
    let distinct : AreDistinct x.groups = subst (λ (y : Index). AreDistinct y.groups) c.self.view_is (sorted_distinct c.self.inside.groups c.self.invariant.groups_ascend) in
    let mine : names_unindexed x.config q ≡ false = subst (λ (k : Configured). names_unindexed k q ≡ false) c.config.ensures c.in_default.ensures.none.indexed in
    let indexed : names_unindexed S.config q ≡ false = subst (λ (k : Configured). names_unindexed k q ≡ false) is.config mine in
    first_as c.args.limit (Finds x.groups found.ids found.others.keys) (Means S q) c.in_ok-answer_of.field-0.items
    (c.in_ok-found.ensures S (is, distinct) indexed).all c.in_ok-answer_of.ensures
