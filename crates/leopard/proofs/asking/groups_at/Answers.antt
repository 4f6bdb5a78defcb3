use Rattle.std.proofs.Common.{◌≡◌, refl, false, subst, ap, ◌∙◌}
use Rattle.meaning.specs.Config.{Configured}
use Rattle.meaning.specs.Snap.{Snap}
use Rattle.leopard.specs.Causes.{names_unindexed}
use Rattle.leopard.specs.Exprs.{query_of}
use Rattle.leopard.specs.Groups.{Means}
use Rattle.leopard.proofs.Finding.{unnamed_all}
use Rattle.leopard.proofs.First.{are_first}
use Rattle.leopard.proofs.asking.groups_at.Goals as goal

pub returns-clause-groups : goal.returns-clause-groups
returns-clause-groups c =
    let S = c.args.view.now in
    let q = query_of c.args.expr.now in
    let found = c.in_ok-found.found in
    let are = c.in_ok-found.ensures S refl (subst (λ (k : Configured). names_unindexed k q ≡ false) (c.config.ensures.config ∙ ap (λ (T : Snap). T.config) c.view.ensures) c.in_default.ensures.none.indexed) in
    are_first c.args.limit (Means S q) found.others.keys c.in_ok-first_of.field-0.items
    c.in_ok-first_of.ensures.sorted (unnamed_all (Means S q) found.ids found.others.keys are) c.in_ok-first_of.ensures.first
