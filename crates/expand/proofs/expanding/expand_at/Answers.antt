use Rattle.std.proofs.Common.{◌≡◌, ◌∙◌, List, true, ap, sym, subst}
use Rattle.std.specs.Prelude.{◌↔◌}
use Rattle.names.specs.declared.node.Node.{Node}
use Rattle.meaning.specs.Membership.{IsMember}
use Rattle.meaning.specs.Config.{Configured, Has, rel_of}
use Rattle.meaning.specs.Admits.{has_relation}
use Rattle.meaning.proofs.KnownRelations.{not_known}
use Rattle.expand.specs.UsersetTree.{UsersetTree}
use Rattle.expand.specs.Tree.{userset, tree}
use Rattle.expand.specs.Viewed.{tree_of}
use Rattle.expand.specs.Meaning.{Means}
use Rattle.expand.specs.Causes.{ExpandCause}
use Rattle.expand.proofs.Making.{exit, expand_cause}
use Rattle.expand.proofs.Meanings.{tree_means}
use Rattle.expand.proofs.Relations.{stands_known}
use Rattle.expand.proofs.expanding.expand_at.Goals as goal

pub returns-in_default-clause-err : goal.returns-in_default-clause-err
returns-in_default-clause-err c =
    not_known c.args.view.now.config (rel_of c.args.node.now) (λ has. c.in_default.ensures.none (subst (λ (k : Configured). Has k (rel_of c.args.node.now)) (sym c.config-config.ensures.config) has))

pub returns-in_err-tree-clause-err : goal.returns-in_err-tree-clause-err
returns-in_err-tree-clause-err c =
    let n = c.args.node.now in
    let known = subst (λ (k : Configured). has_relation k (rel_of n) ≡ true) c.config-config.ensures.config (stands_known c.config-config.result.now n _ c.in-Some.ensures.found) in
    exit (ExpandCause c.args.view.now n c.args.depth) c.from_residual.result c.in_err-tree.field-0.0 c.from_residual.ensures.1
    (expand_cause c.args.view.now n c.args.depth c.new-walk.result c.in_err-tree.field-0.0 c.new-walk.ensures.path c.new-walk.ensures.room known c.in_err-tree.ensures.err)

pub returns-clause-known : goal.returns-clause-known
returns-clause-known c =
    subst (λ (k : Configured). has_relation k (rel_of c.args.node.now) ≡ true) c.config-config.ensures.config (stands_known c.config-config.result.now c.args.node.now _ c.in-Some.ensures.found)

pub returns-clause-means : goal.returns-clause-means
returns-clause-means c u =
    let S = c.args.view.now in
    let n = c.args.node.now in
    let same : tree_of c.in_ok-tree.tree ≡ tree S n c.args.depth = c.in_ok-tree.ensures.ok.same ∙ ap (λ (path : List Node). userset S c.args.depth path n) c.new-walk.ensures.path in
    subst (λ (t : UsersetTree). Means S u t ↔ IsMember S u n) (sym same) (tree_means S u n c.args.depth (c.is_valid.ensures c.if-not-is_valid.false))
