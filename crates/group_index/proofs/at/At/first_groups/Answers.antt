use Rattle.std.proofs.Common.{◌≡◌, false, List, sym, ◌∙◌, subst}
use Rattle.names.specs.declared.node.Node.{Node}
use Rattle.meaning.specs.Config.{Configured}
use Rattle.leopard.specs.Answers.{AreFirst}
use Rattle.leopard.specs.Causes.{IsAnswerable, AskCause, names_unindexed}
use Rattle.leopard.specs.Exprs.{query_of}
use Rattle.leopard.specs.Finding.{Finds}
use Rattle.leopard.specs.Groups.{Means}
use Rattle.leopard.proofs.First.{first_as}
use Rattle.group_index.proofs.Telling.{told_config}
use Rattle.group_index.proofs.at.At.first_groups.Goals as goal

pub returns-clause-ok : goal.returns-clause-ok
returns-clause-ok c = λ S told. subst (λ (k : Configured). IsAnswerable k (query_of c.args.expr.now) c.args.limit) (c.config.ensures ∙ sym (told_config c.args.self.now S told)) c.in_default.ensures.none

pub returns-in-Some-clause-err : goal.returns-in-Some-clause-err
returns-in-Some-clause-err c = λ S told. subst (λ (k : Configured). AskCause k (query_of c.args.expr.now) c.args.limit c.in-Some.why) (c.config.ensures ∙ sym (told_config c.args.self.now S told)) c.in-Some.ensures.some

pub returns-clause-groups : goal.returns-clause-groups
returns-clause-groups c = λ S told.
    let at = c.args.self.now in
    let q = query_of c.args.expr.now in
    let found = c.in_ok-found.found in
    let indexed : names_unindexed S.config q ≡ false = subst (λ (k : Configured). names_unindexed k q ≡ false) (c.config.ensures ∙ sym (told_config at S told)) c.in_default.ensures.none.indexed in
    first_as c.args.limit (Finds at.index.now.layer.nodes found.ids found.others.keys) (Means S q) c.in_ok-first_named.field-0.items (c.in_ok-found.ensures S told indexed).all
    (subst (λ (ns : List Node). AreFirst c.args.limit (Finds ns found.ids found.others.keys) c.in_ok-first_named.field-0.items) c.nodes.ensures c.in_ok-first_named.ensures)
