use Rattle.std.proofs.Common.{◌≡◌, Any, List, subst, arith}
use Rattle.names.specs.declared.tuple.Tuple.{Tuple}
use Rattle.leopard.specs.inside.Asking.{Gains}
use Rattle.leopard.proofs.Pages.{ends, goes_on, fewer}
use Rattle.leopard.proofs.direct.put_named.Goals as goal

pub returns-then-len : goal.returns-then-len
returns-then-len c =
    ends c.args.view.now c.args.relation.now c.args.user.now c.pages.asked c.args.groups.now.keys c.pages.groups.keys c.pages.invariant c.in_ok-page.page.items c.in_ok-page.ensures c.put_nodes.new.groups.keys
    (subst (λ (ts : List Tuple). Gains (λ n. Any (λ t. n ≡ t.node) ts) c.pages.groups.keys c.put_nodes.new.groups.keys) c.deref.ensures.value c.in_ok-put_nodes.ensures)
    (grind (arith, c.len.ensures, c.if-len.true, c.in_ok-page.page.ok))

pub pages-smaller : goal.pages-smaller
pages-smaller c =
    fewer c.args.view.now c.args.relation.now c.args.user.now c.pages.asked c.args.groups.now.keys c.pages.groups.keys c.pages.invariant c.in_ok-page.page.items c.in_ok-page.ensures c.put_nodes.new.groups.keys
    (subst (λ (ts : List Tuple). Gains (λ n. Any (λ t. n ≡ t.node) ts) c.pages.groups.keys c.put_nodes.new.groups.keys) c.deref.ensures.value c.in_ok-put_nodes.ensures)
    c.pop-asked.result (c.pop-asked.ensures.variant.1 (grind (arith, c.len.ensures, c.if-len.false, c.in_ok-page.page.ok))) c.pop-asked.new.self.items c.pop-asked.ensures.items

pub pages-preserved : goal.pages-preserved
pages-preserved c =
    goes_on c.args.view.now c.args.relation.now c.args.user.now c.pages.asked c.args.groups.now.keys c.pages.groups.keys c.pages.invariant c.in_ok-page.page.items c.in_ok-page.ensures c.put_nodes.new.groups.keys
    (subst (λ (ts : List Tuple). Gains (λ n. Any (λ t. n ≡ t.node) ts) c.pages.groups.keys c.put_nodes.new.groups.keys) c.deref.ensures.value c.in_ok-put_nodes.ensures)
    c.pop-asked.result (c.pop-asked.ensures.variant.1 (grind (arith, c.len.ensures, c.if-len.false, c.in_ok-page.page.ok))) c.pop-asked.new.self.items c.pop-asked.ensures.items
