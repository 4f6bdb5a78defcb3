use Rattle.std.proofs.Common.{◌≡◌, ◌∙◌, None, sym, rules}
use Rattle.serde_json.specs.Find.{as_str, as_array}
use Rattle.serde_json.specs.View.{view}
use Rattle.serde_json.specs.declared.value.Value.{the_lemmas}
use Rattle.names.proofs.Readings.{read_exit}
use Rattle.bodies.proofs.Expressions.{several, other_value, list_refused, expr_more, expr_refused}
use Rattle.bodies.proofs.exprs.+read.Goals as goal

pub read_member-returns-then-len-ne1-clause-err : goal.read_member-returns-then-len-ne1-clause-err
read_member-returns-then-len-ne1-clause-err t c = several c.args.members.now.entries (λ e. c.if-len-ne1.true (c.len.ensures.len ∙ e))

pub read_named-returns-in_err-parts-in-Array-clause-err :
    goal.read_named-returns-in_err-parts-in-Array-clause-err
read_named-returns-in_err-parts-in-Array-clause-err t c =
    read_exit c.from_residual-in_err-parts-in-Array.result c.in_err-parts-in-Array.field-0.0 c.from_residual-in_err-parts-in-Array.ensures.1
    (list_refused c.args.key.now c.args.value.now c.in-Array.items c.in-Array.is) c.in_err-parts-in-Array.ensures.err

pub read_named-returns-in_default : goal.read_named-returns-in_default
read_named-returns-in_default t c =
    let no_text = c.in_default.not-String in
    let no_list = c.in_default.not-Array in
    let text : None ≡ as_str (view c.args.value.now) = search (rules, the_lemmas) in
    let list : None ≡ as_array (view c.args.value.now) = search (rules, the_lemmas) in
    record { ok = tt; err = other_value c.args.key.now (view c.args.value.now) text list }

pub read_parts-returns-in_err-part-clause-err : goal.read_parts-returns-in_err-part-clause-err
read_parts-returns-in_err-part-clause-err t c =
    rw (sym c.deref-item-items.ensures.value) (read_exit c.from_residual.result c.in_err-part.field-0.0 c.from_residual.ensures.1
    (λ refused. expr_refused _ _ c.item-item.result c.loop-item-test.true c.item-item.is refused) c.in_err-part.ensures.err)

pub read_parts-loop-item-preserved : goal.read_parts-loop-item-preserved
read_parts-loop-item-preserved t c =
    expr_more _ _ c.item-item.result _ _ c.in_ok-part.part c.loop-item-test.true c.item-item.is c.in_ok-push.ensures.items c.loop-item.invariant c.in_ok-part.ensures.ok
