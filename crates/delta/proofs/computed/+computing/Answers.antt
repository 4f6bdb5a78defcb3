use Rattle.std.proofs.Common.{◌≡◌, ◌+◌, List, drop, map, OnOk, sym, subst, arith, rules}
use Rattle.std.proofs.lemmas.Result.{on_ok_weaker}
use Rattle.meaning.specs.Form.{Form, Union, Intersection, Exclusion}
use Rattle.config_text.specs.Forms.{form_of, forms_of, rewrite_forms}
use Rattle.config_text.specs.declared.rewrite.Rewrite.{Rewrite, the_lemmas}
use Rattle.leopard.specs.inside.Asking.{Gains, IsComputed, IsSomeComputed}
use Rattle.leopard.proofs.Computing.{gains_two, computed_splits, computed_none}
use Rattle.leopard.proofs.Gather.{left_at, left_none}
use Rattle.leopard.proofs.Leftover.{gather, gathered}
use Rattle.delta.proofs.computed.+computing.Goals as goal

pub push_computed-returns-in-Union : goal.push_computed-returns-in-Union
push_computed-returns-in-Union t c =
    let parts = subst (λ (rs : List Rewrite). OnOk c.push_all_computed.result (Gains (IsSomeComputed c.args.object.now (rewrite_forms rs)) c.args.nodes.now.items c.push_all_computed.new.nodes.items))
    c.deref.ensures.value c.push_all_computed.ensures in
    let form : form_of c.args.rewrite.now ≡ Union (rewrite_forms c.in-Union.parts.items) = search (rules, the_lemmas) in
    subst (λ (w : Form). OnOk c.push_all_computed.result (Gains (IsComputed c.args.object.now w) c.args.nodes.now.items c.push_all_computed.new.nodes.items)) (sym form) parts

pub push_computed-returns-in-Intersection : goal.push_computed-returns-in-Intersection
push_computed-returns-in-Intersection t c =
    let parts = subst (λ (rs : List Rewrite). OnOk c.push_all_computed-in-Intersection.result (Gains (IsSomeComputed c.args.object.now (rewrite_forms rs)) c.args.nodes.now.items c.push_all_computed-in-Intersection.new.nodes.items))
    c.deref-in-Intersection.ensures.value c.push_all_computed-in-Intersection.ensures in
    let form : form_of c.args.rewrite.now ≡ Intersection (rewrite_forms c.in-Intersection.parts.items) = search (rules, the_lemmas) in
    subst (λ (w : Form). OnOk c.push_all_computed-in-Intersection.result (Gains (IsComputed c.args.object.now w) c.args.nodes.now.items c.push_all_computed-in-Intersection.new.nodes.items)) (sym form) parts

pub push_computed-returns-in_ok-push_computed-in-Exclusion : goal.push_computed-returns-in_ok-push_computed-in-Exclusion
push_computed-returns-in_ok-push_computed-in-Exclusion t c =
    let o = c.args.object.now in
    let base : Gains (IsComputed o (form_of c.in-Exclusion.base.value)) c.args.nodes.now.items c.push_computed.new.nodes.items = rw (sym c.deref-in-Exclusion.ensures) c.in_ok-push_computed-in-Exclusion.ensures in
    let less : OnOk c.push_computed-in-Exclusion.result (Gains (IsComputed o (form_of c.in-Exclusion.less.value)) c.push_computed.new.nodes.items c.push_computed-in-Exclusion.new.nodes.items) = rw (sym c.deref-in-Exclusion-2.ensures) c.push_computed-in-Exclusion.ensures in
    let both = on_ok_weaker c.push_computed-in-Exclusion.result
    (gains_two o (form_of c.in-Exclusion.base.value) (form_of c.in-Exclusion.less.value) c.args.nodes.now.items c.push_computed.new.nodes.items c.push_computed-in-Exclusion.new.nodes.items base) less in
    let form : form_of c.args.rewrite.now ≡ Exclusion (form_of c.in-Exclusion.base.value) (form_of c.in-Exclusion.less.value) = search (rules, the_lemmas) in
    subst (λ (w : Form). OnOk c.push_computed-in-Exclusion.result (Gains (IsComputed o w) c.args.nodes.now.items c.push_computed-in-Exclusion.new.nodes.items)) (sym form) both

pub push_all_computed-loop-part-preserved : goal.push_all_computed-loop-part-preserved
push_all_computed-loop-part-preserved t c = λ n.
    let rest = drop (c.loop-part.part-index + 1) c.args.parts.now in
    gather (λ rs. IsSomeComputed c.args.object.now (forms_of (map form_of rs)) n) _ _ _ _ (drop c.loop-part.part-index c.args.parts.now) c.part-item.result rest
    (left_at c.args.parts.now c.loop-part.part-index c.part-item.result c.loop-part-test.true c.part-item.is)
    (computed_splits c.args.object.now (form_of c.part-item.result) (forms_of (map form_of rest)) n) (c.loop-part.invariant n) (c.in_ok-push_computed.ensures n)

pub push_all_computed-returns : goal.push_all_computed-returns
push_all_computed-returns t c = λ n.
    gathered (λ rs. IsSomeComputed c.args.object.now (forms_of (map form_of rs)) n) _ _ (drop c.loop-part.part-index c.args.parts.now)
    (left_none c.args.parts.now c.loop-part.part-index (omega (arith, c.loop-part-test.false, c.loop-part.auto.part-index-end)))
    (computed_none c.args.object.now n) (c.loop-part.invariant n)
