use Rattle.std.proofs.Common.{◌≡◌, ℕ, List, ◌+◌, true, Any, drop, get_or, sym, subst, ◌∙◌, arith}
use Rattle.std.specs.Prelude.{◌↔◌, ◌⊎◌}
use Rattle.std.proofs.lemmas.List.{get_or_default}
use Rattle.idsets.specs.Sets.{has}
use Rattle.leopard.specs.inside.Closing.{IsIdArc}
use Rattle.leopard.proofs.Finding.{all_yet}
use Rattle.leopard.proofs.Gather.{gather_more, gather_all, left_at, left_none}
use Rattle.leopard.proofs.Making.{has_nothing}
use Rattle.leopard.proofs.Numbers.{has_both}
use Rattle.leopard.proofs.closing.ends_of_ids.Goals as goal

pub loop-id-init : goal.loop-id-init
loop-id-init c = λ j. all_yet (has c.new-ends.result.items j ≡ true) _ _ (has_nothing c.new-ends.result.items j c.new-ends.ensures.items) (λ h. h, λ h. h)

pub loop-id-preserved : goal.loop-id-preserved
loop-id-preserved c j =
    let ids = c.args.ids.now in
    let k = c.loop-id.id-index in
    let id : ℕ = get_or ids k 0 in
    let next = left_at ids k id c.loop-id-test.true (get_or_default ids k 0 id c.loop-id-test.true) in
    gather_more (λ i. IsIdArc c.args.arcs.now i j) (Any (λ i. IsIdArc c.args.arcs.now i j) ids) (has c.loop-id.ends.items j ≡ true) (has c.extend_from_slice.new.self.items j ≡ true)
    (drop k ids) id (drop (k + 1) ids) next (c.loop-id.invariant j)
    (subst (λ (l : List ℕ). (has c.extend_from_slice.new.self.items j ≡ true) ↔ ((has c.loop-id.ends.items j ≡ true) ⊎ (has l j ≡ true))) c.set_at.ensures
    (subst (λ (l : List ℕ). (has l j ≡ true) ↔ ((has c.loop-id.ends.items j ≡ true) ⊎ (has c.set_at.result.now j ≡ true))) (sym c.in_ok-extend_from_slice.ensures.items) (has_both c.loop-id.ends.items c.set_at.result.now j)))

pub returns : goal.returns
returns c j =
    let all = gather_all (λ i. IsIdArc c.args.arcs.now i j) _ (has c.loop-id.ends.items j ≡ true) (drop c.loop-id.id-index c.args.ids.now)
    (left_none c.args.ids.now c.loop-id.id-index (omega (arith, c.loop-id-test.false, c.loop-id.auto.id-index-end)))
    (c.loop-id.invariant j) in
    (λ h. all.0 (sym (c.in_ok-of_runs.ensures.members j) ∙ h), λ h. c.in_ok-of_runs.ensures.members j ∙ all.1 h)
