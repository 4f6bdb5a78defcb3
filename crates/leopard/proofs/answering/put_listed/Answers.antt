use Rattle.std.proofs.Common.{◌≡◌, ℕ, List, Any, Contains, ◌+◌, drop, get_or, ap, sym, ◌∙◌, arith}
use Rattle.std.specs.Prelude.{◌↔◌, ◌⊎◌, Some}
use Rattle.std.specs.List.{slice_get}
use Rattle.std.specs.Option.{option_copied}
use Rattle.std.proofs.lemmas.List.{get_or_default}
use Rattle.std.proofs.lemmas.Option.{none-some, same_Some}
use Rattle.names.specs.declared.node.Node.{Node}
use Rattle.leopard.proofs.Gather.{gather_more, gather_none, gather_all, left_at, left_none}
use Rattle.leopard.proofs.Leftover.{added_as}
use Rattle.leopard.proofs.Nodes.{same_node}
use Rattle.leopard.proofs.answering.put_listed.Goals.{in-Some+in_ok-clone+in_ok-put, in_default}
use Rattle.leopard.proofs.answering.put_listed.Goals as goal

-- the name that was read is this one
read_is : (names : List Node) (id : ℕ) (n read copy : Node) → slice_get names id ≡ Some read → copy ≡ read → (n ≡ copy) ↔ (slice_get names id ≡ Some n)
read_is names id n read copy at same = (λ e. at ∙ ap (λ z. Some z) (sym (e ∙ same)), λ h. same_Some n read (sym h ∙ at) ∙ sym same)

pub loop-id-preserved : goal.loop-id-preserved
loop-id-preserved c n =
    let ids = c.args.ids.now in
    let k = c.loop-id.id-index in
    let id : ℕ = get_or ids k 0 in
    let next = left_at ids k id c.loop-id-test.true (get_or_default ids k 0 id c.loop-id-test.true) in
    elim c.match-name.branch [
      | in-Some+in_ok-clone+in_ok-put w ↦
          rw w.nodes-is
          (gather_more (λ i. slice_get c.args.groups.now i ≡ Some n) (Contains c.args.nodes.now.keys n ⊎ Any (λ i. slice_get c.args.groups.now i ≡ Some n) ids)
          (Contains c.loop-id.nodes.keys n) (Contains w.put.new.nodes.keys n)
          (drop k ids) id (drop (k + 1) ids) next (c.loop-id.invariant n)
          (added_as _ _ _ _ (w.in_ok-put.ensures.gains n)
          (read_is c.args.groups.now id n w.in-Some.node.now w.in_ok-clone.field-0 (sym c.name.ensures ∙ ap option_copied w.in-Some.is) (same_node w.in_ok-clone.field-0 w.in-Some.node.now w.in_ok-clone.ensures.cases))))
      | in_default w ↦
          rw w.nodes-is
          (gather_none (λ i. slice_get c.args.groups.now i ≡ Some n) (Contains c.args.nodes.now.keys n ⊎ Any (λ i. slice_get c.args.groups.now i ≡ Some n) ids)
          (Contains c.loop-id.nodes.keys n)
          (drop k ids) id (drop (k + 1) ids) next (c.loop-id.invariant n)
          (λ at. none-some n (sym (sym c.name.ensures ∙ ap option_copied w.in_default.is) ∙ at)))
    ]

pub returns : goal.returns
returns c n =
    gather_all (λ id. slice_get c.args.groups.now id ≡ Some n) _ (Contains c.loop-id.nodes.keys n) (drop c.loop-id.id-index c.args.ids.now)
    (left_none c.args.ids.now c.loop-id.id-index (omega (arith, c.loop-id-test.false, c.loop-id.auto.id-index-end)))
    (c.loop-id.invariant n)
