use Rattle.std.proofs.Common.{refl, sym, ◌∙◌, subst, arith}
use Rattle.std.proofs.lemmas.Bool.{false≢true}
use Rattle.facts.proofs.Naming.{all_of}
use Rattle.group_index.proofs.Among.{Meet, none_met, none_more, one_met}
use Rattle.group_index.proofs.meeting.some_named.Goals as goal

pub loop-id-init : goal.loop-id-init
loop-id-init c = none_met c.args.names.now c.args.ids.now c.args.other_names.now c.args.other_ids.now

pub loop-id-preserved : goal.loop-id-preserved
loop-id-preserved c = none_more c.args.names.now c.args.ids.now c.args.other_names.now c.args.other_ids.now c.loop-id.id-index _ c.loop-id-test.true c.loop-id.invariant
    (λ m. false≢true (sym c.if-is_named.false ∙ c.is_named.ensures.1 m))

pub returns-then-is_named : goal.returns-then-is_named
returns-then-is_named c = (
  λ h. one_met c.args.names.now c.args.ids.now c.args.other_names.now c.args.other_ids.now c.loop-id.id-index _ c.loop-id-test.true (c.is_named.ensures.0 c.if-is_named.true),
  λ m. refl,
)

pub returns : goal.returns
returns c = (
  λ h. absurd (false≢true h),
  λ m. absurd (c.loop-id.invariant (subst (λ xs. Meet c.args.names.now xs c.args.other_names.now c.args.other_ids.now) (sym (all_of c.args.ids.now c.loop-id.id-index (omega (arith, c.loop-id-test.false)))) m)),
)
