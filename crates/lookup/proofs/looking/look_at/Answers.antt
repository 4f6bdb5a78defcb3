use Rattle.std.proofs.Common.{sym, subst, ◌∙◌}
use Rattle.std.specs.Prelude.{◌↔◌, IsTrue}
use Rattle.names.specs.declared.node.Node.{Node}
use Rattle.meaning.specs.Causes.{CheckCause}
use Rattle.meaning.specs.Membership.{IsMember}
use Rattle.lookup.specs.Causes.{LookupCause}
use Rattle.lookup.proofs.Ends.{cause_of, exit}
use Rattle.lookup.proofs.Steps.{passed, enough, judged}
use Rattle.lookup.proofs.looking.look_at.Goals.{then-is_full-via-then-is_full, then-is_full-via-else-is_full+then-not-is_later}
use Rattle.lookup.proofs.looking.look_at.Goals as goal

pub returns-then-is_full-clause-underway : goal.returns-then-is_full-clause-underway
returns-then-is_full-clause-underway g c left is =
    let S = c.args.asker.now in
    let asked = c.args.asked.now in
    elim c.then-is_full.branch [
      | then-is_full-via-then-is_full w ↦ enough S asked c.args.found.now c.args.id.now left is (c.is_full.ensures.full w.if-is_full.true)
      | then-is_full-via-else-is_full+then-not-is_later w ↦ passed S asked c.args.found.now c.args.id.now left is (sym w.is_later.ensures ∙ w.if-not-is_later.true)
    ]

pub returns-in_err-has-clause-err : goal.returns-in_err-has-clause-err
returns-in_err-has-clause-err g c =
    let S = c.args.asker.now in
    let asked = c.args.asked.now in
    exit (LookupCause S asked) c.from_residual-in_err-has.result c.in_err-has.field-0.0 c.from_residual-in_err-has.ensures.1
    (cause_of S asked c.args.id.now c.in_err-has.field-0.0 (subst (λ (n : Node). CheckCause S n c.in_err-has.field-0.0) c.in_ok-node.ensures c.in_err-has.ensures.err))

pub returns-clause-underway : goal.returns-clause-underway
returns-clause-underway g c left is =
    judged c.args.asker.now c.args.asked.now c.args.found.now c.args.id.now left is
    (c.is_full.ensures.room c.if-is_full.false) (sym c.is_later.ensures ∙ c.if-not-is_later.false)
    c.note.new.found c.in_ok-note.ensures.last c.in_ok-has.has
    (subst (λ (n : Node). IsTrue c.in_ok-has.has ↔ IsMember c.args.asker.now c.args.asked.now.user n) c.in_ok-node.ensures c.in_ok-has.ensures.ok)
    c.in_ok-note.ensures.ids

pub returns-clause-tells : goal.returns-clause-tells
returns-clause-tells g c = c.in_ok-has.ensures.tells
