use Rattle.std.proofs.Common.{◌≡◌, ◌≤◌, ◌*◌, sym, subst, ◌∙◌, true≢false}
use Rattle.std.proofs.lemmas.Bool.{le-leb}
use Rattle.rows.specs.Loads.{retained_of}
use Rattle.rows.specs.Retained.{Retained, newest}
use Rattle.store.specs.Refused.{DeservedBy, IsOfHistory}
use Rattle.store.proofs.reading.read.Goals as goal

pub returns-in-Err-Fault-clause-fault : goal.returns-in-Err-Fault-clause-fault
returns-in-Err-Fault-clause-fault c = λ _ order h r loads is _.
    subst (DeservedBy (IsOfHistory c.args.stored)) c.in-Err-Fault.field-0-is c.in-Err-Fault.ensures.fault (order, (h, loads, (r, is)))

pub returns-then-not-is_numbered-clause-fault : goal.returns-then-not-is_numbered-clause-fault
returns-then-not-is_numbered-clause-fault c = λ _ order h r loads is most.
    let last = c.args.stored.last_rowid in
    let same : retained_of c.in-Ok.loaded ≡ r = c.in-Ok.ensures.same h r loads is in
    let here : last ≤ 256 * newest (retained_of c.in-Ok.loaded) = subst (λ (q : Retained). last ≤ 256 * newest q) (sym same) most in
    true≢false (sym (le-leb last (256 * newest (retained_of c.in-Ok.loaded)) here) ∙ sym c.is_numbered.ensures ∙ c.if-not-is_numbered.true)
