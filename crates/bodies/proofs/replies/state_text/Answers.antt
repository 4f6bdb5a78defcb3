use Rattle.std.proofs.Common.{refl, ◌∙◌}
use Rattle.bodies.specs.Replies.{state_data}
use Rattle.bodies.proofs.Written.{told}
use Rattle.bodies.proofs.replies.state_text.Goals as goal

pub returns : goal.returns
returns c =
    told (λ b. b.items) (state_data c.args.store c.args.state.now) c.closed.result _ _
    (c.put_number-3.ensures.before ∙ c.put_number-2.ensures.before ∙ c.put_rev-5.ensures.before ∙ c.put_number.ensures.before
    ∙ c.put_rev-4.ensures.before ∙ c.put_rev-3.ensures.before ∙ c.put_rev-2.ensures.before ∙ c.put_rev.ensures.before ∙ c.in_ok-out.ensures.before)
    (rw c.in_ok-put_number-3.ensures.tokens rw c.in_ok-put_number-2.ensures.tokens rw c.in_ok-put_rev-5.ensures.tokens rw c.in_ok-put_number.ensures.tokens
    rw c.in_ok-put_rev-4.ensures.tokens rw c.in_ok-put_rev-3.ensures.tokens rw c.in_ok-put_rev-2.ensures.tokens rw c.in_ok-put_rev.ensures.tokens rw c.in_ok-out.ensures.tokens refl)
    c.closed.ensures
