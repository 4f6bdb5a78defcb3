use Rattle.std.proofs.Common.{refl, ◌∙◌}
use Rattle.bodies.specs.Replies.{marked_data}
use Rattle.bodies.proofs.Written.{told}
use Rattle.bodies.proofs.replies.marked_text.Goals as goal

pub returns : goal.returns
returns c =
    told (λ b. b.items) (marked_data c.args.marked c.args.shown) c.closed.result _ _
    (c.put_flag.ensures.before ∙ c.put_number.ensures.before ∙ c.in_ok-out.ensures.before)
    (rw c.in_ok-put_flag.ensures.tokens rw c.in_ok-put_number.ensures.tokens rw c.in_ok-out.ensures.tokens refl)
    c.closed.ensures
