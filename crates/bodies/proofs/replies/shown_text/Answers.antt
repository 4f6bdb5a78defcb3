use Rattle.std.proofs.Common.{[], ◌∷◌, refl, ◌∙◌}
use Rattle.std.specs.Prelude.{codes}
use Rattle.serde_json.specs.Data.{string, boolean}
use Rattle.zookie.specs.Text.{zookie_text}
use Rattle.bodies.specs.Replies.{object_of}
use Rattle.bodies.proofs.Written.{told}
use Rattle.bodies.proofs.replies.shown_text.Goals as goal

pub returns : goal.returns
returns c =
    told (λ b. b.items) (object_of ((c.args.name.now, string (zookie_text c.args.rev.now.store c.args.rev.now.rev)) ∷ (codes "shown", boolean c.args.shown) ∷ [])) c.closed.result _ _
    (c.put_flag.ensures.before ∙ c.put_zookie.ensures.before ∙ c.in_ok-out.ensures.before)
    (rw c.in_ok-put_flag.ensures.tokens rw c.in_ok-put_zookie.ensures.tokens rw c.in_ok-out.ensures.tokens refl)
    c.closed.ensures
