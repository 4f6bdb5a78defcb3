use Rattle.std.proofs.Common.{[], ◌∷◌, refl}
use Rattle.std.specs.Prelude.{codes}
use Rattle.serde_json.specs.Data.{string}
use Rattle.zookie.specs.Text.{zookie_text}
use Rattle.bodies.specs.Replies.{error_data}
use Rattle.bodies.proofs.Listing.{told_plain}
use Rattle.bodies.proofs.refusals.refusal_at.Goals as goal

pub say-requires : goal.say-requires
say-requires c =
    told_plain (error_data c.args.why.now [] [] ((codes "zookie", string (zookie_text c.args.zookie.now.store c.args.zookie.now.rev)) ∷ [])) c.value_at.result refl c.value_at.ensures
