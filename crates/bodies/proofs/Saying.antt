-- A reply whose text was written token by token.
use Rattle.std.proofs.Common.{◌≡◌, ℕ, List, Option, None, Result, Ok, Err, IfOk, MatchResult}
use Rattle.serde_json.specs.Data.{Data}
use Rattle.serde_json.specs.Written.{compact_text}
use Rattle.bodies.specs.Replies.{Says}
use Rattle.bodies.specs.inside.Parts.{SaysText}

pub said_text : {B E : Type 0} (items : B → List ℕ) (r : Result B E) (told : Option (ℕ × List ℕ)) (status : ℕ) (d : Data)
    → MatchResult r (λ b. SaysText told status (items b)) (λ _. told ≡ None) → IfOk r (λ b. items b ≡ compact_text d) → Says told status d
said_text items (Ok b) told status d says is = rw is at says
said_text items (Err e) told status d none is = rw none tt
