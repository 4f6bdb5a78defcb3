-- The text of an object that was written token by token.
use Rattle.std.proofs.Common.{◌≡◌, ℕ, List, [], ◌∷◌, ◌++◌, Result, Ok, Err, IfOk, ap, ◌∙◌}
use Rattle.json.specs.Token.{Token, end_object}
use Rattle.json.specs.Print.{print}
use Rattle.json.specs.Tree.{json_tokens}
use Rattle.serde_json.specs.Data.{Data}
use Rattle.serde_json.specs.Written.{compact_text, outline}
use Rattle.serde_json.proofs.Texts.{print-outline}

-- an object's text, once its bracket is written
pub told : {B E : Type 0} (items : B → List ℕ) (d : Data) (r : Result B E) (before : List ℕ) (ts : List Token) → before ≡ [] → ts ++ end_object ∷ [] ≡ json_tokens (outline d) → IfOk r (λ b. items b ≡ before ++ print (ts ++ end_object ∷ [])) → IfOk r (λ b. items b ≡ compact_text d)
told items d (Ok b) before ts first same is = is ∙ ap (λ b. b ++ print (ts ++ end_object ∷ [])) first ∙ ap print same ∙ print-outline d
told items d (Err e) before ts first same is = tt
