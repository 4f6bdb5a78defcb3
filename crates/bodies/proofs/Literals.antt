use Rattle.std.specs.Prelude.{⊤}
use Rattle.std.specs.Fmt.{digits}
use Rattle.serde_json.proofs.OnLiterals.{serde_json_on_literals}

-- what is unfolded to compute the text of a reply without variables
unfoldable pub texts_on_literals : ⊤
unfolding serde_json_on_literals digits
texts_on_literals = tt
