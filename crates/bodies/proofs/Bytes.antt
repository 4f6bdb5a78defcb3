-- What bytes are read as.
use Rattle.std.proofs.Common.{◌≡◌, ℕ, List, sym, ◌∙◌}
use Rattle.std.specs.Prelude.{Some}
use Rattle.serde_json.specs.Data.{Data}
use Rattle.config_text.specs.Reading.{Reads}

pub same_read : (body : List ℕ) (d e : Data) → Reads body d → Reads body e → d ≡ e
same_read body d e r s = let both : Some d ≡ Some e = sym r.reads ∙ s.reads in cc
