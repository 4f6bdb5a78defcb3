-- The texts of a zookie: one of each version.
use Rattle.std.specs.Prelude.{ℕ, ◌≡◌, ◌⊎◌, List, ◌∷◌, ◌++◌}
use Rattle.std.specs.Int.{w64, to_be_bytes}
use Rattle.base64.specs.GeneralPurpose.{encode_of}
use Rattle.base64.specs.Engines.{url_safe_no_pad}

-- the version, the store's number and the revision: a byte, and 8 bytes each, the highest first
abbrev pub zookie_bytes : (version store rev : ℕ) → List ℕ
zookie_bytes version store rev = version ∷ to_be_bytes w64 store ++ to_be_bytes w64 rev

-- those bytes in the URL alphabet of RFC 4648, without padding
abbrev pub text_of : (version store rev : ℕ) → List ℕ
text_of version store rev = encode_of url_safe_no_pad (zookie_bytes version store rev)

-- the text that is written: the one of version 2
abbrev pub zookie_text : (store rev : ℕ) → List ℕ
zookie_text store rev = text_of 2 store rev

-- it is the zookie's text of version 1, or that of version 2: both mean the same
abbrev pub IsTextOf : List ℕ → (store rev : ℕ) → Type 0
IsTextOf text store rev = (text ≡ text_of 1 store rev) ⊎ (text ≡ text_of 2 store rev)
