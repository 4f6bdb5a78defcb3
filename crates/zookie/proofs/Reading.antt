-- What is written is decoded to the bytes that it was written from.
use Rattle.std.proofs.Common.{◌≡◌, ℕ, zero, suc, ◌<◌, ◌≤◌, ◌/◌, List, [], ◌∷◌, ◌++◌, length, slice_index, replicate, refl, ◌∙◌, inl, inr, arith}
use Rattle.std.proofs.lemmas.Bool.{le-ltb}
use Rattle.std.specs.Int.{bytes_high_first}
use Rattle.std.specs.declared.result.Result.TheVariants.{Ok, Err}
use Rattle.base64.specs.declared.engine.general_purpose.GeneralPurpose.{GeneralPurpose}
use Rattle.base64.specs.GeneralPurpose.{IsBytes, IsConsistent, decode_slice_of, decoded_bytes_of, encode_of}
use Rattle.base64.specs.Decode.{IsWrittenOver, groups_before_last}
use Rattle.base64.specs.Engines.{url_safe_no_pad}
use Rattle.base64.specs.declared.decode.DecodeSliceError.{DecodeSliceError}
use Rattle.base64.proofs.OnLiterals.{base64_on_literals}
use Rattle.base64.proofs.RoundTrip.{decode-encode}
use Rattle.base64.proofs.Decoding.{or_errors}
use Rattle.zookie.specs.Text.{zookie_bytes, text_of, IsTextOf}

high_first_bytes : (k n i : ℕ) → slice_index (bytes_high_first k n) i < 256
high_first_bytes zero n i = omega arith
high_first_bytes (suc zero) n zero = omega arith
high_first_bytes (suc (suc k)) n zero = omega arith
high_first_bytes (suc k) n (suc i) = high_first_bytes k n i

append_bytes : (a b : List ℕ) → IsBytes a → IsBytes b → IsBytes (a ++ b)
append_bytes [] b ha hb i = hb i
append_bytes (x ∷ a) b ha hb zero = ha 0
append_bytes (x ∷ a) b ha hb (suc i) = append_bytes a b (λ k. ha (suc k)) hb i

zookie_is_bytes : (version store rev : ℕ) → version < 256 → IsBytes (zookie_bytes version store rev)
zookie_is_bytes version store rev small zero = small
zookie_is_bytes version store rev small (suc i) =
    append_bytes (bytes_high_first 8 store) (bytes_high_first 8 rev) (high_first_bytes 8 store) (high_first_bytes 8 rev) i

-- an encoding whose bytes have room decodes to them
decodes_back : (e : GeneralPurpose) (b : List ℕ) (room : ℕ) → IsConsistent e → IsBytes b → groups_before_last (length (encode_of e b)) ≤ room / 3
    → length b ≤ room → (decode_slice_of e (encode_of e b) room ≡ Ok (length b)) × (decoded_bytes_of e (encode_of e b) ≡ b)
decodes_back e b room consistent bytes groups_fit fits =
    let both = decode-encode e.encode_table e.decode_table b e.padding.value e.config.decode_allow_trailing_bits e.config.decode_padding_mode e.config.encode_padding e.tables bytes consistent in
    (rw (le-ltb (room / 3) (groups_before_last (length (encode_of e b))) groups_fit, both.1, le-ltb room (length b) fits, or_errors, both.0) refl, both.1)

zookie_groups : (version store rev : ℕ) → groups_before_last (length (text_of version store rev)) ≤ 17 / 3
unfolding base64_on_literals
zookie_groups version store rev = omega arith

zookie_decodes : (version store rev : ℕ) → version < 256 → (decode_slice_of url_safe_no_pad (text_of version store rev) 17 ≡ Ok 17)
    × (decoded_bytes_of url_safe_no_pad (text_of version store rev) ≡ zookie_bytes version store rev)
zookie_decodes version store rev small =
    decodes_back url_safe_no_pad (zookie_bytes version store rev) 17 refl (zookie_is_bytes version store rev small) (zookie_groups version store rev) (omega arith)

-- its text is that of some version
pub version_of : (text : List ℕ) (store rev : ℕ) → IsTextOf text store rev → (version : ℕ) × (version < 256) × (text ≡ text_of version store rev)
version_of text store rev (inl same) = (1, omega arith, same)
version_of text store rev (inr same) = (2, omega arith, same)

-- a zookie's text is not refused
pub decoding_succeeds : (text : List ℕ) (version store rev : ℕ) (e : DecodeSliceError) → version < 256 → text ≡ text_of version store rev
    → Err e ≡ decode_slice_of url_safe_no_pad text 17 → ⊥
decoding_succeeds text version store rev e small same refused =
    let h : decode_slice_of url_safe_no_pad text 17 ≡ Ok 17 = rw same (zookie_decodes version store rev small).0 in
    cc (refused ∙ h)

-- and it gives the bytes from which it was written
pub bytes_of_text : (text new : List ℕ) (version store rev : ℕ) → version < 256 → text ≡ text_of version store rev
    → IsWrittenOver (decoded_bytes_of url_safe_no_pad text) (replicate 17 0) new → new ≡ zookie_bytes version store rev
bytes_of_text text new version store rev small same written =
    let h : decoded_bytes_of url_safe_no_pad text ≡ zookie_bytes version store rev = rw same (zookie_decodes version store rev small).1 in
    rw h at written
