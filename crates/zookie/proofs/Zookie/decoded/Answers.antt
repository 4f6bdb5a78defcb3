use Rattle.std.proofs.Common.{ap, ◌∙◌, Some}
use Rattle.zookie.proofs.Reading.{bytes_of_text, decoding_succeeds, version_of}
use Rattle.zookie.proofs.Zookie.decoded.Goals as goal

pub returns-in-Ok : goal.returns-in-Ok
returns-in-Ok c store rev s r is =
    let v = version_of _ store rev is in
    ap Some (c.of_bytes.ensures v.0 store rev s r (bytes_of_text _ _ v.0 store rev v.1 (c.as_bytes.ensures.value ∙ v.2) c.in-Ok.ensures.written))

pub returns-in-Err : goal.returns-in-Err
returns-in-Err c store rev s r is =
    let v = version_of _ store rev is in
    absurd (decoding_succeeds _ v.0 store rev _ v.1 (c.as_bytes.ensures.value ∙ v.2) c.in-Err.ensures.value)
