-- What lasts, lasts over several calls.
use Rattle.std.proofs.Common.{◌⊎◌, IsTrue, inl, inr, arith}
use Rattle.std.proofs.Math.Nat.{le_refl}
use Rattle.tables.specs.Device.{Device, IsClean, HasFailed, Lasts}

pub lasts_self : (d : Device) → Lasts d d
lasts_self d = record { doubt = le_refl d.doubt; counts = le_refl d.faults; closes = λ clean still. inl still }

-- a device that returned what was written did so before
pub clean_before : (old new : Device) → Lasts old new → IsClean new → IsClean old
clean_before old new lasts clean = let more = lasts.doubt in omega (arith, more, clean)

pub failed_before : (old mid new : Device) → HasFailed old mid → Lasts mid new → HasFailed old new
failed_before old mid new failed lasts clean =
    let before = failed (clean_before mid new lasts clean) in
    let counts = lasts.counts in
    omega (arith, before, counts)

pub failed_after : (old mid new : Device) → Lasts old mid → HasFailed mid new → HasFailed old new
failed_after old mid new lasts failed clean =
    let after = failed clean in
    let counts = lasts.counts in
    omega (arith, after, counts)

pub lasts_trans : (old mid new : Device) → Lasts old mid → Lasts mid new → Lasts old new
lasts_trans old mid new first second =
    let more = first.doubt in
    let rest = second.doubt in
    let some = first.counts in
    let others = second.counts in
    record {
      doubt = omega (arith, more, rest);
      counts = omega (arith, some, others);
      closes = λ clean still. closes_over clean (first.closes (clean_before mid new second clean) still);
    }
  where
    closes_then : IsTrue new.is_open ⊎ HasFailed mid new → IsTrue new.is_open ⊎ HasFailed old new
    closes_then (inl still) = inl still
    closes_then (inr failed) = inr (failed_after old mid new first failed)

    closes_over : IsClean new → IsTrue mid.is_open ⊎ HasFailed old mid → IsTrue new.is_open ⊎ HasFailed old new
    closes_over clean (inl still) = closes_then (second.closes clean still)
    closes_over clean (inr failed) = inr (failed_before old mid new failed second)
