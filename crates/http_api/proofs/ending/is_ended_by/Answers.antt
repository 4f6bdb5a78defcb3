use Rattle.std.proofs.Common.{refl, arith}
use Rattle.http_api.proofs.Endings.{together_reads, together_none, together_over}
use Rattle.http_api.proofs.ending.is_ended_by.Goals as goal

pub returns-in-Ok-Complete-clause-yes : goal.returns-in-Ok-Complete-clause-yes
returns-in-Ok-Complete-clause-yes c =
    let found = rw c.in-Ok-Complete.field-0-is at c.in-Ok-Complete.ensures.complete in
    λ is. together_reads _ _ _ _ _ _ _ found.0 _ c.copy_from_slice.ensures.after c.copy_from_slice-2.ensures.after refl refl found.1.reads

pub returns-in-Ok-Partial-clause-no : goal.returns-in-Ok-Partial-clause-no
returns-in-Ok-Partial-clause-no c =
    let none = rw c.in-Ok-Partial.field-0-is at c.in-Ok-Partial.ensures.partial in
    λ is. together_none _ _ _ _ _ _ _ c.copy_from_slice.ensures.after c.copy_from_slice-2.ensures.after refl refl none

pub returns-in-Err-clause-no : goal.returns-in-Err-clause-no
returns-in-Err-clause-no c =
    λ is. together_over _ _ _ _ _ _ _ _ c.copy_from_slice.ensures.after c.copy_from_slice-2.ensures.after refl refl (omega arith) c.in-Err.ensures.no_room
