-- A snapshot that was come by elsewhere, held against what a session copies.
use Rattle.std.specs.Prelude.{◌≡◌, ℕ, Option, None}
use Rattle.names.specs.declared.refusal.Refusal.{Refusal}
use Rattle.names.specs.declared.refusal.Refusal.TheVariants.{WrongBuild}
use Rattle.meaning.specs.Snap.{Snap}
use Rattle.config_text.specs.Canonical.{config_text}
use Rattle.rows.specs.Retained.{IsRetained, snap_at}
use Rattle.zookie.specs.declared.Zookie.{Zookie}
use Rattle.zookie.specs.declared.consistency.Consistency.TheVariants.{Exactly}
use Rattle.shown.specs.declared.answer.Refused.{Refused}
use Rattle.shown.specs.Paging.{ReadRefused}
use Rattle.shown.specs.Standing.{Standing}

-- the configurations have one text, and the tuples are the same
abbrev pub IsSameSnap : Snap → Snap → Type 0
IsSameSnap S T = (config_text S.config ≡ config_text T.config) × (S.tuples ≡ T.tuples)

-- the revision is retained, and holds another snapshot; or it is refused as a page there is
abbrev pub VouchRefused : Standing → Zookie → Snap → Refusal → Option ℕ → Type 0
VouchRefused s zookie given WrongBuild at = IsRetained s.kept zookie.rev × ¬ (IsSameSnap (snap_at s.kept zookie.rev) given) × (at ≡ None)
VouchRefused s zookie given why at = ReadRefused s (Exactly zookie) why at

abbrev pub IsVouchRefusal : Standing → Zookie → Snap → Refused → Type 0
IsVouchRefusal s zookie given refused = VouchRefused s zookie given refused.why refused.at
