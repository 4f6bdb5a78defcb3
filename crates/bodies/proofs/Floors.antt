-- Why the body of a `trim` is refused.
use Rattle.std.proofs.Common.{◌≡◌, ℕ, List, subst}
use Rattle.std.specs.Prelude.{Option, Some, None, IsSomeAnd, codes}
use Rattle.names.specs.Refusals.{ReadCause}
use Rattle.names.specs.declared.refusal.Refusal.{Refusal}
use Rattle.zookie.specs.declared.Zookie.{Zookie}
use Rattle.serde_json.specs.Data.{Data}
use Rattle.config_text.specs.Reading.{Reads}
use Rattle.bodies.specs.Requests.{only_text}
use Rattle.bodies.specs.Trimming.{TrimsTo, TrimBodyCause}
use Rattle.bodies.specs.inside.Parts.{TextCause}
use Rattle.bodies.proofs.Bytes.{same_read}
use Rattle.bodies.proofs.Causes.{part_cause, read_cause}

module _ (body : List ℕ) where
  pub floor_unread : (e : Refusal) → ReadCause ((d : Data) → Reads body d → ⊥) e → TrimBodyCause body e
  floor_unread e cause = read_cause (λ IsOf. (floor : Zookie) × TrimsTo IsOf body floor) (λ not w. not w.1.0 w.1.1) e cause

  pub floor_unasked : (d : Data) → Reads body d → (e : Refusal) → TextCause (only_text (codes "floor") d) e → TrimBodyCause body e
  floor_unasked d reads e cause =
      part_cause (λ IsOf. (floor : Zookie) × IsSomeAnd (only_text (codes "floor") d) (λ text. IsOf text floor)) (λ IsOf. (floor : Zookie) × TrimsTo IsOf body floor)
      (λ IsOf w. (w.0, subst (λ (x : Data). IsSomeAnd (only_text (codes "floor") x) (λ text. IsOf text w.0)) (same_read body w.1.0 d w.1.1 reads) w.1.2))
      (λ w. (w.0, (d, reads, w.1))) e cause
