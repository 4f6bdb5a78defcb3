-- Why the body of a `write` is refused.
use Rattle.std.proofs.Common.{◌≡◌, ℕ, ◌≤◌, true, List, ◌∷◌, [], length, ap, subst, arith}
use Rattle.std.specs.Prelude.{Option, Some, None, MatchOption, codes}
use Rattle.serde_json.specs.Data.{Data}
use Rattle.serde_json.specs.Find.{get}
use Rattle.config_text.specs.Objects.{has_only}
use Rattle.config_text.specs.Reading.{Reads}
use Rattle.names.specs.Refusals.{ReadCause}
use Rattle.names.specs.declared.write.Op.{Op}
use Rattle.names.specs.declared.write.Condition.{Condition}
use Rattle.names.specs.declared.write.Write.{Write}
use Rattle.names.specs.declared.refusal.Refusal.{Refusal}
use Rattle.zookie.specs.declared.Zookie.{Zookie}
use Rattle.bodies.specs.Requests.{ReadsAs, IsZookieOf, IsAnyText}
use Rattle.bodies.specs.Writing.{IsListOf, AsksCondition, WriteOf, AsksWrite, WriteBodyCause}
use Rattle.bodies.specs.inside.Parts.{OpsOf}
use Rattle.bodies.specs.inside.Conditions.{AskConditions, MemberCause, WriteCause}
use Rattle.bodies.proofs.Bytes.{same_read}
use Rattle.bodies.proofs.Causes.{part_cause, read_cause}

pub ops_unasked : (d : Data) (e : Refusal) → ReadCause ((ops : List Op) → OpsOf d ops → ⊥) e → WriteCause d e
ops_unasked d e cause = read_cause (λ IsOf. (write : Write Zookie) × WriteOf IsOf d write) (λ not w. not w.0.ops (w.1.ops, w.1.in_range)) e cause

-- the member and its limit, apart
module _ (IsOf : List ℕ → Zookie → Type 0) (cs : List (Condition Zookie)) where
  with_few : (at : Option Data) → MatchOption at (cs ≡ []) (IsListOf (AsksCondition IsOf) cs) → length cs ≤ 64 → AskConditions IsOf cs at
  with_few None is few = is
  with_few (Some d) is few = (is, few)

  without_few : (at : Option Data) → AskConditions IsOf cs at → MatchOption at (cs ≡ []) (IsListOf (AsksCondition IsOf) cs)
  without_few None is = is
  without_few (Some d) is = is.0

  are_few : (at : Option Data) → AskConditions IsOf cs at → length cs ≤ 64
  are_few None is = let e : length cs ≡ 0 = ap length is in omega (arith, e)
  are_few (Some d) is = is.1

module _ (d : Data) (only : has_only (codes "conditions" ∷ codes "ops" ∷ []) d ≡ true) (ops : List Op) (there : OpsOf d ops) where
  written : (IsOf : List ℕ → Zookie → Type 0) (cs : List (Condition Zookie)) → AskConditions IsOf cs (get (codes "conditions") d) → WriteOf IsOf d (record { conditions = cs; ops = ops })
  written IsOf cs asks = record {
    only = only;
    ops = there.0;
    in_range = there.1;
    conditions = without_few IsOf cs (get (codes "conditions") d) asks;
    few = are_few IsOf cs (get (codes "conditions") d) asks;
  }

  pub conditions_unasked : (e : Refusal) → MemberCause (get (codes "conditions") d) e → WriteCause d e
  conditions_unasked e cause =
      part_cause (λ IsOf. (conditions : List (Condition Zookie)) × AskConditions IsOf conditions (get (codes "conditions") d)) (λ IsOf. (write : Write Zookie) × WriteOf IsOf d write)
      (λ IsOf w. (w.0.conditions, with_few IsOf w.0.conditions (get (codes "conditions") d) w.1.conditions w.1.few))
      (λ w. (record { conditions = w.0; ops = ops }, written IsAnyText w.0 w.1)) e cause

  pub write_asked : (conditions : List (Condition Zookie)) → AskConditions IsZookieOf conditions (get (codes "conditions") d) → WriteOf IsZookieOf d (record { conditions = conditions; ops = ops })
  write_asked conditions asks = written IsZookieOf conditions asks

module _ (body : List ℕ) where
  pub write_unread : (e : Refusal) → ReadCause ((d : Data) → Reads body d → ⊥) e → WriteBodyCause body e
  write_unread e cause = read_cause (λ IsOf. (write : Write Zookie) × ReadsAs body (λ d. WriteOf IsOf d write)) (λ not w. not w.1.0 w.1.1) e cause

  module _ (d : Data) (reads : Reads body d) where
    pub write_unasked : (e : Refusal) → WriteCause d e → WriteBodyCause body e
    write_unasked e cause =
        part_cause (λ IsOf. (write : Write Zookie) × WriteOf IsOf d write) (λ IsOf. (write : Write Zookie) × ReadsAs body (λ x. WriteOf IsOf x write))
        (λ IsOf w. (w.0, subst (λ (x : Data). WriteOf IsOf x w.0) (same_read body w.1.0 d w.1.1 reads) w.1.2))
        (λ w. (w.0, (d, reads, w.1))) e cause

    pub write_read : (write : Write Zookie) → WriteOf IsZookieOf d write → AsksWrite body write
    write_read write asks = (d, reads, asks)
