-- How the value of a condition, a list of them and a write are read.
use Rattle.std.specs.Prelude.{ℕ, ◌≡◌, ◌≤◌, true, List, [], ◌∷◌, Option, Some, MatchOption, length, codes}
use Rattle.std.specs.List.{AllZip}
use Rattle.serde_json.specs.Data.{Data}
use Rattle.config_text.specs.Objects.{has_only, text_at}
use Rattle.names.specs.Spelling.{SpellsTuple}
use Rattle.names.specs.declared.tuple.Tuple.{Tuple}
use Rattle.names.specs.declared.write.Condition.{Condition}
use Rattle.names.specs.declared.write.Write.{Write}
use Rattle.names.specs.declared.refusal.Refusal.{Refusal}
use Rattle.zookie.specs.declared.Zookie.{Zookie}
use Rattle.verdict.specs.declared.limits.TheConstants.{MAX_CONDITIONS}
use Rattle.bodies.specs.Requests.{IsZookieOf, IsAnyText, BodyCause}
use Rattle.bodies.specs.Writing.{IsListOf, AsksCondition, WriteOf}

-- `{"if": .., "tuple": tuple}`
pub record IsOfTuple (d : Data) (t : Tuple) : Type 0 where
  pub only : has_only (codes "if" ∷ codes "tuple" ∷ []) d ≡ true
  pub text : List ℕ
  pub tuple : text_at (codes "tuple") d ≡ Some text
  pub spells : SpellsTuple text t

-- `{"if": .., "tuple": tuple, "zookie": text}`
pub record IsOfTupleSince (d : Data) (t : Tuple) (since : List ℕ) : Type 0 where
  pub only : has_only (codes "if" ∷ codes "tuple" ∷ codes "zookie" ∷ []) d ≡ true
  pub text : List ℕ
  pub tuple : text_at (codes "tuple") d ≡ Some text
  pub spells : SpellsTuple text t
  pub zookie : text_at (codes "zookie") d ≡ Some since

-- the value is of a condition's form, and asks for none
abbrev pub AsksBadly : Data → Type 0
AsksBadly d = ((c : Condition Zookie) × AsksCondition IsAnyText d c) × ((c : Condition Zookie) → ¬ (AsksCondition IsZookieOf d c))

-- it is of no condition's form
abbrev pub IsNoCondition : Data → Type 0
IsNoCondition d = (c : Condition Zookie) → ¬ (AsksCondition IsAnyText d c)

-- the value is a list of at most 64 conditions
abbrev pub IsConditionList : (List ℕ → Zookie → Type 0) → List (Condition Zookie) → Data → Type 0
IsConditionList IsOf conditions d = IsListOf (AsksCondition IsOf) conditions d × (length conditions ≤ MAX_CONDITIONS)

-- and none where there is no such member
abbrev pub AskConditions : (List ℕ → Zookie → Type 0) → List (Condition Zookie) → Option Data → Type 0
AskConditions IsOf conditions at = MatchOption at (conditions ≡ []) (IsConditionList IsOf conditions)

-- why values, a value, a member and a write are refused
abbrev pub ConditionsCause : List Data → Refusal → Type 0
ConditionsCause ds = BodyCause (λ IsOf. (conditions : List (Condition Zookie)) × AllZip (AsksCondition IsOf) ds conditions)

abbrev pub ListCause : Data → Refusal → Type 0
ListCause d = BodyCause (λ IsOf. (conditions : List (Condition Zookie)) × IsConditionList IsOf conditions d)

abbrev pub MemberCause : Option Data → Refusal → Type 0
MemberCause at = BodyCause (λ IsOf. (conditions : List (Condition Zookie)) × AskConditions IsOf conditions at)

abbrev pub WriteCause : Data → Refusal → Type 0
WriteCause d = BodyCause (λ IsOf. (write : Write Zookie) × WriteOf IsOf d write)
