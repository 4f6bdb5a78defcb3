-- What the body of a `write` asks, by what `serde_json` reads from it.
use Rattle.std.specs.Prelude.{ℕ, ◌≡◌, ◌≤◌, true, List, [], ◌∷◌, length, Some, MatchOption, IsSomeAnd, codes}
use Rattle.std.specs.List.{AllZip}
use Rattle.serde_json.specs.Data.{Data}
use Rattle.serde_json.specs.Find.{get, as_array}
use Rattle.serde_json.specs.View.{items_of}
use Rattle.config_text.specs.Objects.{has_only, text_at}
use Rattle.names.specs.Spelling.{SpellsTuple}
use Rattle.names.specs.declared.tuple.Tuple.{Tuple}
use Rattle.names.specs.declared.write.Op.{Op}
use Rattle.names.specs.declared.write.OpKind.{OpKind}
use Rattle.names.specs.declared.write.OpKind.TheVariants.{Insert, Touch, Delete}
use Rattle.names.specs.declared.write.Condition.{Condition}
use Rattle.names.specs.declared.write.Condition.TheVariants.{Exists, Absent, Unchanged}
use Rattle.names.specs.declared.write.Write.{Write}
use Rattle.names.specs.declared.refusal.Refusal.{Refusal}
use Rattle.meaning.specs.Verdict.{is_in_range}
use Rattle.zookie.specs.declared.Zookie.{Zookie}
use Rattle.verdict.specs.declared.limits.TheConstants.{MAX_CONDITIONS}
use Rattle.bodies.specs.Requests.{ReadsAs, IsZookieOf, BodyCause}

-- the value is a list of values, and these are what they are, one after another
abbrev pub IsListOf : {X : Type 0} → (Data → X → Type 0) → List X → Data → Type 0
IsListOf Is xs d = (ds : List Data) × (as_array d ≡ Some (items_of ds)) × AllZip Is ds xs

-- `{name: word, "tuple": tuple}`, and members with the further names
pub record SaysOfTuple (name word : List ℕ) (further : List (List ℕ)) (d : Data) (t : Tuple) : Type 0 where
  pub only : has_only (name ∷ codes "tuple" ∷ further) d ≡ true
  pub word_is : text_at name d ≡ Some word
  pub tuple_is : IsSomeAnd (text_at (codes "tuple") d) (λ text. SpellsTuple text t)

-- the word of an operation
abbrev pub op_word : OpKind → List ℕ
op_word Insert = codes "insert"
op_word Touch = codes "touch"
op_word Delete = codes "delete"

-- `{"op": "insert", "touch" or "delete", "tuple": tuple}`
abbrev pub AsksOp : Data → Op → Type 0
AsksOp d o = SaysOfTuple (codes "op") (op_word o.kind) [] d o.tuple

-- `{"if": "exists" or "absent", "tuple": tuple}` or `{"if": "unchanged", "tuple": tuple, "zookie": text}`
abbrev pub AsksCondition : (List ℕ → Zookie → Type 0) → Data → Condition Zookie → Type 0
AsksCondition IsOf d (Exists t) = SaysOfTuple (codes "if") (codes "exists") [] d t
AsksCondition IsOf d (Absent t) = SaysOfTuple (codes "if") (codes "absent") [] d t
AsksCondition IsOf d (Unchanged t zookie) = SaysOfTuple (codes "if") (codes "unchanged") (codes "zookie" ∷ []) d t × IsSomeAnd (text_at (codes "zookie") d) (λ text. IsOf text zookie)

-- `{"conditions": [condition, ..], "ops": [op, ..]}`, with 1 to 256 operations and at most 64 conditions, none where there is no
-- such member
pub record WriteOf (IsOf : List ℕ → Zookie → Type 0) (d : Data) (write : Write Zookie) : Type 0 where
  pub only : has_only (codes "conditions" ∷ codes "ops" ∷ []) d ≡ true
  pub ops : IsSomeAnd (get (codes "ops") d) (IsListOf AsksOp write.ops)
  pub in_range : is_in_range write.ops ≡ true
  pub conditions : MatchOption (get (codes "conditions") d) (write.conditions ≡ []) (IsListOf (AsksCondition IsOf) write.conditions)
  pub few : length write.conditions ≤ MAX_CONDITIONS

-- the body of a `write` asks for the operations, under the conditions
abbrev pub AsksWrite : List ℕ → Write Zookie → Type 0
AsksWrite body write = ReadsAs body (λ d. WriteOf IsZookieOf d write)

-- why the body of a `write` is refused
abbrev pub WriteBodyCause : List ℕ → Refusal → Type 0
WriteBodyCause body = BodyCause (λ IsOf. (write : Write Zookie) × ReadsAs body (λ d. WriteOf IsOf d write))
