-- How the parts of a body are read, and what is said of a text.
use Rattle.std.specs.Prelude.{ℕ, ◌≡◌, true, List, Option, MatchOption, IsSomeAnd, ⊤, codes}
use Rattle.serde_json.specs.Data.{Data}
use Rattle.serde_json.specs.Find.{get}
use Rattle.config_text.specs.Objects.{is_text}
use Rattle.names.specs.declared.node.Node.{Node}
use Rattle.names.specs.declared.object.Object.{Object}
use Rattle.names.specs.declared.part.Part.{Part}
use Rattle.names.specs.declared.part.Part.TheVariants.{Index, Hot}
use Rattle.names.specs.declared.refusal.Refusal.{Refusal}
use Rattle.names.specs.declared.refusal.Refusal.TheVariants.{Malformed, BadZookie}
use Rattle.names.specs.declared.write.Op.{Op}
use Rattle.names.specs.declared.write.OpKind.{OpKind}
use Rattle.names.specs.declared.write.OpKind.TheVariants.{Insert, Touch, Delete}
use Rattle.meaning.specs.Verdict.{is_in_range}
use Rattle.zookie.specs.declared.Zookie.{Zookie}
use Rattle.zookie.specs.declared.consistency.Consistency.{Consistency}
use Rattle.bodies.specs.Requests.{IsZookieOf, BodyCause, AsksAt, CheckOf, CatchUpOf}
use Rattle.bodies.specs.Writing.{IsListOf, AsksOp}

-- the reply has this status and this text, or there was no memory for it
abbrev pub SaysText : Option (ℕ × List ℕ) → ℕ → List ℕ → Type 0
SaysText told status text = MatchOption told ⊤ (λ said. (said.0 ≡ status) × (said.1 ≡ text))

-- why a text in a zookie's place is refused
abbrev pub TextCause : Option (List ℕ) → Refusal → Type 0
TextCause at = BodyCause (λ IsOf. (zookie : Zookie) × IsSomeAnd at (λ text. IsOf text zookie))

-- why `at` is refused
abbrev pub AtCause : Option Data → Refusal → Type 0
AtCause at = BodyCause (λ IsOf. (consistency : Consistency) × AsksAt IsOf at consistency)

-- it is about no node and user, or about no part
abbrev pub IsOfNoCheck : Data → Type 0
IsOfNoCheck d = (node : Node) (user : Object) → ¬ (CheckOf d node user)

abbrev pub IsOfNoCatchUp : Data → Type 0
IsOfNoCatchUp d = (part : Part) (commits : ℕ) → ¬ (CatchUpOf d part commits)

-- the word of a part
abbrev pub IsPart : List ℕ → Part → Type 0
IsPart word Index = is_text word (codes "index") ≡ true
IsPart word Hot = is_text word (codes "hot") ≡ true

-- the word of an operation
abbrev pub IsKind : List ℕ → OpKind → Type 0
IsKind word Insert = is_text word (codes "insert") ≡ true
IsKind word Touch = is_text word (codes "touch") ≡ true
IsKind word Delete = is_text word (codes "delete") ≡ true

-- the member `ops` is `[op, ..]`, with 1 to 256 operations
abbrev pub OpsOf : Data → List Op → Type 0
OpsOf d ops = IsSomeAnd (get (codes "ops") d) (IsListOf AsksOp ops) × (is_in_range ops ≡ true)
