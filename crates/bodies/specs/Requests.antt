-- What the body of a call asks, by what `serde_json` reads from it.
use Rattle.std.specs.Prelude.{ℕ, ◌≡◌, ◌<◌, ◌≤◌, ◌^◌, if◌then◌else◌, true, List, [], ◌∷◌, Option, Some, None, MatchOption, IsSomeAnd, option_and_then, ⊤, codes}
use Rattle.serde_json.specs.Data.{Data}
use Rattle.serde_json.specs.Find.{get, as_str, as_number, as_u64}
use Rattle.names.specs.declared.limits.TheConstants.{MAX_CATCH_UP}
use Rattle.config_text.specs.Objects.{has_only, text_at}
use Rattle.config_text.specs.Reading.{Reads}
use Rattle.names.specs.Spelling.{SpellsNode, SpellsObject}
use Rattle.names.specs.declared.node.Node.{Node}
use Rattle.names.specs.declared.object.Object.{Object}
use Rattle.names.specs.declared.refusal.Refusal.{Refusal}
use Rattle.names.specs.declared.refusal.Refusal.TheVariants.{Malformed, BadZookie, Memory}
use Rattle.zookie.specs.Text.{IsTextOf}
use Rattle.zookie.specs.declared.Zookie.{Zookie}
use Rattle.zookie.specs.declared.consistency.Consistency.{Consistency}
use Rattle.zookie.specs.declared.consistency.Consistency.TheVariants.{Latest, AtLeast, Exactly}
use Rattle.names.specs.declared.part.Part.{Part}
use Rattle.names.specs.declared.part.Part.TheVariants.{Index, Hot}

-- the body reads as data that is so
abbrev pub ReadsAs : List ℕ → (Data → Type 0) → Type 0
ReadsAs body Is = (d : Data) × Reads body d × Is d

-- the text of the one member of an object, which has this name
abbrev pub only_text : List ℕ → Data → Option (List ℕ)
only_text name d = if has_only (name ∷ []) d then text_at name d else None

-- the text is one of the zookie's two
pub record IsZookieOf (text : List ℕ) (zookie : Zookie) : Type 0 where
  pub store_fits : zookie.store < 2 ^ 64
  pub rev_fits : zookie.rev < 2 ^ 64
  pub text_is : IsTextOf text zookie.store zookie.rev

-- whatever the text is
abbrev pub IsAnyText : List ℕ → Zookie → Type 0
IsAnyText text zookie = ⊤

-- Why a body is refused, where `Asks IsOf` says that it asks for something, with texts in zookies' places that `IsOf` takes for
-- zookies'. It is of no such form, whatever these texts are; it is, and one of them is no zookie's; or there was no memory.
abbrev pub BodyCause : ((List ℕ → Zookie → Type 0) → Type 0) → Refusal → Type 0
BodyCause Asks Malformed = ¬ (Asks IsAnyText)
BodyCause Asks BadZookie = Asks IsAnyText × ¬ (Asks IsZookieOf)
BodyCause Asks Memory = Unit {0}
BodyCause Asks _ = ⊥

-- what `at` asks for: absent or `"latest"`, `{"at_least": text}` or `{"exactly": text}`
abbrev pub AsksAt : (List ℕ → Zookie → Type 0) → Option Data → Consistency → Type 0
AsksAt IsOf at Latest = MatchOption at ⊤ (λ d. as_str d ≡ Some (codes "latest"))
AsksAt IsOf at (AtLeast zookie) = IsSomeAnd (option_and_then (only_text (codes "at_least")) at) (λ text. IsOf text zookie)
AsksAt IsOf at (Exactly zookie) = IsSomeAnd (option_and_then (only_text (codes "exactly")) at) (λ text. IsOf text zookie)

-- the body is so, and its `at` asks for this
abbrev pub AsksSo : (List ℕ → Zookie → Type 0) → List ℕ → (Data → Type 0) → Consistency → Type 0
AsksSo IsOf body Is consistency = ReadsAs body (λ d. Is d × AsksAt IsOf (get (codes "at") d) consistency)

-- why the body of a question with an `at` is refused
abbrev pub QuestionCause : List ℕ → (Data → Type 0) → Refusal → Type 0
QuestionCause body Is = BodyCause (λ IsOf. (consistency : Consistency) × AsksSo IsOf body Is consistency)

-- `{"at": .., "node": node, "user": object}`, whatever `at` is
pub record CheckOf (d : Data) (node : Node) (user : Object) : Type 0 where
  pub only : has_only (codes "at" ∷ codes "node" ∷ codes "user" ∷ []) d ≡ true
  pub node_is : IsSomeAnd (text_at (codes "node") d) (λ text. SpellsNode text node)
  pub user_is : IsSomeAnd (text_at (codes "user") d) (λ text. SpellsObject text user)

-- the body of a `check` asks about the node and the user, at such a revision
abbrev pub AsksCheck : List ℕ → Consistency → Node → Object → Type 0
AsksCheck body consistency node user = AsksSo IsZookieOf body (λ d. CheckOf d node user) consistency

-- why the body of a `check` is refused
abbrev pub CheckCause : List ℕ → Refusal → Type 0
CheckCause body = QuestionCause body (λ d. (node : Node) × (user : Object) × CheckOf d node user)

-- the number that the member is, where it is written without sign, fraction and exponent
abbrev pub number_at : List ℕ → Data → Option ℕ
number_at name d = option_and_then as_u64 (option_and_then as_number (get name d))

-- the word of a part
abbrev pub part_word : Part → List ℕ
part_word Index = codes "index"
part_word Hot = codes "hot"

-- `{"part": "index" or "hot", "commits": number}`
pub record CatchUpOf (d : Data) (part : Part) (commits : ℕ) : Type 0 where
  pub only : has_only (codes "part" ∷ codes "commits" ∷ []) d ≡ true
  pub part_at : text_at (codes "part") d ≡ Some (part_word part)
  pub commits_at : number_at (codes "commits") d ≡ Some commits
  pub in_range : commits ≤ MAX_CATCH_UP

-- the body of a `catchup` asks that the part take the commits
abbrev pub AsksCatchUp : List ℕ → Part → ℕ → Type 0
AsksCatchUp body part commits = ReadsAs body (λ d. CatchUpOf d part commits)

-- it asks no part to take commits
abbrev pub AsksNoCatchUp : List ℕ → Type 0
AsksNoCatchUp body = (part : Part) (commits : ℕ) → ¬ (AsksCatchUp body part commits)
