-- What the body of a `read` asks, by what `serde_json` reads from it, and what its reply says.
use Rattle.std.specs.Prelude.{ℕ, ◌≡◌, ◌≤◌, true, IsTrue, List, [], ◌∷◌, Option, Some, None, IsSomeAnd, option_and_then, map, codes}
use Rattle.serde_json.specs.Data.{Data, string, array}
use Rattle.serde_json.specs.Find.{get, as_str, as_number, as_u64}
use Rattle.serde_json.specs.View.{items_of}
use Rattle.config_text.specs.Objects.{has_only, text_at}
use Rattle.names.specs.Names.{is_name, is_id}
use Rattle.names.specs.Spelling.{SpellsSubject, SpellsTuple, tuple_text}
use Rattle.names.specs.declared.tuple.Tuple.{Tuple}
use Rattle.names.specs.declared.refusal.Refusal.{Refusal}
use Rattle.zookie.specs.declared.consistency.Consistency.{Consistency}
use Rattle.rows.specs.declared.tupleset.Tupleset.{Tupleset}
use Rattle.rows.specs.declared.tupleset.TheConstants.{MAX_PAGE}
use Rattle.bodies.specs.Requests.{IsZookieOf, AsksSo, QuestionCause}
use Rattle.bodies.specs.Replies.{object_of}

-- the text is the name, or the id
abbrev pub SpellsName : List ℕ → List ℕ → Type 0
SpellsName text name = (name ≡ text) × IsTrue (is_name text)

abbrev pub SpellsId : List ℕ → List ℕ → Type 0
SpellsId text id = (id ≡ text) × IsTrue (is_id text)

-- a member that is there is a text that spells a value, and one that is not gives none
abbrev pub SpellsIfThere : {X : Type 0} → (List ℕ → X → Type 0) → Option Data → Option X → Type 0
SpellsIfThere Spells None None = Unit {0}
SpellsIfThere Spells None (Some x) = ⊥
SpellsIfThere Spells (Some d) None = ⊥
SpellsIfThere Spells (Some d) (Some x) = IsSomeAnd (as_str d) (λ text. Spells text x)

-- a number from 1 to the greatest; the greatest where the member is not there
abbrev pub IsLimit : Option Data → ℕ → Type 0
IsLimit None limit = limit ≡ MAX_PAGE
IsLimit (Some d) limit = (option_and_then as_u64 (as_number d) ≡ Some limit) × ((1 ≤ limit) × (limit ≤ MAX_PAGE))

-- `{"at": .., "namespace": name, "object": id, "relation": name, "subject": subject, "after": tuple, "limit": number}`,
-- whatever `at` is; all but the namespace may be absent
pub record ReadOf (d : Data) (asked : Tupleset) : Type 0 where
  pub only : has_only (codes "at" ∷ codes "namespace" ∷ codes "object" ∷ codes "relation" ∷ codes "subject" ∷ codes "after" ∷ codes "limit" ∷ []) d ≡ true
  pub namespace : IsSomeAnd (text_at (codes "namespace") d) (λ text. SpellsName text asked.namespace)
  pub object : SpellsIfThere SpellsId (get (codes "object") d) asked.object
  pub relation : SpellsIfThere SpellsName (get (codes "relation") d) asked.relation
  pub subject : SpellsIfThere SpellsSubject (get (codes "subject") d) asked.subject
  pub after : SpellsIfThere SpellsTuple (get (codes "after") d) asked.after
  pub limit : IsLimit (get (codes "limit") d) asked.limit

-- the body of a `read` asks for the tupleset, at such a revision
abbrev pub AsksRead : List ℕ → Consistency → Tupleset → Type 0
AsksRead body consistency asked = AsksSo IsZookieOf body (λ d. ReadOf d asked) consistency

-- why the body of a `read` is refused
abbrev pub ReadBodyCause : List ℕ → Refusal → Type 0
ReadBodyCause body = QuestionCause body (λ d. (asked : Tupleset) × ReadOf d asked)

-- `{"tuples": [tuple, ..], "zookie": ..}`
abbrev pub page_data : List Tuple → List ℕ → Data
page_data ts zookie = object_of ((codes "tuples", array (items_of (map (λ t. string (tuple_text t)) ts))) ∷ (codes "zookie", string zookie) ∷ [])
