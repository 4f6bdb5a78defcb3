-- What the body of a `lookup` asks, by what `serde_json` reads from it, and what its reply says.
use Rattle.std.specs.Prelude.{ℕ, ◌≡◌, true, List, [], ◌∷◌, IsSomeAnd, map, codes}
use Rattle.serde_json.specs.Data.{Data, string, array}
use Rattle.serde_json.specs.Find.{get}
use Rattle.serde_json.specs.View.{items_of}
use Rattle.config_text.specs.Objects.{has_only, text_at}
use Rattle.names.specs.Spelling.{SpellsObject, object_text}
use Rattle.names.specs.declared.object.Object.{Object}
use Rattle.names.specs.declared.refusal.Refusal.{Refusal}
use Rattle.zookie.specs.declared.consistency.Consistency.{Consistency}
use Rattle.lookup.specs.declared.asked.Lookup.{Lookup}
use Rattle.bodies.specs.Requests.{IsZookieOf, AsksSo, QuestionCause}
use Rattle.bodies.specs.Paging.{SpellsName, SpellsId, SpellsIfThere, IsLimit}
use Rattle.bodies.specs.Replies.{object_of}

-- `{"at": .., "namespace": name, "relation": name, "user": object, "after": id, "limit": number}`, whatever `at` is; it, `after` and `limit` may be absent
pub record LookupOf (d : Data) (asked : Lookup) : Type 0 where
  pub only : has_only (codes "at" ∷ codes "namespace" ∷ codes "relation" ∷ codes "user" ∷ codes "after" ∷ codes "limit" ∷ []) d ≡ true
  pub namespace : IsSomeAnd (text_at (codes "namespace") d) (λ text. SpellsName text asked.relation.namespace)
  pub relation : IsSomeAnd (text_at (codes "relation") d) (λ text. SpellsName text asked.relation.relation)
  pub user_is : IsSomeAnd (text_at (codes "user") d) (λ text. SpellsObject text asked.user)
  pub after : SpellsIfThere SpellsId (get (codes "after") d) asked.after
  pub limit : IsLimit (get (codes "limit") d) asked.limit

-- the body of a `lookup` asks for these objects, at such a revision
abbrev pub AsksLookup : List ℕ → Consistency → Lookup → Type 0
AsksLookup body consistency asked = AsksSo IsZookieOf body (λ d. LookupOf d asked) consistency

-- why the body of a `lookup` is refused
abbrev pub LookupBodyCause : List ℕ → Refusal → Type 0
LookupBodyCause body = QuestionCause body (λ d. (asked : Lookup) × LookupOf d asked)

-- an object of the namespace, by its id
abbrev pub object_in : List ℕ → List ℕ → Object
object_in namespace id = record { namespace = namespace; id = id }

-- `{"objects": [object, ..], "zookie": ..}`: the namespace's objects with these ids
abbrev pub objects_data : List ℕ → List (List ℕ) → List ℕ → Data
objects_data namespace ids zookie =
    object_of ((codes "objects", array (items_of (map (λ id. string (object_text (object_in namespace id))) ids))) ∷ (codes "zookie", string zookie) ∷ [])
