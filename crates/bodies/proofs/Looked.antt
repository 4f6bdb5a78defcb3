-- What bodies ask of pages and of objects, and do not ask.
use Rattle.std.proofs.Common.{◌≡◌, ℕ, false, List, refl}
use Rattle.std.specs.Prelude.{Some, None, codes}
use Rattle.serde_json.specs.Data.{Data}
use Rattle.serde_json.specs.Written.{has_float}
use Rattle.config_text.specs.Objects.{text_at}
use Rattle.names.specs.Spelling.{SpellsObject, tuple_text, object_text}
use Rattle.names.specs.declared.object.Object.{Object}
use Rattle.names.specs.declared.tuple.Tuple.{Tuple}
use Rattle.bodies.specs.Paging.{SpellsName, ReadOf, page_data}
use Rattle.bodies.specs.Looking.{LookupOf, object_in, objects_data}
use Rattle.bodies.specs.inside.Forms.{IsOfNoRead, IsOfNoLookup}
use Rattle.bodies.proofs.Listing.{texts_plain}
use Rattle.bodies.proofs.Options.{so_of, not_so}

module _ (d : Data) where
  pub read_no_namespace : text_at (codes "namespace") d ≡ None → IsOfNoRead d
  read_no_namespace none asked f = not_so (λ s. SpellsName s asked.namespace) (text_at (codes "namespace") d) none f.namespace

  pub lookup_no_namespace : text_at (codes "namespace") d ≡ None → IsOfNoLookup d
  lookup_no_namespace none asked f = not_so (λ s. SpellsName s asked.relation.namespace) (text_at (codes "namespace") d) none f.namespace

  pub lookup_no_relation : text_at (codes "relation") d ≡ None → IsOfNoLookup d
  lookup_no_relation none asked f = not_so (λ s. SpellsName s asked.relation.relation) (text_at (codes "relation") d) none f.relation

  pub lookup_no_user : text_at (codes "user") d ≡ None → IsOfNoLookup d
  lookup_no_user none asked f = not_so (λ s. SpellsObject s asked.user) (text_at (codes "user") d) none f.user_is

  pub lookup_other_user : (text : List ℕ) → Some text ≡ text_at (codes "user") d → ((o : Object) → SpellsObject text o → ⊥) → IsOfNoLookup d
  lookup_other_user text there not asked f = not asked.user (so_of (λ s. SpellsObject s asked.user) (text_at (codes "user") d) text there f.user_is)

pub page_plain : (ts : List Tuple) (zookie : List ℕ) → has_float (page_data ts zookie) ≡ false
page_plain ts zookie = rw (texts_plain tuple_text ts) refl

pub objects_plain : (namespace : List ℕ) (ids : List (List ℕ)) (zookie : List ℕ) → has_float (objects_data namespace ids zookie) ≡ false
objects_plain namespace ids zookie = rw (texts_plain (λ id. object_text (object_in namespace id)) ids) refl
