-- The form of a configuration's JSON, and what it says.
use Rattle.std.specs.Prelude.{ℕ, ◌++◌, Bool, false, cond, List, [], ◌∷◌, Option, Some, None, option_and_then, codes}
use Rattle.serde_json.specs.Data.{Data, null, boolean, number, string, array, object, Items, no_items, item, Members, no_members, member}
use Rattle.serde_json.specs.Find.{get, as_str, as_bool, as_array, as_object}
use Rattle.meaning.specs.Form.{Form, This, Computed, TupleTo, Union, Intersection, Exclusion}
use Rattle.config_text.specs.Forms.{forms_of}
use Rattle.config_text.specs.Objects.{is_text, has_only, text_at}
use Rattle.config_text.specs.Texts.{RelationTexts, ConfigTexts}

-- the first and the others, where all can be read
abbrev pub both : {A : Type 0} → Option A → Option (List A) → Option (List A)
both None r = None
both (Some x) None = None
both (Some x) (Some xs) = Some (x ∷ xs)

abbrev pub texts_read : Items → Option (List (List ℕ))
texts_read no_items = Some []
texts_read (item d ds) = both (as_str d) (texts_read ds)

-- a list of texts; none where it is absent
abbrev pub types_read : Option Data → Option (List (List ℕ))
types_read None = Some []
types_read (Some d) = option_and_then texts_read (as_array d)

abbrev pub this_read : List ℕ → Option Form
this_read s = cond (is_text s (codes "this")) (Some This) None

abbrev pub computed_read : Option (List ℕ) → Option Form
computed_read None = None
computed_read (Some relation) = Some (Computed relation)

abbrev pub tuple_to_from : Option (List ℕ) → Option (List ℕ) → Option Form
tuple_to_from None relation = None
tuple_to_from (Some tupleset) None = None
tuple_to_from (Some tupleset) (Some relation) = Some (TupleTo tupleset relation)

-- an object of two texts
abbrev pub tuple_to_read : Data → Option Form
tuple_to_read d = cond (has_only (codes "tupleset" ∷ codes "relation" ∷ []) d)
    (tuple_to_from (text_at (codes "tupleset") d) (text_at (codes "relation") d))
    None

-- one part or more
abbrev pub union_read : Option (List Form) → Option Form
union_read None = None
union_read (Some []) = None
union_read (Some (f ∷ fs)) = Some (Union (forms_of (f ∷ fs)))

abbrev pub intersection_read : Option (List Form) → Option Form
intersection_read None = None
intersection_read (Some []) = None
intersection_read (Some (f ∷ fs)) = Some (Intersection (forms_of (f ∷ fs)))

-- two parts
abbrev pub exclusion_read : Option (List Form) → Option Form
exclusion_read None = None
exclusion_read (Some []) = None
exclusion_read (Some (f ∷ [])) = None
exclusion_read (Some (f ∷ g ∷ [])) = Some (Exclusion f g)
exclusion_read (Some (f ∷ g ∷ h ∷ fs)) = None

-- the rewrite of an object's one member, whose value is read as the parts where it is a list of rewrites
abbrev pub named_read : List ℕ → Data → Option (List Form) → Option Form
named_read k d parts =
    cond (is_text k (codes "computed")) (computed_read (as_str d))
    (cond (is_text k (codes "tuple_to")) (tuple_to_read d)
    (cond (is_text k (codes "union")) (union_read parts)
    (cond (is_text k (codes "intersection")) (intersection_read parts)
    (cond (is_text k (codes "exclusion")) (exclusion_read parts) None))))

abbrev mutual
  -- the rewrite that a value stands for: `"this"`, or an object of one member
  pub form_read : Data → Option Form
  form_read null = None
  form_read (boolean b) = None
  form_read (number n) = None
  form_read (string s) = this_read s
  form_read (array ds) = None
  form_read (object ms) = member_read ms

  pub member_read : Members → Option Form
  member_read no_members = None
  member_read (member k d no_members) = named_read k d (parts_read d)
  member_read (member k d (member l e ms)) = None

  pub parts_read : Data → Option (List Form)
  parts_read null = None
  parts_read (boolean b) = None
  parts_read (number n) = None
  parts_read (string s) = None
  parts_read (array ds) = forms_read ds
  parts_read (object ms) = None

  pub forms_read : Items → Option (List Form)
  forms_read no_items = Some []
  forms_read (item d ds) = both (form_read d) (forms_read ds)

-- `"this"` where it is absent
abbrev pub rewrite_read : Option Data → Option Form
rewrite_read None = Some This
rewrite_read (Some d) = form_read d

-- true or false; false where it is absent
abbrev pub indexed_read : Option Data → Option Bool
indexed_read None = Some false
indexed_read (Some d) = as_bool d

abbrev pub relation_from : List ℕ → List ℕ → Option (List (List ℕ)) → Option Form → Option Bool → Option RelationTexts
relation_from n r None form indexed = None
relation_from n r (Some types) None indexed = None
relation_from n r (Some types) (Some form) None = None
relation_from n r (Some types) (Some form) (Some indexed) = Some (record { namespace = n; relation = r; types = types; form = form; indexed = indexed })

abbrev pub relation_members : List (List ℕ)
relation_members = codes "types" ∷ codes "rewrite" ∷ codes "indexed" ∷ []

-- a relation of a namespace, each of whose members may be absent
abbrev pub relation_read : List ℕ → List ℕ → Data → Option RelationTexts
relation_read n r d = cond (has_only relation_members d)
    (relation_from n r (types_read (get (codes "types") d)) (rewrite_read (get (codes "rewrite") d)) (indexed_read (get (codes "indexed") d)))
    None

-- the relations of a namespace by their names
abbrev pub relations_read : List ℕ → Members → Option (List RelationTexts)
relations_read n no_members = Some []
relations_read n (member r d ms) = both (relation_read n r d) (relations_read n ms)

-- the relations of a namespace, which is an object
abbrev pub namespace_read : List ℕ → Data → Option (List RelationTexts)
namespace_read n d = option_and_then (relations_read n) (as_object d)

abbrev pub with_namespace : List ℕ → Option (List RelationTexts) → Option ConfigTexts → Option ConfigTexts
with_namespace n None rest = None
with_namespace n (Some rs) None = None
with_namespace n (Some rs) (Some rest) = Some (record { namespaces = n ∷ rest.namespaces; relations = rs ++ rest.relations })

-- the namespaces by their names
abbrev pub namespaces_read : Members → Option ConfigTexts
namespaces_read no_members = Some (record { namespaces = []; relations = [] })
namespaces_read (member n d ms) = with_namespace n (namespace_read n d) (namespaces_read ms)

-- an object whose one member `namespaces` is an object
abbrev pub config_read : Data → Option ConfigTexts
config_read d = cond (has_only (codes "namespaces" ∷ []) d)
    (option_and_then namespaces_read (option_and_then as_object (get (codes "namespaces") d)))
    None
