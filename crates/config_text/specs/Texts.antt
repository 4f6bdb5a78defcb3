-- What a configuration's JSON says, with a text in each name's place.
use Rattle.std.specs.Prelude.{◌≡◌, ℕ, Bool, List, Option, String, map, option_map, string_bytes}
use Rattle.std.specs.Global.{Global, Vec}
use Rattle.config_text.specs.declared.draft.Draft.{Draft}
use Rattle.config_text.specs.declared.draft.DraftRelation.{DraftRelation}
use Rattle.config_text.specs.declared.draft.DraftRewrite.{DraftRewrite, fold-DraftRewrite}
use Rattle.config_text.specs.declared.draft.DraftRewrite.TheOpen.{DraftRewrite-F}
use Rattle.meaning.specs.Form.{Form, This, Computed, TupleTo, Union, Intersection, Exclusion}
use Rattle.config_text.specs.Forms.{forms_of}

pub record RelationTexts : Type 0 where
  pub namespace : List ℕ
  pub relation : List ℕ
  pub types : List (List ℕ)
  pub form : Form
  pub indexed : Bool

pub record ConfigTexts : Type 0 where
  pub namespaces : List (List ℕ)
  pub relations : List RelationTexts

abbrev pub draft_step : DraftRewrite-F Form → Form
draft_step DraftRewrite-F.This = This
draft_step (DraftRewrite-F.Computed c) = Computed (string_bytes c)
draft_step (DraftRewrite-F.TupleTo t c) = TupleTo (string_bytes t) (string_bytes c)
draft_step (DraftRewrite-F.Union v) = Union (forms_of v.items)
draft_step (DraftRewrite-F.Intersection v) = Intersection (forms_of v.items)
draft_step (DraftRewrite-F.Exclusion a b) = Exclusion a.value b.value

-- the form of a draft's rewrite
abbrev pub draft_form : DraftRewrite → Form
draft_form = fold-DraftRewrite Form draft_step

-- the texts that a draft keeps
abbrev pub relation_texts : DraftRelation → RelationTexts
relation_texts r = record { namespace = string_bytes r.namespace; relation = string_bytes r.relation; types = map string_bytes r.types.items; form = draft_form r.rewrite; indexed = r.indexed }

abbrev pub config_texts : Draft → ConfigTexts
config_texts d = record { namespaces = map string_bytes d.namespaces.items; relations = map relation_texts d.relations.items }

-- The same of several.
abbrev pub strings_texts : Vec (String Global) → List (List ℕ)
strings_texts v = map string_bytes v.items

abbrev pub draft_forms : Vec DraftRewrite → List Form
draft_forms v = map draft_form v.items

abbrev pub relations_texts : Vec DraftRelation → List RelationTexts
relations_texts v = map relation_texts v.items

-- what is kept stands for what is said, or there is neither
abbrev pub StandsFor : {A B : Type 0} → (A → B) → Option B → Option A → Type 0
StandsFor meaning said kept = option_map meaning kept ≡ said
