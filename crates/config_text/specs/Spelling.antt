-- Which configuration the texts of one spell.
use Rattle.std.specs.Prelude.{◌≡◌, ℕ, ◌&&◌, Bool, true, IsTrue, List, map, All}
use Rattle.names.specs.Names.{is_name}
use Rattle.names.specs.declared.relation.SubjectType.{SubjectType}
use Rattle.names.specs.Spelling.{IsRelationName, IsSubjectType, type_text}
use Rattle.meaning.specs.Form.{Form, Forms, This, Computed, TupleTo, Union, Intersection, Exclusion, none, more}
use Rattle.meaning.specs.Config.{Defined, Configured}
use Rattle.config_text.specs.Texts.{RelationTexts, ConfigTexts}

-- each text in a name's place is a name
abbrev mutual
  pub form_named : Form → Bool
  form_named This = true
  form_named (Computed c) = is_name c
  form_named (TupleTo t c) = is_name t && is_name c
  form_named (Union ws) = forms_named ws
  form_named (Intersection ws) = forms_named ws
  form_named (Exclusion a b) = form_named a && form_named b

  pub forms_named : Forms → Bool
  forms_named none = true
  forms_named (more w ws) = form_named w && forms_named ws

abbrev pub IsName : List ℕ → Type 0
IsName n = IsTrue (is_name n)

abbrev pub IsNamed : Defined → Type 0
IsNamed d = IsRelationName d.rel × All IsSubjectType d.types × IsTrue (form_named d.form)

abbrev pub AreNamed : Configured → Type 0
AreNamed c = All IsName c.namespaces × All IsNamed c.relations

-- a relation's texts; a type is spelled `namespace` or `namespace#relation`
abbrev pub defined_texts : Defined → RelationTexts
defined_texts d = record { namespace = d.rel.namespace; relation = d.rel.relation; types = map type_text d.types; form = d.form; indexed = d.indexed }

abbrev pub configured_texts : Configured → ConfigTexts
configured_texts c = record { namespaces = c.namespaces; relations = map defined_texts c.relations }

-- the texts are those of the configuration, whose names are names
pub record Spells (texts : ConfigTexts) (c : Configured) : Type 0 where
  pub named : AreNamed c
  pub spelling : configured_texts c ≡ texts

-- the same of a list of parts
pub record AreSpelled {A B : Type 0} (text : A → B) (Is : A → Type 0) (texts : List B) (xs : List A) : Type 0 where
  pub named : All Is xs
  pub spelling : map text xs ≡ texts

abbrev pub SpellNames : List (List ℕ) → List (List ℕ) → Type 0
SpellNames texts ns = AreSpelled (λ n. n) IsName texts ns

abbrev pub SpellTypes : List (List ℕ) → List SubjectType → Type 0
SpellTypes texts ts = AreSpelled type_text IsSubjectType texts ts

abbrev pub SpellsRelation : RelationTexts → Defined → Type 0
SpellsRelation texts d = (defined_texts d ≡ texts) × IsNamed d

abbrev pub SpellRelations : List RelationTexts → List Defined → Type 0
SpellRelations texts ds = AreSpelled defined_texts IsNamed texts ds

-- Texts that spell nothing: one of them, in a name's place, is no name.
abbrev pub SpellNoNames : List (List ℕ) → Type 0
SpellNoNames texts = (ns : List (List ℕ)) → ¬ (SpellNames texts ns)

abbrev pub SpellNoTypes : List (List ℕ) → Type 0
SpellNoTypes texts = (ts : List SubjectType) → ¬ (SpellTypes texts ts)

abbrev pub SpellsNoRelation : RelationTexts → Type 0
SpellsNoRelation texts = (d : Defined) → defined_texts d ≡ texts → ¬ (IsNamed d)

abbrev pub SpellNoRelations : List RelationTexts → Type 0
SpellNoRelations texts = (ds : List Defined) → ¬ (SpellRelations texts ds)

abbrev pub SpellsNothing : ConfigTexts → Type 0
SpellsNothing texts = (c : Configured) → ¬ (Spells texts c)
