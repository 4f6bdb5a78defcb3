-- Which configurations are valid (Zanzibar, section 2.3, with the type restrictions of OpenFGA), and the first cause for which one is not.
use Rattle.std.specs.Prelude.{◌≡◌, ℕ, ◌&&◌, ◌||◌, Bool, true, false, cond, not, List, [], ◌∷◌, Option, Some, None, Contains, length, nat_eq, nat_le, nat_lt}
use Rattle.std.specs.List.{list_any, list_all}
use Rattle.std.specs.Cmp.Lexicographic.{pointwise}
use Rattle.names.specs.declared.limits.TheConstants.{MAX_NAMESPACES, MAX_RELATIONS, MAX_TYPES, MAX_REWRITE_NODES, MAX_REWRITE_DEPTH}
use Rattle.names.specs.declared.relation.RelationName.{RelationName}
use Rattle.names.specs.declared.relation.SubjectType.{SubjectType}
use Rattle.names.specs.declared.cause.Cause.{Cause}
use Rattle.names.specs.declared.cause.Cause.TheVariants.{Limit, DeclaredType, This, Computed, Tupleset, Indexed}
use Rattle.meaning.specs.Form.{Form, Forms, TupleTo, Union, Intersection, Exclusion, none, more}
use Rattle.meaning.specs.Form as form
use Rattle.meaning.specs.Levels.{IsLevel}
use Rattle.meaning.specs.Config.{Configured, Defined, Step, relation_in}
use Rattle.meaning.specs.Admits.{is_relation, is_type, has_relation}
use Rattle.config_text.specs.Canonical.{is_this}
use Rattle.config_text.specs.Size.{form_nodes, form_depth}
use Rattle.config_text.specs.Spelling.{AreNamed}

-- so many nodes and so deep a rewrite are allowed
abbrev pub is_small_form : Form → Bool
is_small_form w = nat_le (form_nodes w) MAX_REWRITE_NODES && nat_le (form_depth w) MAX_REWRITE_DEPTH

-- so many types, and so many nodes and so deep a rewrite, are allowed
abbrev pub is_small : Defined → Bool
is_small d = nat_le (length d.types) MAX_TYPES && nat_le (form_nodes d.form) MAX_REWRITE_NODES && nat_le (form_depth d.form) MAX_REWRITE_DEPTH

-- so many namespaces, and so many relations in all, are allowed
abbrev pub is_within : Configured → Bool
is_within c = nat_le (length c.namespaces) MAX_NAMESPACES && nat_le (length c.relations) MAX_RELATIONS && list_all is_small c.relations

abbrev pub has_namespace : Configured → List ℕ → Bool
has_namespace c n = list_any (pointwise nat_eq n) c.namespaces

-- the namespace that a type names is there, and so is the relation, where it names one
abbrev pub has_type : Configured → List ℕ → Option (List ℕ) → Bool
has_type c n None = has_namespace c n
has_type c n (Some r) = has_namespace c n && has_relation c (relation_in n r)

abbrev pub have_types : Configured → List SubjectType → Bool
have_types c types = list_all (λ t. has_type c t.namespace t.relation) types

-- a type stands twice
abbrev pub is_twice : List SubjectType → Bool
is_twice [] = false
is_twice (t ∷ ts) = list_any (is_type t) ts || is_twice ts

-- each type is there, and none stands twice
abbrev pub types_stand : Configured → Defined → Bool
types_stand c d = have_types c d.types && not (is_twice d.types)

-- the form has `this` in it
abbrev mutual
  pub uses_this : Form → Bool
  uses_this form.This = true
  uses_this (form.Computed r) = false
  uses_this (TupleTo t r) = false
  uses_this (Union ws) = some_use_this ws
  uses_this (Intersection ws) = some_use_this ws
  uses_this (Exclusion a b) = uses_this a || uses_this b

  pub some_use_this : Forms → Bool
  some_use_this none = false
  some_use_this (more w ws) = uses_this w || some_use_this ws

abbrev pub has_types : Defined → Bool
has_types d = nat_lt 0 (length d.types)

-- it declares types exactly where it has `this`
abbrev pub types_used : Defined → Bool
types_used d = cond (uses_this d.form) (has_types d) (not (has_types d))

-- each computed relation of the form is one of the namespace n
abbrev mutual
  pub form_computes : Configured → List ℕ → Form → Bool
  form_computes c n form.This = true
  form_computes c n (form.Computed r) = has_relation c (relation_in n r)
  form_computes c n (TupleTo t r) = true
  form_computes c n (Union ws) = forms_compute c n ws
  form_computes c n (Intersection ws) = forms_compute c n ws
  form_computes c n (Exclusion a b) = form_computes c n a && form_computes c n b

  pub forms_compute : Configured → List ℕ → Forms → Bool
  forms_compute c n none = true
  forms_compute c n (more w ws) = form_computes c n w && forms_compute c n ws

abbrev pub computes : Configured → Defined → Bool
computes c d = form_computes c d.rel.namespace d.form

-- no relation is named: the type is one of objects
abbrev pub names_none : Option (List ℕ) → Bool
names_none None = true
names_none (Some r) = false

-- some type's namespace has the relation r
abbrev pub some_has : Configured → List ℕ → List SubjectType → Bool
some_has c r types = list_any (λ t. has_relation c (relation_in t.namespace r)) types

-- its rewrite is `this`, its types are of objects, and some type's namespace has the relation
abbrev pub is_parental : Configured → List ℕ → Defined → Bool
is_parental c r d = is_this d.form && list_all (λ t. names_none t.relation) d.types && some_has c r d.types

-- the relation t of the namespace n is there, and can be the tupleset for r
abbrev pub is_tupleset : Configured → List ℕ → List ℕ → List ℕ → Bool
is_tupleset c n t r = list_any (λ d. is_relation (relation_in n t) d && is_parental c r d) c.relations

-- each tupleset of the form can be one
abbrev mutual
  pub tuplesets_fit : Configured → List ℕ → Form → Bool
  tuplesets_fit c n form.This = true
  tuplesets_fit c n (form.Computed r) = true
  tuplesets_fit c n (TupleTo t r) = is_tupleset c n t r
  tuplesets_fit c n (Union ws) = all_tuplesets_fit c n ws
  tuplesets_fit c n (Intersection ws) = all_tuplesets_fit c n ws
  tuplesets_fit c n (Exclusion a b) = tuplesets_fit c n a && tuplesets_fit c n b

  pub all_tuplesets_fit : Configured → List ℕ → Forms → Bool
  all_tuplesets_fit c n none = true
  all_tuplesets_fit c n (more w ws) = tuplesets_fit c n w && all_tuplesets_fit c n ws

abbrev pub has_tuplesets : Configured → Defined → Bool
has_tuplesets c d = tuplesets_fit c d.rel.namespace d.form

-- d is the relation r, and is indexed
abbrev pub is_indexed_relation : RelationName → Defined → Bool
is_indexed_relation r d = is_relation r d && d.indexed

abbrev pub is_indexed : Configured → RelationName → Bool
is_indexed c r = list_any (is_indexed_relation r) c.relations

-- of this, computed and union alone, where the computed relations of the namespace n are indexed
abbrev mutual
  pub form_indexable : Configured → List ℕ → Form → Bool
  form_indexable c n form.This = true
  form_indexable c n (form.Computed r) = is_indexed c (relation_in n r)
  form_indexable c n (TupleTo t r) = false
  form_indexable c n (Union ws) = forms_indexable c n ws
  form_indexable c n (Intersection ws) = false
  form_indexable c n (Exclusion a b) = false

  pub forms_indexable : Configured → List ℕ → Forms → Bool
  forms_indexable c n none = true
  forms_indexable c n (more w ws) = form_indexable c n w && forms_indexable c n ws

-- the relation that a type names, where it names one, is indexed
abbrev pub type_indexed : Configured → List ℕ → Option (List ℕ) → Bool
type_indexed c n None = true
type_indexed c n (Some r) = is_indexed c (relation_in n r)

abbrev pub types_indexed : Configured → List SubjectType → Bool
types_indexed c types = list_all (λ t. type_indexed c t.namespace t.relation) types

-- where the relation is indexed, so is each that it computes or declares
abbrev pub is_indexable : Configured → Defined → Bool
is_indexable c d = not d.indexed || (form_indexable c d.rel.namespace d.form && types_indexed c d.types)

-- No cause applies: one line for each.
pub record IsValid (c : Configured) : Type 0 where
  pub name : AreNamed c
  pub limit : is_within c ≡ true
  pub declared_type : list_all (types_stand c) c.relations ≡ true
  pub this : list_all types_used c.relations ≡ true
  pub computed : list_all (computes c) c.relations ≡ true
  pub tupleset : list_all (has_tuplesets c) c.relations ≡ true
  pub indexed : list_all (is_indexable c) c.relations ≡ true
  pub levels : (d : Defined) → Contains c.relations d → (k : ℕ) × IsLevel (Step c) d.rel k

-- the cause, where the test is false; else what is found after it
abbrev pub unless : Bool → Cause → Option Cause → Option Cause
unless test cause others = cond test others (Some cause)

-- the first cause before `cycle` that applies to a configuration whose names are names
abbrev pub cause_of : Configured → Option Cause
cause_of c =
    unless (is_within c) Limit (
    unless (list_all (types_stand c) c.relations) DeclaredType (
    unless (list_all types_used c.relations) This (
    unless (list_all (computes c) c.relations) Computed (
    unless (list_all (has_tuplesets c) c.relations) Tupleset (
    unless (list_all (is_indexable c) c.relations) Indexed
    None)))))
