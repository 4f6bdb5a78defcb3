-- What the tests of a configuration say where none fails.
use Rattle.std.proofs.Common.{◌≡◌, List, [], ◌∷◌, Bool, true, false, refl, sym, subst, ⊎_elim}
use Rattle.std.specs.Prelude.{Option, Some, None, Contains}
use Rattle.std.specs.List.{list_all}
use Rattle.std.proofs.lemmas.Bool.{and_parts}
use Rattle.names.specs.declared.cause.Cause.{Cause}
use Rattle.names.specs.declared.relation.RelationName.{RelationName}
use Rattle.names.specs.declared.relation.SubjectType.{SubjectType}
use Rattle.meaning.specs.Form.{Form, Forms, This, Computed, TupleTo, Union, Intersection, Exclusion, none, more}
use Rattle.meaning.specs.Config.{Configured, Defined, Has, StepsTo, SomeStepsTo}
use Rattle.meaning.specs.Admits.{has_relation}
use Rattle.meaning.proofs.KnownRelations.{known_has}
use Rattle.meaning.proofs.Lists.{contains_cases, contains_none}
use Rattle.config.specs.Valid.{is_within, has_namespace, has_type, types_stand, types_used, form_computes, forms_compute, computes, has_tuplesets, is_indexable, unless, cause_of}

pub all_test : {A : Type 0} (p : A → Bool) (xs : List A) (x : A) → list_all p xs ≡ true → Contains xs x → p x ≡ true
all_test p [] x e c = absurd (contains_none x c)
all_test p (y ∷ ys) x e c =
    let b = and_parts (p y) (list_all p ys) e in
    ⊎_elim (λ same. subst (λ z. p z ≡ true) same b.0) (λ there. all_test p ys x b.1 there) (contains_cases y x ys c)

-- each test holds
pub record ArePassed (c : Configured) : Type 0 where
  pub limit : is_within c ≡ true
  pub declared_type : list_all (types_stand c) c.relations ≡ true
  pub this : list_all types_used c.relations ≡ true
  pub computed : list_all (computes c) c.relations ≡ true
  pub tupleset : list_all (has_tuplesets c) c.relations ≡ true
  pub indexed : list_all (is_indexable c) c.relations ≡ true

unless_none : (t : Bool) (k : Cause) (o : Option Cause) → unless t k o ≡ None → (t ≡ true) × (o ≡ None)
unless_none true k o e = (refl, e)
unless_none false k o e = cc

pub passed : (c : Configured) → cause_of c ≡ None → ArePassed c
passed c e =
    let limit = unless_none _ _ _ e in
    let type = unless_none _ _ _ limit.1 in
    let this = unless_none _ _ _ type.1 in
    let computed = unless_none _ _ _ this.1 in
    let tupleset = unless_none _ _ _ computed.1 in
    let indexed = unless_none _ _ _ tupleset.1 in
    record {
      limit = limit.0;
      declared_type = type.0;
      this = this.0;
      computed = computed.0;
      tupleset = tupleset.0;
      indexed = indexed.0;
    }

-- the ends of a definition's steps are there
module _ (c : Configured) (d : Defined) (types : (t : SubjectType) → Contains d.types t → has_type c t.namespace t.relation ≡ true) where
  mutual
    step_ends : (w : Form) → form_computes c d.rel.namespace w ≡ true → (sign : Bool) (r : RelationName) → StepsTo c d w sign r → Has c r
    step_ends This e sign r step = known_has c r (and_parts (has_namespace c r.namespace) (has_relation c r) (types (record { namespace = r.namespace; relation = Some r.relation }) step.1)).1
    step_ends (Computed n) e sign r step = subst (Has c) (sym step.1) (known_has c (record { namespace = d.rel.namespace; relation = n }) e)
    step_ends (TupleTo t n) e sign r step = step.2
    step_ends (Union ws) e sign r step = some_step_ends ws e sign r step
    step_ends (Intersection ws) e sign r step = some_step_ends ws e sign r step
    step_ends (Exclusion a b) e sign r step =
        let both = and_parts (form_computes c d.rel.namespace a) (form_computes c d.rel.namespace b) e in
        ⊎_elim (λ left. step_ends a both.0 sign r left) (λ right. step_ends b both.1 right.1.0 r right.1.1) step

    some_step_ends : (ws : Forms) → forms_compute c d.rel.namespace ws ≡ true → (sign : Bool) (r : RelationName) → SomeStepsTo c d ws sign r → Has c r
    some_step_ends none e sign r step = absurd step
    some_step_ends (more w ws) e sign r step =
        let both = and_parts (form_computes c d.rel.namespace w) (forms_compute c d.rel.namespace ws) e in
        ⊎_elim (λ first. step_ends w both.0 sign r first) (λ others. some_step_ends ws both.1 sign r others) step

  pub definition_ends : form_computes c d.rel.namespace d.form ≡ true → (sign : Bool) (r : RelationName) → StepsTo c d d.form sign r → Has c r
  definition_ends e sign r step = step_ends d.form e sign r step

pub ends_there : (c : Configured) → ArePassed c → (d : Defined) → Contains c.relations d → (sign : Bool) (r : RelationName) → StepsTo c d d.form sign r → Has c r
ends_there c tests d has sign r step =
    let stand = (and_parts (list_all (λ t. has_type c t.namespace t.relation) d.types) _ (all_test (types_stand c) c.relations d tests.declared_type has)).0 in
    definition_ends c d (λ t h. all_test (λ (u : SubjectType). has_type c u.namespace u.relation) d.types t stand h) (all_test (computes c) c.relations d tests.computed has) sign r step
