-- One configuration admits what another does where it admits one tuple of each declared type.
use Rattle.std.proofs.Common.{◌≡◌, ℕ, ◌+◌, ◌<◌, ◌≤◌, List, [], ◌∷◌, length, get_or, drop, map, Bool, true, false, refl, ap, sym, ◌∙◌}
use Rattle.std.specs.Prelude.{◌&&◌, Contains, Option, Some, None, nat_eq}
use Rattle.std.specs.List.{list_all}
use Rattle.std.specs.Option.{option_eq}
use Rattle.std.specs.Cmp.Lexicographic.{pointwise, bytes_decides}
use Rattle.std.proofs.lemmas.List.{at_drop_all, drop_more}
use Rattle.std.proofs.lemmas.List.Folds.{list_any-from_Any}
use Rattle.names.specs.declared.relation.RelationName.{RelationName}
use Rattle.names.specs.declared.relation.SubjectType.{SubjectType}
use Rattle.names.specs.declared.tuple.Tuple.{Tuple}
use Rattle.meaning.specs.Config.{Configured, Defined}
use Rattle.meaning.specs.Admits.{admits, declares, is_relation, is_type, type_of}
use Rattle.meaning.proofs.KnownRelations.{is_itself}
use Rattle.meaning.proofs.AdmitsLemmas.{told_admitted}
use Rattle.meaning.proofs.Lists.{contains_here, contains_there}
use Rattle.config.proofs.Tested.{all_test}

-- a tuple of a relation, whose subject is of a type, and no object of which has an id
abbrev pub of_type : RelationName → SubjectType → Tuple
of_type r type = record {
  node = record { object = record { namespace = r.namespace; id = [] }; relation = r.relation };
  subject = record { object = record { namespace = type.namespace; id = [] }; relation = type.relation };
}

-- the test of a relation that the code makes
abbrev pub admits_types : Configured → Defined → Bool
admits_types config d = list_all (λ type. admits config (of_type d.rel type)) d.types

-- where it passes, each tuple that was admitted is
pub each_admitted : (config earlier : Configured) → list_all (admits_types config) earlier.relations ≡ true → (t : Tuple) → admits earlier t ≡ true → admits config t ≡ true
each_admitted config earlier passed t e =
    let (d, (has, is), type) = told_admitted earlier t e in
    let typed = all_test (λ u. admits config (of_type d.rel u)) d.types (type_of t.subject) (all_test (admits_types config) earlier.relations d passed has) type in
    sym (ap (λ (r : RelationName). admits config (of_type r (type_of t.subject))) is) ∙ typed

some_fails : {A : Type 0} (p : A → Bool) (xs : List A) → list_all p xs ≡ false → (x : A) × Contains xs x × (p x ≡ false)
some_fails p [] e = cc
some_fails {A = A} p (x ∷ xs) e = by_test (p x) refl (some_fails p xs)
  where
    by_test : (b : Bool) → p x ≡ b → (list_all p xs ≡ false → (y : A) × Contains xs y × (p y ≡ false)) → (y : A) × Contains (x ∷ xs) y × (p y ≡ false)
    by_test false is others = (x, contains_here x xs, is)
    by_test true is others =
        let (y, has, fails) = others (sym (ap (λ b. b && list_all p xs) is) ∙ e) in
        (y, contains_there x y xs has, fails)

same_name : (a : List ℕ) → pointwise nat_eq a a ≡ true
same_name a = (bytes_decides a a).1 refl

same_option : (a : Option (List ℕ)) → option_eq (pointwise nat_eq) a a ≡ true
same_option None = refl
same_option (Some a) = same_name a

same_type : (a : SubjectType) → is_type a a ≡ true
same_type a = ap (λ b. b && option_eq (pointwise nat_eq) a.relation a.relation) (same_name a.namespace) ∙ same_option a.relation

declared : (d : Defined) (type : SubjectType) → Contains d.types type → declares (of_type d.rel type).subject d ≡ true
declared d type (k, lt, at) = list_any-from_Any (is_type type) d.types (k, type, lt, at, same_type type)

admitted : (config : Configured) (d : Defined) (type : SubjectType) → Contains config.relations d → Contains d.types type → admits config (of_type d.rel type) ≡ true
admitted config d type (k, lt, at) has =
    list_any-from_Any (λ e. is_relation d.rel e && declares (of_type d.rel type).subject e) config.relations
    (k, d, lt, at, ap (λ b. b && declares (of_type d.rel type).subject d) (is_itself d.rel d refl) ∙ declared d type has)

-- where it fails, some tuple that was admitted is not
pub some_refused : (config earlier : Configured) → list_all (admits_types config) earlier.relations ≡ false → (t : Tuple) × (admits earlier t ≡ true) × (admits config t ≡ false)
some_refused config earlier failed =
    let (d, has, fails) = some_fails (admits_types config) earlier.relations failed in
    let (type, declares_it, refused) = some_fails (λ u. admits config (of_type d.rel u)) d.types fails in
    (of_type d.rel type, admitted earlier d type has declares_it, refused)

-- what is known of a list whose elements before a place passed
module _ {A B : Type 0} (p : B → Bool) (f : A → B) (xs : List A) (i : ℕ) (same : list_all p (map f (drop i xs)) ≡ list_all p (map f xs)) where
  pub all_passed : length xs ≤ i → list_all p (map f xs) ≡ true
  all_passed past = sym same ∙ at_drop_all (λ ys. list_all p (map f ys)) xs i past

  pub one_failed : (x : A) → i < length xs → x ≡ get_or xs i x → p (f x) ≡ false → list_all p (map f xs) ≡ false
  one_failed x lt is fails =
      sym same
      ∙ ap (λ ys. list_all p (map f ys)) (drop_more xs i x lt)
      ∙ ap (λ b. b && list_all p (map f (drop (i + 1) xs))) (ap (λ y. p (f y)) (sym is) ∙ fails)

  pub one_passed : (x : A) → i < length xs → x ≡ get_or xs i x → p (f x) ≡ true → list_all p (map f (drop (i + 1) xs)) ≡ list_all p (map f xs)
  one_passed x lt is passes =
      sym (ap (λ ys. list_all p (map f ys)) (drop_more xs i x lt)
      ∙ ap (λ b. b && list_all p (map f (drop (i + 1) xs))) (ap (λ y. p (f y)) (sym is) ∙ passes))
      ∙ same
