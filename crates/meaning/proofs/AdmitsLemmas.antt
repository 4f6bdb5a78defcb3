-- Which tuples are admitted, by the test.
use Rattle.std.proofs.Common.{◌≡◌, ℕ, List, true, refl, ap, ◌∙◌, sym, subst}
use Rattle.std.specs.Prelude.{◌&&◌, Contains, Option, Some, None, nat_eq}
use Rattle.std.specs.Option.{option_eq}
use Rattle.std.specs.Cmp.Lexicographic.{same_text, pointwise}
use Rattle.std.proofs.lemmas.Bool.{and_parts}
use Rattle.std.proofs.lemmas.List.Folds.{Any-from_list_any}
use Rattle.names.specs.declared.relation.SubjectType.{SubjectType}
use Rattle.names.specs.declared.tuple.Tuple.{Tuple}
use Rattle.meaning.specs.Config.{Configured, rel_of}
use Rattle.meaning.specs.Admits.{Admits, admits, is_relation, is_type, declares, type_of}
use Rattle.meaning.proofs.KnownRelations.{relation_is}

same_option : (a b : Option (List ℕ)) → option_eq (pointwise nat_eq) a b ≡ true → a ≡ b
same_option None None e = refl
same_option None (Some b) e = cc
same_option (Some a) None e = cc
same_option (Some a) (Some b) e = ap Some (same_text a b (sym e))

type_is : (a b : SubjectType) → is_type a b ≡ true → a ≡ b
type_is a b e =
    let parts = and_parts (pointwise nat_eq a.namespace b.namespace) (option_eq (pointwise nat_eq) a.relation b.relation) e in
    ap (λ x. record { namespace = x; relation = a.relation }) (same_text a.namespace b.namespace (sym parts.0)) ∙ ap (λ x. record { namespace = b.namespace; relation = x }) (same_option a.relation b.relation parts.1)

-- a tuple that passes the test is admitted
pub told_admitted : (config : Configured) (t : Tuple) → admits config t ≡ true → Admits config t
told_admitted config t e =
    let (k, d, lt, at, is) = Any-from_list_any (λ d. is_relation (rel_of t.node) d && declares t.subject d) config.relations e in
    let both = and_parts (is_relation (rel_of t.node) d) (declares t.subject d) is in
    let (j, type, small, there, same) = Any-from_list_any (is_type (type_of t.subject)) d.types both.1 in
    (d, ((k, lt, at), relation_is (rel_of t.node) d both.0), subst (Contains d.types) (sym (type_is (type_of t.subject) type same)) (j, small, there))
