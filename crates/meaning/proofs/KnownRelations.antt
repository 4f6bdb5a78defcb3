-- The relations of a configuration, found by their names.
use Rattle.std.proofs.Common.{◌≡◌, true, false, refl, ap, ◌∙◌, sym}
use Rattle.std.specs.Prelude.{◌&&◌, nat_eq}
use Rattle.std.specs.Cmp.Lexicographic.{same_text, pointwise, bytes_decides}
use Rattle.std.proofs.lemmas.Bool.{and_parts}
use Rattle.std.proofs.lemmas.List.Folds.{Any-from_list_any, list_any-from_Any}
use Rattle.names.specs.declared.relation.RelationName.{RelationName}
use Rattle.meaning.specs.Config.{Configured, Defined, Has}
use Rattle.meaning.specs.Admits.{is_relation, has_relation}

-- the relation of a definition
pub relation_is : (r : RelationName) (d : Defined) → is_relation r d ≡ true → d.rel ≡ r
relation_is r d e =
    let b = and_parts (pointwise nat_eq d.rel.namespace r.namespace) (pointwise nat_eq d.rel.relation r.relation) e in
    let space = same_text d.rel.namespace r.namespace (sym b.0) in
    let name = same_text d.rel.relation r.relation (sym b.1) in
    ap (λ x. record { namespace = x; relation = d.rel.relation }) space ∙ ap (λ x. record { namespace = r.namespace; relation = x }) name

pub is_itself : (r : RelationName) (d : Defined) → d.rel ≡ r → is_relation r d ≡ true
is_itself r d e =
    ap (λ b. b && pointwise nat_eq d.rel.relation r.relation) ((bytes_decides d.rel.namespace r.namespace).1 (ap (λ q. q.namespace) e))
    ∙ (bytes_decides d.rel.relation r.relation).1 (ap (λ q. q.relation) e)

-- whether a relation is there, and its test
pub known_has : (config : Configured) (r : RelationName) → has_relation config r ≡ true → Has config r
known_has config r e = let (k, d, lt, at, is) = Any-from_list_any (is_relation r) config.relations e in (d, ((k, lt, at), relation_is r d is))

pub has_known : (config : Configured) (r : RelationName) → Has config r → has_relation config r ≡ true
has_known config r (d, ((k, lt, at), e)) = list_any-from_Any (is_relation r) config.relations (k, d, lt, at, is_itself r d e)

pub not_known : (config : Configured) (r : RelationName) → (Has config r → ⊥) → has_relation config r ≡ false
not_known config r none =
    elim (has_relation config r) as (λ b. has_relation config r ≡ b → b ≡ false) [
      | true ↦ λ e. absurd (none (known_has config r e))
      | false ↦ λ e. refl
    ] refl
