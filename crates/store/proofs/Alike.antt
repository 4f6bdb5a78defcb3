-- Tuples of one kind are admitted alike.
use Rattle.std.proofs.Common.{◌≡◌, ℕ, ◌+◌, ◌-◌, ◌<◌, ◌≤◌, ◌⊎◌, inl, inr, List, [], ◌∷◌, ◌++◌, length, drop, get_or, refl, ap, sym, subst, ◌∙◌, arith}
use Rattle.std.specs.Prelude.{◌&&◌, Bool, true, Option, Some, None, nat_eq, map, All, Contains}
use Rattle.std.specs.List.{list_any}
use Rattle.std.specs.Option.{option_eq}
use Rattle.std.specs.Cmp.Lexicographic.{pointwise, same_text}
use Rattle.std.proofs.lemmas.Bool.{and_parts, cases_lt}
use Rattle.std.proofs.lemmas.List.{get_or_default, get_or-drop, length-drop}
use Rattle.std.proofs.lemmas.List.Elements.{All-push, All-contains, All-weaker}
use Rattle.names.specs.declared.relation.RelationName.{RelationName}
use Rattle.names.specs.declared.relation.SubjectType.{SubjectType}
use Rattle.names.specs.declared.tuple.Tuple.{Tuple}
use Rattle.meaning.specs.Config.{Configured, rel_of}
use Rattle.meaning.specs.Admits.{admits, is_relation, is_type, type_of}
use Rattle.store.specs.declared.kinds.Kind.{Kind}
use Rattle.store.specs.declared.parts.ReadConfig.{ReadConfig}
use Rattle.store.specs.Written.{ConfigAt, config_up_to}
use Rattle.store.specs.inside.Reading.{as_config, Rise, AreLater, ArePartedAt}
use Rattle.store.proofs.Halving.{rises, last_is}

same_option : (a b : Option (List ℕ)) → option_eq (pointwise nat_eq) a b ≡ true → a ≡ b
same_option None None e = refl
same_option None (Some b) e = cc
same_option (Some a) None e = cc
same_option (Some a) (Some b) e = ap Some (same_text a b (sym e))

type_is : (a b : SubjectType) → is_type a b ≡ true → a ≡ b
type_is a b e =
    let parts = and_parts (pointwise nat_eq a.namespace b.namespace) (option_eq (pointwise nat_eq) a.relation b.relation) e in
    ap (λ x. record { namespace = x; relation = a.relation }) (same_text a.namespace b.namespace (sym parts.0)) ∙ ap (λ x. record { namespace = b.namespace; relation = x }) (same_option a.relation b.relation parts.1)

-- they are of one relation, and their subjects of one type
abbrev pub is_alike : Tuple → Tuple → Bool
is_alike a b =
    pointwise nat_eq a.node.object.namespace b.node.object.namespace && pointwise nat_eq a.node.relation b.node.relation && is_type (type_of a.subject) (type_of b.subject)

pub alike : (a b : Tuple) → is_alike a b ≡ true → (rel_of a.node ≡ rel_of b.node) × (type_of a.subject ≡ type_of b.subject)
alike a b e =
    let both = and_parts (pointwise nat_eq a.node.object.namespace b.node.object.namespace && pointwise nat_eq a.node.relation b.node.relation) (is_type (type_of a.subject) (type_of b.subject)) e in
    let names = and_parts (pointwise nat_eq a.node.object.namespace b.node.object.namespace) (pointwise nat_eq a.node.relation b.node.relation) both.0 in (
      ap (λ x. record { namespace = x; relation = a.node.relation }) (same_text a.node.object.namespace b.node.object.namespace (sym names.0))
          ∙ ap (λ x. record { namespace = b.node.object.namespace; relation = x }) (same_text a.node.relation b.node.relation (sym names.1)),
      type_is (type_of a.subject) (type_of b.subject) both.1,
    )

-- what a configuration says of a tuple, by its relation and its subject's type
abbrev says : Configured → RelationName → SubjectType → Bool
says config r type = list_any (λ d. is_relation r d && list_any (is_type type) d.types) config.relations

admitted_alike : (config : Configured) (a b : Tuple) → rel_of a.node ≡ rel_of b.node → type_of a.subject ≡ type_of b.subject → admits config a ≡ admits config b
admitted_alike config a b relation type = ap (λ r. says config r (type_of a.subject)) relation ∙ ap (says config (rel_of b.node)) type

-- the configuration admits the tuple
abbrev pub Allows : Tuple → ReadConfig → Type 0
Allows t c = admits c.config t ≡ true

-- so does each from the place on
abbrev pub IsSince : List ReadConfig → Tuple → ℕ → Type 0
IsSince configs t since = (since ≤ length configs) × All (Allows t) (drop since configs)

abbrev pub AreSince : List ReadConfig → List Kind → Type 0
AreSince configs kinds = All (λ (kind : Kind). IsSince configs kind.tuple kind.since) kinds

-- that by places
pub since_at : (configs : List ReadConfig) (t : Tuple) (since : ℕ) → All (Allows t) (drop since configs) → (k : ℕ) (d : ReadConfig) → since ≤ k → k < length configs → admits (get_or configs k d).config t ≡ true
since_at configs t since all k d from lt =
    let within : k - since < length (drop since configs) = let long = length-drop since configs in omega (arith, from, lt, long) in
    let same : since + (k - since) ≡ k = omega (arith, from) in
    subst (Allows t) (get_or-drop since configs (k - since) d ∙ ap (λ n. get_or configs n d) same) (all (k - since) d within)

all_since : (configs : List ReadConfig) (t : Tuple) (since : ℕ) → ((k : ℕ) (d : ReadConfig) → since ≤ k → k < length configs → admits (get_or configs k d).config t ≡ true) → All (Allows t) (drop since configs)
all_since configs t since each = λ k d lt.
    let long = length-drop since configs in
    subst (Allows t) (sym (get_or-drop since configs k d)) (each (since + k) d (omega arith) (omega (arith, lt, long)))

-- the place that is kept is one for the tuple
pub since_alike : (configs : List ReadConfig) (kinds : List Kind) (kind : Kind) (t : Tuple) (since : ℕ) → AreSince configs kinds → Contains kinds kind → kind.since ≡ since → rel_of kind.tuple.node ≡ rel_of t.node → type_of kind.tuple.subject ≡ type_of t.subject → IsSince configs t since
since_alike configs kinds kind t since are has same relation type =
    let of_kind = All-contains (λ (k : Kind). IsSince configs k.tuple k.since) kinds kind are has in
    subst (IsSince configs t) same (of_kind.0, All-weaker (Allows kind.tuple) (Allows t) (λ c e. sym (admitted_alike c.config kind.tuple t relation type) ∙ e) (drop kind.since configs) of_kind.1)

-- so does the one in force at a revision, where it is one of those
pub since_in_force : (rev at since : ℕ) (configs : List ReadConfig) (t : Tuple) → Rise configs → AreLater configs → ArePartedAt rev configs at → since < at → All (Allows t) (drop since configs)
    → admits (config_up_to rev (map as_config configs)) t ≡ true
since_in_force rev at since [] t rise later parted less all = let within = parted.within in absurd (omega (arith, less, within))
since_in_force rev at since (x ∷ xs) t rise later parted less all =
    let configs = x ∷ xs in
    let upto = parted.within in
    let within : at - 1 < length configs = omega (arith, less, upto) in
    let last = last_is rev configs (at - 1) x (rises configs rise) within (later (at - 1) x within) (parted.before (at - 1) x (omega (arith, less))) (λ k d above below. parted.after k d (omega (arith, above)) below) in
    ap (λ (c : ConfigAt). admits c.config t) last ∙ since_at configs t since all (at - 1) x (omega (arith, less)) within

-- no configuration is from the end on
pub since_end : (configs : List ReadConfig) (t : Tuple) → IsSince configs t (length configs)
since_end configs t = (omega arith, all_since configs t (length configs) (λ k d from lt. absurd (omega (arith, from, lt))))

-- one more configuration admits it
pub since_before : (configs : List ReadConfig) (t : Tuple) (since : ℕ) (x : ReadConfig) → IsSince configs t since → 0 < since → x ≡ get_or configs (since - 1) x → admits x.config t ≡ true → IsSince configs t (since - 1)
since_before configs t since x is some here one = (
  (let within = is.0 in omega (arith, within)),
  all_since configs t (since - 1) (λ k d from lt. by_place k d from lt (cases_lt (since - 1) k)),
)
  where
    by_place : (k : ℕ) (d : ReadConfig) → since - 1 ≤ k → k < length configs → (since - 1 < k) ⊎ (k ≤ since - 1) → admits (get_or configs k d).config t ≡ true
    by_place k d from lt (inl later) = since_at configs t since is.1 k d (omega (arith, some, later)) lt
    by_place k d from lt (inr at) =
        let same : since - 1 ≡ k = omega (arith, from, at) in
        let there : get_or configs (since - 1) x ≡ get_or configs k d = ap (λ n. get_or configs n x) same ∙ get_or_default configs k x d lt in
        ap (λ (c : ReadConfig). admits c.config t) (sym there ∙ sym here) ∙ one

pub since_kept : (configs : List ReadConfig) (old new : List Kind) (kind : Kind) → AreSince configs old → IsSince configs kind.tuple kind.since → (new ≡ old) ⊎ (new ≡ old ++ kind ∷ []) → AreSince configs new
since_kept configs old new kind are one (inl same) = subst (AreSince configs) (sym same) are
since_kept configs old new kind are one (inr more) = subst (AreSince configs) (sym more) (All-push (λ (k : Kind). IsSince configs k.tuple k.since) old kind are one)
