-- What a configuration keeps, and what follows from it.
use Rattle.std.proofs.Common.{◌≡◌, ℕ, ◌≤◌, List, [], true, refl, ap, ◌∙◌, subst, arith, length}
use Rattle.std.specs.Prelude.{◌&&◌, ◌<◌, All, IsTrue, Contains, nat_le, slice_index_or, string_bytes, IfOk, Result, Ok, Err, String}
use Rattle.std.specs.Global.{Global}
use Rattle.std.specs.declared.cmp.Ordering.{Ordering}
use Rattle.std.specs.List.{list_all}
use Rattle.std.specs.List.Sorted.{IsStrictlySortedBy}
use Rattle.std.proofs.lemmas.List.Elements.{All-nil, All-weaker, Contains-get_or}
use Rattle.std.proofs.lemmas.Bool.{and_parts, leb-true}
use Rattle.serde_json.proofs.OnLiterals.{serde_json_on_literals}
use Rattle.serde_json.specs.Written.{compact_text}
use Rattle.names.specs.declared.limits.TheConstants.{MAX_CONFIG_LEN, MAX_NAMESPACES, MAX_RELATIONS, MAX_TYPES, MAX_REWRITE_DEPTH, MAX_REWRITE_NODES}
use Rattle.meaning.specs.Form.{Form, Forms, This, Computed, TupleTo, Union, Intersection, Exclusion, none, more}
use Rattle.meaning.specs.Config.{Configured, Defined, IsWhole, AreWhole, IsSome, empty_config}
use Rattle.meaning.proofs.Lists.{contains_none}
use Rattle.config_text.specs.Canonical.{config_data}
use Rattle.config_text.specs.Order.{name_cmp, relation_cmp}
use Rattle.config_text.specs.Reading.{Describes, IsWritable}
use Rattle.config_text.specs.Size.{form_nodes, form_depth, is_some, has_parts, all_have_parts}
use Rattle.config_text.specs.Spelling.{IsName, IsNamed}
use Rattle.config.specs.Causes.{Accepts}
use Rattle.config.specs.Invariant.{IsConfig}
use Rattle.config.specs.Valid.{is_small, is_within}
use Rattle.config.proofs.Tested.{all_test}

some_part : (ws : Forms) → IsTrue (is_some ws) → IsSome ws
some_part none e = cc
some_part (more w ws) e = tt

mutual
  pub whole : (w : Form) → IsTrue (has_parts w) → IsWhole w
  whole This e = tt
  whole (Computed r) e = tt
  whole (TupleTo t r) e = tt
  whole (Union ws) e = all_whole ws (and_parts (is_some ws) (all_have_parts ws) e).1
  whole (Intersection ws) e = let b = and_parts (is_some ws) (all_have_parts ws) e in (some_part ws b.0, all_whole ws b.1)
  whole (Exclusion a b) e = let both = and_parts (has_parts a) (has_parts b) e in (whole a both.0, whole b both.1)

  all_whole : (ws : Forms) → IsTrue (all_have_parts ws) → AreWhole ws
  all_whole none e = tt
  all_whole (more w ws) e = let both = and_parts (has_parts w) (all_have_parts ws) e in (whole w both.0, all_whole ws both.1)

pub all_are_whole : (ds : List Defined) → All (λ d. IsTrue (has_parts d.form)) ds → All (λ d. IsWhole d.form) ds
all_are_whole ds parts = All-weaker (λ d. IsTrue (has_parts d.form)) (λ d. IsWhole d.form) (λ d. whole d.form) ds parts

no_order : {K : Type 0} (c : K → K → Ordering) → IsStrictlySortedBy c []
unfolding IsStrictlySortedBy
no_order c = tt

empty_short : length (compact_text (config_data empty_config)) ≡ 17
unfolding serde_json_on_literals
empty_short = refl

pub empty_is_config : IsConfig empty_config []
empty_is_config = record {
  valid = record {
    name = (All-nil IsName, All-nil IsNamed);
    limit = refl;
    declared_type = refl;
    this = refl;
    computed = refl;
    tupleset = refl;
    indexed = refl;
    levels = λ d h. absurd (contains_none d h);
  };
  ordered = record { namespaces = no_order name_cmp; relations = no_order relation_cmp; homes = All-nil (λ d. Contains empty_config.namespaces d.rel.namespace) };
  parts = All-nil (λ d. IsTrue (has_parts d.form));
  short = omega (arith, empty_short);
  levels = record { long = refl; each = λ i d lt. absurd (omega (arith, lt)) };
  small = All-nil (λ l. l < 4294967296);
}

at_most : (a b : ℕ) → nat_le a b ≡ true → a ≤ b
at_most a b e = leb-true a b e

pub shallow : (c : Configured) → is_within c ≡ true → All (λ d. form_depth d.form ≤ MAX_REWRITE_DEPTH) c.relations
shallow c within k d lt =
    let e = c.relations in
    let small = (and_parts (nat_le (length c.namespaces) MAX_NAMESPACES && nat_le (length c.relations) MAX_RELATIONS) (list_all is_small c.relations) within).1 in
    let x : Defined = slice_index_or c.relations k d in
    let one = all_test is_small c.relations x small (Contains-get_or c.relations k d lt) in
    at_most (form_depth x.form) MAX_REWRITE_DEPTH (and_parts (nat_le (length x.types) MAX_TYPES && nat_le (form_nodes x.form) MAX_REWRITE_NODES) (nat_le (form_depth x.form) MAX_REWRITE_DEPTH) one).1

pub accepts_back : (c : Configured) (levels text : List ℕ) → IsConfig c levels → text ≡ compact_text (config_data c) → (IsWritable c → Describes text c) → Accepts text c
accepts_back c levels text kept is back = record {
  size = let short : length (compact_text (config_data c)) ≤ MAX_CONFIG_LEN = kept.short in omega (arith, short, ap length is);
  describes = back (record { named = kept.valid.name; ordered = kept.ordered; parts = kept.parts; shallow = shallow c kept.valid.limit });
  valid = kept.valid;
}

pub text_read_back : {E : Type 0} (r : Result (String Global) E) (c d : Configured) (levels : List ℕ) → IsConfig c levels → d ≡ c → IfOk r (λ s. string_bytes s ≡ compact_text (config_data d)) → IfOk r (λ s. IsWritable d → Describes (string_bytes s) d) → IfOk r (λ s. Accepts (string_bytes s) c)
text_read_back (Ok s) c d levels kept same text back =
    accepts_back c levels (string_bytes s) kept (text ∙ ap (λ x. compact_text (config_data x)) same) (subst (λ x. IsWritable x → Describes (string_bytes s) x) same back)
text_read_back (Err e) c d levels kept same text back = tt
