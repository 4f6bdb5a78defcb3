-- Pages of tuples.
use Rattle.std.proofs.Common.{◌≡◌, ℕ, ◌≤◌, ◌<◌, ◌+◌, length, take, arith, Bool, true, false, List, [], ◌∷◌, ◌++◌, Option, Some, None, IsTrue, refl, ap, ap₂, sym, subst, ◌∙◌, append_assoc, append-nil}
use Rattle.std.specs.Prelude.{◌&&◌, cond, filter, nat_eq}
use Rattle.std.proofs.lemmas.List.{length-append}
use Rattle.std.specs.Ordering.{nat_cmp, eq_by_cmp, is_lt, is_le}
use Rattle.std.specs.Cmp.Lexicographic.{pointwise, slice_cmp, texts_ties}
use Rattle.std.specs.declared.cmp.Ordering.{Ordering}
use Rattle.std.specs.declared.cmp.Ordering.TheVariants.{Less, Equal, Greater}
use Rattle.names.specs.Order.{object_cmp, tuple_cmp}
use Rattle.names.specs.declared.tuple.Tuple.{Tuple}
use Rattle.versions.specs.Ranges.{is_from}
use Rattle.versions.proofs.Going.{first_all, first_enough}
use Rattle.tuple_keys.proofs.Sameness.{both_then}
use Rattle.tuple_keys.specs.Named.{is_at, is_of}
use Rattle.tuple_keys.specs.Spelled.{spelled_objects, spelled_object, spelled_node, tuple_of}
use Rattle.tuple_keys.specs.Texts.{begins, IsStartOf}
use Rattle.tuple_keys.proofs.Prefixes.{objects_begin, object_begins, node_begins}
use Rattle.names.specs.Names.{is_name}
use Rattle.names.specs.Spelling.{IsObject, IsNode}
use Rattle.names.specs.declared.object.Object.{Object}
use Rattle.names.specs.declared.node.Node.{Node}
use Rattle.rows.specs.Tuplesets.{has_text, has_subject, is_after, matches}
use Rattle.rows.specs.declared.tupleset.Tupleset.{Tupleset}
use Rattle.rows.specs.inside.Reading.{starts_at, is_sought, is_wanted}

-- ---- tests of tuples

module _ {X : Type 0} where
  pub filter_same : (p q : X → Bool) → ((x : X) → p x ≡ q x) → (xs : List X) → filter p xs ≡ filter q xs
  filter_same p q same [] = refl
  filter_same p q same (x ∷ xs) = ap (λ b. cond b (x ∷ filter p xs) (filter p xs)) (same x) ∙ ap (λ ys. cond (q x) (x ∷ ys) ys) (filter_same p q same xs)

  pub filter_both : (p q : X → Bool) (xs : List X) → filter p (filter q xs) ≡ filter (λ x. q x && p x) xs
  filter_both p q [] = refl
  filter_both p q (x ∷ xs) = by_test (q x) (filter_both p q xs)
    where
      by_test : (b : Bool) → filter p (filter q xs) ≡ filter (λ x. q x && p x) xs
          → filter p (cond b (x ∷ filter q xs) (filter q xs)) ≡ cond (b && p x) (x ∷ filter (λ x. q x && p x) xs) (filter (λ x. q x && p x) xs)
      by_test true rest = ap (λ ys. cond (p x) (x ∷ ys) ys) rest
      by_test false rest = rest

  -- what passes the second test passes the first
  pub filter_stronger : (p q : X → Bool) → ((x : X) → p x ≡ true → q x ≡ true) → (xs : List X) → filter p (filter q xs) ≡ filter p xs
  filter_stronger p q more xs = filter_both p q xs ∙ filter_same (λ x. q x && p x) p (λ x. by_test (p x) (q x) (more x)) xs
    where
      by_test : (b c : Bool) → (b ≡ true → c ≡ true) → (c && b) ≡ b
      by_test true c h = ap (λ d. d && true) (h refl)
      by_test false true h = refl
      by_test false false h = refl

-- the tests of a page, one after another
without_object : (n r s a : Bool) → (n && (r && (s && a))) ≡ ((n && (true && (r && s))) && a)
without_object true true true a = refl
without_object true true false a = refl
without_object true false s a = refl
without_object false r s a = refl

of_object : (n i s a : Bool) → ((n && i) && (true && (s && a))) ≡ ((n && (i && (true && s))) && a)
of_object true true true a = refl
of_object true true false a = refl
of_object true false s a = refl
of_object false i s a = refl

of_node : (n i r s a : Bool) → (((n && i) && r) && (r && (s && a))) ≡ ((n && (i && (r && s))) && a)
of_node true true true true a = refl
of_node true true true false a = refl
of_node true true false s a = refl
of_node true false r s a = refl
of_node false i r s a = refl

all_tests : (namespace : List ℕ) (object relation : Option (List ℕ)) (t : Tuple) (s a : Bool)
    → (starts_at namespace object relation t && (has_text relation t.node.relation && (s && a)))
    ≡ ((has_text (Some namespace) t.node.object.namespace && (has_text object t.node.object.id && (has_text relation t.node.relation && s))) && a)
all_tests namespace None relation t s a = without_object (has_text (Some namespace) t.node.object.namespace) (has_text relation t.node.relation) s a
all_tests namespace (Some id) None t s a =
    ap (λ b. b && (true && (s && a))) (both_then (slice_cmp nat_cmp t.node.object.namespace namespace) (slice_cmp nat_cmp t.node.object.id id))
    ∙ of_object (has_text (Some namespace) t.node.object.namespace) (has_text (Some id) t.node.object.id) s a
all_tests namespace (Some id) (Some relation) t s a =
    let r = has_text (Some relation) t.node.relation in
    ap (λ b. b && (r && (s && a)))
    (both_then (object_cmp t.node.object (record { namespace = namespace; id = id })) (slice_cmp nat_cmp t.node.relation relation)
    ∙ ap (λ b. b && r) (both_then (slice_cmp nat_cmp t.node.object.namespace namespace) (slice_cmp nat_cmp t.node.object.id id)))
    ∙ of_node (has_text (Some namespace) t.node.object.namespace) (has_text (Some id) t.node.object.id) r s a

-- what the texts begin with and what else is asked are all that is asked
pub page_is : (asked : Tupleset) (ts : List Tuple) → take asked.limit (filter (is_wanted asked) (filter (is_sought asked) ts)) ≡ take asked.limit (filter (λ t. matches asked t && is_after asked.after t) ts)
page_is asked ts =
    ap (take asked.limit)
    (filter_both (is_wanted asked) (is_sought asked) ts
    ∙ filter_same (λ t. is_sought asked t && is_wanted asked t) (λ t. matches asked t && is_after asked.after t)
    (λ t. all_tests asked.namespace asked.object asked.relation t (has_subject asked.subject t.subject) (is_after asked.after t)) ts)

-- ---- what the texts begin with

module _ (asked : Tupleset) (start : List ℕ) where
  pub start_objects : asked.object ≡ None → IsTrue (is_name asked.namespace) → start ≡ spelled_objects asked.namespace → IsStartOf start (is_sought asked)
  start_objects none name is = λ text s.
      ap (λ l. begins l text) is ∙ objects_begin asked.namespace name text s ∙ sym (ap (λ o. starts_at asked.namespace o asked.relation (tuple_of text)) none)

  module _ (id : List ℕ) (object : asked.object ≡ Some id) (o : Object) (same_namespace : o.namespace ≡ asked.namespace) (same_id : o.id ≡ id) where
    pub start_object : asked.relation ≡ None → IsObject o → start ≡ spelled_object o → IsStartOf start (is_sought asked)
    start_object none object_is is = λ text s.
        ap (λ l. begins l text) is ∙ object_begins o object_is text s
        ∙ ap₂ (λ n i. is_at (record { namespace = n; id = i }) (tuple_of text)) same_namespace same_id
        ∙ sym (ap₂ (λ p r. starts_at asked.namespace p r (tuple_of text)) object none)

    pub start_node : (relation : List ℕ) → asked.relation ≡ Some relation → (n : Node) → n.object ≡ o → n.relation ≡ relation → IsNode n → start ≡ spelled_node n → IsStartOf start (is_sought asked)
    start_node relation some n same_object same_relation node_is is = λ text s.
        ap (λ l. begins l text) is ∙ node_begins n node_is text s
        ∙ ap₂ (λ p r. is_of (record { object = p; relation = r }) (tuple_of text)) same_object same_relation
        ∙ ap₂ (λ m i. is_of (record { object = record { namespace = m; id = i }; relation = relation }) (tuple_of text)) same_namespace same_id
        ∙ sym (ap₂ (λ p r. starts_at asked.namespace p r (tuple_of text)) object some)

-- the relation that is asked for
pub has_it : (asked : Option (List ℕ)) (relation name read text : List ℕ) (answer : Bool) → asked ≡ Some relation → read ≡ text → name ≡ relation → answer ≡ pointwise nat_eq read name → answer ≡ has_text asked text
has_it asked relation name read text answer is reads named says =
    says ∙ texts_ties read name ∙ ap₂ (eq_by_cmp (slice_cmp nat_cmp)) reads named ∙ sym (ap (λ o. has_text o text) is)

-- ---- those before the tuple that a page comes after

later_from : (o : Ordering) → is_lt o ≡ true → is_le o ≡ true
later_from Less h = refl
later_from Equal h = cc
later_from Greater h = cc

last_passes : (b c d : Bool) → (b && (c && d)) ≡ true → d ≡ true
last_passes true true d h = h
last_passes true false d h = cc
last_passes false c d h = cc

wanted_later : (asked : Tupleset) (t : Tuple) → is_wanted asked t ≡ true → is_after asked.after t ≡ true
wanted_later asked t h = last_passes (has_text asked.relation t.node.relation) (has_subject asked.subject t.subject) (is_after asked.after t) h

pub skipped : (asked : Tupleset) (a : Tuple) → asked.after ≡ Some a → (ts : List Tuple) → filter (is_wanted asked) (filter (is_from a) ts) ≡ filter (is_wanted asked) ts
skipped asked a is ts =
    filter_stronger (is_wanted asked) (is_from a) (λ t h. later_from (tuple_cmp a t) (sym (ap (λ (o : Option Tuple). is_after o t) is) ∙ wanted_later asked t h)) ts

-- ---- what was found and what is left

pub record Left (asked : Tupleset) (all found left : List Tuple) : Type 0 where
  pub rest : found ++ filter (is_wanted asked) left ≡ filter (is_wanted asked) all
  pub few : length found ≤ asked.limit

-- nothing was found yet
pub nothing_found : (asked : Tupleset) (all found left : List Tuple) → found ≡ [] → filter (is_wanted asked) left ≡ filter (is_wanted asked) all → Left asked all found left
nothing_found asked all found left none same = record {
  rest = ap (λ (ts : List Tuple). ts ++ filter (is_wanted asked) left) none ∙ same;
  few = subst (λ (ts : List Tuple). length ts ≤ asked.limit) (sym none) (omega arith);
}

module _ (asked : Tupleset) (all found left : List Tuple) (is : Left asked all found left) where
  pub none_left : left ≡ [] → found ≡ take asked.limit (filter (is_wanted asked) all)
  none_left none =
      first_all asked.limit found (filter (is_wanted asked) all) is.few
      (sym (append-nil found) ∙ ap (λ (ts : List Tuple). found ++ filter (is_wanted asked) ts) (sym none) ∙ is.rest)

  pub enough : asked.limit ≤ length found → found ≡ take asked.limit (filter (is_wanted asked) all)
  enough many = first_enough asked.limit found (filter (is_wanted asked) left) (filter (is_wanted asked) all) is.few many is.rest

  module _ (t : Tuple) (rest : List Tuple) (steps : left ≡ t ∷ rest) where
    step : (b : Bool) → is_wanted asked t ≡ b → filter (is_wanted asked) left ≡ cond b (t ∷ filter (is_wanted asked) rest) (filter (is_wanted asked) rest)
    step b h = ap (filter (is_wanted asked)) steps ∙ ap (λ c. cond c (t ∷ filter (is_wanted asked) rest) (filter (is_wanted asked) rest)) h

    pub one_more : is_wanted asked t ≡ true → length found < asked.limit → (now : List Tuple) → now ≡ found ++ t ∷ [] → Left asked all now rest
    one_more wanted room now adds =
        let long : length (found ++ t ∷ []) ≡ length found + 1 = length-append found (t ∷ []) in
        record {
          rest =
              ap (λ (ts : List Tuple). ts ++ filter (is_wanted asked) rest) adds
              ∙ append_assoc found (t ∷ []) (filter (is_wanted asked) rest)
              ∙ ap (λ (ts : List Tuple). found ++ ts) (sym (step true wanted))
              ∙ is.rest;
          few = subst (λ (ts : List Tuple). length ts ≤ asked.limit) (sym adds) (omega (arith, long, room));
        }

    pub none_more : is_wanted asked t ≡ false → Left asked all found rest
    none_more unwanted = record {
      rest = ap (λ (ts : List Tuple). found ++ ts) (sym (step false unwanted)) ∙ is.rest;
      few = is.few;
    }
