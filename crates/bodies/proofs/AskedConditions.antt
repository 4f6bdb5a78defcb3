-- What the values of conditions ask for, one after another.
use Rattle.std.proofs.Common.{◌≡◌, ℕ, ◌<◌, ◌≤◌, ◌+◌, Bool, true, false, List, [], ◌∷◌, ◌++◌, length, map, take, get_or, refl, sym, ap, ◌∙◌, subst, arith, true≢false}
use Rattle.std.specs.Prelude.{Option, Some, None, codes}
use Rattle.std.specs.List.{AllZip}
use Rattle.std.specs.Cmp.Lexicographic.{same_text, other_text}
use Rattle.std.proofs.lemmas.Option.{none-some}
use Rattle.serde_json.specs.Data.{Data}
use Rattle.serde_json.specs.Find.{as_array}
use Rattle.serde_json.specs.View.{view, items_view}
use Rattle.serde_json.specs.declared.value.Value.{Value}
use Rattle.config_text.specs.Objects.{is_text, text_at}
use Rattle.names.specs.Refusals.{IsMalformed}
use Rattle.names.specs.Spelling.{SpellsTuple}
use Rattle.names.specs.declared.tuple.Tuple.{Tuple}
use Rattle.names.specs.declared.write.Condition.{Condition}
use Rattle.names.specs.declared.write.Condition.TheVariants.{Exists, Absent, Unchanged}
use Rattle.names.specs.declared.refusal.Refusal.{Refusal}
use Rattle.names.specs.declared.refusal.Refusal.TheVariants.{Malformed, BadZookie, Memory}
use Rattle.zookie.specs.declared.Zookie.{Zookie}
use Rattle.bodies.specs.Requests.{IsZookieOf, IsAnyText}
use Rattle.bodies.specs.Writing.{SaysOfTuple, AsksCondition}
use Rattle.bodies.specs.inside.Conditions.{IsOfTuple, IsOfTupleSince, AsksBadly, IsNoCondition, IsConditionList, AskConditions, ConditionsCause, ListCause, MemberCause}
use Rattle.bodies.proofs.Options.{so_of, is_so, some_of}
use Rattle.bodies.proofs.Causes.{nought, part_cause, malformed_cause}
use Rattle.bodies.proofs.Values.{as_many, read_more, read_before, refused_last, read_refused, listed, is_list, no_list}

-- what says a word on a tuple is of the tuple
tuple_in : (d : Data) (word : List ℕ) (t : Tuple) → SaysOfTuple (codes "if") word [] d t → IsOfTuple d t
tuple_in d word t is = let found = some_of (text_at (codes "tuple") d) is.tuple_is in record { only = is.only; text = found.0; tuple = found.1; spells = found.2 }

pub wordless : (d : Data) → text_at (codes "if") d ≡ None → IsNoCondition d
wordless d none (Exists t) is = none-some (codes "exists") (sym none ∙ is.word_is)
wordless d none (Absent t) is = none-some (codes "absent") (sym none ∙ is.word_is)
wordless d none (Unchanged t zookie) is = none-some (codes "unchanged") (sym none ∙ is.0.word_is)

module _ (d : Data) (w : List ℕ) (there : Some w ≡ text_at (codes "if") d) where
  same_word : (word : List ℕ) → text_at (codes "if") d ≡ Some word → w ≡ word
  same_word word says = let both : Some w ≡ Some word = there ∙ says in cc

  says_it : (word : List ℕ) → is_text w word ≡ true → text_at (codes "if") d ≡ Some word
  says_it word is = sym there ∙ ap (λ (x : List ℕ). Some x) (same_text w word (sym is))

  says_not : (word : List ℕ) → is_text w word ≡ false → text_at (codes "if") d ≡ Some word → ⊥
  says_not word not says = other_text w word (sym not) (same_word word says)

  says_no_other : (word other : List ℕ) → is_text w word ≡ true → is_text other word ≡ false → text_at (codes "if") d ≡ Some other → ⊥
  says_no_other word other is apart says = true≢false (sym is ∙ ap (λ x. is_text x word) (same_word other says) ∙ apart)

  of_tuple : (word : List ℕ) (t : Tuple) → is_text w word ≡ true → IsOfTuple d t → SaysOfTuple (codes "if") word [] d t
  of_tuple word t is of = record { only = of.only; word_is = says_it word is; tuple_is = is_so (λ s. SpellsTuple s t) (text_at (codes "tuple") d) of.text (sym of.tuple) of.spells }

  pub other_word : is_text w (codes "exists") ≡ false → is_text w (codes "absent") ≡ false → is_text w (codes "unchanged") ≡ false → IsNoCondition d
  other_word exists absent unchanged (Exists t) is = says_not (codes "exists") exists is.word_is
  other_word exists absent unchanged (Absent t) is = says_not (codes "absent") absent is.word_is
  other_word exists absent unchanged (Unchanged t zookie) is = says_not (codes "unchanged") unchanged is.0.word_is

  pub no_tuple : (word : List ℕ) → is_text w word ≡ true → is_text (codes "unchanged") word ≡ false → ((t : Tuple) → IsOfTuple d t → ⊥) → IsNoCondition d
  no_tuple word is other not (Exists t) asks = not t (tuple_in d (codes "exists") t asks)
  no_tuple word is other not (Absent t) asks = not t (tuple_in d (codes "absent") t asks)
  no_tuple word is other not (Unchanged t zookie) asks = says_no_other word (codes "unchanged") is other asks.0.word_is

  pub no_tuple_since : is_text w (codes "unchanged") ≡ true → ((t : Tuple) (since : List ℕ) → IsOfTupleSince d t since → ⊥) → IsNoCondition d
  no_tuple_since is not (Exists t) asks = says_no_other (codes "unchanged") (codes "exists") is refl asks.word_is
  no_tuple_since is not (Absent t) asks = says_no_other (codes "unchanged") (codes "absent") is refl asks.word_is
  no_tuple_since is not (Unchanged t zookie) asks =
      let text = some_of (text_at (codes "tuple") d) asks.0.tuple_is in
      let since = some_of (text_at (codes "zookie") d) asks.1 in
      not t since.0 (record { only = asks.0.only; text = text.0; tuple = text.1; spells = text.2; zookie = since.1 })

  pub asks_exists : (t : Tuple) → is_text w (codes "exists") ≡ true → IsOfTuple d t → AsksCondition IsZookieOf d (Exists t)
  asks_exists t is of = of_tuple (codes "exists") t is of

  pub asks_absent : (t : Tuple) → is_text w (codes "absent") ≡ true → IsOfTuple d t → AsksCondition IsZookieOf d (Absent t)
  asks_absent t is of = of_tuple (codes "absent") t is of

  module _ (t : Tuple) (since : List ℕ) (is : is_text w (codes "unchanged") ≡ true) (of : IsOfTupleSince d t since) where
    unchanged : (IsOf : List ℕ → Zookie → Type 0) (z : Zookie) → IsOf since z → AsksCondition IsOf d (Unchanged t z)
    unchanged IsOf z text = (
      record { only = of.only; word_is = says_it (codes "unchanged") is; tuple_is = is_so (λ s. SpellsTuple s t) (text_at (codes "tuple") d) of.text (sym of.tuple) of.spells },
      is_so (λ s. IsOf s z) (text_at (codes "zookie") d) since (sym of.zookie) text,
    )

    pub asks_unchanged : (z : Zookie) → IsZookieOf since z → AsksCondition IsZookieOf d (Unchanged t z)
    asks_unchanged z text = unchanged IsZookieOf z text

    asks_nothing : ((z : Zookie) → IsZookieOf since z → ⊥) → (c : Condition Zookie) → AsksCondition IsZookieOf d c → ⊥
    asks_nothing bad (Exists u) asks = says_no_other (codes "unchanged") (codes "exists") is refl asks.word_is
    asks_nothing bad (Absent u) asks = says_no_other (codes "unchanged") (codes "absent") is refl asks.word_is
    asks_nothing bad (Unchanged u z) asks = bad z (so_of (λ s. IsZookieOf s z) (text_at (codes "zookie") d) since (sym of.zookie) asks.1)

    pub asks_badly : ((z : Zookie) → IsZookieOf since z → ⊥) → AsksBadly d
    asks_badly bad = ((Unchanged t nought, unchanged IsAnyText nought tt), asks_nothing bad)

-- after some values: all are of the form; while no text was bad, they are asked, and once one was, nothing is
pub record Read (values : List Data) (conditions : List (Condition Zookie)) (bad : Bool) : Type 0 where
  pub form : (cs : List (Condition Zookie)) × AllZip (AsksCondition IsAnyText) values cs
  pub good : bad ≡ false → AllZip (AsksCondition IsZookieOf) values conditions
  pub worse : bad ≡ true → (cs : List (Condition Zookie)) × AllZip (AsksCondition IsZookieOf) values cs → ⊥

pub read_none : (values : List Value) (conditions : List (Condition Zookie)) → values ≡ [] → conditions ≡ [] → Read (map view values) conditions false
read_none values conditions none empty =
    rw (none, empty) (record { form = ([], tt); good = λ _. tt; worse = λ is. absurd (true≢false (sym is)) })

-- a condition is of the form whatever its zookie is
of_form : (d : Data) (c : Condition Zookie) → AsksCondition IsZookieOf d c → AsksCondition IsAnyText d c
of_form d (Exists t) asks = asks
of_form d (Absent t) asks = asks
of_form d (Unchanged t z) asks = (asks.0, let found = some_of (text_at (codes "zookie") d) asks.1 in is_so (λ s. IsAnyText s z) (text_at (codes "zookie") d) found.0 (sym found.1) tt)

module _ (vs : List Value) (i : ℕ) (v : Value) (in_range : i < length vs) (at : v ≡ get_or vs i v) where
  pub condition_more : (conditions more : List (Condition Zookie)) (bad : Bool) (z : Condition Zookie) → more ≡ conditions ++ z ∷ []
      → Read (map view (take i vs)) conditions bad → AsksCondition IsZookieOf (view v) z → Read (map view (take (i + 1) vs)) more bad
  condition_more conditions more bad z is read asks =
      record {
        form = (read.form.0 ++ z ∷ [], read_more (AsksCondition IsAnyText) vs i v in_range at read.form.0 (read.form.0 ++ z ∷ []) z refl read.form.1 (of_form (view v) z asks));
        good = λ none. read_more (AsksCondition IsZookieOf) vs i v in_range at conditions more z is (read.good none) asks;
        worse = λ some w. read.worse some (read_before (AsksCondition IsZookieOf) vs i v in_range at w.0 w.1);
      }

  pub condition_bad : (conditions : List (Condition Zookie)) (bad : Bool) → Read (map view (take i vs)) conditions bad
      → AsksBadly (view v) → Read (map view (take (i + 1) vs)) conditions true
  condition_bad conditions bad read cause =
      record {
        form = (read.form.0 ++ cause.0.0 ∷ [], read_more (AsksCondition IsAnyText) vs i v in_range at read.form.0 (read.form.0 ++ cause.0.0 ∷ []) cause.0.0 refl read.form.1 cause.0.1);
        good = λ none. absurd (true≢false none);
        worse = λ some w. refused_last (AsksCondition IsZookieOf) vs i v in_range at cause.1 w.0 w.1;
      }

  pub condition_refused : (e : Refusal) → IsMalformed (IsNoCondition (view v)) e → ConditionsCause (map view vs) e
  condition_refused e refused =
      malformed_cause (λ IsOf. (conditions : List (Condition Zookie)) × AllZip (AsksCondition IsOf) (map view vs) conditions)
      (λ not w. read_refused (AsksCondition IsAnyText) vs i v in_range at not w.0 w.1) e refused

-- the list that a value is
module _ (d : Data) (vs : List Value) (at : Some (items_view vs) ≡ as_array d) where
  pub listed_many : 64 < length vs → ListCause d Malformed
  listed_many count w =
      let e = as_many (AsksCondition IsAnyText) vs w.0 (listed (AsksCondition IsAnyText) d vs at w.0 w.1.0) in
      let r = w.1.1 in
      omega (arith, e, r, count)

  is_list_of : (IsOf : List ℕ → Zookie → Type 0) (cs : List (Condition Zookie)) → length vs ≤ 64 → AllZip (AsksCondition IsOf) (map view vs) cs → IsConditionList IsOf cs d
  is_list_of IsOf cs high each = let e = as_many (AsksCondition IsOf) vs cs each in (is_list (AsksCondition IsOf) d vs at cs each, omega (arith, e, high))

  pub listed_cause : length vs ≤ 64 → (e : Refusal) → ConditionsCause (map view vs) e → ListCause d e
  listed_cause high e cause =
      part_cause (λ IsOf. (conditions : List (Condition Zookie)) × AllZip (AsksCondition IsOf) (map view vs) conditions)
      (λ IsOf. (conditions : List (Condition Zookie)) × IsConditionList IsOf conditions d)
      (λ IsOf w. (w.0, listed (AsksCondition IsOf) d vs at w.0 w.1.0)) (λ w. (w.0, is_list_of IsAnyText w.0 high w.1)) e cause

  pub listed_asks : length vs ≤ 64 → (cs : List (Condition Zookie)) → AllZip (AsksCondition IsZookieOf) (map view vs) cs → IsConditionList IsZookieOf cs d
  listed_asks high cs each = is_list_of IsZookieOf cs high each

pub unlisted : (d : Data) → as_array d ≡ None → ListCause d Malformed
unlisted d none w = no_list (AsksCondition IsAnyText) d none w.0 w.1.0

-- the member, which is there
module _ (at : Option Data) (d : Data) (there : Some d ≡ at) where
  pub asked_cause : (e : Refusal) → ListCause d e → MemberCause at e
  asked_cause e cause = subst (λ (o : Option Data). MemberCause o e) there cause

  pub asked_conditions : (cs : List (Condition Zookie)) → IsConditionList IsZookieOf cs d → AskConditions IsZookieOf cs at
  asked_conditions cs asks = subst (λ (o : Option Data). AskConditions IsZookieOf cs o) there asks

pub asked_without : (at : Option Data) (cs : List (Condition Zookie)) → at ≡ None → cs ≡ [] → AskConditions IsZookieOf cs at
asked_without at cs none empty = rw (none, empty) refl
