-- What is stored next fits what the tables hold: revisions, texts and their lengths.
use Rattle.std.proofs.Common.{◌≡◌, ℕ, ◌<◌, ◌≤◌, List, [], ◌∷◌, ◌++◌, length, codes, refl, sym, ap, subst, ◌∙◌, inl, inr, arith, length-append, suc}
use Rattle.std.specs.Prelude.{Bool, true, false, ◌&&◌, ◌||◌, ◌==◌, IsTrue, IsUtf8, Option, Some, None, map, slice_index, nat_lt, nat_le, IsPermutation}
use Rattle.std.specs.List.{list_all, AllByRecursion, IsDistinct}
use Rattle.std.proofs.lemmas.Bool.{and_parts, or_cases, leb-true, ltb-true, eqb-true, not-true}
use Rattle.std.proofs.lemmas.List.Elements.{All-from_recursion}
use Rattle.std.proofs.lemmas.Str.{IsUtf8-from_ascii}
use Rattle.std.proofs.lemmas.Str.Ascii.{IsAscii-from_all}
use Rattle.names.specs.Names.{is_name, is_id, is_lower, is_upper, is_digit, is_name_byte, is_id_byte}
use Rattle.names.specs.Order.{is_same_tuple}
use Rattle.names.specs.Spelling.{IsTuple, IsSubject, IsNameOrNone, subject_text, object_text, relation_part}
use Rattle.names.specs.declared.subject.Subject.{Subject}
use Rattle.names.specs.declared.tuple.Tuple.{Tuple}
use Rattle.names.specs.declared.commit.Event.{Event}
use Rattle.tables.specs.declared.puts.Puts.{Puts}
use Rattle.sqlite_tables.specs.declared.stored.SpanChange.{SpanChange}
use Rattle.sqlite_tables.specs.declared.stored.StoredEvent as stored
use Rattle.sqlite_tables.specs.Tables.{Span, ConfigRow, Entry, Contents, same_tuple}
use Rattle.sqlite_tables.specs.Numbered.{IsShort, IsUpTo}
use Rattle.sqlite_tables.specs.Caused.{spans_of}
use Rattle.sqlite_tables.specs.Reading.{AreTexts, IsReadable}
use Rattle.store.specs.Written.{Written, IsSpan, IsConfigAt, IsSound, IsWritten, Pairwise, span_of, config_row_of, entries_of}
use Rattle.store.specs.inside.EventTexts.{event_texts, event_texts_in}
use Rattle.store.proofs.Picking.{In, all_in}
use Rattle.store.proofs.Once.{in_permuted, in_unmap}
use Rattle.store.proofs.Events.{begun, removed_most}
use Rattle.store.proofs.Together.{are_other, same_turned}
use Rattle.store.proofs.Spellings.{same_texts}

in_each : {A : Type 0} (P : A → Type 0) (xs : List A) → ((x : A) → In x xs → P x) → AllByRecursion P xs
in_each P [] h = tt
in_each P (x ∷ xs) h = (h x (inl refl), in_each P xs (λ y i. h y (inr i)))

-- what is so of the rows of a list in some order
in_rows : {A B : Type 0} (P : B → Type 0) (f : A → B) (rows : List B) (xs : List A) → IsPermutation rows (map f xs) → ((x : A) → In x xs → P (f x)) → AllByRecursion P rows
in_rows P f rows xs same h = in_each P rows (λ y i.
    let from = in_unmap f xs y (in_permuted rows (map f xs) y same i) in
    subst P (sym from.2) (h from.0 from.1))

-- ---- revisions

pub up_to : (h : Contents) (w : Written) → IsWritten h w → IsSound w → IsUpTo w.newest h
up_to h w is sound = record {
  spans = in_rows (λ (s : Span). (s.added ≤ w.newest) × (s.removed ≤ w.newest)) span_of h.spans w.spans is.spans (λ l i.
      let span = all_in (IsSpan w.floor w.newest) w.spans sound.spans_are l i in
      (span.begun, removed_most w.floor w.newest l span));
  configs = in_rows (λ (c : ConfigRow). c.rev ≤ w.newest) config_row_of h.configs w.configs is.configs (λ c i. (all_in (IsConfigAt w.newest) w.configs sound.configs_are c i).begun);
}

-- ---- bytes

abbrev IsBelow : ℕ → Type 0
IsBelow b = b < 128

abbrev AreBelow : List ℕ → Type 0
AreBelow xs = AllByRecursion IsBelow xs

below_append : (xs ys : List ℕ) → AreBelow xs → AreBelow ys → AreBelow (xs ++ ys)
below_append [] ys a b = b
below_append (x ∷ xs) ys a b = (a.0, below_append xs ys a.1 b)

below_all : (p : ℕ → Bool) → ((b : ℕ) → p b ≡ true → b < 128) → (xs : List ℕ) → list_all p xs ≡ true → AreBelow xs
below_all p below [] h = tt
below_all p below (x ∷ xs) h = let parts = and_parts (p x) (list_all p xs) h in (below x parts.0, below_all p below xs parts.1)

is_text : (xs : List ℕ) → AreBelow xs → IsUtf8 xs
is_text xs below = IsUtf8-from_ascii xs (IsAscii-from_all xs (All-from_recursion IsBelow xs below))

up_below : (low high b : ℕ) → high < 128 → (nat_le low b && nat_le b high) ≡ true → b < 128
up_below low high b small h = let most = leb-true b high (and_parts (nat_le low b) (nat_le b high) h).1 in omega (arith, most, small)

same_below : (n b : ℕ) → n < 128 → (b == n) ≡ true → b < 128
same_below n b small h = let e = eqb-true b n h in omega (arith, e, small)

either_below : (a c : Bool) (b : ℕ) → (a ≡ true → b < 128) → (c ≡ true → b < 128) → (a || c) ≡ true → b < 128
either_below a c b one two h = elim (or_cases a c h) [ inl e ↦ one e | inr e ↦ two e ]

name_byte_below : (b : ℕ) → is_name_byte b ≡ true → b < 128
name_byte_below b h = either_below (is_lower b || is_digit b) (b == 95) b (either_below (is_lower b) (is_digit b) b (up_below 97 122 b (omega arith)) (up_below 48 57 b (omega arith))) (same_below 95 b (omega arith)) h

id_byte_below : (b : ℕ) → is_id_byte b ≡ true → b < 128
id_byte_below b h =
    either_below (is_name_byte b || is_upper b || b == 46) (b == 45) b
    (either_below (is_name_byte b || is_upper b) (b == 46) b (either_below (is_name_byte b) (is_upper b) b (name_byte_below b) (up_below 65 90 b (omega arith))) (same_below 46 b (omega arith))) (same_below 45 b (omega arith)) h

name_below : (xs : List ℕ) → IsTrue (is_name xs) → AreBelow xs
name_below xs h = below_all is_name_byte name_byte_below xs (and_parts _ (list_all is_name_byte xs) h).1

id_below : (xs : List ℕ) → IsTrue (is_id xs) → AreBelow xs
id_below xs h = below_all is_id_byte id_byte_below xs (and_parts _ (list_all is_id_byte xs) h).1

relation_below : (r : Option (List ℕ)) → IsNameOrNone r → AreBelow (relation_part r)
relation_below None is = tt
relation_below (Some name) is = (omega arith, name_below name is)

subject_below : (s : Subject) → IsSubject s → AreBelow (subject_text s)
subject_below s is = below_append (object_text s.object) (relation_part s.relation) (below_append s.object.namespace (58 ∷ s.object.id) (name_below s.object.namespace is.0.0) (omega arith, id_below s.object.id is.0.1)) (relation_below s.relation is.1)

-- ---- lengths

name_short : (xs : List ℕ) → IsTrue (is_name xs) → length xs ≤ 32
name_short xs h =
    let most = and_parts (nat_lt 0 (length xs) && nat_le (length xs) 32) (is_lower (slice_index xs 0)) (and_parts _ (list_all is_name_byte xs) h).0 in
    leb-true (length xs) 32 (and_parts (nat_lt 0 (length xs)) (nat_le (length xs) 32) most.0).1

id_short : (xs : List ℕ) → IsTrue (is_id xs) → length xs ≤ 64
id_short xs h = leb-true (length xs) 64 (and_parts (nat_lt 0 (length xs)) (nat_le (length xs) 64) (and_parts _ (list_all is_id_byte xs) h).0).1

relation_short : (r : Option (List ℕ)) → IsNameOrNone r → length (relation_part r) ≤ 33
relation_short None is = omega arith
relation_short (Some name) is = let most = name_short name is in omega (arith, most)

subject_short : (s : Subject) → IsSubject s → length (subject_text s) ≤ 130
subject_short s is =
    let a = length-append (object_text s.object) (relation_part s.relation) in
    let b = length-append s.object.namespace (58 ∷ s.object.id) in
    let c = name_short s.object.namespace is.0.0 in
    let d = id_short s.object.id is.0.1 in
    let e = relation_short s.relation is.1 in
    omega (arith, a, b, c, d, e)

pub short_tuple : (t : Tuple) (added removed : ℕ) → IsTuple t → IsShort (span_of (record { tuple = t; added = added; removed = removed }))
short_tuple t added removed is = record {
  namespace = name_short t.node.object.namespace is.0.0.0;
  object = id_short t.node.object.id is.0.0.1;
  relation = name_short t.node.relation is.0.1;
  subject = subject_short t.subject is.1;
}

-- ---- the events

abbrev at_rev : ℕ → SpanChange × Span → Span
at_rev rev p = record { namespace = p.1.namespace; object = p.1.object; relation = p.1.relation; subject = p.1.subject; added = rev; removed = 0 }

abbrev span_at : ℕ → Event → Span
span_at rev e = span_of (begun rev e.tuple)

of_texts : (rev : ℕ) (xs : List stored.StoredEvent) → map (at_rev rev) (map event_texts_in xs) ≡ spans_of rev xs
of_texts rev [] = refl
of_texts rev (x ∷ xs) = ap (λ (ys : List Span). at_rev rev (event_texts_in x) ∷ ys) (of_texts rev xs)

of_events : (rev : ℕ) (puts : Puts) (es : List Event) → map (at_rev rev) (map (event_texts puts) es) ≡ map (span_at rev) es
of_events rev puts [] = refl
of_events rev puts (e ∷ es) = ap (λ (ys : List Span). span_at rev e ∷ ys) (of_events rev puts es)

spans_are : (rev : ℕ) (puts : Puts) (xs : List stored.StoredEvent) (es : List Event) → map event_texts_in xs ≡ map (event_texts puts) es → map (span_at rev) es ≡ spans_of rev xs
spans_are rev puts xs es is = sym (of_events rev puts es) ∙ ap (map (at_rev rev)) (sym is) ∙ of_texts rev xs

distinct_each : (rev : ℕ) (es : List Event) → ((e : Event) → In e es → IsTuple e.tuple) → Pairwise are_other es → IsDistinct same_tuple (map (span_at rev) es)
unfolding IsDistinct
distinct_each rev [] spelled once = tt
distinct_each rev (e ∷ es) spelled once = (
  in_each (λ (y : Span). same_tuple (span_at rev e) y ≡ false) (map (span_at rev) es) (λ y i.
      let from = in_unmap (span_at rev) es y i in
      let f = from.0 in
      subst (λ (z : Span). same_tuple (span_at rev e) z ≡ false) (sym from.2)
      (same_texts (begun rev e.tuple) f.tuple (spelled e (inl refl)) (spelled f (inr from.1)) ∙ same_turned f.tuple e.tuple ∙ not-true (is_same_tuple e.tuple f.tuple) (all_in (λ g. are_other e g ≡ true) es once.0 f from.1))),
  distinct_each rev es (λ f i. spelled f (inr i)) once.1,
)

pub are_distinct : (rev : ℕ) (puts : Puts) (xs : List stored.StoredEvent) (es : List Event) → map event_texts_in xs ≡ map (event_texts puts) es → ((e : Event) → In e es → IsTuple e.tuple) → Pairwise are_other es
    → IsDistinct same_tuple (spans_of rev xs)
are_distinct rev puts xs es is spelled once = subst (IsDistinct same_tuple) (spans_are rev puts xs es is) (distinct_each rev es spelled once)

pub are_short : (rev : ℕ) (puts : Puts) (xs : List stored.StoredEvent) (es : List Event) → map event_texts_in xs ≡ map (event_texts puts) es → ((e : Event) → In e es → IsTuple e.tuple) → AllByRecursion IsShort (spans_of rev xs)
are_short rev puts xs es is spelled =
    subst (AllByRecursion IsShort) (spans_are rev puts xs es is)
    (in_each IsShort (map (span_at rev) es) (λ y i. let from = in_unmap (span_at rev) es y i in subst IsShort (sym from.2) (short_tuple from.0.tuple rev 0 (spelled from.0 from.1))))

pub same_length : (puts : Puts) (xs : List stored.StoredEvent) (es : List Event) → map event_texts_in xs ≡ map (event_texts puts) es → length xs ≡ length es
same_length puts [] [] is = refl
same_length puts [] (e ∷ es) is = cc
same_length puts (x ∷ xs) [] is = cc
same_length puts (x ∷ xs) (e ∷ es) is = ap suc (same_length puts xs es (tail is))
  where
    tail : ◌≡◌ {A = List (SpanChange × Span)} (event_texts_in x ∷ map event_texts_in xs) (event_texts puts e ∷ map (event_texts puts) es) → map event_texts_in xs ≡ map (event_texts puts) es
    tail e = cc

-- ---- each text is UTF-8

key_below : (xs : List ℕ) → list_all (λ b. nat_lt b 128) xs ≡ true → AreBelow xs
key_below xs h = below_all (λ b. nat_lt b 128) (λ b less. ltb-true b 128 less) xs h

entry_text : (w : Written) (e : Entry) → In e (entries_of w) → IsUtf8 e.key
entry_text w e (inl is) = subst IsUtf8 (sym (ap (λ (x : Entry). x.key) is)) (is_text (codes "floor") (key_below (codes "floor") refl))
entry_text w e (inr (inl is)) = subst IsUtf8 (sym (ap (λ (x : Entry). x.key) is)) (is_text (codes "format") (key_below (codes "format") refl))
entry_text w e (inr (inr (inl is))) = subst IsUtf8 (sym (ap (λ (x : Entry). x.key) is)) (is_text (codes "newest") (key_below (codes "newest") refl))
entry_text w e (inr (inr (inr (inl is)))) = subst IsUtf8 (sym (ap (λ (x : Entry). x.key) is)) (is_text (codes "store") (key_below (codes "store") refl))
entry_text w e (inr (inr (inr (inr none)))) = absurd none

pub readable : (h : Contents) (w : Written) → IsWritten h w → IsSound w → IsReadable h
readable h w is sound = record {
  spans = in_rows AreTexts span_of h.spans w.spans is.spans (λ l i.
      let spelled = (all_in (IsSpan w.floor w.newest) w.spans sound.spans_are l i).spelled in
      let o = l.tuple.node.object in (
        is_text o.namespace (name_below o.namespace spelled.0.0.0),
        is_text o.id (id_below o.id spelled.0.0.1),
        is_text l.tuple.node.relation (name_below l.tuple.node.relation spelled.0.1),
        is_text (subject_text l.tuple.subject) (subject_below l.tuple.subject spelled.1),
      ));
  configs = in_rows (λ (c : ConfigRow). IsUtf8 c.text) config_row_of h.configs w.configs is.configs (λ c i. (all_in (IsConfigAt w.newest) w.configs sound.configs_are c i).valid.describes.says.reads.text);
  entries = in_each (λ (e : Entry). IsUtf8 e.key) h.entries (λ e i. entry_text w e (in_permuted h.entries (entries_of w) e is.entries i));
}
