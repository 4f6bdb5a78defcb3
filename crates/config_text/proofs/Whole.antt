-- The rewrites that are read have parts where they must.
use Rattle.std.proofs.Common.{◌≡◌, ℕ, List, [], ◌∷◌, ◌++◌, Option, Some, None, Bool, true, false, cond, ◌&&◌, IsTrue, All, map, refl, sym, ap, ◌∙◌}
use Rattle.std.specs.Prelude.{option_and_then, codes}
use Rattle.std.proofs.lemmas.List.Elements.{All-nil, All-cons, All-head, All-tail, All-append}
use Rattle.std.proofs.lemmas.Option.{none-some, same_Some, cond_some, option_and_then_some}
use Rattle.serde_json.specs.Data.{Data, null, boolean, number, string, array, object, Items, no_items, item, Members, no_members, member}
use Rattle.serde_json.specs.Find.{get, as_str, as_object}
use Rattle.meaning.specs.Form.{Form, This}
use Rattle.config_text.specs.Forms.{forms_of}
use Rattle.config_text.specs.Size.{has_parts, all_have_parts}
use Rattle.config_text.specs.Texts.{RelationTexts, ConfigTexts}
use Rattle.config_text.specs.Objects.{is_text, has_only}
use Rattle.config_text.specs.Shape.{both, types_read, this_read, computed_read, tuple_to_from, tuple_to_read, union_read, intersection_read, exclusion_read, named_read, form_read, member_read, parts_read, forms_read, rewrite_read, indexed_read, relation_from, relation_members, relation_read, relations_read, with_namespace, namespaces_read, config_read}

either : {P : Type 0} (b : Bool) (x y : Option Form) (f : Form) → cond b x y ≡ Some f → (x ≡ Some f → P) → (y ≡ Some f → P) → P
either true x y f e p q = p e
either false x y f e p q = q e

pub both_some : {A P : Type 0} (r : Option A) (s : Option (List A)) (ys : List A) → both r s ≡ Some ys → ((x : A) (xs : List A) → r ≡ Some x → s ≡ Some xs → x ∷ xs ≡ ys → P) → P
both_some None s ys e next = absurd (none-some ys e)
both_some (Some x) None ys e next = absurd (none-some ys e)
both_some (Some x) (Some xs) ys e next = next x xs refl refl (same_Some _ _ e)

this_whole : (s : List ℕ) (f : Form) → this_read s ≡ Some f → has_parts f ≡ true
this_whole s f e = ap has_parts (sym (cond_some (is_text s (codes "this")) This f e).1)

computed_whole : (o : Option (List ℕ)) (f : Form) → computed_read o ≡ Some f → has_parts f ≡ true
computed_whole None f e = absurd (none-some f e)
computed_whole (Some r) f e = ap has_parts (sym (same_Some _ _ e))

tuple_to_whole : (t r : Option (List ℕ)) (f : Form) → tuple_to_from t r ≡ Some f → has_parts f ≡ true
tuple_to_whole None r f e = absurd (none-some f e)
tuple_to_whole (Some t) None f e = absurd (none-some f e)
tuple_to_whole (Some t) (Some r) f e = ap has_parts (sym (same_Some _ _ e))

union_whole : (parts : Option (List Form)) (f : Form) → ((fs : List Form) → parts ≡ Some fs → all_have_parts (forms_of fs) ≡ true) → union_read parts ≡ Some f → has_parts f ≡ true
union_whole None f h e = absurd (none-some f e)
union_whole (Some []) f h e = absurd (none-some f e)
union_whole (Some (g ∷ gs)) f h e = ap has_parts (sym (same_Some _ _ e)) ∙ h (g ∷ gs) refl

intersection_whole : (parts : Option (List Form)) (f : Form) → ((fs : List Form) → parts ≡ Some fs → all_have_parts (forms_of fs) ≡ true) → intersection_read parts ≡ Some f → has_parts f ≡ true
intersection_whole None f h e = absurd (none-some f e)
intersection_whole (Some []) f h e = absurd (none-some f e)
intersection_whole (Some (g ∷ gs)) f h e = ap has_parts (sym (same_Some _ _ e)) ∙ h (g ∷ gs) refl

two_whole : (a b : Bool) → a && (b && true) ≡ true → a && b ≡ true
two_whole true true h = refl
two_whole true false h = h
two_whole false b h = h

exclusion_whole : (parts : Option (List Form)) (f : Form) → ((fs : List Form) → parts ≡ Some fs → all_have_parts (forms_of fs) ≡ true) → exclusion_read parts ≡ Some f → has_parts f ≡ true
exclusion_whole None f h e = absurd (none-some f e)
exclusion_whole (Some []) f h e = absurd (none-some f e)
exclusion_whole (Some (g ∷ [])) f h e = absurd (none-some f e)
exclusion_whole (Some (g ∷ k ∷ [])) f h e = ap has_parts (sym (same_Some _ _ e)) ∙ two_whole (has_parts g) (has_parts k) (h (g ∷ k ∷ []) refl)
exclusion_whole (Some (g ∷ k ∷ l ∷ fs)) f h e = absurd (none-some f e)

named_whole : (k : List ℕ) (d : Data) (parts : Option (List Form)) (f : Form) → ((fs : List Form) → parts ≡ Some fs → all_have_parts (forms_of fs) ≡ true) → named_read k d parts ≡ Some f → has_parts f ≡ true
named_whole k d parts f h e =
    either (is_text k (codes "computed")) (computed_read (as_str d)) _ f e (computed_whole (as_str d) f) (λ e1.
    either (is_text k (codes "tuple_to")) (tuple_to_read d) _ f e1 (λ t. either (has_only (codes "tupleset" ∷ codes "relation" ∷ []) d) _ None f t (tuple_to_whole _ _ f) (λ n. absurd (none-some f n))) (λ e2.
    either (is_text k (codes "union")) (union_read parts) _ f e2 (union_whole parts f h) (λ e3.
    either (is_text k (codes "intersection")) (intersection_read parts) _ f e3 (intersection_whole parts f h) (λ e4.
    either (is_text k (codes "exclusion")) (exclusion_read parts) None f e4 (exclusion_whole parts f h) (λ n. absurd (none-some f n))))))

mutual
  form_whole : (d : Data) (f : Form) → form_read d ≡ Some f → has_parts f ≡ true
  form_whole null f e = absurd (none-some f e)
  form_whole (boolean b) f e = absurd (none-some f e)
  form_whole (number n) f e = absurd (none-some f e)
  form_whole (string s) f e = this_whole s f e
  form_whole (array ds) f e = absurd (none-some f e)
  form_whole (object ms) f e = member_whole ms f e

  member_whole : (ms : Members) (f : Form) → member_read ms ≡ Some f → has_parts f ≡ true
  member_whole no_members f e = absurd (none-some f e)
  member_whole (member k d no_members) f e = named_whole k d (parts_read d) f (λ fs p. parts_whole d fs p) e
  member_whole (member k d (member l c ms)) f e = absurd (none-some f e)

  parts_whole : (d : Data) (fs : List Form) → parts_read d ≡ Some fs → all_have_parts (forms_of fs) ≡ true
  parts_whole null fs e = absurd (none-some fs e)
  parts_whole (boolean b) fs e = absurd (none-some fs e)
  parts_whole (number n) fs e = absurd (none-some fs e)
  parts_whole (string s) fs e = absurd (none-some fs e)
  parts_whole (array ds) fs e = forms_whole ds fs e
  parts_whole (object ms) fs e = absurd (none-some fs e)

  forms_whole : (ds : Items) (fs : List Form) → forms_read ds ≡ Some fs → all_have_parts (forms_of fs) ≡ true
  forms_whole no_items fs e = ap (λ xs. all_have_parts (forms_of xs)) (sym (same_Some _ _ e))
  forms_whole (item d ds) fs e = both_some (form_read d) (forms_read ds) fs e (λ x xs p q same.
      ap (λ ys. all_have_parts (forms_of ys)) (sym same) ∙ rw (form_whole d x p, forms_whole ds xs q) refl)

rewrite_whole : (o : Option Data) (f : Form) → rewrite_read o ≡ Some f → has_parts f ≡ true
rewrite_whole None f e = ap has_parts (sym (same_Some _ _ e))
rewrite_whole (Some d) f e = form_whole d f e

-- a relation that was read
pub from_some : {P : Type 0} (n r : List ℕ) (o : Option (List (List ℕ))) (p : Option Form) (q : Option Bool) (t : RelationTexts) → relation_from n r o p q ≡ Some t
    → ((types : List (List ℕ)) (form : Form) (indexed : Bool) → p ≡ Some form → record { namespace = n; relation = r; types = types; form = form; indexed = indexed } ≡ t → P) → P
from_some n r None p q t e next = absurd (none-some t e)
from_some n r (Some types) None q t e next = absurd (none-some t e)
from_some n r (Some types) (Some form) None t e next = absurd (none-some t e)
from_some n r (Some types) (Some form) (Some indexed) t e next = next types form indexed refl (same_Some _ _ e)

when_some : {A : Type 0} (b : Bool) (x : Option A) (y : A) → cond b x None ≡ Some y → x ≡ Some y
when_some true x y e = e
when_some false x y e = absurd (none-some y e)

pub relation_some : {P : Type 0} (n r : List ℕ) (d : Data) (t : RelationTexts) → relation_read n r d ≡ Some t
    → ((types : List (List ℕ)) (form : Form) (indexed : Bool) → rewrite_read (get (codes "rewrite") d) ≡ Some form → record { namespace = n; relation = r; types = types; form = form; indexed = indexed } ≡ t → P) → P
relation_some n r d t e next =
    from_some n r (types_read (get (codes "types") d)) (rewrite_read (get (codes "rewrite") d)) (indexed_read (get (codes "indexed") d)) t (when_some (has_only relation_members d) _ t e) next

pub with_some : {P : Type 0} (n : List ℕ) (o : Option (List RelationTexts)) (r : Option ConfigTexts) (t : ConfigTexts) → with_namespace n o r ≡ Some t
    → ((rs : List RelationTexts) (rest : ConfigTexts) → o ≡ Some rs → r ≡ Some rest → record { namespaces = n ∷ rest.namespaces; relations = rs ++ rest.relations } ≡ t → P) → P
with_some n None r t e next = absurd (none-some t e)
with_some n (Some rs) None t e next = absurd (none-some t e)
with_some n (Some rs) (Some rest) t e next = next rs rest refl refl (same_Some _ _ e)

pub config_some : {P : Type 0} (d : Data) (t : ConfigTexts) → config_read d ≡ Some t
    → ((m : Data) (ms : Members) → get (codes "namespaces") d ≡ Some m → as_object m ≡ Some ms → namespaces_read ms ≡ Some t → P) → P
config_some d t e next =
    option_and_then_some namespaces_read (option_and_then as_object (get (codes "namespaces") d)) t (when_some (has_only (codes "namespaces" ∷ []) d) _ t e)
    (λ ms p q. option_and_then_some as_object (get (codes "namespaces") d) ms p (λ m got is. next m ms got is q))

abbrev pub IsWhole : RelationTexts → Type 0
IsWhole t = IsTrue (has_parts t.form)

relations_whole : (n : List ℕ) (ms : Members) (ts : List RelationTexts) → relations_read n ms ≡ Some ts → All IsWhole ts
relations_whole n no_members ts e = rw (sym (same_Some _ _ e)) (All-nil IsWhole)
relations_whole n (member r d ms) ts e = both_some (relation_read n r d) (relations_read n ms) ts e (λ t us p q same.
    let whole : IsWhole t = relation_some n r d t p (λ types form indexed read is. ap (λ x. has_parts x.form) (sym is) ∙ rewrite_whole (get (codes "rewrite") d) form read) in
    rw (sym same) (All-cons IsWhole t us whole (relations_whole n ms us q)))

namespaces_whole : (ms : Members) (t : ConfigTexts) → namespaces_read ms ≡ Some t → All IsWhole t.relations
namespaces_whole no_members t e = rw (sym (same_Some _ _ e)) (All-nil IsWhole)
namespaces_whole (member n d ms) t e = with_some n (option_and_then (relations_read n) (as_object d)) (namespaces_read ms) t e (λ rs rest p q same.
    let here : All IsWhole rs = option_and_then_some (relations_read n) (as_object d) rs p (λ os is read. relations_whole n os rs read) in
    rw (sym same) (All-append IsWhole rs rest.relations here (namespaces_whole ms rest q)))

pub config_whole : (d : Data) (t : ConfigTexts) → config_read d ≡ Some t → All IsWhole t.relations
config_whole d t e = config_some d t e (λ m ms got is read. namespaces_whole ms t read)

pub all_before : {A B : Type 0} (P : B → Type 0) (f : A → B) (xs : List A) → All P (map f xs) → All (λ x. P (f x)) xs
all_before P f [] h = All-nil (λ x. P (f x))
all_before P f (x ∷ xs) h = All-cons (λ y. P (f y)) x xs (All-head P (f x) (map f xs) h) (all_before P f xs (All-tail P (f x) (map f xs) h))
