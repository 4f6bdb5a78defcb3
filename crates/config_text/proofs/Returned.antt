-- What is written for a rewrite, a relation and a list of them is read back.
use Rattle.std.proofs.Common.{◌≡◌, ℕ, List, [], ◌∷◌, ◌++◌, Some, Bool, true, false, map, refl, sym, ap, ◌∙◌, append_assoc, append-nil, true≢false, nat_cmp, Less, Greater}
use Rattle.std.specs.Prelude.{codes}
use Rattle.std.specs.List.{AllByRecursion}
use Rattle.std.specs.List.Sorted.{IsStrictlySortedBy}
use Rattle.std.specs.Ordering.{ordering_reverse}
use Rattle.std.specs.Cmp.Lexicographic.{slice_cmp}
use Rattle.std.proofs.lemmas.Bool.{and_parts}
use Rattle.std.proofs.lemmas.Cmp.{nat_list_cmp_total}
use Rattle.serde_json.specs.Data.{Data, object, Members, no_members, member, put}
use Rattle.names.specs.declared.relation.SubjectType.{SubjectType}
use Rattle.names.specs.Spelling.{type_text}
use Rattle.meaning.specs.Form.{Form, Forms, This, Computed, TupleTo, Union, Intersection, Exclusion, none, more}
use Rattle.meaning.specs.Config.{Defined}
use Rattle.config_text.specs.Forms.{forms_of}
use Rattle.config_text.specs.Size.{has_parts, all_have_parts}
use Rattle.config_text.specs.Order.{name_cmp}
use Rattle.config_text.specs.Texts.{RelationTexts}
use Rattle.config_text.specs.Spelling.{defined_texts}
use Rattle.config_text.specs.Shape.{form_read, forms_read, texts_read, relation_read}
use Rattle.config_text.specs.Canonical.{form_data, forms_data, types_data, with_types, with_rewrite, with_indexed, relation_data}

-- the forms as a list
abbrev pub list_of : Forms → List Form
list_of none = []
list_of (more w ws) = w ∷ list_of ws

of_list_of : (ws : Forms) → forms_of (list_of ws) ≡ ws
of_list_of none = refl
of_list_of (more w ws) = ap (more w) (of_list_of ws)

mutual
  pub form_back : (f : Form) → has_parts f ≡ true → form_read (form_data f) ≡ Some f
  form_back This h = refl
  form_back (Computed r) h = refl
  form_back (TupleTo t r) h = refl
  form_back (Union none) h = absurd (true≢false (sym h))
  form_back (Union (more w ws)) h = let p = and_parts _ _ h in rw (form_back w p.0, forms_back ws p.1) (ap (λ xs. Some (Union (more w xs))) (of_list_of ws))
  form_back (Intersection none) h = absurd (true≢false (sym h))
  form_back (Intersection (more w ws)) h = let p = and_parts _ _ h in rw (form_back w p.0, forms_back ws p.1) (ap (λ xs. Some (Intersection (more w xs))) (of_list_of ws))
  form_back (Exclusion a b) h = let p = and_parts _ _ h in rw (form_back a p.0, form_back b p.1) refl

  pub forms_back : (ws : Forms) → all_have_parts ws ≡ true → forms_read (forms_data ws) ≡ Some (list_of ws)
  forms_back none h = refl
  forms_back (more w ws) h = let p = and_parts _ _ h in rw (form_back w p.0, forms_back ws p.1) refl

types_back : (ts : List SubjectType) → texts_read (types_data ts) ≡ Some (map type_text ts)
types_back [] = refl
types_back (t ∷ ts) = rw (types_back ts) refl

abbrev texts_with : List ℕ → List ℕ → List SubjectType → Form → Bool → RelationTexts
texts_with n r ts f b = record { namespace = n; relation = r; types = map type_text ts; form = f; indexed = b }

this_back : (n r : List ℕ) (ts : List SubjectType) (b : Bool) → relation_read n r (object (with_indexed b (with_types ts no_members))) ≡ Some (texts_with n r ts This b)
this_back n r [] true = refl
this_back n r [] false = refl
this_back n r (t ∷ ts) true = rw (types_back ts) refl
this_back n r (t ∷ ts) false = rw (types_back ts) refl

other_back : (n r : List ℕ) (ts : List SubjectType) (f : Form) (b : Bool) → form_read (form_data f) ≡ Some f
    → relation_read n r (object (with_indexed b (put (codes "rewrite") (form_data f) (with_types ts no_members)))) ≡ Some (texts_with n r ts f b)
other_back n r [] f true h = rw h refl
other_back n r [] f false h = rw h refl
other_back n r (t ∷ ts) f true h = rw (types_back ts, h) refl
other_back n r (t ∷ ts) f false h = rw (types_back ts, h) refl

either_back : (n r : List ℕ) (ts : List SubjectType) (f : Form) (b : Bool) → has_parts f ≡ true → relation_read n r (object (with_indexed b (with_rewrite f (with_types ts no_members)))) ≡ Some (texts_with n r ts f b)
either_back n r ts This b h = this_back n r ts b
either_back n r ts (Computed c) b h = other_back n r ts (Computed c) b (form_back (Computed c) h)
either_back n r ts (TupleTo t c) b h = other_back n r ts (TupleTo t c) b (form_back (TupleTo t c) h)
either_back n r ts (Union ws) b h = other_back n r ts (Union ws) b (form_back (Union ws) h)
either_back n r ts (Intersection ws) b h = other_back n r ts (Intersection ws) b (form_back (Intersection ws) h)
either_back n r ts (Exclusion a c) b h = other_back n r ts (Exclusion a c) b (form_back (Exclusion a c) h)

pub relation_back : (d : Defined) → has_parts d.form ≡ true → relation_read d.rel.namespace d.rel.relation (relation_data d) ≡ Some (defined_texts d)
relation_back d h = either_back d.rel.namespace d.rel.relation d.types d.form d.indexed h

-- ---- members that are put in the order of their keys

abbrev pub row : {A : Type 0} → (A → List ℕ) → (A → Data) → List A → Members
row key value [] = no_members
row key value (x ∷ xs) = member (key x) (value x) (row key value xs)

abbrev pub row_into : {A : Type 0} → (A → List ℕ) → (A → Data) → Members → List A → Members
row_into key value ms [] = ms
row_into key value ms (x ∷ xs) = row_into key value (put (key x) (value x) ms) xs

below_middle : {A : Type 0} (key : A → List ℕ) (k : List ℕ) (done : List A) (x : A) (rest : List A) → AllByRecursion (λ y. name_cmp k y ≡ Less) (map key (done ++ x ∷ rest)) → name_cmp k (key x) ≡ Less
below_middle key k [] x rest h = h.0
below_middle key k (y ∷ done) x rest h = below_middle key k done x rest h.1

put_end : {A : Type 0} (key : A → List ℕ) (value : A → Data) (done : List A) (x : A) (rest : List A) → IsStrictlySortedBy name_cmp (map key (done ++ x ∷ rest))
    → put (key x) (value x) (row key value done) ≡ row key value (done ++ x ∷ [])
unfolding IsStrictlySortedBy
put_end key value [] x rest h = refl
put_end key value (y ∷ done) x rest h =
    let above : slice_cmp nat_cmp (key x) (key y) ≡ Greater = nat_list_cmp_total.antisymm (key x) (key y) ∙ ap ordering_reverse (below_middle key (key y) done x rest h.0) in
    rw above (ap (member (key y) (value y)) (put_end key value done x rest h.1))

row_after : {A : Type 0} (key : A → List ℕ) (value : A → Data) (done rest : List A) → IsStrictlySortedBy name_cmp (map key (done ++ rest)) → row_into key value (row key value done) rest ≡ row key value (done ++ rest)
row_after key value done [] h = ap (row key value) (sym (append-nil done))
row_after key value done (x ∷ rest) h =
    ap (λ ms. row_into key value ms rest) (put_end key value done x rest h) ∙ row_after key value (done ++ x ∷ []) rest (rw (append_assoc done (x ∷ []) rest) h) ∙ ap (row key value) (append_assoc done (x ∷ []) rest)

pub row_is : {A : Type 0} (key : A → List ℕ) (value : A → Data) (xs : List A) → IsStrictlySortedBy name_cmp (map key xs) → row_into key value no_members xs ≡ row key value xs
row_is key value xs h = row_after key value [] xs h
