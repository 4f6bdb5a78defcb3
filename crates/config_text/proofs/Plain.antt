-- What is written of a configuration has no floats.
use Rattle.std.proofs.Common.{◌≡◌, ℕ, List, [], ◌∷◌, Bool, true, false, cond, ◌||◌, true≢false, refl, ap, ◌∙◌, Ordering, Less, Equal, Greater, string_bytes, String, Global, Result, Ok, Err, IfOk}
use Rattle.std.specs.Prelude.{codes, nat_eq}
use Rattle.std.specs.Ordering.{match_ordering, nat_cmp}
use Rattle.std.specs.Cmp.Lexicographic.{slice_cmp, pointwise}
use Rattle.std.specs.declared.alloc.AllocError.{AllocError}
use Rattle.serde_json.specs.Data.{Data, Members, member, no_members, object, array, boolean, put}
use Rattle.serde_json.specs.Written.{compact_text, has_float, items_have_float, members_have_float}
use Rattle.names.specs.declared.relation.SubjectType.{SubjectType}
use Rattle.meaning.specs.Form.{Form, Forms, This, Computed, TupleTo, Union, Intersection, Exclusion, none, more}
use Rattle.meaning.specs.Config.{Configured, Defined}
use Rattle.config_text.specs.Canonical.{form_data, forms_data, types_data, with_types, is_this, with_rewrite, with_indexed, relation_data, relation_into, relations_into, namespaces_into, config_data}

none_of : (a b : Bool) → a || b ≡ false → (a ≡ false) × (b ≡ false)
none_of true b h = absurd (true≢false h)
none_of false b h = (refl, h)

put_plain_at : (o : Ordering) (k l : List ℕ) (d e : Data) (ms : Members) → has_float d ≡ false → has_float e ≡ false → members_have_float ms ≡ false → members_have_float (put k d ms) ≡ false
    → members_have_float (match_ordering o (member k d (member l e ms)) (member l d ms) (member l e (put k d ms))) ≡ false
put_plain_at Less k l d e ms hd he hm hp = rw (hd, he, hm) refl
put_plain_at Equal k l d e ms hd he hm hp = rw (hd, hm) refl
put_plain_at Greater k l d e ms hd he hm hp = rw (he, hp) refl

put_plain : (k : List ℕ) (d : Data) (ms : Members) → has_float d ≡ false → members_have_float ms ≡ false → members_have_float (put k d ms) ≡ false
put_plain k d no_members hd hm = rw hd refl
put_plain k d (member l e ms) hd hm = let p = none_of _ _ hm in put_plain_at (slice_cmp nat_cmp k l) k l d e ms hd p.0 p.1 (put_plain k d ms hd p.1)

mutual
  form_plain : (f : Form) → has_float (form_data f) ≡ false
  form_plain This = refl
  form_plain (Computed r) = refl
  form_plain (TupleTo t r) = refl
  form_plain (Union ws) = rw (forms_plain ws) refl
  form_plain (Intersection ws) = rw (forms_plain ws) refl
  form_plain (Exclusion a b) = rw (form_plain a, form_plain b) refl

  forms_plain : (ws : Forms) → items_have_float (forms_data ws) ≡ false
  forms_plain none = refl
  forms_plain (more w ws) = rw (form_plain w, forms_plain ws) refl

types_plain : (ts : List SubjectType) → items_have_float (types_data ts) ≡ false
types_plain [] = refl
types_plain (t ∷ ts) = types_plain ts

with_types_plain : (ts : List SubjectType) (ms : Members) → members_have_float ms ≡ false → members_have_float (with_types ts ms) ≡ false
with_types_plain [] ms h = h
with_types_plain (t ∷ ts) ms h = put_plain (codes "types") (array (types_data (t ∷ ts))) ms (types_plain ts) h

cond_plain : (b : Bool) (ms ns : Members) → members_have_float ms ≡ false → members_have_float ns ≡ false → members_have_float (cond b ms ns) ≡ false
cond_plain true ms ns hm hn = hm
cond_plain false ms ns hm hn = hn

with_indexed_plain : (b : Bool) (ms : Members) → members_have_float ms ≡ false → members_have_float (with_indexed b ms) ≡ false
with_indexed_plain false ms h = h
with_indexed_plain true ms h = put_plain (codes "indexed") (boolean true) ms refl h

relation_plain : (d : Defined) → has_float (relation_data d) ≡ false
relation_plain d =
    let types : members_have_float (with_types d.types no_members) ≡ false = with_types_plain d.types no_members refl in
    let written = with_types d.types no_members in
    let rewrite : members_have_float (with_rewrite d.form written) ≡ false =
    cond_plain (is_this d.form) written (put (codes "rewrite") (form_data d.form) written) types (put_plain (codes "rewrite") (form_data d.form) written (form_plain d.form) types) in
    with_indexed_plain d.indexed (with_rewrite d.form written) rewrite

relations_plain : (n : List ℕ) (ms : Members) (ds : List Defined) → members_have_float ms ≡ false → members_have_float (relations_into n ms ds) ≡ false
relations_plain n ms [] h = h
relations_plain n ms (d ∷ ds) h = relations_plain n (relation_into n ms d) ds (cond_plain (pointwise nat_eq d.rel.namespace n) (put d.rel.relation (relation_data d) ms) ms (put_plain d.rel.relation (relation_data d) ms (relation_plain d) h) h)

namespaces_plain : (ds : List Defined) (ms : Members) (ns : List (List ℕ)) → members_have_float ms ≡ false → members_have_float (namespaces_into ds ms ns) ≡ false
namespaces_plain ds ms [] h = h
namespaces_plain ds ms (n ∷ ns) h = namespaces_plain ds (put n (object (relations_into n no_members ds)) ms) ns (put_plain n (object (relations_into n no_members ds)) ms (relations_plain n no_members ds refl) h)

pub config_plain : (c : Configured) → has_float (config_data c) ≡ false
config_plain c = rw (namespaces_plain c.relations no_members c.namespaces refl) refl

pub ok_text : (r : Result (String Global) AllocError) (c : Configured) (d : Data) → d ≡ config_data c
    → IfOk r (λ s. has_float d ≡ false → string_bytes s ≡ compact_text d) → IfOk r (λ s. string_bytes s ≡ compact_text (config_data c))
ok_text (Ok s) c d is h = h (ap has_float is ∙ config_plain c) ∙ ap compact_text is
ok_text (Err x) c d is h = h
