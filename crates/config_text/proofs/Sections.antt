-- The parts of a configuration, read one after another.
use Rattle.std.proofs.Common.{◌≡◌, ℕ, List, [], ◌∷◌, ◌++◌, Option, Some, None, map, length, arith, refl, sym, ap, ◌∙◌, append_assoc, append-nil, string_bytes, String, Global, Result, Ok, Err, IfOk}
use Rattle.std.specs.Prelude.{option_map, option_and_then}
use Rattle.std.specs.declared.alloc.AllocError.{AllocError}
use Rattle.std.proofs.lemmas.List.{map-append}
use Rattle.serde_json.specs.Data.{Members, no_members, member}
use Rattle.serde_json.specs.Events.{members_len}
use Rattle.serde_json.specs.Find.{as_str, as_object}
use Rattle.serde_json.specs.View.{view, items_view, members_view}
use Rattle.serde_json.specs.declared.value.Value.{Value}
use Rattle.serde_json.proofs.Views.{Entry, members_len-members_view}
use Rattle.meaning.specs.Form.{Form}
use Rattle.config_text.specs.Texts.{RelationTexts, ConfigTexts, draft_form, relation_texts}
use Rattle.config_text.specs.Shape.{named_read, form_read, member_read, parts_read, forms_read, texts_read, relation_read, relations_read, with_namespace, namespaces_read}
use Rattle.config_text.specs.declared.draft.DraftRewrite.{DraftRewrite}
use Rattle.config_text.specs.declared.draft.DraftRelation.{DraftRelation}
use Rattle.config_text.proofs.ByItem.{IsByItem}

abbrev pub text_of : Value → Option (List ℕ)
text_of v = as_str (view v)

abbrev pub texts_of : List Value → Option (List (List ℕ))
texts_of vs = texts_read (items_view vs)

pub texts_by_item : IsByItem text_of texts_of
texts_by_item = (refl, λ v vs. refl)

abbrev pub relation_at : List ℕ → Entry → Option RelationTexts
relation_at n e = relation_read n (string_bytes e.0) (view e.1)

abbrev pub relations_at : List ℕ → List Entry → Option (List RelationTexts)
relations_at n es = relations_read n (members_view es)

pub relations_by_item : (n : List ℕ) → IsByItem (relation_at n) (relations_at n)
relations_by_item n = (refl, λ e es. refl)

-- the namespaces that were read, and then the rest
abbrev pub joined : ConfigTexts → Option ConfigTexts → Option ConfigTexts
joined c None = None
joined c (Some rest) = Some (record { namespaces = c.namespaces ++ rest.namespaces; relations = c.relations ++ rest.relations })

abbrev pub two : List (List ℕ) → List RelationTexts → ConfigTexts
two ns rs = record { namespaces = ns; relations = rs }

joined_more : (ns : List (List ℕ)) (rs : List RelationTexts) (n : List ℕ) (more : List RelationTexts) (r : Option ConfigTexts)
    → joined (two (ns ++ n ∷ []) (rs ++ more)) r ≡ joined (two ns rs) (with_namespace n (Some more) r)
joined_more ns rs n more None = refl
joined_more ns rs n more (Some rest) = rw (append_assoc ns (n ∷ []) rest.namespaces, append_assoc rs more rest.relations) refl

abbrev pub namespace_at : Entry → Option (List RelationTexts)
namespace_at e = option_and_then (relations_read (string_bytes e.0)) (as_object (view e.1))

abbrev pub namespaces_at : List Entry → Option ConfigTexts
namespaces_at es = namespaces_read (members_view es)

pub namespace_more : (ns new_ns : List (String Global)) (rs more new_rs : List DraftRelation) (name : String Global) (e : Entry) (left some all : List Entry)
    → some ≡ e ∷ left → namespace_at e ≡ Some (map relation_texts more) → string_bytes name ≡ string_bytes e.0 → new_ns ≡ ns ++ name ∷ [] → new_rs ≡ rs ++ more
    → joined (two (map string_bytes ns) (map relation_texts rs)) (namespaces_at some) ≡ namespaces_at all
    → joined (two (map string_bytes new_ns) (map relation_texts new_rs)) (namespaces_at left) ≡ namespaces_at all
namespace_more ns new_ns rs more new_rs name e left some all is fits named ns_so rs_so inv =
    let read : namespaces_at some ≡ with_namespace (string_bytes name) (Some (map relation_texts more)) (namespaces_at left) =
    ap namespaces_at is ∙ ap (λ o. with_namespace (string_bytes e.0) o (namespaces_at left)) fits ∙ ap (λ k. with_namespace k (Some (map relation_texts more)) (namespaces_at left)) (sym named) in
    let n : map string_bytes new_ns ≡ map string_bytes ns ++ string_bytes name ∷ [] = ap (map string_bytes) ns_so ∙ map-append string_bytes ns (name ∷ []) in
    let r : map relation_texts new_rs ≡ map relation_texts rs ++ map relation_texts more = ap (map relation_texts) rs_so ∙ map-append relation_texts rs more in
    ap (λ xs. joined (two xs (map relation_texts new_rs)) (namespaces_at left)) n
    ∙ ap (λ xs. joined (two (map string_bytes ns ++ string_bytes name ∷ []) xs) (namespaces_at left)) r
    ∙ joined_more (map string_bytes ns) (map relation_texts rs) (string_bytes name) (map relation_texts more) (namespaces_at left)
    ∙ sym (ap (joined (two (map string_bytes ns) (map relation_texts rs))) read) ∙ inv

pub namespaces_done : (c : ConfigTexts) (some all : List Entry) → some ≡ [] → joined c (namespaces_at some) ≡ namespaces_at all → Some c ≡ namespaces_at all
namespaces_done c some all is inv =
    let n : namespaces_at some ≡ Some (two [] []) = ap namespaces_at is in
    let e : joined c (Some (two [] [])) ≡ Some c = rw (append-nil c.namespaces, append-nil c.relations) refl in
    sym e ∙ sym (ap (joined c) n) ∙ inv

abbrev pub form_at : Value → Option Form
form_at v = form_read (view v)

abbrev pub forms_at : List Value → Option (List Form)
forms_at vs = forms_read (items_view vs)

pub forms_by_item : IsByItem form_at forms_at
forms_by_item = (refl, λ v vs. refl)

member_alone : (o : Option DraftRewrite) (e : Entry) (left es : List Entry) → es ≡ e ∷ left → length es ≡ 1
    → option_map draft_form o ≡ named_read (string_bytes e.0) (view e.1) (parts_read (view e.1)) → option_map draft_form o ≡ member_read (members_view es)
member_alone o e [] es is one h = rw is h
member_alone o e (f ∷ left) es is one h = absurd (omega (arith, one, ap length is))

-- the one member of an object
pub alone_ok : (r : Result (Option DraftRewrite) AllocError) (e : Entry) (left es : List Entry) (key : List ℕ) → es ≡ e ∷ left → length es ≡ 1 → key ≡ string_bytes e.0
    → IfOk r (λ o. option_map draft_form o ≡ named_read key (view e.1) (parts_read (view e.1)))
    → IfOk r (λ o. option_map draft_form o ≡ member_read (members_view es))
alone_ok (Ok o) e left es key is one k h = member_alone o e left es is one (rw (sym k) h)
alone_ok (Err x) e left es key is one k h = h

none_alone : (ms : Members) → (members_len ms ≡ 1 → ⊥) → None ≡ member_read ms
none_alone no_members h = refl
none_alone (member k d no_members) h = absurd (h refl)
none_alone (member k d (member l e ms)) h = refl

pub members_other : (es : List Entry) → (length es ≡ 1 → ⊥) → None ≡ member_read (members_view es)
members_other es h = none_alone (members_view es) (λ e. h (sym (members_len-members_view es) ∙ e))
