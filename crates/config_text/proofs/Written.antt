-- Parts of a configuration, written one after another.
use Rattle.std.proofs.Common.{◌≡◌, ℕ, zero, suc, ◌≤◌, List, [], ◌∷◌, length, take, map, arith, refl, ap, ◌∙◌}
use Rattle.serde_json.specs.Data.{item, string}
use Rattle.serde_json.specs.View.{items_view, view, items_of}
use Rattle.serde_json.specs.declared.value.Value.{Value}
use Rattle.names.specs.Spelling.{type_text}
use Rattle.names.specs.declared.relation.SubjectType.{SubjectType}
use Rattle.config_text.specs.declared.rewrite.Rewrite.{Rewrite}
use Rattle.config_text.specs.Forms.{form_of, forms_of}
use Rattle.config_text.specs.Canonical.{form_data, forms_data, types_data}

pub take_whole : {A : Type 0} (xs : List A) (i : ℕ) → length xs ≤ i → take i xs ≡ xs
take_whole [] zero h = refl
take_whole [] (suc i) h = refl
take_whole (x ∷ xs) zero h = absurd (omega arith)
take_whole (x ∷ xs) (suc i) h = ap (λ ys. x ∷ ys) (take_whole xs i (omega arith))

forms_items : (ws : List Rewrite) → items_of (map (λ r. form_data (form_of r)) ws) ≡ forms_data (forms_of (map form_of ws))
forms_items [] = refl
forms_items (w ∷ ws) = ap (item (form_data (form_of w))) (forms_items ws)

pub forms_done : (ws : List Rewrite) (vs : List Value) (i : ℕ) → length ws ≤ i → map view vs ≡ map (λ r. form_data (form_of r)) (take i ws) → items_view vs ≡ forms_data (forms_of (map form_of ws))
forms_done ws vs i end h = ap items_of (h ∙ ap (map (λ r. form_data (form_of r))) (take_whole ws i end)) ∙ forms_items ws

types_items : (ts : List SubjectType) → items_of (map (λ t. string (type_text t)) ts) ≡ types_data ts
types_items [] = refl
types_items (t ∷ ts) = ap (item (string (type_text t))) (types_items ts)

pub types_done : (ts : List SubjectType) (vs : List Value) (i : ℕ) → length ts ≤ i → map view vs ≡ map (λ t. string (type_text t)) (take i ts) → items_view vs ≡ types_data ts
types_done ts vs i end h = ap items_of (h ∙ ap (map (λ t. string (type_text t))) (take_whole ts i end)) ∙ types_items ts
