-- What is known of a block from its entries.
use Rattle.std.proofs.Common.{◌≡◌, ℕ, zero, suc, ◌<◌, List, [], ◌∷◌, length, get_or, refl, ap, sym, subst, ◌∙◌, arith}
use Rattle.std.specs.Prelude.{Some}
use Rattle.std.specs.List.{zip, slice_get}
use Rattle.std.specs.Map.{keys_of, values_of}
use Rattle.shelf.specs.inside.Blocks.{cuts, entries, IsBlock}
use Rattle.std.proofs.lemmas.List.{get_or_default}
use Rattle.shelf.proofs.Cuts.{length_cuts, CutAt, cut_at}

pub zip_keys : {K V : Type 0} (ks : List K) (vs : List V) → length ks ≡ length vs → keys_of (zip ks vs) ≡ ks
zip_keys [] vs h = refl
zip_keys (k ∷ ks) [] h = absurd (omega (arith, h))
zip_keys (k ∷ ks) (v ∷ vs) h = ap (λ js. k ∷ js) (zip_keys ks vs (omega (arith, h)))

pub zip_values : {K V : Type 0} (ks : List K) (vs : List V) → length ks ≡ length vs → values_of (zip ks vs) ≡ vs
zip_values [] [] h = refl
zip_values [] (v ∷ vs) h = absurd (omega (arith, h))
zip_values (k ∷ ks) [] h = absurd (omega (arith, h))
zip_values (k ∷ ks) (v ∷ vs) h = ap (λ ws. v ∷ ws) (zip_values ks vs (omega (arith, h)))

pub zip_length : {K V : Type 0} (ks : List K) (vs : List V) → length ks ≡ length vs → length (zip ks vs) ≡ length vs
zip_length [] vs h = h
zip_length (k ∷ ks) [] h = absurd (omega (arith, h))
zip_length (k ∷ ks) (v ∷ vs) h = ap suc (zip_length ks vs (omega (arith, h)))

pub get_at : {X : Type 0} (xs : List X) (i : ℕ) (x : X) → i < length xs → x ≡ get_or xs i x → slice_get xs i ≡ Some x
get_at [] i x h is = absurd (omega arith)
get_at (y ∷ ys) zero x h is = ap Some (sym is)
get_at (y ∷ ys) (suc i) x h is = get_at ys i x (omega arith) is

module _ {V : Type 0} (texts ends : List ℕ) (values : List V) (is : IsBlock texts ends (length values)) (es : List (List ℕ × V)) (view : entries texts ends values ≡ es) where
  alike : length (cuts 0 texts ends) ≡ length values
  alike = length_cuts 0 texts ends ∙ is.paired

  pub keys_are : keys_of es ≡ cuts 0 texts ends
  keys_are = ap keys_of (sym view) ∙ zip_keys (cuts 0 texts ends) values alike

  pub values_are : values_of es ≡ values
  values_are = ap values_of (sym view) ∙ zip_values (cuts 0 texts ends) values alike

  pub count_is : length es ≡ length values
  count_is = ap length (sym view) ∙ zip_length (cuts 0 texts ends) values alike

  pub ends_are : length es ≡ length ends
  ends_are = count_is ∙ sym is.paired

  pub value_at : (i : ℕ) (v : V) → i < length es → v ≡ get_or values i v → slice_get (values_of es) i ≡ Some v
  value_at i v h reads = ap (λ vs. slice_get vs i) values_are ∙ get_at values i v (omega (arith, count_is)) reads

  -- a text, read where the ends say
  pub text_at : (i : ℕ) → i < length es → (text stops : List ℕ) (start end : ℕ) → text ≡ texts → stops ≡ ends → start ≡ get_or (0 ∷ stops) i 0 → end ≡ get_or ends i end → CutAt text start end (get_or (keys_of es) i [])
  text_at i h text stops start end same stops_are s e =
      let within : i < length ends = omega (arith, ends_are) in
      let P : List ℕ → ℕ → ℕ → List (List ℕ) → Type 0 = λ t a b ks. CutAt t a b (get_or ks i []) in
      let at : P texts (get_or (0 ∷ ends) i 0) (get_or ends i 0) (cuts 0 texts ends) = cut_at texts ends (length values) is i within in
      let at_text : P text (get_or (0 ∷ ends) i 0) (get_or ends i 0) (cuts 0 texts ends) = subst (λ t. P t (get_or (0 ∷ ends) i 0) (get_or ends i 0) (cuts 0 texts ends)) (sym same) at in
      let at_start : P text start (get_or ends i 0) (cuts 0 texts ends) = subst (λ a. P text a (get_or ends i 0) (cuts 0 texts ends)) (sym (s ∙ ap (λ xs. get_or (0 ∷ xs) i 0) stops_are)) at_text in
      let at_end : P text start end (cuts 0 texts ends) = subst (λ b. P text start b (cuts 0 texts ends)) (sym (e ∙ get_or_default ends i end 0 within)) at_start in
      subst (λ ks. P text start end ks) (sym keys_are) at_end
