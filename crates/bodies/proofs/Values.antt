-- Values that are read one after another.
use Rattle.std.proofs.Common.{◌≡◌, ℕ, ◌<◌, ◌+◌, List, [], ◌∷◌, ◌++◌, length, map, take, drop, get_or, refl, sym, ap, ◌∙◌, subst, arith, drop-cons, add-one, suc}
use Rattle.std.specs.Prelude.{Option, Some, None, IsSomeAnd, option_and_then}
use Rattle.std.specs.List.{AllZip}
use Rattle.std.proofs.lemmas.List.{take-append-drop}
use Rattle.std.proofs.lemmas.Option.{none-some}
use Rattle.std.proofs.Math.Seq.{take-suc}
use Rattle.serde_json.specs.Data.{Data, Items, no_items, item}
use Rattle.serde_json.specs.Find.{as_array}
use Rattle.serde_json.specs.View.{view, items_of, items_view}
use Rattle.serde_json.specs.declared.value.Value.{Value}
use Rattle.bodies.specs.Writing.{IsListOf}

items_same : (ds es : List Data) → items_of ds ≡ items_of es → ds ≡ es
items_same [] [] e = refl
items_same [] (x ∷ es) e = let no : no_items ≡ item x (items_of es) = e in absurd (cc)
items_same (d ∷ ds) [] e = let no : item d (items_of ds) ≡ no_items = e in absurd (cc)
items_same (d ∷ ds) (x ∷ es) e =
    let both : item d (items_of ds) ≡ item x (items_of es) = e in
    let heads : d ≡ x = cc in
    let tails : items_of ds ≡ items_of es = cc in
    rw (heads, items_same ds es tails) refl

module _ {X : Type 0} (R : Data → X → Type 0) where
  one_last : (vs : List Value) (v : Value) (xs : List X) (x : X) → AllZip R (map view vs) xs → R (view v) x → AllZip R (map view (vs ++ v ∷ [])) (xs ++ x ∷ [])
  one_last [] v [] x all is = (is, tt)
  one_last [] v (p ∷ xs) x all is = absurd all
  one_last (w ∷ vs) v [] x all is = absurd all
  one_last (w ∷ vs) v (p ∷ xs) x all is = (all.0, one_last vs v xs x all.1 is)

  among : (us : List Value) (v : Value) (ws : List Value) → ((x : X) → R (view v) x → ⊥) → (xs : List X) → AllZip R (map view (us ++ v ∷ ws)) xs → ⊥
  among [] v ws refused [] all = all
  among [] v ws refused (p ∷ xs) all = refused p all.0
  among (u ∷ us) v ws refused [] all = all
  among (u ∷ us) v ws refused (p ∷ xs) all = among us v ws refused xs all.1

  firsts : (us ws : List Value) (xs : List X) → AllZip R (map view (us ++ ws)) xs → (ys : List X) × AllZip R (map view us) ys
  firsts [] ws xs all = ([], tt)
  firsts (u ∷ us) ws [] all = absurd all
  firsts (u ∷ us) ws (p ∷ xs) all = let found = firsts us ws xs all.1 in (p ∷ found.0, (all.0, found.1))

  pub as_many : (vs : List Value) (xs : List X) → AllZip R (map view vs) xs → length xs ≡ length vs
  as_many [] [] all = refl
  as_many [] (p ∷ xs) all = absurd all
  as_many (v ∷ vs) [] all = absurd all
  as_many (v ∷ vs) (p ∷ xs) all = ap suc (as_many vs xs all.1)

  module _ (vs : List Value) (i : ℕ) (v : Value) (in_range : i < length vs) (at : v ≡ get_or vs i v) where
    one_more : take (i + 1) vs ≡ take i vs ++ v ∷ []
    one_more = rw (add-one, take-suc vs i v in_range, ← at) refl

    pub read_more : (xs more : List X) (x : X) → more ≡ xs ++ x ∷ [] → AllZip R (map view (take i vs)) xs → R (view v) x → AllZip R (map view (take (i + 1) vs)) more
    read_more xs more x is all one = rw (one_more, is) (one_last (take i vs) v xs x all one)

    pub read_before : (xs : List X) → AllZip R (map view (take (i + 1) vs)) xs → (ys : List X) × AllZip R (map view (take i vs)) ys
    read_before xs all = firsts (take i vs) (v ∷ []) xs (subst (λ (us : List Value). AllZip R (map view us) xs) one_more all)

    pub refused_last : ((x : X) → R (view v) x → ⊥) → (xs : List X) → AllZip R (map view (take (i + 1) vs)) xs → ⊥
    refused_last refused xs all = among (take i vs) v [] refused xs (subst (λ (us : List Value). AllZip R (map view us) xs) one_more all)

    dropped : drop i vs ≡ v ∷ drop (i + 1) vs
    dropped = grind (arith, drop-cons, in_range, at)

    pub read_refused : ((x : X) → R (view v) x → ⊥) → (xs : List X) → AllZip R (map view vs) xs → ⊥
    read_refused refused xs all =
        let t : vs ≡ take i vs ++ v ∷ drop (i + 1) vs = sym (take-append-drop i vs) ∙ ap (λ us. take i vs ++ us) dropped in
        among (take i vs) v (drop (i + 1) vs) refused xs (subst (λ (us : List Value). AllZip R (map view us) xs) t all)

  -- the list that a value is
  module _ (d : Data) (vs : List Value) (at : Some (items_view vs) ≡ as_array d) where
    pub listed : (xs : List X) → IsListOf R xs d → AllZip R (map view vs) xs
    listed xs is =
        let both : Some (items_of (map view vs)) ≡ Some (items_of is.0) = at ∙ is.1 in
        let same : items_of (map view vs) ≡ items_of is.0 = cc in
        subst (λ (ds : List Data). AllZip R ds xs) (sym (items_same (map view vs) is.0 same)) is.2

    pub is_list : (xs : List X) → AllZip R (map view vs) xs → IsListOf R xs d
    is_list xs all = (map view vs, sym at, all)

  pub no_list : (d : Data) → as_array d ≡ None → (xs : List X) → IsListOf R xs d → ⊥
  no_list d none xs is = none-some (items_of is.0) (sym none ∙ is.1)

  -- the list that a member is
  pub listed_at : (at : Option Data) (vs : List Value) → Some (items_view vs) ≡ option_and_then as_array at → (xs : List X) → IsSomeAnd at (IsListOf R xs) → AllZip R (map view vs) xs
  listed_at None vs there xs is = absurd is
  listed_at (Some d) vs there xs is = listed d vs there xs is

  pub is_list_at : (at : Option Data) (vs : List Value) → Some (items_view vs) ≡ option_and_then as_array at → (xs : List X) → AllZip R (map view vs) xs → IsSomeAnd at (IsListOf R xs)
  is_list_at None vs there xs all = absurd (none-some (items_view vs) (sym there))
  is_list_at (Some d) vs there xs all = is_list d vs there xs all

  pub no_list_at : (at : Option Data) → option_and_then as_array at ≡ None → (xs : List X) → IsSomeAnd at (IsListOf R xs) → ⊥
  no_list_at None none xs is = is
  no_list_at (Some d) none xs is = no_list d none xs is
