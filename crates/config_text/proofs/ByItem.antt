-- Lists that are read one item after another, where a loop has read the first of them.
use Rattle.std.proofs.Common.{◌≡◌, ℕ, zero, suc, ◌+◌, ◌<◌, ◌≤◌, List, [], ◌∷◌, ◌++◌, Option, Some, None, length, get_or, drop, drop-cons, map, arith, refl, sym, ap, ◌∙◌}
use Rattle.std.proofs.lemmas.List.{map-append}
use Rattle.config_text.specs.Shape.{both}

-- what was read, and then the rest
abbrev pub after : {A : Type 0} → List A → Option (List A) → Option (List A)
after [] r = r
after (x ∷ xs) r = both (Some x) (after xs r)

after_more : {A : Type 0} (xs : List A) (x : A) (r : Option (List A)) → after (xs ++ x ∷ []) r ≡ after xs (both (Some x) r)
after_more [] x r = refl
after_more (y ∷ xs) x r = ap (both (Some y)) (after_more xs x r)

after_none : {A : Type 0} (xs : List A) → after xs None ≡ None
after_none [] = refl
after_none (x ∷ xs) = ap (both (Some x)) (after_none xs)

after_done : {A : Type 0} (xs : List A) → after xs (Some []) ≡ Some xs
after_done [] = refl
after_done (x ∷ xs) = ap (both (Some x)) (after_done xs)

-- a reading that goes item by item
abbrev pub IsByItem : {X A : Type 0} → (X → Option A) → (List X → Option (List A)) → Type 0
IsByItem {X} one read = (read [] ≡ Some []) × ((x : X) (xs : List X) → read (x ∷ xs) ≡ both (one x) (read xs))

pub item_refused : {X A : Type 0} (one : X → Option A) (read : List X → Option (List A)) → IsByItem one read → (done : List A) (x : X) (left some all : List X)
    → some ≡ x ∷ left → one x ≡ None → after done (read some) ≡ read all → None ≡ read all
item_refused one read law done x left some all is refused inv =
    let n : read some ≡ None = ap read is ∙ law.1 x left ∙ ap (λ o. both o (read left)) refused in
    sym (after_none done) ∙ sym (ap (after done) n) ∙ inv

pub item_more : {X A W : Type 0} (one : X → Option A) (read : List X → Option (List A)) (of : W → A) → IsByItem one read → (ws : List W) (w : W) (more : List W) (x : X) (left some all : List X)
    → some ≡ x ∷ left → one x ≡ Some (of w) → more ≡ ws ++ w ∷ [] → after (map of ws) (read some) ≡ read all → after (map of more) (read left) ≡ read all
item_more one read of law ws w more x left some all is fits so inv =
    let n : read some ≡ both (Some (of w)) (read left) = ap read is ∙ law.1 x left ∙ ap (λ o. both o (read left)) fits in
    let m : map of more ≡ map of ws ++ of w ∷ [] = ap (map of) so ∙ map-append of ws (w ∷ []) in
    ap (λ xs. after xs (read left)) m ∙ after_more (map of ws) (of w) (read left) ∙ sym (ap (after (map of ws)) n) ∙ inv

pub items_done : {X A : Type 0} (one : X → Option A) (read : List X → Option (List A)) → IsByItem one read → (done : List A) (some all : List X)
    → some ≡ [] → after done (read some) ≡ read all → Some done ≡ read all
items_done one read law done some all is inv =
    let n : read some ≡ Some [] = ap read is ∙ law.0 in
    sym (after_done done) ∙ sym (ap (after done) n) ∙ inv

pub drop_here : {X : Type 0} (xs : List X) (i : ℕ) (x : X) → i < length xs → x ≡ get_or xs i x → drop i xs ≡ x ∷ drop (i + 1) xs
drop_here xs i x inside at = grind (arith, drop-cons, inside, at)

pub drop_past : {X : Type 0} (xs : List X) (i : ℕ) → length xs ≤ i → drop i xs ≡ []
drop_past [] zero h = refl
drop_past [] (suc i) h = refl
drop_past (x ∷ xs) zero h = absurd (omega arith)
drop_past (x ∷ xs) (suc i) h = drop_past xs i (omega arith)
