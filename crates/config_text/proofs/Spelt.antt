-- Texts and what they spell, one after another.
use Rattle.std.proofs.Common.{◌≡◌, ℕ, zero, suc, ◌+◌, ◌<◌, true, false, List, [], ◌∷◌, ◌++◌, All, length, get_or, take, map, arith, refl, sym, ap, ◌∙◌, true≢false}
use Rattle.std.proofs.lemmas.List.{map-append, take_more}
use Rattle.std.proofs.lemmas.List.Elements.{All-head, All-tail, All-push}
use Rattle.names.specs.Names.{is_name}
use Rattle.meaning.specs.Config.{Configured}
use Rattle.config_text.specs.Texts.{ConfigTexts}
use Rattle.config_text.specs.Spelling.{IsName, Spells, AreSpelled}

pub spelled_more : {A B T : Type 0} (text : A → B) (Is : A → Type 0) (of : T → B) (ts : List T) (i : ℕ) (t : T) (xs more : List A) (x : A)
    → i < length ts → t ≡ get_or ts i t → more ≡ xs ++ x ∷ [] → text x ≡ of t → Is x → AreSpelled text Is (map of (take i ts)) xs → AreSpelled text Is (map of (take (i + 1) ts)) more
spelled_more text Is of ts i t xs more x inside at so spells is inv =
    let took : take (i + 1) ts ≡ take i ts ++ t ∷ [] = take_more ts i t inside ∙ ap (λ y. take i ts ++ y ∷ []) (sym at) in
    let texts : map of (take (i + 1) ts) ≡ map of (take i ts) ++ of t ∷ [] = ap (map of) took ∙ map-append of (take i ts) (t ∷ []) in
    let mine : map text more ≡ map text xs ++ text x ∷ [] = ap (map text) so ∙ map-append text xs (x ∷ []) in
    record {
      named = rw so (All-push Is xs x inv.named is);
      spelling = mine ∙ ap (λ ys. ys ++ text x ∷ []) inv.spelling ∙ ap (λ y. map of (take i ts) ++ y ∷ []) spells ∙ sym texts;
    }

none_at : {A B T : Type 0} (text : A → B) (Is : A → Type 0) (of : T → B) (ts : List T) (i : ℕ) (t : T) → i < length ts → t ≡ get_or ts i t → ((x : A) → text x ≡ of t → Is x → ⊥)
    → (xs : List A) → map text xs ≡ map of ts → All Is xs → ⊥
none_at text Is of [] i t inside at none xs same named = absurd (omega arith)
none_at text Is of (u ∷ ts) i t inside at none [] same named = absurd (omega (arith, ap length same))
none_at text Is of (u ∷ ts) zero t inside at none (x ∷ xs) same named =
    let here : text x ≡ of u = cc in none x (here ∙ ap of (sym at)) (All-head Is x xs named)
none_at text Is of (u ∷ ts) (suc i) t inside at none (x ∷ xs) same named =
    let there : map text xs ≡ map of ts = cc in none_at text Is of ts i t (omega arith) at none xs there (All-tail Is x xs named)

-- where one text spells nothing, so do all
pub none_spelled : {A B T : Type 0} (text : A → B) (Is : A → Type 0) (of : T → B) (ts : List T) (i : ℕ) (t : T) → i < length ts → t ≡ get_or ts i t → ((x : A) → text x ≡ of t → Is x → ⊥)
    → (xs : List A) → AreSpelled text Is (map of ts) xs → ⊥
none_spelled text Is of ts i t inside at none xs s = none_at text Is of ts i t inside at none xs s.spelling s.named

pub no_name : (text was : List ℕ) → was ≡ text → is_name was ≡ false → (n : List ℕ) → n ≡ text → IsName n → ⊥
no_name text was same refused n is name = let g : is_name n ≡ true = name in true≢false (sym g ∙ ap is_name (is ∙ sym same) ∙ refused)

map_same : (xs : List (List ℕ)) → map (λ n. n) xs ≡ xs
map_same [] = refl
map_same (x ∷ xs) = ap (λ ys. x ∷ ys) (map_same xs)

pub no_namespaces : (texts : ConfigTexts) → ((ns : List (List ℕ)) → AreSpelled (λ n. n) IsName texts.namespaces ns → ⊥) → (c : Configured) → Spells texts c → ⊥
no_namespaces texts none c s = none c.namespaces (record { named = s.named.0; spelling = map_same c.namespaces ∙ ap (λ t. t.namespaces) s.spelling })
