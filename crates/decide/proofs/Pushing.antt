-- Stacks after a push on one of them.
use Rattle.std.proofs.Common.{◌≡◌, ℕ, ◌<◌, List, [], ◌∷◌, ◌++◌, length, get_or, set, ap, ◌∙◌, sym, subst, inl, inr, ⊎_elim, arith}
use Rattle.std.specs.Prelude.{◌⊎◌, Contains, Vec}
use Rattle.std.specs.Global.{Global}
use Rattle.std.proofs.lemmas.Bool.{cases_eq}
use Rattle.std.proofs.lemmas.List.{length-set}
use Rattle.std.proofs.lemmas.List.Elements.{Contains-append_left, Contains-push, Contains-push_cases}
use Rattle.decide.specs.inside.Searches.{Pushes}
use Rattle.decide.proofs.Elements.{Holds, holds_same, holds_set, holds_stored, holds_set_back}

-- the number is on the stack of the level
abbrev pub IsOn : List (Vec ℕ Global) → ℕ → ℕ → Type 0
IsOn xs l i = (v : Vec ℕ Global) × (l < length xs) × (get_or xs l v ≡ v) × Contains v.items i

module _ (xs ys : List (Vec ℕ Global)) (k i : ℕ) (pushes : Pushes xs ys k i) where
  pub pushed_long : length ys ≡ length xs
  pushed_long = ap length pushes.4 ∙ length-set xs k pushes.1

  pub pushed_stays : (l j : ℕ) → IsOn xs l j → IsOn ys l j
  pushed_stays l j (x, lt, read, c) =
      let v = pushes.0 in
      let w = pushes.1 in
      subst (λ zs. IsOn zs l j) (sym pushes.4)
      (⊎_elim
      (λ same.
      let at : Holds xs l v = (lt, ap (λ q. get_or xs q v) same ∙ pushes.2) in
      let here : x ≡ v = holds_same xs l x v (lt, read) at in
      let before : Contains v.items j = subst (λ (y : Vec ℕ Global). Contains y.items j) here c in
      let all : Contains w.items j = subst (λ zs. Contains zs j) (sym pushes.3) (Contains-append_left v.items (i ∷ []) j before) in
      let stored : Holds (set xs k w) l w = subst (λ q. Holds (set xs q w) l w) same (holds_stored xs l w lt) in
      (w, stored.0, stored.1, all))
      (λ other. let h = holds_set xs k w l x other (lt, read) in (x, h.0, h.1, c))
      (cases_eq l k))

  pub pushed_here : k < length xs → IsOn ys k i
  pushed_here lt =
      let w = pushes.1 in
      let stored = holds_stored xs k w lt in
      subst (λ zs. IsOn zs k i) (sym pushes.4)
      (w, stored.0, stored.1, subst (λ zs. Contains zs i) (sym pushes.3) (Contains-push pushes.0.items i))

  pub pushed_from : (l j : ℕ) → IsOn ys l j → IsOn xs l j ⊎ ((i ≡ j) × (l ≡ k))
  pushed_from l j on =
      let v = pushes.0 in
      let w = pushes.1 in
      let (x, lt, read, c) = subst (λ zs. IsOn zs l j) pushes.4 on in
      let within : l < length xs = omega (arith, lt, length-set xs k w) in
      ⊎_elim
      (λ (same, here).
      let all : Contains (v.items ++ i ∷ []) j = subst (λ zs. Contains zs j) pushes.3 (subst (λ (y : Vec ℕ Global). Contains y.items j) here c) in
      ⊎_elim
      (λ before. inl (v, within, ap (λ q. get_or xs q v) same ∙ pushes.2, before))
      (λ last. inr (last, same))
      (Contains-push_cases v.items i j all))
      (λ (other, h). inl (x, h.0, h.1, c))
      (holds_set_back xs k w l x (lt, read))

  pub pushed_back : (l j : ℕ) → IsOn ys l j → IsOn xs l j ⊎ (i ≡ j)
  pushed_back l j on = ⊎_elim inl (λ here. inr here.0) (pushed_from l j on)
