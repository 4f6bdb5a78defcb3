-- A history has rows for each of its revisions.
use Rattle.std.proofs.Common.{◌≡◌, ℕ, ◌+◌, ◌-◌, ◌*◌, ◌<◌, ◌≤◌, ◌⊎◌, inl, inr, List, [], ◌∷◌, ◌++◌, length, length-append, zero, suc, refl, ap, sym, subst, ◌∙◌, arith}
use Rattle.std.specs.Prelude.{Bool, true, false, cond, ◌==◌, map, Option, Some, None}
use Rattle.std.specs.List.{list_any}
use Rattle.std.proofs.lemmas.Bool.{eqb-true, eqb-false}
use Rattle.std.proofs.lemmas.List.{length-map}
use Rattle.meaning.specs.Config.{Configured}
use Rattle.store.specs.Written.{TupleSpan, ConfigAt, Written, is_moved, is_one, config_at, brings_one}
use Rattle.store.specs.inside.Reading.{as_span, as_config, as_written}
use Rattle.store.specs.Refused.{IsWholeAbove}
use Rattle.store.specs.declared.parts.ReadSpan.{ReadSpan}
use Rattle.store.specs.declared.parts.ReadConfig.{ReadConfig}
use Rattle.store.specs.declared.parts.Head.{Head}
use Rattle.store.proofs.Picking.{In, found}
use Rattle.store.proofs.Living.{moved_says}
use Rattle.store.proofs.Once.{at_in}

-- ---- numbers from a list

without : ℕ → List ℕ → List ℕ
without n [] = []
without n (x ∷ xs) = cond (n == x) xs (x ∷ without n xs)

one_less : (n : ℕ) (xs : List ℕ) → In n xs → length (without n xs) + 1 ≡ length xs
unfolding without
one_less n [] i = absurd i
one_less n (x ∷ xs) i = by_here (n == x) refl i (one_less n xs)
  where
    more : (a b : ℕ) → a + 1 ≡ b → suc a + 1 ≡ suc b
    more a b e = omega (arith, e)

    by_here : (b : Bool) → (n == x) ≡ b → (n ≡ x) ⊎ In n xs → (In n xs → length (without n xs) + 1 ≡ length xs) → length (cond b xs (x ∷ without n xs)) + 1 ≡ length (x ∷ xs)
    by_here true e j rest = omega arith
    by_here false e (inl same) rest = absurd (eqb-false n x e same)
    by_here false e (inr j) rest = more (length (without n xs)) (length xs) (rest j)

still_in : (n k : ℕ) (xs : List ℕ) → (k ≡ n → ⊥) → In k xs → In k (without n xs)
unfolding without
still_in n k [] other i = absurd i
still_in n k (x ∷ xs) other i = by_here (n == x) refl i (still_in n k xs other)
  where
    by_here : (b : Bool) → (n == x) ≡ b → (k ≡ x) ⊎ In k xs → (In k xs → In k (without n xs)) → In k (cond b xs (x ∷ without n xs))
    by_here true e (inl same) rest = absurd (other (same ∙ sym (eqb-true n x e)))
    by_here true e (inr j) rest = j
    by_here false e (inl same) rest = inl same
    by_here false e (inr j) rest = inr (rest j)

all_there : (n floor : ℕ) (xs : List ℕ) → ((k : ℕ) → floor < k → k ≤ floor + n → In k xs) → n ≤ length xs
all_there zero floor xs h = omega arith
all_there (suc n) floor xs h =
    let last : In (floor + suc n) xs = h (floor + suc n) (omega arith) (omega arith) in
    let rest = all_there n floor (without (floor + suc n) xs) (λ k low high. still_in (floor + suc n) k xs (λ e. omega (arith, e, high)) (h k low (omega (arith, high)))) in
    let one = one_less (floor + suc n) xs last in
    omega (arith, rest, one)

-- ---- the revisions of rows

revs_in : List TupleSpan → List ℕ
revs_in [] = []
revs_in (l ∷ ls) = l.added ∷ l.removed ∷ revs_in ls

revs_len : (ls : List TupleSpan) → length (revs_in ls) ≡ length ls * 2
unfolding revs_in
revs_len [] = refl
revs_len (l ∷ ls) = let e = revs_len ls in omega (arith, e)

in_revs : (rev : ℕ) (ls : List TupleSpan) (l : TupleSpan) → In l ls → (l.added ≡ rev) ⊎ (l.removed ≡ rev) → In rev (revs_in ls)
unfolding revs_in
in_revs rev [] l i h = absurd i
in_revs rev (m ∷ ms) l (inl e) (inl h) = inl (sym h ∙ ap (λ (x : TupleSpan). x.added) e)
in_revs rev (m ∷ ms) l (inl e) (inr h) = inr (inl (sym h ∙ ap (λ (x : TupleSpan). x.removed) e))
in_revs rev (m ∷ ms) l (inr i) h = inr (inr (in_revs rev ms l i h))

in_front : {A : Type 0} (x : A) (xs ys : List A) → In x xs → In x (xs ++ ys)
in_front x [] ys i = absurd i
in_front x (y ∷ xs) ys (inl e) = inl e
in_front x (y ∷ xs) ys (inr i) = inr (in_front x xs ys i)

behind : {A : Type 0} (x : A) (xs ys : List A) → In x ys → In x (xs ++ ys)
behind x [] ys i = i
behind x (y ∷ xs) ys i = inr (behind x xs ys i)

in_config : (cs : List ConfigAt) (c : ConfigAt) → In c cs → In c.rev (map (λ (c : ConfigAt). c.rev) cs)
in_config [] c i = absurd i
in_config (d ∷ ds) c (inl e) = inl (ap (λ (c : ConfigAt). c.rev) e)
in_config (d ∷ ds) c (inr i) = inr (in_config ds c i)

in_rows : (w : Written) (rev : ℕ) → brings_one w rev ≡ true → In rev (map (λ (c : ConfigAt). c.rev) w.configs ++ revs_in w.spans)
in_rows w rev one = by_config (config_at rev w.configs) refl one
  where
    by_config : (o : Option Configured) → config_at rev w.configs ≡ o → is_one o (list_any (is_moved rev) w.spans) ≡ true → In rev (map (λ (c : ConfigAt). c.rev) w.configs ++ revs_in w.spans)
    by_config (Some config) e one =
        let c = at_in rev w.configs config e in
        let P : ℕ → Type 0 = λ n. In n (map (λ (c : ConfigAt). c.rev) w.configs ++ revs_in w.spans) in
        subst P c.2 (in_front (c.0).rev (map (λ (c : ConfigAt). c.rev) w.configs) (revs_in w.spans) (in_config w.configs c.0 c.1))
    by_config None e one =
        let l = found (is_moved rev) w.spans one in
        behind rev (map (λ (c : ConfigAt). c.rev) w.configs) (revs_in w.spans) (in_revs rev w.spans l.0 l.1 (moved_says rev l.0 l.2))

pub few_refused : (head : Head) (spans : List ReadSpan) (configs : List ReadConfig) → head.floor ≤ head.newest → length spans * 2 + length configs < head.newest - head.floor → IsWholeAbove (as_written head spans configs) → ⊥
few_refused head spans configs order few whole =
    let w = as_written head spans configs in
    let most = all_there (head.newest - head.floor) head.floor (map (λ (c : ConfigAt). c.rev) w.configs ++ revs_in w.spans) (λ k low high. in_rows w k (whole k low (omega (arith, high, order)))) in
    let both = length-append (map (λ (c : ConfigAt). c.rev) w.configs) (revs_in w.spans) in
    let first = length-map w.configs (λ (c : ConfigAt). c.rev) in
    let configs_len = length-map configs as_config in
    let second = revs_len w.spans in
    let spans_len = length-map spans as_span in
    omega (arith, few, most, both, first, configs_len, second, spans_len)
