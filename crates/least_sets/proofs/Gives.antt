-- What a rule gives depends on the nodes that it names alone.
use Rattle.std.proofs.Common.{ℕ, ◌≡◌, Bool, true, not, ◌||◌, nat_eq, List, [], ◌∷◌, ◌++◌, refl, sym, ◌∙◌, ⊎_elim, ◌⊎◌}
use Rattle.std.specs.List.{list_any}
use Rattle.std.proofs.lemmas.Bool.{or_left, or_right, or_cases, eq-eqb, and_parts, and_from, false≢true}
use Rattle.std.proofs.lemmas.List.Folds.{list_any-append}
use Rattle.least_sets.specs.World.{Shape, Own, AnyOf, Reads, Either, Both, Except, gives, has, arcs_of, plain_of, taken_of}

pub has-append : (xs ys : List ℕ) (m : ℕ) → has (xs ++ ys) m ≡ (has xs m || has ys m)
has-append xs ys m = list_any-append (nat_eq m) xs ys

pub has_left : (xs ys : List ℕ) (m : ℕ) → has xs m ≡ true → has (xs ++ ys) m ≡ true
has_left xs ys m h = has-append xs ys m ∙ or_left (has xs m) (has ys m) h

pub has_right : (xs ys : List ℕ) (m : ℕ) → has ys m ≡ true → has (xs ++ ys) m ≡ true
has_right xs ys m h = has-append xs ys m ∙ or_right (has xs m) (has ys m) h

pub has_cases : (xs ys : List ℕ) (m : ℕ) → has (xs ++ ys) m ≡ true → (has xs m ≡ true) ⊎ (has ys m ≡ true)
has_cases xs ys m h = or_cases (has xs m) (has ys m) (sym (has-append xs ys m) ∙ h)

has_join : (xs ys vs ws : List ℕ) (m : ℕ) → (has xs m ≡ true → has vs m ≡ true) → (has ys m ≡ true → has ws m ≡ true)
    → has (xs ++ ys) m ≡ true → has (vs ++ ws) m ≡ true
has_join xs ys vs ws m f g h =
    ⊎_elim (λ a. has_left vs ws m (f a)) (λ b. has_right vs ws m (g b)) (has_cases xs ys m h)

pub has_here : (x : ℕ) (xs : List ℕ) → has (x ∷ xs) x ≡ true
has_here x xs = or_left (nat_eq x x) (has xs x) (eq-eqb x x refl)

pub has_later : (x : ℕ) (xs : List ℕ) (m : ℕ) → has xs m ≡ true → has (x ∷ xs) m ≡ true
has_later x xs m h = or_right (nat_eq m x) (has xs m) h

pub any_agree : (p q : ℕ → Bool) (xs : List ℕ) → ((m : ℕ) → has xs m ≡ true → p m ≡ q m) → list_any p xs ≡ list_any q xs
any_agree p q [] e = refl
any_agree p q (x ∷ xs) e =
    let first : p x ≡ q x = e x (has_here x xs) in
    let rest : list_any p xs ≡ list_any q xs = any_agree p q xs (λ m h. e m (has_later x xs m h)) in
    cc

-- two pairs of sets that agree on the nodes of a rule are given the same by it
pub gives_agree : (own : Bool) (p q l r : ℕ → Bool) (rule : Shape)
    → ((m : ℕ) → has (plain_of rule) m ≡ true → p m ≡ q m)
    → ((m : ℕ) → has (taken_of rule) m ≡ true → l m ≡ r m)
    → gives own p l rule ≡ gives own q r rule
gives_agree own p q l r Own e d = refl
gives_agree own p q l r (AnyOf nodes) e d = any_agree p q nodes e
gives_agree own p q l r (Reads nodes) e d = refl
gives_agree own p q l r (Either a b) e d =
    let x : gives own p l a ≡ gives own q r a = gives_agree own p q l r a (λ m h. e m (has_left (plain_of a) (plain_of b) m h)) (λ m h. d m (has_left (taken_of a) (taken_of b) m h)) in
    let y : gives own p l b ≡ gives own q r b = gives_agree own p q l r b (λ m h. e m (has_right (plain_of a) (plain_of b) m h)) (λ m h. d m (has_right (taken_of a) (taken_of b) m h)) in
    cc
gives_agree own p q l r (Both a b) e d =
    let x : gives own p l a ≡ gives own q r a = gives_agree own p q l r a (λ m h. e m (has_left (plain_of a) (plain_of b) m h)) (λ m h. d m (has_left (taken_of a) (taken_of b) m h)) in
    let y : gives own p l b ≡ gives own q r b = gives_agree own p q l r b (λ m h. e m (has_right (plain_of a) (plain_of b) m h)) (λ m h. d m (has_right (taken_of a) (taken_of b) m h)) in
    cc
gives_agree own p q l r (Except a b) e d =
    let x : gives own p l a ≡ gives own q r a = gives_agree own p q l r a e (λ m h. d m (has_left (taken_of a) (plain_of b ++ taken_of b) m h)) in
    let y : gives own l l b ≡ gives own r r b = gives_agree own l r l r b
    (λ m h. d m (has_right (taken_of a) (plain_of b ++ taken_of b) m (has_left (plain_of b) (taken_of b) m h)))
    (λ m h. d m (has_right (taken_of a) (plain_of b ++ taken_of b) m (has_right (plain_of b) (taken_of b) m h))) in
    cc

any_more : (p q : ℕ → Bool) (xs : List ℕ) → ((m : ℕ) → has xs m ≡ true → p m ≡ true → q m ≡ true) → list_any p xs ≡ true → list_any q xs ≡ true
any_more p q [] e h = h
any_more p q (x ∷ xs) e h =
    ⊎_elim (λ f. or_left (q x) (list_any q xs) (e x (has_here x xs) f))
    (λ r. or_right (q x) (list_any q xs) (any_more p q xs (λ m t. e m (has_later x xs m t)) r))
    (or_cases (p x) (list_any p xs) h)

-- a rule gives no less by a larger set
pub gives_more : (own : Bool) (p q l : ℕ → Bool) (rule : Shape)
    → ((m : ℕ) → has (plain_of rule) m ≡ true → p m ≡ true → q m ≡ true)
    → gives own p l rule ≡ true → gives own q l rule ≡ true
gives_more own p q l Own e g = g
gives_more own p q l (AnyOf nodes) e g = any_more p q nodes e g
gives_more own p q l (Reads nodes) e g = g
gives_more own p q l (Either a b) e g =
    ⊎_elim (λ f. or_left (gives own q l a) (gives own q l b) (gives_more own p q l a (λ m h. e m (has_left (plain_of a) (plain_of b) m h)) f))
    (λ f. or_right (gives own q l a) (gives own q l b) (gives_more own p q l b (λ m h. e m (has_right (plain_of a) (plain_of b) m h)) f))
    (or_cases (gives own p l a) (gives own p l b) g)
gives_more own p q l (Both a b) e g =
    let two = and_parts (gives own p l a) (gives own p l b) g in
    and_from (gives own q l a) (gives own q l b)
    (gives_more own p q l a (λ m h. e m (has_left (plain_of a) (plain_of b) m h)) two.0)
    (gives_more own p q l b (λ m h. e m (has_right (plain_of a) (plain_of b) m h)) two.1)
gives_more own p q l (Except a b) e g =
    let two = and_parts (gives own p l a) (not (gives own l l b)) g in
    and_from (gives own q l a) (not (gives own l l b)) (gives_more own p q l a e two.0) two.1

-- the nodes that give, and those that take away, are named
pub plain_named : (rule : Shape) (m : ℕ) → has (plain_of rule) m ≡ true → has (arcs_of rule) m ≡ true
plain_named Own m h = h
plain_named (AnyOf nodes) m h = h
plain_named (Reads nodes) m h = elim (false≢true h) [ ]
plain_named (Either a b) m h = has_join (plain_of a) (plain_of b) (arcs_of a) (arcs_of b) m (plain_named a m) (plain_named b m) h
plain_named (Both a b) m h = has_join (plain_of a) (plain_of b) (arcs_of a) (arcs_of b) m (plain_named a m) (plain_named b m) h
plain_named (Except a b) m h = has_left (arcs_of a) (arcs_of b) m (plain_named a m h)

pub taken_named : (rule : Shape) (m : ℕ) → has (taken_of rule) m ≡ true → has (arcs_of rule) m ≡ true
taken_named Own m h = h
taken_named (AnyOf nodes) m h = elim (false≢true h) [ ]
taken_named (Reads nodes) m h = elim (false≢true h) [ ]
taken_named (Either a b) m h = has_join (taken_of a) (taken_of b) (arcs_of a) (arcs_of b) m (taken_named a m) (taken_named b m) h
taken_named (Both a b) m h = has_join (taken_of a) (taken_of b) (arcs_of a) (arcs_of b) m (taken_named a m) (taken_named b m) h
taken_named (Except a b) m h =
    has_join (taken_of a) (plain_of b ++ taken_of b) (arcs_of a) (arcs_of b) m (taken_named a m)
    (λ f. ⊎_elim (plain_named b m) (taken_named b m) (has_cases (plain_of b) (taken_of b) m f)) h
