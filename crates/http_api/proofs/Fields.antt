-- Fields, one after another.
use Rattle.std.proofs.Common.{◌≡◌, ℕ, ◌||◌, Bool, true, false, List, [], ◌∷◌, refl, sym, ap, ◌∙◌, if◌then◌else◌, true≢false, Option, Some, None}
use Rattle.std.specs.List.{list_any}
use Rattle.httparse.specs.declared.spans.HeaderSpan.{HeaderSpan}
use Rattle.httparse.specs.Spans.{header_bytes}
use Rattle.http_api.specs.declared.framing.Framing.{Framing}
use Rattle.http_api.specs.declared.framing.Framing.TheVariants.{Unclear, Sized}
use Rattle.http_api.specs.Heads.{Pair, is_named, values}
use Rattle.http_api.specs.inside.Finding.{pairs_at}

any_first : (p : Pair → Bool) (x : Pair) (xs : List Pair) → p x ≡ false → list_any p (x ∷ xs) ≡ list_any p xs
any_first p x xs e = ap (λ b. b || list_any p xs) e

-- the first field has not this property, so the others decide
pub any_rest : (p : Pair → Bool) (bytes : List ℕ) (rest others : List HeaderSpan) (field : HeaderSpan) → rest ≡ field ∷ others → p (header_bytes bytes field) ≡ false
    → list_any p (pairs_at bytes others) ≡ list_any p (pairs_at bytes rest)
any_rest p bytes rest others field e other =
    sym (ap (λ r. list_any p (pairs_at bytes r)) e ∙ any_first p (header_bytes bytes field) (pairs_at bytes others) other)

values_by : (b : Bool) (name : List ℕ) (x : Pair) (xs : List Pair) → is_named name x ≡ b → values name (x ∷ xs) ≡ (if b then x.1 ∷ values name xs else values name xs)
values_by true name x xs e = rw e refl
values_by false name x xs e = rw e refl

-- the first field has not this name
pub values_rest : (name bytes : List ℕ) (rest others : List HeaderSpan) (field : HeaderSpan) → rest ≡ field ∷ others → is_named name (header_bytes bytes field) ≡ false
    → values name (pairs_at bytes others) ≡ values name (pairs_at bytes rest)
values_rest name bytes rest others field e other =
    sym (ap (λ r. values name (pairs_at bytes r)) e ∙ values_by false name (header_bytes bytes field) (pairs_at bytes others) other)

-- the first field has this name
pub values_first : (name bytes : List ℕ) (rest others : List HeaderSpan) (field : HeaderSpan) → rest ≡ field ∷ others → is_named name (header_bytes bytes field) ≡ true
    → values name (pairs_at bytes rest) ≡ (header_bytes bytes field).1 ∷ values name (pairs_at bytes others)
values_first name bytes rest others field e this =
    ap (λ r. values name (pairs_at bytes r)) e ∙ values_by true name (header_bytes bytes field) (pairs_at bytes others) this

pub none_named : (name : List ℕ) (xs : List Pair) → list_any (is_named name) xs ≡ false → values name xs ≡ []
none_named name [] none = refl
none_named name (x ∷ xs) none = by_test (is_named name x) refl (none_named name xs)
  where
    by_test : (b : Bool) → is_named name x ≡ b → (list_any (is_named name) xs ≡ false → values name xs ≡ []) → values name (x ∷ xs) ≡ []
    by_test true e later = absurd (true≢false (sym (ap (λ c. c || list_any (is_named name) xs) e) ∙ none))
    by_test false e later = values_by false name x xs e ∙ later (sym (any_first (is_named name) x xs e) ∙ none)

pub some_named : (name : List ℕ) (xs : List Pair) → list_any (is_named name) xs ≡ true → (v : List ℕ) × (vs : List (List ℕ)) × (values name xs ≡ v ∷ vs)
some_named name [] some = absurd (true≢false (sym some))
some_named name (x ∷ xs) some = by_test (is_named name x) refl (some_named name xs)
  where
    by_test : (b : Bool) → is_named name x ≡ b → (list_any (is_named name) xs ≡ true → (v : List ℕ) × (vs : List (List ℕ)) × (values name xs ≡ v ∷ vs))
        → (v : List ℕ) × (vs : List (List ℕ)) × (values name (x ∷ xs) ≡ v ∷ vs)
    by_test true e later = (x.1, values name xs, values_by true name x xs e)
    by_test false e later =
        let found = later (sym (any_first (is_named name) x xs e) ∙ some) in
        (found.0, found.1, values_by false name x xs e ∙ found.2)

-- the framing of a length, or of what is none
abbrev pub framing_from : Option ℕ → Framing
framing_from (Some n) = Sized n
framing_from None = Unclear

pub framing_by_length : (r : Option ℕ) (b : Bool) (n : ℕ) → r ≡ (if b then Some n else None) → framing_from r ≡ (if b then Sized n else Unclear)
framing_by_length r true n e = ap framing_from e
framing_by_length r false n e = ap framing_from e
