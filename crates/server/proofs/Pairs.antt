-- Pairs of two lists.
use Rattle.std.proofs.Common.{◌≡◌, List, [], ◌∷◌, ◌++◌, length, refl, sym, ap, ◌∙◌, subst, arith}
use Rattle.std.specs.Prelude.{Result, Ok, Err, IfOk, IfErr, MatchResult, cond, is_ok}
use Rattle.server.specs.Attending.{Pairs}

pub append_nil : {A : Type 0} (xs : List A) → xs ++ [] ≡ xs
append_nil [] = refl
append_nil (x ∷ xs) = ap (λ l. x ∷ l) (append_nil xs)

pub append_on : {A : Type 0} (xs : List A) (y : A) (ys : List A) → (xs ++ y ∷ []) ++ ys ≡ xs ++ y ∷ ys
append_on [] y ys = refl
append_on (x ∷ xs) y ys = ap (λ l. x ∷ l) (append_on xs y ys)

none : {A : Type 0} (xs : List A) → length xs ≡ 0 → xs ≡ []
none [] is = refl
none (x ∷ xs) is = absurd (omega (arith, is))

module _ {A B : Type 0} (is : A → B → Type 0) where
  -- However the items that are left are paired, all are, by what has been gathered and then those.
  abbrev pub Gathers : List A → List A → List B → Type 0
  Gathers all rest so = (later : List B) → Pairs is rest later → Pairs is all (so ++ later)

  pub gathers_first : (all rest : List A) (so : List B) → rest ≡ all → so ≡ [] → Gathers all rest so
  gathers_first all rest so same empty later pairs =
      subst (λ (l : List B). Pairs is all (l ++ later)) (sym empty) (subst (λ (l : List A). Pairs is l later) same pairs)

  pub gathers_next : (all rest left : List A) (so now : List B) (x : A) (y : B) → Gathers all rest so → rest ≡ x ∷ left → now ≡ so ++ y ∷ [] → is x y → Gathers all left now
  gathers_next all rest left so now x y before next pushed here later pairs =
      subst (λ (l : List B). Pairs is all l) (sym (ap (λ (l : List B). l ++ later) pushed ∙ append_on so y later))
      (before (y ∷ later) (subst (λ (l : List A). Pairs is l (y ∷ later)) (sym next) (here, pairs)))

  pub gathered : (all rest : List A) (so : List B) → Gathers all rest so → length rest ≡ 0 → Pairs is all so
  gathered all rest so before empty =
      subst (λ (l : List B). Pairs is all l) (append_nil so) (before [] (subst (λ (l : List A). Pairs is l []) (sym (none rest empty)) tt))

module _ {A B C : Type 0} (is : A → B → Type 0) (then : A → C → Type 0) where
  -- what the others that are left lead to is paired with all, behind what has been led to
  abbrev pub Leads : List A → List B → List C → Type 0
  Leads all left so = (later : List C) → Pairs (λ b c. (a : A) → is a b → then a c) left later → Pairs then all (so ++ later)

  through : (ones : List A) (bs : List B) (cs : List C) → Pairs is ones bs → Pairs (λ b c. (a : A) → is a b → then a c) bs cs → Pairs then ones cs
  through [] [] [] first second = tt
  through [] [] (c ∷ cs) first second = absurd second
  through [] (b ∷ bs) cs first second = absurd first
  through (a ∷ more) [] cs first second = absurd first
  through (a ∷ more) (b ∷ bs) [] first second = absurd second
  through (a ∷ more) (b ∷ bs) (c ∷ cs) first second = (second.0 a first.0, through more bs cs first.1 second.1)

  pub leads_first : (all : List A) (started left : List B) (so : List C) → Pairs is all started → left ≡ started → so ≡ [] → Leads all left so
  leads_first all started left so pairs same empty later leads =
      subst (λ (l : List C). Pairs then all (l ++ later)) (sym empty)
      (through all started later pairs (subst (λ (l : List B). Pairs (λ b c. (a : A) → is a b → then a c) l later) same leads))

  pub leads_next : (all : List A) (left rest : List B) (so now : List C) (b : B) (c : C) → Leads all left so → left ≡ b ∷ rest → now ≡ so ++ c ∷ [] → ((a : A) → is a b → then a c)
      → Leads all rest now
  leads_next all left rest so now b c before next pushed here later leads =
      subst (λ (l : List C). Pairs then all l) (sym (ap (λ (l : List C). l ++ later) pushed ∙ append_on so c later))
      (before (c ∷ later) (subst (λ (l : List B). Pairs (λ x y. (a : A) → is a x → then a y) l (c ∷ later)) (sym next) (here, leads)))

  pub leads_last : (all : List A) (left : List B) (so : List C) → Leads all left so → length left ≡ 0 → Pairs then all so
  leads_last all left so before empty =
      subst (λ (l : List C). Pairs then all l) (append_nil so)
      (before [] (subst (λ (l : List B). Pairs (λ x y. (a : A) → is a x → then a y) l []) (sym (none left empty)) tt))

-- what is known of each outcome
pub match_of : {A E : Type 0} {P Pn : A → Type 0} {Q Qn : E → Type 0} (r : Result A E) → ((a : A) → P a → Pn a) → ((e : E) → Q e → Qn e) → IfOk r P → IfErr r Q → MatchResult r Pn Qn
match_of (Ok a) on off ok err = on a ok
match_of (Err e) on off ok err = off e err

pub of_ok : {A E : Type 0} (P : A → Type 0) (Q : E → Type 0) (r : Result A E) (a : A) → r ≡ Ok a → MatchResult r P Q → P a
of_ok {A} {E} P Q r a same is = subst (λ (x : Result A E). MatchResult x P Q) same is

pub of_err : {A E : Type 0} (P : A → Type 0) (Q : E → Type 0) (r : Result A E) (e : E) → r ≡ Err e → MatchResult r P Q → Q e
of_err {A} {E} P Q r e same is = subst (λ (x : Result A E). MatchResult x P Q) same is

-- what was pushed stands there, where it was not refused
pub pushed : {A E L : Type 0} (r : Result A E) (a : A) (now more old : L) → r ≡ Ok a → now ≡ cond (is_ok r) more old → now ≡ more
pushed {A} {E} r a now more old same is = subst (λ (x : Result A E). now ≡ cond (is_ok x) more old) same is
