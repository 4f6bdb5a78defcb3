-- The configurations in force while a span is there: the one where it begins, and those of later revisions.
use Rattle.std.proofs.Common.{◌≡◌, ℕ, ◌<◌, ◌≤◌, ◌⊎◌, inl, inr, List, [], ◌∷◌, refl, ap, sym, subst, ◌∙◌, arith}
use Rattle.std.specs.Prelude.{Bool, true, false, cond, ◌&&◌, ◌||◌, ◌==◌, nat_lt, nat_le, All}
use Rattle.std.proofs.lemmas.Bool.{cases_lt}
use Rattle.std.proofs.lemmas.Bool.Decides.{nat_tests}
use Rattle.std.proofs.lemmas.List.Elements.{All-tail}
use Rattle.meaning.specs.Admits.{admits}
use Rattle.store.specs.Written.{TupleSpan, ConfigAt, last_up_to, config_up_to}
use Rattle.store.specs.inside.Following.{is_between, IsAdmitted}

pub le_true : (m n : ℕ) → m ≤ n → nat_le m n ≡ true
le_true m n h = grind (arith, nat_tests)

pub le_false : (m n : ℕ) → n < m → nat_le m n ≡ false
le_false m n h = grind (arith, nat_tests)

pub lt_true : (m n : ℕ) → m < n → nat_lt m n ≡ true
lt_true m n h = grind (arith, nat_tests)

pub lt_false : (m n : ℕ) → n ≤ m → nat_lt m n ≡ false
lt_false m n h = grind (arith, nat_tests)

-- the last up to a later revision is the last up to the first, or one between
abbrev Later : (ConfigAt → Type 0) → ℕ → ℕ → List ConfigAt → Type 0
Later P start rev cs = (last_up_to rev cs ≡ last_up_to start cs) ⊎ ((start < (last_up_to rev cs).rev) × P (last_up_to rev cs))

abbrev pick : Bool → ConfigAt → ConfigAt → ConfigAt
pick b c d = cond b c d

left_false : (a b : Bool) → a ≡ false → (a && b) ≡ false
left_false a b h = ap (λ x. x && b) h

pub right_false : (a b : Bool) → b ≡ false → (a && b) ≡ false
right_false true b h = h
right_false false b h = refl

pub both_true : (a b : Bool) → a ≡ true → b ≡ true → (a && b) ≡ true
both_true a b p q = ap (λ x. x && b) p ∙ q

module _ (P : ConfigAt → Type 0) (start rev : ℕ) (up : start ≤ rev) where
  abbrev Found : ConfigAt → ConfigAt → Type 0
  Found last first = (last ≡ first) ⊎ ((start < last.rev) × P last)

  kept : (b : Bool) (c last first : ConfigAt) → b ≡ false → Found last first → Found (cond b c last) first
  kept b c last first e h = let Q : Bool → Type 0 = λ x. Found (cond x c last) first in subst Q (sym e) h

  taken : (b : Bool) (c last first : ConfigAt) → b ≡ true → start < c.rev → P c → Found (cond b c last) first
  taken b c last first e lt p = let Q : Bool → Type 0 = λ x. Found (cond x c last) first in subst Q (sym e) (inr (lt, p))

  -- a configuration of a revision up to the first
  early : (c last first : ConfigAt) → c.rev ≤ start → Found last first → Found (cond (nat_le c.rev rev && nat_lt last.rev c.rev) c last) (cond (nat_le c.rev start && nat_lt first.rev c.rev) c first)
  early c last first le (inl e) = inl (
      ap (λ b. cond (b && nat_lt last.rev c.rev) c last) (le_true c.rev rev (omega (arith, le, up)))
      ∙ ap (λ (x : ConfigAt). cond (nat_lt x.rev c.rev) c x) e
      ∙ sym (ap (λ b. cond (b && nat_lt first.rev c.rev) c first) (le_true c.rev start le)))
  early c last first le (inr h) =
      kept (nat_le c.rev rev && nat_lt last.rev c.rev) c last (cond (nat_le c.rev start && nat_lt first.rev c.rev) c first) (right_false (nat_le c.rev rev) (nat_lt last.rev c.rev) (lt_false last.rev c.rev (let l = h.0 in omega (arith, l, le)))) (inr h)

  -- one of a later revision
  late : (c last first : ConfigAt) → start < c.rev → (c.rev ≤ rev → P c) → Found last first → Found (cond (nat_le c.rev rev && nat_lt last.rev c.rev) c last) (cond (nat_le c.rev start && nat_lt first.rev c.rev) c first)
  late c last first lt p h =
      let Q : ConfigAt → Type 0 = λ x. Found (cond (nat_le c.rev rev && nat_lt last.rev c.rev) c last) x in
      let same : first ≡ cond (nat_le c.rev start && nat_lt first.rev c.rev) c first = sym (ap (λ b. cond (b && nat_lt first.rev c.rev) c first) (le_false c.rev start lt)) in
      subst Q same (by_rev (cases_lt rev c.rev))
    where
      by_last : c.rev ≤ rev → (last.rev < c.rev) ⊎ (c.rev ≤ last.rev) → Found (cond (nat_le c.rev rev && nat_lt last.rev c.rev) c last) first
      by_last le (inl m) = taken (nat_le c.rev rev && nat_lt last.rev c.rev) c last first (both_true (nat_le c.rev rev) (nat_lt last.rev c.rev) (le_true c.rev rev le) (lt_true last.rev c.rev m)) lt (p le)
      by_last le (inr m) = kept (nat_le c.rev rev && nat_lt last.rev c.rev) c last first (right_false (nat_le c.rev rev) (nat_lt last.rev c.rev) (lt_false last.rev c.rev m)) h

      by_rev : (rev < c.rev) ⊎ (c.rev ≤ rev) → Found (cond (nat_le c.rev rev && nat_lt last.rev c.rev) c last) first
      by_rev (inl m) = kept (nat_le c.rev rev && nat_lt last.rev c.rev) c last first (left_false (nat_le c.rev rev) (nat_lt last.rev c.rev) (le_false c.rev rev m)) h
      by_rev (inr le) = by_last le (cases_lt last.rev c.rev)

  later : (cs : List ConfigAt) → All (λ c. start < c.rev → c.rev ≤ rev → P c) cs → Found (last_up_to rev cs) (last_up_to start cs)
  later [] all = inl refl
  later (c ∷ cs) all = by_start (later cs (All-tail (λ x. start < x.rev → x.rev ≤ rev → P x) c cs all)) (cases_lt start c.rev)
    where
      by_start : Found (last_up_to rev cs) (last_up_to start cs) → (start < c.rev) ⊎ (c.rev ≤ start) → Found (last_up_to rev (c ∷ cs)) (last_up_to start (c ∷ cs))
      by_start rest (inl lt) = late c (last_up_to rev cs) (last_up_to start cs) lt (λ le. all 0 c (omega arith) lt le) rest
      by_start rest (inr le) = early c (last_up_to rev cs) (last_up_to start cs) le rest

  pub holds_later : (cs : List ConfigAt) → All (λ c. start < c.rev → c.rev ≤ rev → P c) cs → P (last_up_to start cs) → P (last_up_to rev cs)
  holds_later cs all first = at (later cs all)
    where
      at : Found (last_up_to rev cs) (last_up_to start cs) → P (last_up_to rev cs)
      at (inl e) = subst P (sym e) first
      at (inr h) = h.1

-- a span that is there at a revision began before, and has not ended
alive_begun : (rev added removed : ℕ) → (nat_le added rev && ((removed == 0) || nat_lt rev removed)) ≡ true → added ≤ rev
alive_begun rev added removed h = grind (arith, nat_tests)

alive_between : (from rev at added removed : ℕ) → (nat_le added rev && ((removed == 0) || nat_lt rev removed)) ≡ true → from < at → at ≤ rev → is_between from removed at ≡ true
alive_between from rev at added removed h lt le = grind (arith, nat_tests)

pub admitted : (floor from : ℕ) (configs : List ConfigAt) (l : TupleSpan) → (from ≡ floor) ⊎ (from ≡ l.added) → admits (config_up_to from configs) l.tuple ≡ true
    → All (λ c. is_between from l.removed c.rev ≡ true → admits c.config l.tuple ≡ true) configs → IsAdmitted floor configs l
admitted floor from configs l start first all = λ rev above alive.
    let P : ConfigAt → Type 0 = λ c. admits c.config l.tuple ≡ true in
    holds_later P from rev (begun rev start above (alive_begun rev l.added l.removed alive)) configs
    (λ k c lt after le. all k c lt (alive_between from rev _ l.added l.removed alive after le)) first
  where
    begun : (rev : ℕ) → (from ≡ floor) ⊎ (from ≡ l.added) → floor ≤ rev → l.added ≤ rev → from ≤ rev
    begun rev (inl h) p q = omega (arith, h, p)
    begun rev (inr h) p q = omega (arith, h, q)

-- the first of a list, where it is the last up to the revision
pub last_first : (rev : ℕ) (c last : ConfigAt) → c.rev ≤ rev → last.rev < c.rev → cond (nat_le c.rev rev && nat_lt last.rev c.rev) c last ≡ c
last_first rev c last le lt = ap (λ b. cond b c last) (both_true (nat_le c.rev rev) (nat_lt last.rev c.rev) (le_true c.rev rev le) (lt_true last.rev c.rev lt))
