-- What is counted of a search: nodes that are known to have the user, numbers on stacks, levels that are free.
use Rattle.std.proofs.Common.{◌≡◌, ℕ, zero, suc, ◌<◌, ◌≤◌, ◌+◌, ◌-◌, List, [], ◌∷◌, ◌++◌, Bool, true, false, not, cond, length, get_or, set, refl, ap, ◌∙◌, sym, subst, inl, inr, ⊎_elim, arith, length-append, true≢false}
use Rattle.std.specs.Prelude.{◌⊎◌, ◌&&◌, ◌||◌, Contains, Vec, nat_eq}
use Rattle.std.specs.Global.{Global}
use Rattle.std.specs.List.{sum_by}
use Rattle.std.specs.Cmp.Derive.{both_true}
use Rattle.std.proofs.Math.Bool.{or-true}
use Rattle.std.proofs.lemmas.Bool.{cases_eq, or_cases, eqb-true, eq-eqb}
use Rattle.std.proofs.lemmas.List.{length-set, get_or_default}
use Rattle.std.proofs.lemmas.List.Sums.{sum_by-append, sum_by-set, count_by-le-length}
use Rattle.meaning.proofs.Lists.{contains_here}
use Rattle.decide.specs.declared.search.Search.{Search}
use Rattle.decide.specs.declared.search.Opened.{Opened}
use Rattle.decide.specs.declared.search.Frame.{Frame}
use Rattle.decide.specs.inside.Searches.{Stands, Pushes, IsFrame, AreFalling, sures}
use Rattle.decide.specs.inside.Ending.{numbers_on, has_any, is_pending, has_frame, count_below, is_free, left_on}
use Rattle.decide.proofs.Elements.{Holds, holds_left, holds_back}
use Rattle.decide.proofs.Pushing.{IsOn, pushed_from, pushed_long}
use Rattle.decide.proofs.Popping.{popped_before}

-- ---- nodes that are known to have the user

abbrev weigh : Opened → ℕ
weigh e = cond e.sure 1 0

pub sures_pushed : (s t : Search) (e : Opened) → t.opened.items ≡ s.opened.items ++ e ∷ [] → e.sure ≡ false → sures t ≡ sures s
sures_pushed s t e opened unsure =
    let none : weigh e ≡ 0 = ap (λ b. cond b 1 0) unsure in
    let all : sum_by weigh (s.opened.items ++ e ∷ []) ≡ sum_by weigh s.opened.items + sum_by weigh (e ∷ []) = sum_by-append weigh s.opened.items (e ∷ []) in
    let one : sum_by weigh (e ∷ []) ≡ 0 + weigh e = refl in
    ap (λ (xs : List Opened). sum_by weigh xs) opened ∙ omega (arith, all, one, none)

module _ (s t : Search) (i : ℕ) (e f : Opened) (at : Stands s i e) (opened : t.opened.items ≡ set s.opened.items i f) where
  stored : sum_by weigh t.opened.items + weigh e ≡ sum_by weigh s.opened.items + weigh f
  stored =
      let all : sum_by weigh (set s.opened.items i f) + weigh (get_or s.opened.items i e) ≡ sum_by weigh s.opened.items + weigh f = sum_by-set weigh s.opened.items i f e at.0 in
      let here : weigh (get_or s.opened.items i e) ≡ weigh e = ap weigh at.1 in
      let there : sum_by weigh t.opened.items ≡ sum_by weigh (set s.opened.items i f) = ap (λ (xs : List Opened). sum_by weigh xs) opened in
      omega (arith, all, here, there)

  pub sures_replaced : f.sure ≡ e.sure → sures t ≡ sures s
  sures_replaced same =
      let w : weigh f ≡ weigh e = ap (λ b. cond b 1 0) same in
      let all = stored in
      omega (arith, all, w)

  pub sures_given : e.sure ≡ false → f.sure ≡ true → sures s < sures t
  sures_given unsure sure =
      let none : weigh e ≡ 0 = ap (λ b. cond b 1 0) unsure in
      let one : weigh f ≡ 1 = ap (λ b. cond b 1 0) sure in
      let all = stored in
      omega (arith, all, none, one)

pub sures_few : (s : Search) → sures s ≤ length s.opened.items
sures_few s = count_by-le-length (λ (e : Opened). e.sure) s.opened.items

-- ---- numbers on stacks

module _ (xs : List (Vec ℕ Global)) (k : ℕ) (v w : Vec ℕ Global) (at : Holds xs k v) where
  moved : numbers_on (set xs k w) + length v.items ≡ numbers_on xs + length w.items
  moved =
      let f : Vec ℕ Global → ℕ = λ x. length x.items in
      let all : sum_by f (set xs k w) + f (get_or xs k v) ≡ sum_by f xs + f w = sum_by-set f xs k w v at.0 in
      let here : f (get_or xs k v) ≡ f v = ap f at.1 in
      omega (arith, all, here)

  pub fewer_numbers : (n : ℕ) → v.items ≡ w.items ++ n ∷ [] → numbers_on (set xs k w) + 1 ≡ numbers_on xs
  fewer_numbers n last =
      let all = moved in
      let long : length v.items ≡ length w.items + 1 = ap length last ∙ length-append w.items (n ∷ []) in
      omega (arith, all, long)

  pub more_numbers : (n : ℕ) → w.items ≡ v.items ++ n ∷ [] → numbers_on (set xs k w) ≡ numbers_on xs + 1
  more_numbers n last =
      let all = moved in
      let long : length w.items ≡ length v.items + 1 = ap length last ∙ length-append v.items (n ∷ []) in
      omega (arith, all, long)

-- ---- levels below which there are numbers

any_of : (xs : List ℕ) (i : ℕ) → Contains xs i → has_any xs ≡ true
any_of [] i (k, lt, e) = absurd (omega (arith, lt))
any_of (x ∷ xs) i c = refl

any_back : (xs : List ℕ) → has_any xs ≡ true → (i : ℕ) × Contains xs i
any_back [] is = absurd (true≢false (sym is))
any_back (x ∷ xs) is = (x, contains_here x xs)

pub pending_here : (xs : List (Vec ℕ Global)) (k i l : ℕ) → IsOn xs k i → k < l → is_pending xs l ≡ true
pending_here [] k i l (v, lt, read, c) less = absurd (omega (arith, lt))
pending_here (x ∷ xs) k i zero on less = absurd (omega (arith, less))
pending_here (x ∷ xs) zero i (suc l) (v, lt, read, c) less =
    let here : x ≡ v = read in
    ap (λ b. b || is_pending xs l) (any_of x.items i (subst (λ (y : Vec ℕ Global). Contains y.items i) (sym here) c))
pending_here (x ∷ xs) (suc k) i (suc l) (v, lt, read, c) less =
    ap (λ b. has_any x.items || b) (pending_here xs k i l (v, omega (arith, lt), read, c) (omega (arith, less))) ∙ or-true (has_any x.items)

pub pending_back : (xs : List (Vec ℕ Global)) (l : ℕ) → is_pending xs l ≡ true → (k : ℕ) × (i : ℕ) × (k < l) × IsOn xs k i
pending_back [] l is = absurd (true≢false (sym is))
pending_back (x ∷ xs) zero is = absurd (true≢false (sym is))
pending_back (x ∷ xs) (suc l) is = ⊎_elim
    (λ any. let (i, c) = any_back x.items any in (zero, i, omega arith, (x, omega arith, refl, c)))
    (λ rest.
    let (k, i, less, (v, lt, read, c)) = pending_back xs l rest in
    (suc k, i, omega (arith, less), (v, omega (arith, lt), read, c)))
    (or_cases (has_any x.items) (is_pending xs l) is)

-- ---- levels of frames

pub frame_kept : (fs : List Frame) (f : Frame) (l : ℕ) → has_frame fs l ≡ true → has_frame (fs ++ f ∷ []) l ≡ true
frame_kept [] f l is = absurd (true≢false (sym is))
frame_kept (g ∷ gs) f l is = ⊎_elim
    (λ here. ap (λ b. b || has_frame (gs ++ f ∷ []) l) here)
    (λ there. ap (λ b. nat_eq g.level l || b) (frame_kept gs f l there) ∙ or-true (nat_eq g.level l))
    (or_cases (nat_eq g.level l) (has_frame gs l) is)

pub frame_here : (fs : List Frame) (f : Frame) → has_frame (fs ++ f ∷ []) f.level ≡ true
frame_here [] f = ap (λ b. b || false) (eq-eqb f.level f.level refl)
frame_here (g ∷ gs) f = ap (λ b. nat_eq g.level f.level || b) (frame_here gs f) ∙ or-true (nat_eq g.level f.level)

pub frame_last : (fs : List Frame) (f : Frame) (l : ℕ) → has_frame (fs ++ f ∷ []) l ≡ true → (has_frame fs l ≡ true) ⊎ (f.level ≡ l)
frame_last [] f l is = ⊎_elim (λ here. inr (eqb-true f.level l here)) (λ none. absurd (true≢false (sym none))) (or_cases (nat_eq f.level l) false is)
frame_last (g ∷ gs) f l is = ⊎_elim
    (λ here. inl (ap (λ b. b || has_frame gs l) here))
    (λ rest. ⊎_elim
    (λ there. inl (ap (λ b. nat_eq g.level l || b) there ∙ or-true (nat_eq g.level l)))
    inr
    (frame_last gs f l rest))
    (or_cases (nat_eq g.level l) (has_frame (gs ++ f ∷ []) l) is)

pub frame_back : (fs : List Frame) (l : ℕ) → has_frame fs l ≡ true → (i : ℕ) × (f : Frame) × IsFrame fs i f × (f.level ≡ l)
frame_back [] l is = absurd (true≢false (sym is))
frame_back (g ∷ gs) l is = ⊎_elim
    (λ here. (zero, g, (omega arith, refl), eqb-true g.level l here))
    (λ there. let (i, f, (lt, read), level) = frame_back gs l there in (suc i, f, (omega (arith, lt), read), level))
    (or_cases (nat_eq g.level l) (has_frame gs l) is)

-- frames that fall, one more and one less
pub falling_pushed : (fs : List Frame) (f : Frame) → AreFalling fs → ((i : ℕ) (g : Frame) → IsFrame fs i g → f.level < g.level) → AreFalling (fs ++ f ∷ [])
falling_pushed fs f falls low i j g h less at there = ⊎_elim
    (λ old. ⊎_elim
    (λ before. falls i j g h less before old)
    (λ (last, same). let lt = old.0 in absurd (omega (arith, lt, last, less)))
    (holds_back fs f i g at))
    (λ (last, same). ⊎_elim
    (λ before. subst (λ (x : Frame). x.level < g.level) (sym same) (low i g before))
    (λ (end, again). absurd (omega (arith, last, end, less)))
    (holds_back fs f i g at))
    (holds_back fs f j h there)

pub falling_popped : (fs gs hs : List Frame) → fs ≡ gs ++ hs → AreFalling fs → AreFalling gs
falling_popped fs gs hs is falls i j f g less at there =
    let all = subst AreFalling is falls in
    all i j f g less (holds_left gs hs i f at) (holds_left gs hs j g there)

-- the last frame is the lowest
pub last_lowest : (fs : List Frame) (i : ℕ) (f g : Frame) → AreFalling fs → IsFrame fs i f → IsFrame fs (length fs - 1) g → g.level ≤ f.level
last_lowest fs i f g falls at last = ⊎_elim
    (λ same.
    let here : f ≡ g = sym at.1 ∙ ap (λ q. get_or fs q f) same ∙ get_or_default fs (length fs - 1) f g last.0 ∙ last.1 in
    let level : f.level ≡ g.level = ap (λ (x : Frame). x.level) here in
    omega (arith, level))
    (λ other.
    let lt = at.0 in
    let less = falls i (length fs - 1) f g (omega (arith, lt, other)) at last in
    omega (arith, less))
    (cases_eq i (length fs - 1))

-- ---- how many pass a test

abbrev bit : Bool → ℕ
bit b = cond b 1 0

bit_le : (a b : Bool) → (a ≡ true → b ≡ true) → cond a 1 0 ≤ cond b 1 0
bit_le true true so = omega arith
bit_le true false so = absurd (true≢false (sym (so refl)))
bit_le false b so = omega arith

pub count_le : (q p : ℕ → Bool) (n : ℕ) → ((l : ℕ) → q l ≡ true → p l ≡ true) → count_below q n ≤ count_below p n
count_le q p zero so = omega arith
count_le q p (suc n) so =
    let one = bit_le (q n) (p n) (so n) in
    let rest = count_le q p n so in
    omega (arith, one, rest)

pub count_lt : (q p : ℕ → Bool) (n k : ℕ) → ((l : ℕ) → q l ≡ true → p l ≡ true) → k < n → p k ≡ true → q k ≡ false → count_below q n < count_below p n
count_lt q p zero k so less passes fails = absurd (omega (arith, less))
count_lt q p (suc n) k so less passes fails = ⊎_elim
    (λ here.
    let none : bit (q n) ≡ 0 = ap bit (subst (λ j. q j ≡ false) here fails) in
    let one : bit (p n) ≡ 1 = ap bit (subst (λ j. p j ≡ true) here passes) in
    let rest = count_le q p n so in
    omega (arith, none, one, rest))
    (λ other.
    let one = bit_le (q n) (p n) (so n) in
    let rest = count_lt q p n k so (omega (arith, less, other)) passes fails in
    omega (arith, one, rest))
    (cases_eq k n)

-- ---- what is left

both_of : (a b : Bool) → (a && b) ≡ true → (a ≡ true) × (b ≡ true)
both_of true b is = (refl, is)
both_of false b is = absurd (true≢false (sym is))

not_true : (b : Bool) → (b ≡ true → ⊥) → not b ≡ true
not_true true fails = absurd (fails refl)
not_true false fails = refl

true_not : (b : Bool) → not b ≡ true → b ≡ true → ⊥
true_not true is passes = true≢false (sym is)
true_not false is passes = true≢false (sym passes)

-- free levels are fewer where less is pending and there are as many frames
free_so : (xs ys : List (Vec ℕ Global)) (fs gs : List Frame)
    → ((l : ℕ) → is_pending ys l ≡ true → has_frame gs l ≡ false → is_pending xs l ≡ true) → ((l : ℕ) → is_pending ys l ≡ true → has_frame fs l ≡ true → has_frame gs l ≡ true)
    → (l : ℕ) → is_free ys gs l ≡ true → is_free xs fs l ≡ true
free_so xs ys fs gs pend framed l is =
    let (p, n) = both_of (is_pending ys l) (not (has_frame gs l)) is in
    both_true (pend l p (none (has_frame gs l) n)) (not_true (has_frame fs l) (λ f. true_not (has_frame gs l) n (framed l p f)))
  where
    none : (b : Bool) → not b ≡ true → b ≡ false
    none true fails = absurd (true≢false (sym fails))
    none false fails = refl

-- a number was taken off a stack
pub left_popped : (xs : List (Vec ℕ Global)) (fs : List Frame) (k : ℕ) (v w : Vec ℕ Global) (n : ℕ) → Holds xs k v → v.items ≡ w.items ++ n ∷ [] → left_on (set xs k w) fs < left_on xs fs
left_popped xs fs k v w n at last =
    let ys = set xs k w in
    let fewer = fewer_numbers xs k v w at n last in
    let so = free_so xs ys fs fs
    (λ l is _. let (j, i, less, on) = pending_back ys l is in pending_here xs j i l (popped_before xs k v w (n ∷ []) at last j i on) less)
    (λ l _ is. is) in
    let free : count_below (is_free ys fs) (length xs) ≤ count_below (is_free xs fs) (length xs) = count_le (is_free ys fs) (is_free xs fs) (length xs) so in
    let long : count_below (is_free ys fs) (length ys) ≡ count_below (is_free ys fs) (length xs) = ap (count_below (is_free ys fs)) (length-set xs k w) in
    omega (arith, fewer, free, long)

-- a frame was taken off, below which nothing is left to look at
pub left_unframed : (xs : List (Vec ℕ Global)) (fs gs : List Frame) (f : Frame) → fs ≡ gs ++ f ∷ [] → ((k i : ℕ) → k < f.level → IsOn xs k i → ⊥) → left_on xs gs ≤ left_on xs fs
left_unframed xs fs gs f is empty =
    let so = free_so xs xs fs gs
    (λ l p _. p)
    (λ l p framed. ⊎_elim
    (λ before. before)
    (λ here. let (k, i, less, on) = pending_back xs l p in absurd (empty k i (omega (arith, less, here)) on))
    (frame_last gs f l (subst (λ hs. has_frame hs l ≡ true) is framed))) in
    let free = count_le (is_free xs gs) (is_free xs fs) (length xs) so in
    omega (arith, free)

-- a number was put back on its stack, with a frame of its level, where lower levels are not finished
pub left_put : (xs ys : List (Vec ℕ Global)) (fs gs : List Frame) (f : Frame) (n : ℕ) → Pushes xs ys f.level n → gs ≡ fs ++ f ∷ [] → f.level < length xs
    → (k i : ℕ) → k < f.level → IsOn xs k i → ((j : ℕ) (g : Frame) → IsFrame fs j g → f.level < g.level) → left_on ys gs ≤ left_on xs fs
left_put xs ys fs gs f n pushes is there k i less on low =
    let (v, w, read, last, set_is) = pushes in
    let more : numbers_on ys ≡ numbers_on xs + 1 = ap numbers_on set_is ∙ more_numbers xs f.level v w (there, read) n last in
    let so = free_so xs ys fs gs
    (λ l p _.
    let (j, m, below, stood) = pending_back ys l p in
    ⊎_elim
    (λ before. pending_here xs j m l before below)
    (λ (_, level). pending_here xs k i l on (omega (arith, less, below, level)))
    (pushed_from xs ys f.level n pushes j m stood))
    (λ l _ framed. subst (λ hs. has_frame hs l ≡ true) (sym is) (frame_kept fs f l framed)) in
    let was : is_free xs fs f.level ≡ true = both_true (pending_here xs k i f.level on less) (not_true (has_frame fs f.level)
    (λ framed. let (j, g, stands, level) = frame_back fs f.level framed in let lt = low j g stands in omega (arith, lt, level))) in
    let now : has_frame gs f.level ≡ true = subst (λ hs. has_frame hs f.level ≡ true) (sym is) (frame_here fs f) in
    let free : count_below (is_free ys gs) (length xs) < count_below (is_free xs fs) (length xs) = count_lt (is_free ys gs) (is_free xs fs) (length xs) f.level so there was
    (no_more (is_pending ys f.level) (has_frame gs f.level) now) in
    let long : count_below (is_free ys gs) (length ys) ≡ count_below (is_free ys gs) (length xs) = ap (count_below (is_free ys gs)) (pushed_long xs ys f.level n pushes) in
    omega (arith, more, free, long)
  where
    no_more : (a b : Bool) → b ≡ true → (a && not b) ≡ false
    no_more true b passes = ap not passes
    no_more false b passes = refl
