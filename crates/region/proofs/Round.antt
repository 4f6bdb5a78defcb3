-- A turn of a round.
use Rattle.std.proofs.Common.{ℕ, zero, suc, ◌≡◌, ◌<◌, ◌≤◌, ◌+◌, Bool, true, false, not, ◌&&◌, ◌||◌, nat_eq, nat_lt, List, [], ◌∷◌, ◌++◌, length, get_or, take, refl, sym, ◌∙◌, ap, subst, arith, ⊎_elim, inl, inr, ◌⊎◌}
use Rattle.std.specs.Prelude.{Some}
use Rattle.std.specs.List.{slice_get}
use Rattle.std.specs.List.Sorted.{IsStrictlyIncreasing}
use Rattle.std.proofs.lemmas.Bool.{eqb-true, ltb-true, cases_Bool, cases_lt, or_cases, or_left, or_right, and_parts, and_from, not_from_false, false≢true}
use Rattle.std.proofs.lemmas.List.{take_more, take_all, get_or_default, get_or-take, length-take-le}
use Rattle.idsets.proofs.Having.{has_at, place_in}
use Rattle.idsets.proofs.Rising.{le_later}
use Rattle.region.specs.declared.rule.Told.{Told}
use Rattle.least_sets.specs.World.{Fact, has, arcs_of}
use Rattle.region.specs.Rules.{fact_of, shape_of}
use Rattle.least_sets.specs.Steps.{IsStepAt, StepsTo, none, then, given}
use Rattle.region.specs.Steps.{is_told, Tells, IsSettled, IsSettledAt, IsWaiting, AreNamed, AreGrouped, IsLook, is_to_come, passed, gained, rooms}
use Rattle.region.proofs.Rooms.{rooms_lt, tells_at, told_at, same_told}
use Rattle.least_sets.proofs.Gives.{gives_agree, plain_named, taken_named, has_here, has_cases}
use Rattle.least_sets.proofs.StepLemmas.{step_grows, step_else}

-- a rule gives the same after a step at a node that it does not name
given_stays : (t : Told) (fact : Fact) (n : ℕ) (b c : ℕ → ℕ → Bool) → IsStepAt fact n b c → has (arcs_of (shape_of t.rule)) n ≡ false
    → (user : ℕ) → given (fact_of t) c user ≡ given (fact_of t) b user
given_stays t fact n b c step off user = gives_agree (has t.own user) (c user) (b user) (c user) (b user) (shape_of t.rule)
    (λ m h. other m (plain_named (shape_of t.rule) m h)) (λ m h. other m (taken_named (shape_of t.rule) m h))
  where
    other : (m : ℕ) → has (arcs_of (shape_of t.rule)) m ≡ true → c user m ≡ b user m
    other m h = step_else fact n b c step user m (λ e. false≢true (sym off ∙ ap (λ i. has (arcs_of (shape_of t.rule)) i) e ∙ h))

pub slice_lt : (ts : List Told) (i : ℕ) (t : Told) → slice_get ts i ≡ Some t → i < length ts
slice_lt [] i t h = absurd (cc)
slice_lt (y ∷ ys) zero t h = omega arith
slice_lt (y ∷ ys) (suc i) t h = let l : i < length ys = slice_lt ys i t h in omega arith

-- a round that has still to look at the first places of a list
pub record RoundAt (told : List Told) (level : ℕ) (places : List ℕ) (left : ℕ) (first now : ℕ → ℕ → Bool) (next : ℕ → Bool) : Type 0 where
  pub steps : (world : ℕ → Fact) → Tells world told → StepsTo world (is_told told) level first now
  pub waits : IsWaiting told level now (λ i. has (take left places) i || next i)
  pub less : (rooms told now < rooms told first) ⊎ (((u n : ℕ) → now u n ≡ first u n) × ((n : ℕ) → next n ≡ false))
  pub within : left ≤ length places

pub round_none : (told : List Told) (level : ℕ) (places : List ℕ) (left : ℕ) (first : ℕ → ℕ → Bool) (next : ℕ → Bool)
    → left ≡ length places → ((n : ℕ) → next n ≡ false) → IsWaiting told level first (has places) → RoundAt told level places left first first next
round_none told level places left first next all empty waits = record {
  steps = λ world tells. none;
  waits = λ i t is at. ⊎_elim
      (λ h. inl (or_left (has (take left places) i) (next i) (ap (λ xs. has xs i) (take_all left places (omega arith)) ∙ h)))
      (λ s. inr s) (waits i t is at);
  less = inr (λ u n. refl, empty);
  within = omega arith;
}

-- the place that a round comes to, and those that are left then
last_cases : (places : List ℕ) (left i : ℕ) (x : ℕ) → left < length places → x ≡ get_or places left x
    → has (take (left + 1) places) i ≡ true → (has (take left places) i ≡ true) ⊎ (i ≡ x)
last_cases places left i x lt e h =
    let front : take (left + 1) places ≡ take left places ++ x ∷ [] = take_more places left x lt ∙ ap (λ y. take left places ++ y ∷ []) (sym e) in
    ⊎_elim (λ a. inl a)
    (λ a. ⊎_elim (λ q. inr (eqb-true i x q)) (λ q. absurd (false≢true q)) (or_cases (nat_eq i x) false a))
    (has_cases (take left places) (x ∷ []) i (ap (λ xs. has xs i) (sym front) ∙ h))

-- what waits before the place that a round comes to is left
pub left_of : (places : List ℕ) (left x : ℕ) → IsStrictlyIncreasing places → left < length places → x ≡ get_or places left x → (i : ℕ) → is_to_come places x i ≡ true → has (take left places) i ≡ true
left_of places left x up lt e i come =
    let parts = and_parts (nat_lt i x) (has places i) come in
    let at = place_in places i parts.1 in
    let below : i < x = ltb-true i x parts.0 in
    let here : x ≡ get_or places left 0 = e ∙ get_or_default places left x 0 lt in
    let before : at.0 < left = ⊎_elim (λ h. h)
    (λ h. absurd (let over = le_later places left at.0 up h at.1 in let is = at.2 in omega (arith, over, is, here, below)))
    (cases_lt at.0 left) in
    has_at (take left places) at.0 i (let l = length-take-le left places (omega arith) in omega (arith, l, before)) (get_or-take left places at.0 0 before ∙ at.2)

pub round_more : (told : List Told) (level : ℕ) (places : List ℕ) (left x : ℕ) (back : ℕ → ℕ → Bool) (to_come : ℕ → Bool) (first now after : ℕ → ℕ → Bool) (next later : ℕ → Bool)
    → x ≡ get_or places left x → ((i : ℕ) → to_come i ≡ true → has (take left places) i ≡ true) → AreNamed (length told) told back → RoundAt told level places (left + 1) first now next
    → IsLook told x level back to_come now next after later → RoundAt told level places left first after later
round_more told level places left x back to_come first now after next later e come named so_far (passed p same_sets same_next) =
    subst (λ (s : ℕ → ℕ → Bool). RoundAt told level places left first s later) (sym same_sets)
    (subst (λ (v : ℕ → Bool). RoundAt told level places left first now v) (sym same_next) (record {
      steps = so_far.steps;
      waits = λ i t is at. ⊎_elim
          (λ w. ⊎_elim
          (λ h. ⊎_elim
          (λ f. inl (or_left (has (take left places) i) (next i) f))
          (λ same. inr (p t (subst (λ j. slice_get told j ≡ Some t) same is) at))
          (last_cases places left i x lt e h))
          (λ n. inl (or_right (has (take left places) i) (next i) n))
          (or_cases (has (take (left + 1) places) i) (next i) w))
          (λ s. inr s)
          (so_far.waits i t is at);
      less = so_far.less;
      within = omega arith;
    }))
  where
    lt : left < length places
    lt = let w = so_far.within in omega arith
round_more told level places left x back to_come first now after next later e come named so_far (gained d is_d turn later_is) = record {
  steps = λ world tells.
      let f : world d.node ≡ fact_of d = tells_at world told tells x d is_d in
      then {middle = now} d.node (so_far.steps world tells) (told_at told x d is_d)
      (ap (λ (y : Fact). y.level) f ∙ turn.at) (subst (λ (y : Fact). IsStepAt y d.node now after) (sym f) turn.step);
  waits = λ i t is at. ⊎_elim
      (λ h. inl (woken i (named i t (slice_lt told i t is) is d.node h)))
      (λ off. ⊎_elim
      (λ w. ⊎_elim
      (λ h. ⊎_elim
      (λ f. inl (or_left (has (take left places) i) (later i) f))
      (λ same. inr (own t off (same_told told x t d (subst (λ j. slice_get told j ≡ Some t) same is) is_d)))
      (last_cases places left i x lt e h))
      (λ n. inl (or_right (has (take left places) i) (later i) (later_is i ∙ or_left (next i) (back d.node i && not (to_come i)) n)))
      (or_cases (has (take (left + 1) places) i) (next i) w))
      (λ s. inr (λ user g. grows user t.node (s user (sym (given_stays t (fact_of d) d.node now after turn.step off user) ∙ g))))
      (so_far.waits i t is at))
      (cases_Bool (has (arcs_of (shape_of t.rule)) d.node));
  less = inl (⊎_elim
      (λ l. let fell : rooms told after < rooms told now = rooms_lt told now after grows x d is_d turn.gains in omega arith)
      (λ s. rooms_lt told first after (λ u m h. grows u m (s.0 u m ∙ h)) x d is_d
      (turn.gains.0, turn.gains.1, sym (s.0 turn.gains.0 d.node) ∙ turn.gains.2, turn.gains.3))
      so_far.less);
  within = omega arith;
}
  where
    lt : left < length places
    lt = let w = so_far.within in omega arith

    -- a place that is named is still to come, or waits for the next round
    woken : (i : ℕ) → back d.node i ≡ true → (has (take left places) i || later i) ≡ true
    woken i h = ⊎_elim
        (λ c. or_left (has (take left places) i) (later i) (come i c))
        (λ c. or_right (has (take left places) i) (later i) (later_is i ∙ or_right (next i) (back d.node i && not (to_come i))
        (and_from (back d.node i) (not (to_come i)) h (not_from_false (to_come i) c))))
        (cases_Bool (to_come i))

    grows : (u m : ℕ) → now u m ≡ true → after u m ≡ true
    grows u m = step_grows (fact_of d) d.node now after turn.step u m

    own : (t : Told) → has (arcs_of (shape_of t.rule)) d.node ≡ false → t ≡ d → IsSettledAt t after
    own t off same user g = subst (λ (y : Told). after user y.node ≡ true) (sym same)
        (turn.step.more user ∙ or_right (now user d.node) (given (fact_of d) now user)
        (ap (λ (y : Told). given (fact_of y) now user) (sym same) ∙ sym (given_stays t (fact_of d) d.node now after turn.step off user) ∙ g))

pub round_end : (told : List Told) (level : ℕ) (places : List ℕ) (first now : ℕ → ℕ → Bool) (next : ℕ → Bool)
    → RoundAt told level places 0 first now next → IsWaiting told level now next
round_end told level places first now next r i t is at = ⊎_elim
    (λ w. inl (⊎_elim (λ h. absurd (false≢true h)) (λ n. n) (or_cases false (next i) w)))
    (λ s. inr s) (r.waits i t is at)

pub waiting_same : (told : List Told) (level : ℕ) (s : ℕ → ℕ → Bool) (w v : ℕ → Bool) → ((n : ℕ) → w n ≡ true → v n ≡ true) → IsWaiting told level s w → IsWaiting told level s v
waiting_same told level s w v f a i t is at = ⊎_elim (λ h. inl (f i h)) (λ s. inr s) (a i t is at)

pub round_less : {told : List Told} {level left : ℕ} {places : List ℕ} {first now : ℕ → ℕ → Bool} {next v : ℕ → Bool} → RoundAt told level places left first now next
    → ((n : ℕ) → v n ≡ next n) → (rooms told now < rooms told first) ⊎ ((n : ℕ) → v n ≡ false)
round_less r e = ⊎_elim (λ l. inl l) (λ s. inr (λ n. e n ∙ s.1 n)) r.less

pub settled_if : (told : List Told) (level : ℕ) (s : ℕ → ℕ → Bool) (w : ℕ → Bool) → ((n : ℕ) → w n ≡ false) → IsWaiting told level s w → IsSettled told level s
settled_if told level s w empty a i t is at = ⊎_elim (λ h. absurd (false≢true (sym (empty i) ∙ h))) (λ x. x) (a i t is at)

pub nil_from_none : (xs : List ℕ) → ((n : ℕ) → has xs n ≡ false) → length xs ≡ 0
nil_from_none [] f = refl
nil_from_none (x ∷ xs) f = absurd (false≢true (sym (f x) ∙ has_here x xs))

pub none_from_nil : (xs : List ℕ) → length xs ≡ 0 → (n : ℕ) → has xs n ≡ false
none_from_nil [] e n = refl
none_from_nil (x ∷ xs) e n = absurd (omega arith)

-- the places of a level wait
pub group_waits : (told : List Told) (level : ℕ) (s groups : ℕ → ℕ → Bool) (places : List ℕ) → AreGrouped (length told) told groups
    → ((i : ℕ) → groups level i ≡ has places i) → IsWaiting told level s (has places)
group_waits told level s groups places grouped same i t is at =
    inl (sym (same i) ∙ subst (λ k. groups k i ≡ true) at (grouped i t (slice_lt told i t is) is))
