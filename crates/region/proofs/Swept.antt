-- What the roots no longer reach, and what was gathered with it.
use Rattle.std.proofs.Common.{ℕ, ◌≡◌, ◌≤◌, ◌<◌, ◌+◌, Bool, true, false, not, ◌&&◌, ◌||◌, take, length, nat_eq, List, [], ◌∷◌, get_or, refl, sym, ◌∙◌, ap, subst, ⊎_elim, ◌⊎◌, inl, inr}
use Rattle.std.specs.Prelude.{Result, Ok, Err, IfOk}
use Rattle.std.specs.Bool.{MatchBool}
use Rattle.std.specs.List.{list_any}
use Rattle.std.proofs.lemmas.List.Folds.{list_any_more, list_any_at}
use Rattle.std.proofs.lemmas.Bool.{or_cases, cases_Bool, or_left, or_right, and_parts, and_from, false≢true, eqb-true, eq-eqb, not_from_true, not_from_false, false_from_ne_true, or_from}
use Rattle.least_sets.specs.World.{Fact, Own, has, arcs_of}
use Rattle.least_sets.specs.Walks.{Adds, Walk, here, on, arc_of, IsReached, IsTouched}
use Rattle.least_sets.proofs.Found.{SearchAt, search_end}
use Rattle.region.specs.declared.rule.Told.{Told}
use Rattle.region.specs.Rules.{shape_of}
use Rattle.region.specs.Steps.{is_told, Tells}
use Rattle.region.specs.Tables.{Rows, kept, row_of, arcs_or_none, arc_in, IsClosed}
use Rattle.region.specs.Gathered.{stays, in_region, AreReached, IsTurned, IsGathered, WasGathered}
use Rattle.region.specs.Sweeping.{names_told, IsLedTo, is_loose, AreLoose, supports, IsSupported, IsSwept}
use Rattle.region.proofs.Listing.{has_next}
use Rattle.region.proofs.AfterChange.{walk_kept, none_if}
use Rattle.region.proofs.Walked.{touched_if}

pub led : (arc : ℕ → ℕ → Bool) (starts : List ℕ) (at : ℕ) (found : List ℕ) → SearchAt arc starts at found → length found ≤ at → IsLedTo arc starts found
led arc starts at found s le = record {
  starts_in = s.starts_in;
  closed = search_end arc starts at found s le;
  sound = s.sound;
}

pub loose_none : (old : Rows) (touched named roots turned nothing found : List ℕ) → nothing ≡ []
    → Adds nothing found (λ u. has turned u && is_loose old touched named roots u)
    → AreLoose old touched named roots turned [] found
loose_none old touched named roots turned nothing found e adds = record {
  only = λ n h. ⊎_elim
      (λ f. absurd (false≢true (ap (λ xs. has xs n) (sym e) ∙ f)))
      (λ f. (and_parts (has turned n) (is_loose old touched named roots n) f).1)
      (or_cases (has nothing n) (has turned n && is_loose old touched named roots n) (sym (adds.members n) ∙ h));
  cut = λ n h l. adds.members n ∙ or_right (has nothing n) (has turned n && is_loose old touched named roots n)
      (and_from (has turned n) (is_loose old touched named roots n) h l);
  lost = λ n m h a l. absurd (false≢true h);
}

pub loose_more : (old : Rows) (touched named roots turned nodes : List ℕ) (i x : ℕ) (found next : List ℕ) → i < length nodes → x ≡ get_or nodes i x
    → AreLoose old touched named roots turned (take i nodes) found
    → Adds found next (λ u. arc_in old x u && is_loose old touched named roots u)
    → AreLoose old touched named roots turned (take (i + 1) nodes) next
loose_more old touched named roots turned nodes i x found next lt e so_far adds = record {
  only = λ n h. ⊎_elim
      (λ f. so_far.only n f)
      (λ f. (and_parts (arc_in old x n) (is_loose old touched named roots n) f).1)
      (or_cases (has found n) (arc_in old x n && is_loose old touched named roots n) (sym (adds.members n) ∙ h));
  cut = λ n h l. grown n (so_far.cut n h l);
  lost = λ n m h a l. ⊎_elim
      (λ f. grown m (so_far.lost n m f a l))
      (λ q. adds.members m ∙ or_right (has found m) (arc_in old x m && is_loose old touched named roots m)
      (and_from (arc_in old x m) (is_loose old touched named roots m) (subst (λ k. arc_in old k m ≡ true) (q ∙ sym e) a) l))
      (has_next nodes i n x lt h);
}
  where
    grown : (n : ℕ) → has found n ≡ true → has next n ≡ true
    grown n h = adds.members n ∙ or_left (has found n) (arc_in old x n && is_loose old touched named roots n) h

pub any_here : (p : ℕ → Bool) (xs : List ℕ) (i x : ℕ) → i < length xs → x ≡ get_or xs i x → p x ≡ true → true ≡ list_any p xs
any_here p xs i x lt e h = sym (list_any_at p xs i x lt (ap p (sym e) ∙ h))

pub any_next : (p : ℕ → Bool) (xs : List ℕ) (i x : ℕ) → i < length xs → x ≡ get_or xs i x → list_any p (take i xs) ≡ false → p x ≡ false → list_any p (take (i + 1) xs) ≡ false
any_next p xs i x lt e so_far h = list_any_more p xs i x lt ∙ or_from (list_any p (take i xs)) (p (get_or xs i x)) so_far (ap p (sym e) ∙ h)

any_find : (p : ℕ → Bool) (xs : List ℕ) → list_any p xs ≡ true → (x : ℕ) × (p x ≡ true)
any_find p [] h = absurd (false≢true h)
any_find p (x ∷ xs) h = ⊎_elim (λ f. (x, f)) (λ f. any_find p xs f) (or_cases (p x) (list_any p xs) h)

any_from : (p : ℕ → Bool) (xs : List ℕ) (x : ℕ) → has xs x ≡ true → p x ≡ true → list_any p xs ≡ true
any_from p [] x h f = absurd (false≢true h)
any_from p (y ∷ ys) x h f = ⊎_elim
    (λ q. or_left (p y) (list_any p ys) (subst (λ k. p k ≡ true) (eqb-true x y q) f))
    (λ q. or_right (p y) (list_any p ys) (any_from p ys x q f))
    (or_cases (nat_eq x y) (has ys x) h)

pub support_by : (old : Rows) (touched named roots suspects nodes : List ℕ) (n : ℕ) (b : Bool) → (has roots n || has named n) ≡ false
    → ((x : ℕ) → arc_in old x n ≡ true → has nodes x ≡ true) → b ≡ list_any (supports old touched suspects n) nodes
    → MatchBool b (IsSupported old touched named roots suspects n) (IsSupported old touched named roots suspects n → ⊥)
support_by old touched named roots suspects nodes n true apart all e = inr (any_find (supports old touched suspects n) nodes (sym e))
support_by old touched named roots suspects nodes n false apart all e = λ s. ⊎_elim
    (λ h. false≢true (sym apart ∙ h))
    (λ p. false≢true (e ∙ any_from (supports old touched suspects n) nodes p.0
    (all p.0 (and_parts (arc_in old p.0 n) (stays old touched p.0 && not (has suspects p.0)) p.1).0) p.1))
    s

match_true : (A B : Type 0) (b : Bool) → MatchBool b A B → b ≡ true → A
match_true A B true a e = a
match_true A B false a e = absurd (false≢true e)

match_false : (A B : Type 0) (b : Bool) → MatchBool b A B → b ≡ false → B
match_false A B true a e = absurd (false≢true (sym e))
match_false A B false a e = a

-- the nodes that were looked at and are supported
pub record SupportedAt (test : ℕ → Type 0) (nodes found : List ℕ) : Type 0 where
  pub only : (n : ℕ) → has found n ≡ true → (has nodes n ≡ true) × test n
  pub all : (n : ℕ) → has nodes n ≡ true → test n → has found n ≡ true

pub supported_none : (test : ℕ → Type 0) (found : List ℕ) → found ≡ [] → SupportedAt test [] found
supported_none test found e = record {
  only = λ n h. absurd (false≢true (ap (λ xs. has xs n) (sym e) ∙ h));
  all = λ n h t. absurd (false≢true h);
}

pub supported_more : (test : ℕ → Type 0) (nodes : List ℕ) (i x : ℕ) (b : Bool) (found next : List ℕ) → i < length nodes → x ≡ get_or nodes i x
    → MatchBool b (test x) (test x → ⊥)
    → Adds found next (λ u. nat_eq u x && b)
    → SupportedAt test (take i nodes) found → SupportedAt test (take (i + 1) nodes) next
supported_more test nodes i x b found next lt e is adds so_far = record {
  only = λ n h. ⊎_elim
      (λ f. let p = so_far.only n f in (more n ∙ or_left (has (take i nodes) n) (nat_eq n x) p.0, p.1))
      (λ f. let p = and_parts (nat_eq n x) b f in (
        more n ∙ or_right (has (take i nodes) n) (nat_eq n x) p.0,
        subst test (sym (eqb-true n x p.0)) (match_true (test x) (test x → ⊥) b is p.1),
      ))
      (or_cases (has found n) (nat_eq n x && b) (sym (adds.members n) ∙ h));
  all = λ n h t. ⊎_elim
      (λ f. adds.members n ∙ or_left (has found n) (nat_eq n x && b) (so_far.all n f t))
      (λ q. ⊎_elim
      (λ y. adds.members n ∙ or_right (has found n) (nat_eq n x && b) (and_from (nat_eq n x) b q y))
      (λ y. absurd (match_false (test x) (test x → ⊥) b is y (subst test (eqb-true n x q) t)))
      (cases_Bool b))
      (or_cases (has (take i nodes) n) (nat_eq n x) (sym (more n) ∙ h));
}
  where
    more : (n : ℕ) → has (take (i + 1) nodes) n ≡ (has (take i nodes) n || nat_eq n x)
    more n = list_any_more (nat_eq n) nodes i x lt ∙ ap (λ y. has (take i nodes) n || nat_eq n y) (sym e)

pub all_swept : {E : Type 0} (old : Rows) (touched named roots turned loose suspects starts alive some others : List ℕ) (result : Result (List ℕ) E)
    → some ≡ suspects → others ≡ suspects
    → AreLoose old touched named roots turned touched loose → IsLedTo (arc_in old) loose suspects
    → ((n : ℕ) → has starts n ≡ true → (has some n ≡ true) × IsSupported old touched named roots suspects n)
    → ((n : ℕ) → has some n ≡ true → IsSupported old touched named roots suspects n → has starts n ≡ true)
    → IsLedTo (arc_in old) starts alive
    → IfOk result (λ gone. (n : ℕ) → has gone n ≡ (has others n && not (has alive n)))
    → IfOk result (λ gone. IsSwept old touched named roots turned gone)
all_swept old touched named roots turned loose suspects starts alive some others (Ok gone) same same_too are_loose suspected only all living is = record {
  loose = loose;
  suspects = suspects;
  starts = starts;
  alive = alive;
  are_loose = are_loose;
  suspected = suspected;
  only = λ n h. let p = only n h in (ap (λ xs. has xs n) (sym same) ∙ p.0, p.1);
  supported = λ n h. all n (ap (λ xs. has xs n) same ∙ h);
  living = living;
  gone_is = λ n. is n ∙ ap (λ xs. has xs n && not (has alive n)) same_too;
}
all_swept old touched named roots turned loose suspects starts alive some others (Err e) same same_too are_loose suspected only all living is = tt

names_from : (world : ℕ → Fact) (told : List Told) → Tells world told → (n m : ℕ) → is_told told n ≡ true → arc_of world n m ≡ true → names_told told m ≡ true
names_from world [] tells n m h a = absurd (false≢true h)
names_from world (t ∷ ts) tells n m h a = ⊎_elim
    (λ q. or_left (has (arcs_of (shape_of t.rule)) m) (names_told ts m)
    (subst (λ (f : Fact). has (arcs_of f.shape) m ≡ true) (ap world (eqb-true n t.node q) ∙ tells.0) a))
    (λ q. or_right (has (arcs_of (shape_of t.rule)) m) (names_told ts m) (names_from world ts tells.1 n m q a))
    (or_cases (nat_eq n t.node) (is_told ts n) h)

named_from : (world : ℕ → Fact) (told : List Told) → Tells world told → (m : ℕ) → names_told told m ≡ true → (n : ℕ) × (is_told told n ≡ true) × (arc_of world n m ≡ true)
named_from world [] tells m h = absurd (false≢true h)
named_from world (t ∷ ts) tells m h = ⊎_elim
    (λ q. (
      t.node,
      or_left (nat_eq t.node t.node) (is_told ts t.node) (eq-eqb t.node t.node refl),
      subst (λ (f : Fact). has (arcs_of f.shape) m ≡ true) (sym tells.0) q,
    ))
    (λ q. let p = named_from world ts tells.1 m q in (p.0, or_right (nat_eq p.0 t.node) (is_told ts p.0) p.1, p.2))
    (or_cases (has (arcs_of (shape_of t.rule)) m) (names_told ts m) h)

reach_on : (world : ℕ → Fact) (roots : List ℕ) (b n : ℕ) → IsReached (arc_of world) roots b → arc_of world b n ≡ true → IsReached (arc_of world) roots n
reach_on world roots b n r a = record { start = r.start; among = r.among; walk = on r.walk a }

arc_kept : (old : Rows) (n m : ℕ) → arc_in old n m ≡ true → kept old n ≡ true
arc_kept old n m a = ⊎_elim (λ k. k)
    (λ k. absurd (false≢true (sym (ap (λ o. has (arcs_or_none o) m) (none_if (row_of old n) k)) ∙ a)))
    (cases_Bool (kept old n))

swap : (a b : Bool) → (a || b) ≡ true → (b || a) ≡ true
swap a b h = ⊎_elim (λ f. or_right b a f) (λ f. or_left b a f) (or_cases a b h)

module _ (world : ℕ → Fact) (old : Rows) (touched named roots turned gone dropped : List ℕ) (told : List Told)
    (closed : IsClosed old)
    (tells : Tells world told)
    (needed : (n : ℕ) → is_told told n ≡ true → stays old touched n ≡ false)
    (told_arcs : (n m : ℕ) → is_told told n ≡ true → arc_of world n m ≡ true → stays old touched m ≡ false → is_told told m ≡ true)
    (reached : (n : ℕ) → is_told told n ≡ true → IsReached (arc_of world) roots n)
    (named_is : (m : ℕ) → has named m ≡ names_told told m)
    (s : IsSwept old touched named roots turned gone)
    (drops : (n : ℕ) → has dropped n ≡ (has touched n || has gone n))
    (back : (n m : ℕ) → arc_in old n m ≡ true → has touched m ≡ true → has touched n ≡ true) where
  touched_stay : (n : ℕ) → stays old dropped n ≡ true → stays old touched n ≡ true
  touched_stay n h =
      let two = and_parts (kept old n) (not (has dropped n)) h in
      and_from (kept old n) (not (has touched n)) two.0
      (not_from_false (has touched n) (false_from_ne_true (has touched n) (λ t.
      false≢true (sym (not_from_true (has dropped n) (drops n ∙ or_left (has touched n) (has gone n) t)) ∙ two.1))))

  stay_from : (n : ℕ) → stays old touched n ≡ true → (has gone n ≡ true → ⊥) → stays old dropped n ≡ true
  stay_from n h g =
      let two = and_parts (kept old n) (not (has touched n)) h in
      and_from (kept old n) (not (has dropped n)) two.0
      (not_from_false (has dropped n) (false_from_ne_true (has dropped n) (λ d. ⊎_elim
      (λ t. false≢true (sym (not_from_true (has touched n) t) ∙ two.1)) g
      (or_cases (has touched n) (has gone n) (sym (drops n) ∙ d)))))

  not_gone : (n : ℕ) → stays old dropped n ≡ true → has gone n ≡ true → ⊥
  not_gone n h g = false≢true (sym (not_from_true (has dropped n) (drops n ∙ or_right (has touched n) (has gone n) g)) ∙ (and_parts (kept old n) (not (has dropped n)) h).1)

  arc_stays : (n m : ℕ) → stays old touched n ≡ true → arc_in old n m ≡ true → stays old touched m ≡ true
  arc_stays n m h a =
      let two = and_parts (kept old n) (not (has touched n)) h in
      and_from (kept old m) (not (has touched m)) (closed n m two.0 a)
      (not_from_false (has touched m) (false_from_ne_true (has touched m) (λ t. false≢true (sym (not_from_true (has touched n) (back n m a t)) ∙ two.1))))

  loose_stays : (n : ℕ) → is_loose old touched named roots n ≡ true → stays old touched n ≡ true
  loose_stays n h = (and_parts (stays old touched n) (not (has named n || has roots n)) h).0

  suspect_stays : (n : ℕ) → has s.suspects n ≡ true → stays old touched n ≡ true
  suspect_stays n h =
      let r = s.suspected.sound n h in
      walk_kept (arc_in old) (stays old touched) r.start n (λ a b. arc_stays a b) (loose_stays r.start (s.are_loose.only r.start r.among)) r.walk

  alive_stays : (n : ℕ) → has s.alive n ≡ true → stays old dropped n ≡ true
  alive_stays n h =
      let r = s.living.sound n h in
      stay_from n
      (walk_kept (arc_in old) (stays old touched) r.start n (λ a b. arc_stays a b) (suspect_stays r.start (s.only r.start r.among).0) r.walk)
      (λ g. false≢true (sym (not_from_true (has s.alive n) h) ∙ (and_parts (has s.suspects n) (not (has s.alive n)) (sym (s.gone_is n) ∙ g)).1))

  off_stays : (n : ℕ) → stays old touched n ≡ true → has s.suspects n ≡ false → stays old dropped n ≡ true
  off_stays n h o = stay_from n h (λ g. false≢true (sym o ∙ (and_parts (has s.suspects n) (not (has s.alive n)) (sym (s.gone_is n) ∙ g)).0))

  -- what is supported stays
  firm_stays : (n : ℕ) → stays old touched n ≡ true → IsSupported old touched named roots s.suspects n → stays old dropped n ≡ true
  firm_stays n h f = ⊎_elim
      (λ d. alive_stays n (s.living.starts_in n (s.supported n d f)))
      (λ d. off_stays n h d)
      (cases_Bool (has s.suspects n))

  -- what stays is no suspect, or alive
  stay_cases : (n : ℕ) → stays old dropped n ≡ true → (has s.suspects n ≡ false) ⊎ (has s.alive n ≡ true)
  stay_cases n h = ⊎_elim
      (λ d. ⊎_elim (λ a. inr a)
      (λ a. absurd (not_gone n h (s.gone_is n ∙ and_from (has s.suspects n) (not (has s.alive n)) d (not_from_false (has s.alive n) a))))
      (cases_Bool (has s.alive n)))
      (λ d. inl d)
      (cases_Bool (has s.suspects n))

  stay_closed : (n m : ℕ) → stays old dropped n ≡ true → arc_in old n m ≡ true → stays old dropped m ≡ true
  stay_closed n m h a = ⊎_elim
      (λ o. firm_stays m (arc_stays n m (touched_stay n h) a)
      (inr (
        n,
        and_from (arc_in old n m) (stays old touched n && not (has s.suspects n)) a
            (and_from (stays old touched n) (not (has s.suspects n)) (touched_stay n h) (not_from_false (has s.suspects n) o)),
      )))
      (λ l. alive_stays m (s.living.closed n m l a))
      (stay_cases n h)

  told_names : (n m : ℕ) → is_told told n ≡ true → arc_of world n m ≡ true → has named m ≡ true
  told_names n m h a = named_is m ∙ names_from world told tells n m h a

  module _ (before : List ℕ) (all : AreReached old before) (same : IsTurned before roots turned)
      (agree : (n m : ℕ) → stays old dropped n ≡ true → arc_in old n m ≡ true → arc_of world n m ≡ true) where
    firm_reached : (n : ℕ) → (has named n || has roots n) ≡ true → IsReached (arc_of world) roots n
    firm_reached n h = ⊎_elim
        (λ f. let p = named_from world told tells n (sym (named_is n) ∙ f) in reach_on world roots p.0 n (reached p.0 p.1) p.2)
        (λ r. record { start = n; among = r; walk = here })
        (or_cases (has named n) (has roots n) h)

    -- a node that stays and is no suspect is firm, or was not loose
    not_loose : (n : ℕ) → stays old touched n ≡ true → has s.suspects n ≡ false → (has s.loose n ≡ true → ⊥)
    not_loose n h o l = false≢true (sym o ∙ s.suspected.starts_in n l)

    off_reached : (f n : ℕ) → has before f ≡ true → Walk (arc_in old) f n → stays old touched n ≡ true → has s.suspects n ≡ false → IsReached (arc_of world) roots n
    off_reached f n start here h o = ⊎_elim
        (λ k. firm_reached f k)
        (λ k. ⊎_elim
        (λ t. absurd (not_loose f h o (s.are_loose.cut f t (and_from (stays old touched f) (not (has named f || has roots f)) h (not_from_false (has named f || has roots f) k)))))
        (λ t. record { start = f; among = same f t ∙ start; walk = here })
        (cases_Bool (has turned f)))
        (cases_Bool (has named f || has roots f))
    off_reached f n start (on {b = b} walk a) h o = ⊎_elim
        (λ k. firm_reached n k)
        (λ k. ⊎_elim
        (λ st. ⊎_elim
        (λ d. absurd (false≢true (sym o ∙ s.suspected.closed b n d a)))
        (λ d. reach_on world roots b n (off_reached f b start walk st d) (agree b n (off_stays b st d) a))
        (cases_Bool (has s.suspects b)))
        (λ st. absurd (not_loose n h o (s.are_loose.lost b n (gone_touched b st (arc_kept old b n a)) a
        (and_from (stays old touched n) (not (has named n || has roots n)) h (not_from_false (has named n || has roots n) k)))))
        (cases_Bool (stays old touched b)))
        (cases_Bool (has named n || has roots n))
      where
        gone_touched : (m : ℕ) → stays old touched m ≡ false → kept old m ≡ true → has touched m ≡ true
        gone_touched m st k = ⊎_elim (λ t. t)
            (λ t. absurd (false≢true (sym st ∙ and_from (kept old m) (not (has touched m)) k (not_from_false (has touched m) t))))
            (cases_Bool (has touched m))

    off_all : (n : ℕ) → stays old touched n ≡ true → has s.suspects n ≡ false → IsReached (arc_of world) roots n
    off_all n h o =
        let r = all n (and_parts (kept old n) (not (has touched n)) h).0 in
        off_reached r.start n r.among r.walk h o

    alive_walk : (b n : ℕ) → has s.alive b ≡ true → IsReached (arc_of world) roots b → Walk (arc_in old) b n → (has s.alive n ≡ true) × IsReached (arc_of world) roots n
    alive_walk b n l r here = (l, r)
    alive_walk b n l r (on {b = m} walk a) =
        let p = alive_walk b m l r walk in
        (s.living.closed m n p.0 a, reach_on world roots m n p.1 (agree m n (alive_stays m p.0) a))

    start_reached : (n : ℕ) → IsSupported old touched named roots s.suspects n → IsReached (arc_of world) roots n
    start_reached n f = ⊎_elim
        (λ h. firm_reached n (swap (has roots n) (has named n) h))
        (λ p.
        let two = and_parts (arc_in old p.0 n) (stays old touched p.0 && not (has s.suspects p.0)) p.1 in
        let more = and_parts (stays old touched p.0) (not (has s.suspects p.0)) two.1 in
        let off : has s.suspects p.0 ≡ false = false_from_ne_true (has s.suspects p.0) (λ d. false≢true (sym (not_from_true (has s.suspects p.0) d) ∙ more.1)) in
        reach_on world roots p.0 n (off_all p.0 more.0 off) (agree p.0 n (off_stays p.0 more.0 off) two.0))
        f

    stay_all : (n : ℕ) → stays old dropped n ≡ true → IsReached (arc_of world) roots n
    stay_all n h = ⊎_elim
        (λ o. off_all n (touched_stay n h) o)
        (λ l. let r = s.living.sound n l in
        (alive_walk r.start n (s.living.starts_in r.start r.among) (start_reached r.start (s.only r.start r.among).1) r.walk).1)
        (stay_cases n h)

  pub gathered : (asking changed : List ℕ) → ((n : ℕ) → has asking n ≡ true → has turned n ≡ true)
      → ((n : ℕ) → has roots n ≡ true → (kept old n ≡ true) ⊎ (has asking n ≡ true) → stays old touched n ≡ false → is_told told n ≡ true)
      → ((n : ℕ) → has changed n ≡ true → has touched n ≡ true)
      → ((n : ℕ) → has touched n ≡ true → IsTouched (arc_in old) changed n)
      → IsGathered world old roots asking changed told dropped
  gathered asking changed few from_roots has_changed sound = record {
    tells = tells;
    new_or_touched = λ n h k. touched_if world old touched changed sound n (needed n h) k;
    apart = λ n h. false_from_ne_true (is_told told n) (λ t. false≢true (sym (needed n t) ∙ touched_stay n h));
    untouched = λ n h. let two = and_parts (kept old n) (not (has touched n)) (touched_stay n h) in
        (two.0, false_from_ne_true (has changed n) (λ c. false≢true (sym (not_from_true (has touched n) (has_changed n c)) ∙ two.1)));
    stay_arcs = stay_closed;
    from_roots = λ n h k. ⊎_elim
        (λ st. or_left (stays old dropped n) (is_told told n) (firm_stays n st (inl (or_left (has roots n) (has named n) h))))
        (λ st. or_right (stays old dropped n) (is_told told n) (from_roots n h k st))
        (cases_Bool (stays old touched n));
    told_arcs = λ n m h a. ⊎_elim
        (λ st. or_left (stays old dropped m) (is_told told m) (firm_stays m st (inl (or_right (has roots m) (has named m) (told_names n m h a)))))
        (λ st. or_right (stays old dropped m) (is_told told m) (told_arcs n m h a st))
        (cases_Bool (stays old touched m));
    reached = reached;
    stay_reached = λ before all same agree. stay_all before all (λ n o. same n (false_from_ne_true (has asking n) (λ a. false≢true (sym o ∙ few n a)))) agree;
  }

-- a kept root was touched, where it does not stay
pub root_asked : (old : Rows) (touched turned : List ℕ) (n : ℕ) → (kept old n ≡ true) ⊎ (has turned n ≡ true) → stays old touched n ≡ false → (has turned n || has touched n) ≡ true
root_asked old touched turned n k st = ⊎_elim
    (λ kp. or_right (has turned n) (has touched n) (⊎_elim (λ t. t)
    (λ t. absurd (false≢true (sym st ∙ and_from (kept old n) (not (has touched n)) kp (not_from_false (has touched n) t))))
    (cases_Bool (has touched n))))
    (λ t. or_left (has turned n) (has touched n) t) k

-- a world in which no node holds anybody
abbrev nothing : ℕ → Fact
nothing n = record { level = 0; shape = Own; own = [] }

-- where nothing changed and none is told of
module _ (old : Rows) (touched named roots turned gone dropped : List ℕ) (told : List Told) (closed : IsClosed old)
    (no_touched : touched ≡ []) (no_named : named ≡ []) (no_told : told ≡ []) (drops : dropped ≡ gone)
    (s : IsSwept old touched named roots turned gone) where
  none_told : {P : Type 0} (n : ℕ) → is_told told n ≡ true → P
  none_told n h = absurd (false≢true (ap (λ ts. is_told ts n) (sym no_told) ∙ h))

  none_touched : (n : ℕ) → has touched n ≡ false
  none_touched n = ap (λ xs. has xs n) no_touched

  pub swept : (world : ℕ → Fact) (asking : List ℕ) → ((n : ℕ) → has asking n ≡ true → has turned n ≡ true)
      → ((n : ℕ) → has roots n ≡ true → (kept old n ≡ true) ⊎ (has asking n ≡ true) → kept old n ≡ true)
      → IsGathered world old roots asking [] told dropped
  swept world asking few all = gathered world old touched named roots turned gone dropped told closed
      (subst (λ ts. Tells world ts) (sym no_told) tt)
      (λ n h. none_told n h) (λ n m h. none_told n h) (λ n h. none_told n h)
      (λ m. ap (λ xs. has xs m) no_named ∙ sym (ap (λ ts. names_told ts m) no_told))
      s
      (λ n. ap (λ xs. has xs n) drops ∙ sym (ap (λ b. b || has gone n) (none_touched n)))
      (λ n m a t. absurd (false≢true (sym (none_touched m) ∙ t)))
      asking [] few
      (λ n h k st. absurd (false≢true (sym st ∙ and_from (kept old n) (not (has touched n)) (all n h k) (not_from_false (has touched n) (none_touched n)))))
      (λ n h. absurd (false≢true h))
      (λ n h. absurd (false≢true (sym (none_touched n) ∙ h)))

  kept_only : (world : ℕ → Fact) → IsGathered world old roots [] [] told dropped
  kept_only world = swept world [] (λ n h. absurd (false≢true h)) (λ n h k. ⊎_elim (λ a. a) (λ b. absurd (false≢true b)) k)

  pub swept_was : WasGathered old told dropped
  swept_was = (nothing, roots, [], [], kept_only nothing)

  pub swept_same : (new : Rows) → ((n : ℕ) → kept new n ≡ in_region old dropped told n)
      → ((n : ℕ) → stays old dropped n ≡ true → is_told told n ≡ false → row_of new n ≡ row_of old n)
      → (n : ℕ) → kept new n ≡ true → row_of new n ≡ row_of old n
  swept_same new nodes others n h = ⊎_elim
      (λ st. others n st (ap (λ ts. is_told ts n) no_told))
      (λ t. none_told n t)
      (or_cases (stays old dropped n) (is_told told n) (sym (nodes n) ∙ h))

  pub swept_reached : (new : Rows) → ((n : ℕ) → kept new n ≡ in_region old dropped told n)
      → (n : ℕ) → kept old n ≡ true → IsReached (arc_in old) roots n → kept new n ≡ true
  swept_reached new nodes n k r =
      let got = kept_only nothing in
      let start : in_region old dropped told r.start ≡ true = got.from_roots r.start r.among (inl (first_kept r.start n k r.walk)) in
      nodes n ∙ ⊎_elim
      (λ st. or_left (stays old dropped n) (is_told told n) (walk_kept (arc_in old) (stays old dropped) r.start n (λ a b. got.stay_arcs a b) st r.walk))
      (λ t. none_told r.start t)
      (or_cases (stays old dropped r.start) (is_told told r.start) start)
    where
      first_kept : (a b : ℕ) → kept old b ≡ true → Walk (arc_in old) a b → kept old a ≡ true
      first_kept a b kb here = kb
      first_kept a b kb (on {b = m} walk h) = first_kept a m (arc_kept old m b h) walk
