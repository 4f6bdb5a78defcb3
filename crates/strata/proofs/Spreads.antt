-- A search that takes the steps of one place after those of another.
use Rattle.std.proofs.Common.{◌≡◌, ℕ, ◌<◌, ◌≤◌, ◌+◌, ◌-◌, ◌≢◌, List, [], ◌∷◌, ◌++◌, length, get_or, set, replicate, refl, ap, ◌∙◌, sym, subst, ⊎_elim, arith}
use Rattle.std.specs.Prelude.{Bool, true, false, cond, All, Contains, IsTrue, sum_by, ◌↔◌}
use Rattle.std.proofs.lemmas.Bool.{cases_eq, cases_lt}
use Rattle.std.proofs.lemmas.List.{get_or-set_same, get_or-set_other, length-set, get_or-replicate, length-replicate, get_or_past, get_or_default, get_or_append_left, length_push}
use Rattle.std.proofs.lemmas.List.Elements.{All-contains, Contains-append_left, Contains-get_or, Contains-push, Contains-push_cases}
use Rattle.std.proofs.lemmas.List.Sums.{sum_by-set}
use Rattle.meaning.proofs.Lists.{contains_here, contains_cases, contains_none}
use Rattle.strata.specs.declared.graph.Step.{Step}
use Rattle.strata.specs.declared.search.Seen.{Seen}
use Rattle.strata.specs.inside.Search.{HasNode, IsTrail, IsReached, IsMarked, IsSpread, LeaveFrom, unmarked}
use Rattle.strata.proofs.Trails.{trail_one, trail_more}

pub spread_none : (seen : List Seen) (marks : List Bool) (steps : List Step) → IsMarked marks seen → IsSpread seen marks seen marks steps 0
spread_none seen marks steps marked = record {
  longer = omega arith;
  remains = λ k d h. refl;
  room = refl;
  long = refl;
  marked = marked;
  taken = λ k s h. absurd (omega (arith, h));
  trail = λ graph start sub trail. trail;
}

taken_more : (seen : List Seen) (steps : List Step) (i : ℕ) (s : Step) → ((d : Step) → get_or steps i d ≡ s) → HasNode seen s.to → ((k : ℕ) (t : Step) → k < i → get_or steps k t ≡ t → HasNode seen t.to) → (k : ℕ) (t : Step) → k < i + 1 → get_or steps k t ≡ t → HasNode seen t.to
taken_more seen steps i s at has before k t h is =
    ⊎_elim
    (λ less. before k t less is)
    (λ more.
    let here : k ≡ i = omega (arith, h, more) in
    let same : t ≡ s = sym is ∙ ap (λ q. get_or steps q t) here ∙ at t in
    subst (λ x. HasNode seen x.to) (sym same) has)
    (cases_lt k i)

-- the step leads to what was seen
pub spread_old : (seen : List Seen) (marks : List Bool) (seen_now : List Seen) (marks_now : List Bool) (steps : List Step) (i : ℕ) (s : Step) → ((d : Step) → get_or steps i d ≡ s) → IsTrue (get_or marks_now s.to false) → IsSpread seen marks seen_now marks_now steps i → IsSpread seen marks seen_now marks_now steps (i + 1)
spread_old seen marks seen_now marks_now steps i s at mark spread = record {
  longer = spread.longer;
  remains = spread.remains;
  room = spread.room;
  long = spread.long;
  marked = spread.marked;
  taken = taken_more seen_now steps i s at ((spread.marked s.to).0 mark) spread.taken;
  trail = spread.trail;
}

has_more : (seen : List Seen) (x : Seen) (n : ℕ) → HasNode seen n → HasNode (seen ++ x ∷ []) n
has_more seen x n h = (h.0, Contains-append_left seen (x ∷ []) h.0 h.1, h.2)

has_pushed : (seen : List Seen) (x : Seen) → HasNode (seen ++ x ∷ []) x.node
has_pushed seen x = (x, Contains-push seen x, refl)

marked_more : (marks : List Bool) (seen : List Seen) (x : Seen) → x.node < length marks → IsMarked marks seen → IsMarked (set marks x.node true) (seen ++ x ∷ [])
marked_more marks seen x lt marked n =
    ⊎_elim
    (λ e. (λ m. subst (HasNode (seen ++ x ∷ [])) (sym e) (has_pushed seen x), λ h. subst (λ q. get_or (set marks x.node true) q false ≡ true) (sym e) (get_or-set_same marks x.node true false lt)))
    (λ ne.
    let other = get_or-set_other marks x.node n true false ne in
    (λ m. has_more seen x n ((marked n).0 (sym other ∙ m)), λ h. other ∙ (marked n).1 (before ne h)))
    (cases_eq n x.node)
  where
    before : (n ≢ x.node) → HasNode (seen ++ x ∷ []) n → HasNode seen n
    before ne h = ⊎_elim (λ old. (h.0, old, h.2)) (λ e. absurd (ne (sym h.2 ∙ ap (λ z. z.node) (sym e)))) (Contains-push_cases seen x h.0 h.1)

abbrev cost : Bool → ℕ
cost mark = cond mark 0 1

unmarked_more : (marks : List Bool) (node : ℕ) → node < length marks → get_or marks node false ≡ false → unmarked (set marks node true) + 1 ≡ unmarked marks
unmarked_more marks node lt e =
    let sum = sum_by-set cost marks node true false lt in
    let one : cost (get_or marks node false) ≡ cost false = ap cost e in
    omega (arith, sum, one)

-- the step leads to what was not seen
pub spread_new : (seen : List Seen) (marks : List Bool) (seen_now : List Seen) (marks_now : List Bool) (steps : List Step) (i by : ℕ) (s : Step) → i < length steps → ((d : Step) → get_or steps i d ≡ s) → by < length seen → s.to < length marks → LeaveFrom seen by steps → get_or marks_now s.to false ≡ false → IsSpread seen marks seen_now marks_now steps i → IsSpread seen marks (seen_now ++ record { node = s.to; by = by; subtracted = s.subtracted } ∷ []) (set marks_now s.to true) steps (i + 1)
spread_new seen marks seen_now marks_now steps i by s lt at place range leave free spread =
    let x : Seen = record { node = s.to; by = by; subtracted = s.subtracted } in
    let low : s.to < length marks_now = omega (arith, range, spread.long) in
    let place_now : by < length seen_now = omega (arith, place, spread.longer) in
    let has : Contains steps s = (i, lt, at s) in
    let from : (d : Seen) → (get_or seen_now by d).node ≡ s.from = λ d. ap (λ z. z.node) (spread.remains by d place) ∙ sym (leave s d has) in
    let fresh : HasNode seen_now s.to → ⊥ = λ h. let mark = (spread.marked s.to).1 h in cc in
    record {
      longer = let e = length_push seen_now x in omega (arith, e, spread.longer);
      remains = λ k d h. let now : k < length seen_now = omega (arith, h, spread.longer) in get_or_append_left seen_now (x ∷ []) d k now ∙ spread.remains k d h;
      room = let e = length_push seen_now x in let u = unmarked_more marks_now s.to low free in omega (arith, e, u, spread.room);
      long = length-set marks_now s.to true ∙ spread.long;
      marked = marked_more marks_now seen_now x low spread.marked;
      taken = taken_more (seen_now ++ x ∷ []) steps i s at (has_pushed seen_now x) (λ k t h is. has_more seen_now x t.to (spread.taken k t h is));
      trail = λ graph start sub trail. trail_more graph start seen_now (spread.trail graph start sub trail) x place_now (λ d. subst (λ a. Contains graph (record { from = a; to = s.to; subtracted = s.subtracted })) (sym (from d)) (sub s has)) fresh;
    }

-- the steps of the first places were taken
pub record IsSearch (steps : List Step) (start count at : ℕ) (seen : List Seen) (marks : List Bool) : Type 0 where
  pub trail : IsTrail steps start seen
  pub marked : IsMarked marks seen
  pub long : length marks ≡ count
  pub reach : at ≤ length seen
  pub done : (k : ℕ) (d : Seen) (s : Step) → k < at → Contains steps s → s.from ≡ (get_or seen k d).node → HasNode seen s.to

marked_start : (count : ℕ) (x : Seen) → x.node < count → IsMarked (set (replicate count false) x.node true) (x ∷ [])
marked_start count x lt n = marked_more (replicate count false) [] x (subst (λ m. x.node < m) (sym (length-replicate {A = Bool} count false)) lt) none n
  where
    none : IsMarked (replicate count false) []
    none n = (λ m. let e = unmarked_at in cc, λ h. absurd (contains_none h.0 h.1))
      where
        unmarked_at : get_or (replicate count false) n false ≡ false
        unmarked_at = ⊎_elim
            (λ less. get_or-replicate {A = Bool} count n false false less)
            (λ more. get_or_past {X = Bool} (replicate count false) n false (omega (arith, length-replicate {A = Bool} count false, more)))
            (cases_lt n count)

pub search_one : (steps : List Step) (count : ℕ) (x : Seen) → x.node < count → IsSearch steps x.node count 0 (x ∷ []) (set (replicate count false) x.node true)
search_one steps count x lt = record {
  trail = trail_one steps x;
  marked = marked_start count x lt;
  long = length-set (replicate count false) x.node true ∙ length-replicate {A = Bool} count false;
  reach = omega arith;
  done = λ k d s h. absurd (omega (arith, h));
}

has_still : (seen seen_now : List Seen) (n : ℕ) → length seen ≤ length seen_now → ((k : ℕ) (d : Seen) → k < length seen → get_or seen_now k d ≡ get_or seen k d) → HasNode seen n → HasNode seen_now n
has_still seen seen_now n longer remains (x, (k, h, e), is) = (x, (k, omega (arith, h, longer), remains k x h ∙ e), is)

pub search_more : (steps : List Step) (start count at : ℕ) (seen : List Seen) (marks : List Bool) (seen_now : List Seen) (marks_now : List Bool) (next : List Step) (from : ℕ) → at < length seen → ((d : Seen) → (get_or seen at d).node ≡ from) → ((s : Step) → Contains next s ↔ (Contains steps s × (s.from ≡ from))) → IsSpread seen marks seen_now marks_now next (length next) → IsSearch steps start count at seen marks → IsSearch steps start count (at + 1) seen_now marks_now
search_more steps start count at seen marks seen_now marks_now next from lt node leaving spread search = record {
  trail = spread.trail steps start (λ s c. ((leaving s).0 c).0) search.trail;
  marked = spread.marked;
  long = spread.long ∙ search.long;
  reach = omega (arith, lt, spread.longer);
  done = λ k d s h c e. ⊎_elim
      (λ less.
      let low : k < length seen = omega (arith, less, lt) in
      has_still seen seen_now s.to spread.longer spread.remains (search.done k d s less c (e ∙ ap (λ z. z.node) (spread.remains k d low))))
      (λ more.
      let here : k ≡ at = omega (arith, h, more) in
      let same : s.from ≡ from = e ∙ ap (λ q. (get_or seen_now q d).node) here ∙ ap (λ z. z.node) (spread.remains at d lt) ∙ node d in
      let at_next = (leaving s).1 (c, same) in
      spread.taken at_next.0 s at_next.1 at_next.2)
      (cases_lt k at);
}

pub search_falls : (seen : List Seen) (marks : List Bool) (seen_now : List Seen) (marks_now : List Bool) (steps : List Step) (n at : ℕ) → at < length seen → IsSpread seen marks seen_now marks_now steps n → (unmarked marks_now + length seen_now) - (at + 1) < (unmarked marks + length seen) - at
search_falls seen marks seen_now marks_now steps n at lt spread = omega (arith, lt, spread.room)

pub search_done : (steps : List Step) (start count at : ℕ) (seen : List Seen) (marks : List Bool) → length seen ≤ at → IsSearch steps start count at seen marks → IsReached steps start seen
search_done steps start count at seen marks h search = record {
  trail = search.trail;
  closed = λ a b sign step (x, (k, lt, e), is). search.done k x (record { from = a; to = b; subtracted = sign }) (omega (arith, lt, h)) step (sym is ∙ sym (ap (λ z. z.node) e));
}

-- the node stands at no place below this one, so this is a place
pub not_past : (seen : List Seen) (node place : ℕ) → HasNode seen node → ((k : ℕ) (x : Seen) → k < place → get_or seen k x ≡ x → x.node ≡ node → ⊥) → place < length seen
not_past seen node place (x, (k, lt, e), is) none = ⊎_elim (λ less. absurd (none k x less e is)) (λ more. omega (arith, lt, more)) (cases_lt k place)

pub next_in_range : (steps next : List Step) (count from : ℕ) → ((s : Step) → Contains next s ↔ (Contains steps s × (s.from ≡ from))) → All (λ s. s.to < count) steps → All (λ s. s.to < count) next
next_in_range steps next count from leaving in_range k d h =
    All-contains (λ (s : Step). s.to < count) steps (get_or next k d) in_range ((leaving (get_or next k d)).0 (Contains-get_or next k d h)).0

pub next_leave : (steps next : List Step) (seen : List Seen) (at from : ℕ) → ((d : Seen) → (get_or seen at d).node ≡ from) → ((s : Step) → Contains next s ↔ (Contains steps s × (s.from ≡ from))) → LeaveFrom seen at next
next_leave steps next seen at from node leaving s d c = ((leaving s).0 c).1 ∙ sym (node d)
