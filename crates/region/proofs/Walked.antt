-- A walk that asks.
use Rattle.std.proofs.Common.{ℕ, ◌≡◌, ◌≤◌, ◌<◌, ◌+◌, Bool, true, false, cond, not, ◌&&◌, ◌||◌, take, drop, length, nat_eq, List, [], ◌∷◌, ◌++◌, get_or, refl, sym, ◌∙◌, ap, subst, arith, ⊎_elim, ◌⊎◌, append_assoc, append-nil, zero, suc}
use Rattle.std.specs.List.{IsDistinct, AllByRecursion}
use Rattle.std.specs.Cmp.{nat_eq_equiv}
use Rattle.std.proofs.lemmas.Map.Keys.{IsDistinct-push}
use Rattle.std.proofs.Math.Bool.{or_comm}
use Rattle.std.proofs.lemmas.List.{take_more, take_all, drop_more}
use Rattle.std.proofs.lemmas.List.Folds.{list_any-append, list_any_more}
use Rattle.std.proofs.lemmas.Bool.{or_cases, cases_Bool, or_left, or_right, and_parts, and_from, false≢true, eqb-true, eq-eqb, not_from_false, false_from_ne_true}
use Rattle.least_sets.specs.World.{Fact, Own, has, arcs_of}
use Rattle.least_sets.specs.Walks.{Adds, Walk, here, on, arc_of, IsTouched, IsReached}
use Rattle.least_sets.proofs.Gives.{has-append}
use Rattle.least_sets.proofs.Found.{SearchAt, search_none, search_more, search_end, distinct_none, has_at, has_take}
use Rattle.region.specs.declared.rule.Told.{Told}
use Rattle.region.specs.Rules.{fact_of, shape_of}
use Rattle.region.specs.Steps.{is_told, Tells, AreTold, InEachTold}
use Rattle.region.specs.Tables.{Rows, kept, arc_in}
use Rattle.region.specs.Gathered.{nodes_of, stays, IsGathered, IsAskedOnce, IsAskedSome}
use Rattle.region.specs.Walking.{IsVisit, IsWalked, IsWalkedTold, IsAskedSomeOf}

pick : (h e s b : Bool) → (e ≡ true → s ≡ b) → ((h && s) || (e && b)) ≡ ((h || e) && s)
pick true true true b f = refl
pick true true false b f = sym (f refl)
pick true false true b f = refl
pick true false false b f = refl
pick false true s b f = sym (f refl)
pick false false s b f = refl

or_join : (a b c : Bool) → ((a || b) || c) ≡ (a || (b || c))
or_join true b c = refl
or_join false b c = refl

or_last : (b : Bool) → (b || false) ≡ b
or_last true = refl
or_last false = refl

-- one more node of a list is added, if it passes a test
pub adds_picked : (xs : List ℕ) (i x : ℕ) (b : Bool) (s : ℕ → Bool) (first now next : List ℕ) → x ≡ get_or xs i x → i < length xs → b ≡ s x
    → Adds first now (λ u. has (take i xs) u && s u) → Adds now next (λ u. nat_eq u x && b) → Adds first next (λ u. has (take (i + 1) xs) u && s u)
adds_picked xs i x b s first now next e lt is before after = record {
  members = λ u. after.members u ∙ ap (λ c. c || (nat_eq u x && b)) (before.members u)
      ∙ or_join (has first u) (has (take i xs) u && s u) (nat_eq u x && b)
      ∙ ap (λ c. has first u || c) (pick (has (take i xs) u) (nat_eq u x) (s u) b (λ q. ap s (eqb-true u x q) ∙ sym is)
      ∙ ap (λ c. c && s u) (sym (list_any_more (nat_eq u) xs i x lt ∙ ap (λ y. has (take i xs) u || nat_eq u y) (sym e))));
  distinct = after.distinct;
  front = λ j le. after.front j (let l = before.longer in omega arith) ∙ before.front j le;
  longer = let l = before.longer in let m = after.longer in omega arith;
}

-- the same of a list that is gone over from its end
pub adds_picked_back : (xs : List ℕ) (i x : ℕ) (b : Bool) (s : ℕ → Bool) (first now next : List ℕ) → x ≡ get_or xs i x → i < length xs → b ≡ s x
    → Adds first now (λ u. has (drop (i + 1) xs) u && s u) → Adds now next (λ u. nat_eq u x && b) → Adds first next (λ u. has (drop i xs) u && s u)
adds_picked_back xs i x b s first now next e lt is before after = record {
  members = λ u. after.members u ∙ ap (λ c. c || (nat_eq u x && b)) (before.members u)
      ∙ or_join (has first u) (has (drop (i + 1) xs) u && s u) (nat_eq u x && b)
      ∙ ap (λ c. has first u || c) (pick (has (drop (i + 1) xs) u) (nat_eq u x) (s u) b (λ q. ap s (eqb-true u x q) ∙ sym is)
      ∙ ap (λ c. c && s u) (or_comm (has (drop (i + 1) xs) u) (nat_eq u x) ∙ ap (λ y. nat_eq u y || has (drop (i + 1) xs) u) e ∙ ap (λ ys. has ys u) (sym (drop_more xs i x lt))));
  distinct = after.distinct;
  front = λ j le. after.front j (let l = before.longer in omega arith) ∙ before.front j le;
  longer = let l = before.longer in let m = after.longer in omega arith;
}

pub adds_same : (xs ys : List ℕ) (p q : ℕ → Bool) → ((u : ℕ) → p u ≡ q u) → Adds xs ys p → Adds xs ys q
adds_same xs ys p q e a = record { members = λ u. a.members u ∙ ap (λ b. has xs u || b) (e u); distinct = a.distinct; front = a.front; longer = a.longer }

-- those of some nodes that pass a test are all that do
pub adds_those : (xs ys zs : List ℕ) (s : ℕ → Bool) → ((u : ℕ) → s u ≡ true → has zs u ≡ true) → Adds xs ys (λ u. has zs u && s u) → Adds xs ys s
adds_those xs ys zs s all a = adds_same xs ys (λ u. has zs u && s u) s
    (λ u. ⊎_elim (λ h. ap (λ b. b && s u) (all u h)) (λ h. both (has zs u) (s u) h) (cases_Bool (s u))) a
  where
    both : (a b : Bool) → b ≡ false → (a && b) ≡ b
    both true b h = refl
    both false b h = sym h

told_push : (told : List Told) (t : Told) (n : ℕ) → is_told (told ++ t ∷ []) n ≡ (is_told told n || nat_eq n t.node)
told_push told t n = list_any-append (λ (x : Told). nat_eq n x.node) told (t ∷ []) ∙ ap (λ b. is_told told n || b) (or_last (nat_eq n t.node))

has_push : (xs : List ℕ) (x n : ℕ) → has (xs ++ x ∷ []) n ≡ (has xs n || nat_eq n x)
has_push xs x n = has-append xs (x ∷ []) n ∙ ap (λ b. has xs n || b) (or_last (nat_eq n x))

tells_push : (world : ℕ → Fact) (told : List Told) (t : Told) → Tells world told → world t.node ≡ fact_of t → Tells world (told ++ t ∷ [])
tells_push world [] t a e = (e, tt)
tells_push world (x ∷ xs) t a e = (a.0, tells_push world xs t a.1 e)

nodes_push : (told : List Told) (t : Told) → nodes_of (told ++ t ∷ []) ≡ nodes_of told ++ t.node ∷ []
nodes_push [] t = refl
nodes_push (x ∷ xs) t = ap (λ ys. x.node ∷ ys) (nodes_push xs t)

pub told_nodes : (told : List Told) (n : ℕ) → has (nodes_of told) n ≡ is_told told n
told_nodes [] n = refl
told_nodes (x ∷ xs) n = ap (λ b. nat_eq n x.node || b) (told_nodes xs n)

all_at : (y : ℕ) (ys : List ℕ) (at x : ℕ) → AllByRecursion (λ z. nat_eq y z ≡ false) ys → at < length ys → nat_eq y (get_or ys at x) ≡ false
all_at y [] at x a lt = absurd (omega arith)
all_at y (z ∷ zs) zero x a lt = a.0
all_at y (z ∷ zs) (suc at) x a lt = all_at y zs at x a.1 (omega arith)

apart_back : (x y : ℕ) → nat_eq y x ≡ false → nat_eq x y ≡ false
apart_back x y h = false_from_ne_true (nat_eq x y) (λ t. false≢true (sym h ∙ eq-eqb y x (sym (eqb-true x y t))))

or_none : (a b : Bool) → a ≡ false → b ≡ false → (a || b) ≡ false
or_none a b e f = ap (λ c. c || b) e ∙ f

-- a node is not among those before it
distinct_front : (xs : List ℕ) (at x : ℕ) → IsDistinct nat_eq xs → at < length xs → x ≡ get_or xs at x → has (take at xs) x ≡ false
unfolding IsDistinct
distinct_front [] at x d lt e = absurd (omega arith)
distinct_front (y ∷ ys) zero x d lt e = refl
distinct_front (y ∷ ys) (suc at) x d lt e =
    or_none (nat_eq x y) (has (take at ys) x)
    (apart_back x y (subst (λ i. nat_eq y i ≡ false) (sym e) (all_at y ys at x d.0 (omega arith))))
    (distinct_front ys at x d.1 (omega arith) e)

-- the arcs to what does not stay
pub needed : (ℕ → Fact) → Rows → List ℕ → ℕ → ℕ → Bool
needed world old touched a b = arc_of world a b && not (stays old touched b)

needed_to : (world : ℕ → Fact) (old : Rows) (touched : List ℕ) (a b : ℕ) → needed world old touched a b ≡ true → arc_of world a b ≡ true
unfolding needed
needed_to world old touched a b h = (and_parts (arc_of world a b) (not (stays old touched b)) h).0

needed_from : (world : ℕ → Fact) (old : Rows) (touched : List ℕ) (a b : ℕ) → arc_of world a b ≡ true → stays old touched b ≡ false → needed world old touched a b ≡ true
unfolding needed
needed_from world old touched a b h s = and_from (arc_of world a b) (not (stays old touched b)) h (not_from_false (stays old touched b) s)

needed_same : (world : ℕ → Fact) (old : Rows) (touched : List ℕ) (a b : ℕ) → (arc_of world a b && not (stays old touched b)) ≡ needed world old touched a b
unfolding needed
needed_same world old touched a b = refl

not_stays : (b : Bool) → not b ≡ true → b ≡ false
not_stays true h = sym h
not_stays false h = refl

pub search_start : (arc : ℕ → ℕ → Bool) (found : List ℕ) → IsDistinct nat_eq found → SearchAt arc found 0 found
search_start arc found distinct = search_none arc found found [] refl (record {
  members = λ u. refl;
  distinct = distinct;
  front = λ i le. (let z : i ≡ 0 = omega arith in subst (λ (k : ℕ). take k found ≡ take k []) (sym z) refl);
  longer = omega arith;
})

pub record GatherAt (world : ℕ → Fact) (old : Rows) (touched roots turned first : List ℕ) (at : ℕ) (found : List ℕ) (told : List Told) (asked : List ℕ) : Type 0 where
  pub start : List ℕ
  pub start_roots : (n : ℕ) → has start n ≡ true → has roots n ≡ true
  pub start_all : (n : ℕ) → has roots n ≡ true → (has turned n || has touched n) ≡ true → stays old touched n ≡ false → has start n ≡ true
  pub search : SearchAt (needed world old touched) start at found
  pub off : (n : ℕ) → has found n ≡ true → stays old touched n ≡ false
  pub done : (n : ℕ) → has (take at found) n ≡ is_told told n
  pub tells : Tells world told
  pub askings : IsAskedOnce told first asked

pub gather_none : (world : ℕ → Fact) (old : Rows) (touched roots turned first nothing half found : List ℕ) (told : List Told)
    → nothing ≡ [] → Adds nothing half (λ u. has touched u && (has roots u && not (stays old touched u)))
    → Adds half found (λ u. has turned u && (has roots u && not (stays old touched u))) → told ≡ []
    → GatherAt world old touched roots turned first 0 found told first
gather_none world old touched roots turned first nothing half found told e some others no_told = record {
  start = found;
  start_roots = λ n h. (and_parts (has roots n) (not (stays old touched n)) (one_of n h)).0;
  start_all = λ n r t s.
      let fit : (has roots n && not (stays old touched n)) ≡ true = and_from (has roots n) (not (stays old touched n)) r (not_from_false (stays old touched n) s) in
      others.members n ∙ ⊎_elim
      (λ h. or_right (has half n) (has turned n && (has roots n && not (stays old touched n)))
      (and_from (has turned n) (has roots n && not (stays old touched n)) h fit))
      (λ h. or_left (has half n) (has turned n && (has roots n && not (stays old touched n)))
      (some.members n ∙ or_right (has nothing n) (has touched n && (has roots n && not (stays old touched n)))
      (and_from (has touched n) (has roots n && not (stays old touched n)) h fit)))
      (or_cases (has turned n) (has touched n) t);
  search = search_start (needed world old touched) found others.distinct;
  off = λ n h. not_stays (stays old touched n) (and_parts (has roots n) (not (stays old touched n)) (one_of n h)).1;
  done = λ n. ap (λ (xs : List Told). is_told xs n) (sym no_told);
  tells = subst (λ (xs : List Told). Tells world xs) (sym no_told) tt;
  askings = record {
    asked = sym (append-nil first) ∙ ap (λ (xs : List Told). first ++ nodes_of xs) (sym no_told);
    once = distinct_none (nodes_of told) (ap (λ (xs : List Told). nodes_of xs) no_told);
  };
}
  where
    one_of : (n : ℕ) → has found n ≡ true → (has roots n && not (stays old touched n)) ≡ true
    one_of n h = ⊎_elim
        (λ f. ⊎_elim
        (λ g. absurd (false≢true (ap (λ xs. has xs n) (sym e) ∙ g)))
        (λ g. (and_parts (has touched n) (has roots n && not (stays old touched n)) g).1)
        (or_cases (has nothing n) (has touched n && (has roots n && not (stays old touched n))) (sym (some.members n) ∙ f)))
        (λ f. (and_parts (has turned n) (has roots n && not (stays old touched n)) f).1)
        (or_cases (has half n) (has turned n && (has roots n && not (stays old touched n))) (sym (others.members n) ∙ h))

taken : (xs ys : List ℕ) (more : ℕ → Bool) (at node n : ℕ) → Adds xs ys more → at < length xs → node ≡ get_or xs at node
    → has (take (at + 1) ys) n ≡ (has (take at xs) n || nat_eq n node)
taken xs ys more at node n a lt e =
    ap (λ zs. has zs n) (a.front (at + 1) (omega arith) ∙ take_more xs at node lt ∙ ap (λ x. take at xs ++ x ∷ []) (sym e))
    ∙ has_push (take at xs) node n

-- a node that the walk comes to was not asked yet
pub not_asked : (world : ℕ → Fact) (old : Rows) (touched roots turned first : List ℕ) (at : ℕ) (found : List ℕ) (told : List Told) (asked : List ℕ) (node : ℕ)
    → GatherAt world old touched roots turned first at found told asked → at < length found → node ≡ get_or found at node → is_told told node ≡ false
not_asked world old touched roots turned first at found told asked node so_far lt e =
    sym (so_far.done node) ∙ distinct_front found at node so_far.search.distinct lt e

pub off_at : (world : ℕ → Fact) (old : Rows) (touched roots turned first : List ℕ) (at : ℕ) (found : List ℕ) (told : List Told) (asked : List ℕ) (node : ℕ)
    → GatherAt world old touched roots turned first at found told asked → at < length found → node ≡ get_or found at node → stays old touched node ≡ false
off_at world old touched roots turned first at found told asked node so_far lt e = so_far.off node (has_at found at node lt e)

-- a visit in a world that is as told
record VisitIn (world : ℕ → Fact) (old : Rows) (touched : List ℕ) (node : ℕ) (found : List ℕ) (told : List Told) (asked : List ℕ) (found' : List ℕ) (told' : List Told) (asked' : List ℕ) : Type 0 where
  pub t : Told
  pub node_is : t.node ≡ node
  pub fact_is : fact_of t ≡ world node
  pub told_is : told' ≡ told ++ t ∷ []
  pub asked_is : asked' ≡ asked ++ node ∷ []
  pub adds : Adds found found' (λ u. arc_of world node u && not (stays old touched u))

gather_more : (world : ℕ → Fact) (old : Rows) (touched roots turned first : List ℕ) (at node : ℕ) (found found' : List ℕ) (told told' : List Told) (asked asked' : List ℕ)
    → GatherAt world old touched roots turned first at found told asked → at < length found → node ≡ get_or found at node
    → VisitIn world old touched node found told asked found' told' asked' → GatherAt world old touched roots turned first (at + 1) found' told' asked'
gather_more world old touched roots turned first at node found found' told told' asked asked' so_far lt e v = record {
  start = so_far.start;
  start_roots = so_far.start_roots;
  start_all = so_far.start_all;
  search = search_more (needed world old touched) so_far.start at node found found' so_far.search lt e
      (adds_same found found' (λ u. arc_of world node u && not (stays old touched u)) (needed world old touched node) (λ u. needed_same world old touched node u) v.adds);
  off = λ n h. ⊎_elim (λ f. so_far.off n f)
      (λ f. not_stays (stays old touched n) (and_parts (arc_of world node n) (not (stays old touched n)) f).1)
      (or_cases (has found n) (arc_of world node n && not (stays old touched n)) (sym (v.adds.members n) ∙ h));
  done = λ n. taken found found' (λ u. arc_of world node u && not (stays old touched u)) at node n v.adds lt e
      ∙ ap (λ b. b || nat_eq n node) (so_far.done n) ∙ sym (told_has n);
  tells = subst (λ (xs : List Told). Tells world xs) (sym v.told_is)
      (tells_push world told v.t so_far.tells (ap world v.node_is ∙ sym v.fact_is));
  askings = record {
    asked = v.asked_is ∙ ap (λ xs. xs ++ node ∷ []) so_far.askings.asked ∙ append_assoc first (nodes_of told) (node ∷ [])
        ∙ ap (λ xs. first ++ xs) (sym nodes_is);
    once = subst (λ xs. IsDistinct nat_eq xs) (sym nodes_is)
        (IsDistinct-push nat_eq_equiv (nodes_of told) node so_far.askings.once
        (told_nodes told node ∙ not_asked world old touched roots turned first at found told asked node so_far lt e));
  };
}
  where
    told_has : (n : ℕ) → is_told told' n ≡ (is_told told n || nat_eq n node)
    told_has n = ap (λ (xs : List Told). is_told xs n) v.told_is ∙ told_push told v.t n ∙ ap (λ i. is_told told n || nat_eq n i) v.node_is

    nodes_is : nodes_of told' ≡ nodes_of told ++ node ∷ []
    nodes_is = ap (λ (xs : List Told). nodes_of xs) v.told_is ∙ nodes_push told v.t ∙ ap (λ i. nodes_of told ++ i ∷ []) v.node_is

tells_both : (world : ℕ → Fact) (told : List Told) (t : Told) → Tells world (told ++ t ∷ []) → Tells world told × (world t.node ≡ fact_of t)
tells_both world [] t a = (tt, a.0)
tells_both world (x ∷ xs) t a = let rest = tells_both world xs t a.1 in ((a.0, rest.0), rest.1)

pub are_told_more : (tells more : ℕ → Fact → Type 0) (told : List Told) → ((n : ℕ) (fact : Fact) → tells n fact → more n fact) → AreTold tells told → AreTold more told
are_told_more tells more [] f a = tt
are_told_more tells more (t ∷ ts) f a = (f t.node (fact_of t) a.0, are_told_more tells more ts f a.1)

are_told_push : (tells : ℕ → Fact → Type 0) (told : List Told) (t : Told) → AreTold tells told → tells t.node (fact_of t) → AreTold tells (told ++ t ∷ [])
are_told_push tells [] t a e = (e, tt)
are_told_push tells (x ∷ xs) t a e = (a.0, are_told_push tells xs t a.1 e)

-- a world with another fact of one node
with_fact : (ℕ → Fact) → ℕ → Fact → ℕ → Fact
with_fact world node fact n = cond (nat_eq node n) fact (world n)

with_same : (world : ℕ → Fact) (node : ℕ) (fact : Fact) → with_fact world node fact node ≡ fact
unfolding with_fact
with_same world node fact = ap (λ b. cond b fact (world node)) (eq-eqb node node refl)

with_other : (world : ℕ → Fact) (node n : ℕ) (fact : Fact) → nat_eq node n ≡ false → with_fact world node fact n ≡ world n
unfolding with_fact
with_other world node n fact off = ap (λ b. cond b fact (world n)) off

neither : (a b : Bool) → (a || b) ≡ false → (a ≡ false) × (b ≡ false)
neither true b h = absurd (false≢true (sym h))
neither false b h = (refl, h)

tells_elsewhere : (world : ℕ → Fact) (told : List Told) (node : ℕ) (fact : Fact) → is_told told node ≡ false → Tells world told → Tells (with_fact world node fact) told
tells_elsewhere world [] node fact off a = tt
tells_elsewhere world (t ∷ ts) node fact off a =
    let two = neither (nat_eq node t.node) (is_told ts node) off in
    (with_other world node t.node fact two.0 ∙ a.0, tells_elsewhere world ts node fact two.1 a.1)

-- the walk so far, in each world that is as told
pub record WalkAt (tells : ℕ → Fact → Type 0) (old : Rows) (touched roots turned first : List ℕ) (at : ℕ) (found : List ℕ) (told : List Told) (asked : List ℕ) : Type 0 where
  pub are_told : AreTold tells told
  pub some : (world : ℕ → Fact) × Tells world told
  pub each : (world : ℕ → Fact) → Tells world told → GatherAt world old touched roots turned first at found told asked

pub walk_none : (tells : ℕ → Fact → Type 0) (old : Rows) (touched roots turned first nothing half found : List ℕ) (told : List Told)
    → nothing ≡ [] → Adds nothing half (λ u. has touched u && (has roots u && not (stays old touched u)))
    → Adds half found (λ u. has turned u && (has roots u && not (stays old touched u))) → told ≡ []
    → WalkAt tells old touched roots turned first 0 found told first
walk_none tells old touched roots turned first nothing half found told e some others no_told = record {
  are_told = subst (λ (xs : List Told). AreTold tells xs) (sym no_told) tt;
  some = ((λ n. record { level = 0; shape = Own; own = [] }), subst (λ (xs : List Told). Tells (λ n. record { level = 0; shape = Own; own = [] }) xs) (sym no_told) tt);
  each = λ world t. gather_none world old touched roots turned first nothing half found told e some others no_told;
}

visit_in : (world : ℕ → Fact) (tells : ℕ → Fact → Type 0) (old : Rows) (touched : List ℕ) (node : ℕ) (found : List ℕ) (told : List Told) (asked : List ℕ) (found' : List ℕ) (told' : List Told) (asked' : List ℕ)
    → (v : IsVisit tells old touched node found told asked found' told' asked') → world v.t.node ≡ fact_of v.t → VisitIn world old touched node found told asked found' told' asked'
visit_in world tells old touched node found told asked found' told' asked' v is =
    let here : fact_of v.t ≡ world node = sym is ∙ ap world v.node_is in
    record {
      t = v.t;
      node_is = v.node_is;
      fact_is = here;
      told_is = v.told_is;
      asked_is = v.asked_is;
      adds = adds_same found found' (λ u. has (arcs_of (shape_of v.t.rule)) u && not (stays old touched u)) (λ u. arc_of world node u && not (stays old touched u))
          (λ u. ap (λ (f : Fact). has (arcs_of f.shape) u && not (stays old touched u)) here) v.adds;
    }

pub walk_more : (tells more : ℕ → Fact → Type 0) (old : Rows) (touched roots turned first : List ℕ) (at node : ℕ) (found found' : List ℕ) (told told' : List Told) (asked asked' : List ℕ)
    → ((n : ℕ) (fact : Fact) → tells n fact → more n fact)
    → WalkAt tells old touched roots turned first at found told asked → at < length found → node ≡ get_or found at node
    → IsVisit more old touched node found told asked found' told' asked' → WalkAt more old touched roots turned first (at + 1) found' told' asked'
walk_more tells more old touched roots turned first at node found found' told told' asked asked' grows so_far lt e v = record {
  are_told = subst (λ (xs : List Told). AreTold more xs) (sym v.told_is)
      (are_told_push more told v.t (are_told_more tells more told grows so_far.are_told) (subst (λ n. more n (fact_of v.t)) (sym v.node_is) v.fact_is));
  some = (
    next,
    subst (λ (xs : List Told). Tells next xs) (sym v.told_is)
        (tells_push next told v.t (tells_elsewhere so_far.some.0 told v.t.node (fact_of v.t) new so_far.some.1) (with_same so_far.some.0 v.t.node (fact_of v.t))),
  );
  each = λ world t.
      let two = tells_both world told v.t (subst (λ (xs : List Told). Tells world xs) v.told_is t) in
      gather_more world old touched roots turned first at node found found' told told' asked asked' (so_far.each world two.0) lt e
      (visit_in world more old touched node found told asked found' told' asked' v two.1);
}
  where
    next : ℕ → Fact
    next = with_fact so_far.some.0 v.t.node (fact_of v.t)

    new : is_told told v.t.node ≡ false
    new = ap (λ n. is_told told n) v.node_is
        ∙ not_asked so_far.some.0 old touched roots turned first at found told asked node (so_far.each so_far.some.0 so_far.some.1) lt e

walk_as : (p q : ℕ → ℕ → Bool) (a b : ℕ) → ((n m : ℕ) → p n m ≡ true → q n m ≡ true) → Walk p a b → Walk q a b
walk_as p q a b f here = here
walk_as p q a b f (on {b = m} w h) = on (walk_as p q a m f w) (f m b h)

-- what was found is reached from the roots
found_reached : (world : ℕ → Fact) (old : Rows) (touched roots turned first : List ℕ) (at : ℕ) (found : List ℕ) (told : List Told) (asked : List ℕ)
    → GatherAt world old touched roots turned first at found told asked → (n : ℕ) → has found n ≡ true → IsReached (arc_of world) roots n
found_reached world old touched roots turned first at found told asked so_far n h =
    let r = so_far.search.sound n h in
    record {
      start = r.start;
      among = so_far.start_roots r.start r.among;
      walk = walk_as (needed world old touched) (arc_of world) r.start n (needed_to world old touched) r.walk;
    }

pub walked : (world : ℕ → Fact) (old : Rows) (touched roots turned first : List ℕ) (at : ℕ) (found : List ℕ) (told : List Told) (asked : List ℕ)
    → GatherAt world old touched roots turned first at found told asked → length found ≤ at → IsWalked world old touched roots turned told
walked world old touched roots turned first at found told asked so_far le = record {
  tells = so_far.tells;
  needed = λ n h. so_far.off n (all n ∙ h);
  from_roots = λ n h t s. sym (all n) ∙ so_far.search.starts_in n (so_far.start_all n h t s);
  told_arcs = λ n m h a s. sym (all m) ∙ search_end (needed world old touched) so_far.start at found so_far.search le n m (all n ∙ h) (needed_from world old touched n m a s);
  reached = λ n h. found_reached world old touched roots turned first at found told asked so_far n (all n ∙ h);
}
  where
    all : (n : ℕ) → has found n ≡ is_told told n
    all n = ap (λ xs. has xs n) (sym (take_all at found le)) ∙ so_far.done n

pub walked_told : (tells : ℕ → Fact → Type 0) (old : Rows) (touched roots turned first : List ℕ) (at : ℕ) (found : List ℕ) (told : List Told) (asked : List ℕ)
    → WalkAt tells old touched roots turned first at found told asked → length found ≤ at → IsWalkedTold tells old touched roots turned told
walked_told tells old touched roots turned first at found told asked so_far le = record {
  are_told = so_far.are_told;
  some = so_far.some;
  each = λ world t. walked world old touched roots turned first at found told asked (so_far.each world t) le;
}

pub asked_once : (tells : ℕ → Fact → Type 0) (old : Rows) (touched roots turned first : List ℕ) (at : ℕ) (found : List ℕ) (told : List Told) (asked : List ℕ)
    → WalkAt tells old touched roots turned first at found told asked → IsAskedOnce told first asked
asked_once tells old touched roots turned first at found told asked so_far = (so_far.each so_far.some.0 so_far.some.1).askings

-- no walk from a node that stays leads to a changed one
pub untouched : (world : ℕ → Fact) (old : Rows) (roots turned changed : List ℕ) (told : List Told) (dropped : List ℕ)
    → IsGathered world old roots turned changed told dropped → (n : ℕ) → stays old dropped n ≡ true → IsTouched (arc_in old) changed n → ⊥
untouched world old roots turned changed told dropped got n s t =
    false≢true (sym (got.untouched t.end (along t.end t.walk)).1 ∙ t.among)
  where
    along : (e : ℕ) → Walk (arc_in old) n e → stays old dropped e ≡ true
    along e here = s
    along e (on {b = b} w h) = got.stay_arcs b e (along b w) h

pub touched_if : (world : ℕ → Fact) (old : Rows) (touched changed : List ℕ) → ((n : ℕ) → has touched n ≡ true → IsTouched (arc_in old) changed n)
    → (n : ℕ) → stays old touched n ≡ false → kept old n ≡ true → IsTouched (arc_in old) changed n
touched_if world old touched changed sound n s k = sound n (⊎_elim (λ t. t)
    (λ f. absurd (false≢true (sym s ∙ and_from (kept old n) (not (has touched n)) k (not_from_false (has touched n) f))))
    (cases_Bool (has touched n)))

pub some_none : (world : ℕ → Fact) (roots : List ℕ) (s : ℕ → Bool) (asked : List ℕ) → IsAskedSomeOf world roots s asked asked
some_none world roots s asked = record {
  nodes = [];
  asked = sym (append-nil asked);
  once = distinct_none [] refl;
  needed = λ n h. absurd (false≢true h);
  reached = λ n h. absurd (false≢true h);
}

pub some_at : (world : ℕ → Fact) (old : Rows) (touched roots turned first : List ℕ) (at : ℕ) (found : List ℕ) (told : List Told) (asked later : List ℕ) (node : ℕ)
    → GatherAt world old touched roots turned first at found told asked → at < length found → node ≡ get_or found at node
    → (later ≡ asked) ⊎ (later ≡ asked ++ node ∷ []) → IsAskedSomeOf world roots (stays old touched) first later
some_at world old touched roots turned first at found told asked later node so_far lt e which = ⊎_elim
    (λ same. record {
      nodes = nodes_of told;
      asked = same ∙ so_far.askings.asked;
      once = so_far.askings.once;
      needed = λ n h. so_far.off n (there n h);
      reached = λ n h. found_reached world old touched roots turned first at found told asked so_far n (there n h);
    })
    (λ more. record {
      nodes = nodes_of told ++ node ∷ [];
      asked = more ∙ ap (λ xs. xs ++ node ∷ []) so_far.askings.asked ∙ append_assoc first (nodes_of told) (node ∷ []);
      once = IsDistinct-push nat_eq_equiv (nodes_of told) node so_far.askings.once
          (told_nodes told node ∙ not_asked world old touched roots turned first at found told asked node so_far lt e);
      needed = λ n h. so_far.off n (there_too n h);
      reached = λ n h. found_reached world old touched roots turned first at found told asked so_far n (there_too n h);
    })
    which
  where
    there : (n : ℕ) → has (nodes_of told) n ≡ true → has found n ≡ true
    there n h = has_take found at n (so_far.done n ∙ sym (told_nodes told n) ∙ h)

    there_too : (n : ℕ) → has (nodes_of told ++ node ∷ []) n ≡ true → has found n ≡ true
    there_too n h = ⊎_elim (λ f. there n f)
        (λ q. subst (λ i. has found i ≡ true) (sym (eqb-true n node q)) (has_at found at node lt e))
        (or_cases (has (nodes_of told) n) (nat_eq n node) (sym (has_push (nodes_of told) node n) ∙ h))

pub some_walked : (tells more : ℕ → Fact → Type 0) (old : Rows) (touched roots turned first : List ℕ) (at : ℕ) (found : List ℕ) (told : List Told) (asked later : List ℕ) (node : ℕ)
    → ((n : ℕ) (fact : Fact) → tells n fact → more n fact)
    → WalkAt tells old touched roots turned first at found told asked → at < length found → node ≡ get_or found at node
    → (later ≡ asked) ⊎ (later ≡ asked ++ node ∷ []) → InEachTold more (λ world. IsAskedSomeOf world roots (stays old touched) first later)
some_walked tells more old touched roots turned first at found told asked later node grows so_far lt e which = record {
  told = told;
  are_told = are_told_more tells more told grows so_far.are_told;
  some = so_far.some;
  each = λ world t. some_at world old touched roots turned first at found told asked later node (so_far.each world t) lt e which;
}

-- nobody was told of
pub none_told : (tells : ℕ → Fact → Type 0) (P : (ℕ → Fact) → Type 0) → ((world : ℕ → Fact) → P world) → InEachTold tells P
none_told tells P f = record {
  told = [];
  are_told = tt;
  some = ((λ n. record { level = 0; shape = Own; own = [] }), tt);
  each = λ world t. f world;
}

some_touched : (world : ℕ → Fact) (old : Rows) (touched roots changed first later : List ℕ) → ((n : ℕ) → has touched n ≡ true → IsTouched (arc_in old) changed n)
    → IsAskedSomeOf world roots (stays old touched) first later → IsAskedSome world old roots changed first later
some_touched world old touched roots changed first later sound s = record {
  nodes = s.nodes;
  asked = s.asked;
  once = s.once;
  few = λ n h k. touched_if world old touched changed sound n (s.needed n h) k;
  reached = s.reached;
}

-- all who were asked
some_told : (world : ℕ → Fact) (old : Rows) (touched roots turned changed first later : List ℕ) (told : List Told)
    → ((n : ℕ) → has touched n ≡ true → IsTouched (arc_in old) changed n)
    → IsWalked world old touched roots turned told → IsAskedOnce told first later → IsAskedSome world old roots changed first later
some_told world old touched roots turned changed first later told sound w asked = record {
  nodes = nodes_of told;
  asked = asked.asked;
  once = asked.once;
  few = λ n h k. touched_if world old touched changed sound n (w.needed n (sym (told_nodes told n) ∙ h)) k;
  reached = λ n h. w.reached n (sym (told_nodes told n) ∙ h);
}

pub each_touched : (tells : ℕ → Fact → Type 0) (old : Rows) (touched roots changed first later : List ℕ) → ((n : ℕ) → has touched n ≡ true → IsTouched (arc_in old) changed n)
    → InEachTold tells (λ world. IsAskedSomeOf world roots (stays old touched) first later) → InEachTold tells (λ world. IsAskedSome world old roots changed first later)
each_touched tells old touched roots changed first later sound s = record {
  told = s.told;
  are_told = s.are_told;
  some = s.some;
  each = λ world t. some_touched world old touched roots changed first later sound (s.each world t);
}

pub each_told : (tells : ℕ → Fact → Type 0) (old : Rows) (touched roots turned changed first later : List ℕ) (told : List Told)
    → ((n : ℕ) → has touched n ≡ true → IsTouched (arc_in old) changed n)
    → IsWalkedTold tells old touched roots turned told → IsAskedOnce told first later → InEachTold tells (λ world. IsAskedSome world old roots changed first later)
each_told tells old touched roots turned changed first later told sound w asked = record {
  told = told;
  are_told = w.are_told;
  some = w.some;
  each = λ world t. some_told world old touched roots turned changed first later told sound (w.each world t) asked;
}

pub none_asked : (world : ℕ → Fact) (old : Rows) (roots changed asked : List ℕ) → IsAskedSome world old roots changed asked asked
none_asked world old roots changed asked = record {
  nodes = [];
  asked = sym (append-nil asked);
  once = distinct_none [] refl;
  few = λ n h. absurd (false≢true h);
  reached = λ n h. absurd (false≢true h);
}
