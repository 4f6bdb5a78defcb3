-- What is kept after a change.
use Rattle.std.proofs.Common.{ℕ, ◌≡◌, ◌<◌, ◌+◌, Bool, true, false, not, ◌&&◌, ◌||◌, cond, take, length, nat_eq, List, get_or, refl, sym, ◌∙◌, ap, ⊎_elim, inl, inr}
use Rattle.std.specs.Prelude.{Option, Some, None, is_some}
use Rattle.std.specs.Ordering.{nat_cmp, is_eq}
use Rattle.std.specs.BTreeMap.{BTreeMap, get}
use Rattle.std.proofs.lemmas.List.Folds.{list_any_more}
use Rattle.std.proofs.lemmas.Bool.{or_cases, cases_Bool, or_left, or_right, and_parts, false≢true, eqb-true}
use Rattle.least_sets.specs.World.{Fact, has, arcs_of}
use Rattle.least_sets.specs.Least.{IsLeastIn, Derived, outside, follows}
use Rattle.least_sets.specs.Walks.{Walk, here, on, arc_of, IsTouched, IsReached}
use Rattle.least_sets.proofs.Gives.{gives_agree, plain_named, taken_named}
use Rattle.least_sets.proofs.Laws.{refresh}
use Rattle.region.specs.declared.sets.Row.{Row}
use Rattle.region.specs.declared.rule.Told.{Told}
use Rattle.region.specs.Rules.{fact_of, shape_of}
use Rattle.region.specs.Steps.{is_told, Tells}
use Rattle.region.specs.Tables.{Rows, Lists, row_of, arcs_or_none, members_or_none, kept, arc_in, holds, listed, IsClosed, IsBacked}
use Rattle.region.specs.Sets.{IsHeld}
use Rattle.region.specs.Gathered.{stays, in_region, IsGathered, IsTurned, IsSameElsewhere}
use Rattle.region.specs.Filled.{AreReady, names_in, row_or}
use Rattle.region.proofs.Listing.{eq_is, turn_eq}
use Rattle.region.proofs.Rooms.{tells_at, slice_at}

told_more : (told : List Told) (i : ℕ) (t : Told) (a : ℕ) → t ≡ get_or told i t → i < length told
    → is_told (take (i + 1) told) a ≡ (is_told (take i told) a || nat_eq a t.node)
told_more told i t a e lt = list_any_more (λ (x : Told). nat_eq a x.node) told i t lt
    ∙ ap (λ (x : Told). is_told (take i told) a || nat_eq a x.node) (sym e)

some_cond : (b : Bool) (row : Row) (o : Option Row) → is_some (cond b (Some row) o) ≡ (is_some o || b)
some_cond true row None = refl
some_cond true row (Some r) = refl
some_cond false row None = refl
some_cond false row (Some r) = refl

some_none : (b : Bool) (row : Row) (o : Option Row) → is_some (cond b (Some row) o) ≡ false → (b ≡ false) × (is_some o ≡ false)
some_none true row o h = absurd (false≢true (sym h))
some_none false row o h = (refl, h)

or_false : (a b : Bool) → b ≡ false → (a || b) ≡ a
or_false true b h = refl
or_false false b h = h

ready_nodes : (told : List Told) (i : ℕ) (t : Told) (before after : BTreeMap ℕ Row) (row : Row) → t ≡ get_or told i t → i < length told
    → ((q : ℕ) → get nat_cmp after q ≡ cond (nat_eq q t.node) (Some row) (get nat_cmp before q))
    → ((n : ℕ) → is_some (get nat_cmp before n) ≡ is_told (take i told) n) → (n : ℕ) → is_some (get nat_cmp after n) ≡ is_told (take (i + 1) told) n
ready_nodes told i t before after row e lt up nodes n =
    ap is_some (up n)
    ∙ some_cond (nat_eq n t.node) row (get nat_cmp before n) ∙ ap (λ b. b || nat_eq n t.node) (nodes n) ∙ sym (told_more told i t n e lt)

row_eq : {x y : Row} → Some x ≡ Some y → x ≡ y
row_eq e = cc

ready_rows : (told : List Told) (i : ℕ) (t : Told) (before after : BTreeMap ℕ Row) (row : Row) (sets : ℕ → ℕ → Bool) → t ≡ get_or told i t → i < length told
    → ((q : ℕ) → get nat_cmp after q ≡ cond (nat_eq q t.node) (Some row) (get nat_cmp before q))
    → ((m : ℕ) → has row.arcs m ≡ has (arcs_of (shape_of t.rule)) m) → ((user : ℕ) → has row.members user ≡ sets user t.node)
    → (world : ℕ → Fact) → Tells world told → AreReady world sets before → AreReady world sets after
ready_rows told i t before after row sets e lt up arcs members world tells so_far n r at = ⊎_elim
    (λ q.
    let node : t.node ≡ n = sym (eqb-true n t.node q) in
    let one : row ≡ r = row_eq (sym (up n ∙ ap (λ b. cond b (Some row) (get nat_cmp before n)) q) ∙ at) in (
      λ m. ap (λ (x : Row). has x.arcs m) (sym one) ∙ arcs m ∙ ap (λ (f : Fact). has (arcs_of f.shape) m) (sym fact) ∙ ap (λ k. arc_of world k m) node,
      λ user. ap (λ (x : Row). has x.members user) (sym one) ∙ members user ∙ ap (λ k. sets user k) node,
    ))
    (λ q. so_far n r (sym (up n ∙ ap (λ b. cond b (Some row) (get nat_cmp before n)) q) ∙ at))
    (cases_Bool (nat_eq n t.node))
  where
    fact : world t.node ≡ fact_of t
    fact = tells_at world told tells i t (slice_at told i t lt e)

-- rows are ready of so many of those told of, and the members of the others are where they were
pub record IsReadyTo (told : List Told) (i : ℕ) (sets now : ℕ → ℕ → Bool) (ready : BTreeMap ℕ Row) : Type 0 where
  pub nodes : (n : ℕ) → is_some (get nat_cmp ready n) ≡ is_told (take i told) n
  pub rows : (world : ℕ → Fact) → Tells world told → AreReady world sets ready
  pub left : (user n : ℕ) → is_some (get nat_cmp ready n) ≡ false → now user n ≡ sets user n

pub ready_put : (told : List Told) (i : ℕ) (t : Told) (before after : BTreeMap ℕ Row) (row : Row) (sets now next : ℕ → ℕ → Bool) → t ≡ get_or told i t → i < length told
    → ((q : ℕ) → get nat_cmp after q ≡ cond (nat_eq q t.node) (Some row) (get nat_cmp before q))
    → ((m : ℕ) → has row.arcs m ≡ has (arcs_of (shape_of t.rule)) m) → ((user : ℕ) → has row.members user ≡ now user t.node)
    → ((user n : ℕ) → nat_eq t.node n ≡ false → next user n ≡ now user n)
    → is_some (get nat_cmp before t.node) ≡ false → IsReadyTo told i sets now before → IsReadyTo told (i + 1) sets next after
ready_put told i t before after row sets now next e lt up arcs members others off was = record {
  nodes = ready_nodes told i t before after row e lt up was.nodes;
  rows = λ world tells. ready_rows told i t before after row sets e lt up arcs (λ user. members user ∙ was.left user t.node off) world tells (was.rows world tells);
  left = λ user n none.
      let parts = some_none (nat_eq n t.node) row (get nat_cmp before n) (sym (ap is_some (up n)) ∙ none) in
      others user n (turn_eq t.node n ∙ parts.0) ∙ was.left user n parts.1;
}

pub ready_skip : (told : List Told) (i : ℕ) (t : Told) (ready : BTreeMap ℕ Row) (sets now : ℕ → ℕ → Bool) → t ≡ get_or told i t → i < length told
    → is_some (get nat_cmp ready t.node) ≡ true → IsReadyTo told i sets now ready → IsReadyTo told (i + 1) sets now ready
ready_skip told i t ready sets now e lt there was = record {
  nodes = λ n. ⊎_elim
      (λ q. ap (λ k. is_some (get nat_cmp ready k)) (eqb-true n t.node q) ∙ there ∙ sym (or_right (is_told (take i told) n) (nat_eq n t.node) q) ∙ sym (told_more told i t n e lt))
      (λ q. was.nodes n ∙ sym (or_false (is_told (take i told) n) (nat_eq n t.node) q) ∙ sym (told_more told i t n e lt))
      (cases_Bool (nat_eq n t.node));
  rows = was.rows;
  left = was.left;
}

pub put_one : (before after : BTreeMap ℕ Row) (rows next : Rows) (node : ℕ) (row : Row)
    → get nat_cmp before node ≡ Some row
    → ((q : ℕ) → get nat_cmp after q ≡ cond (is_eq (nat_cmp node q)) None (get nat_cmp before q))
    → ((n : ℕ) → row_of next n ≡ cond (nat_eq n node) (Some row) (row_of rows n))
    → (n : ℕ) → row_or (get nat_cmp after n) (row_of next n) ≡ row_or (get nat_cmp before n) (row_of rows n)
put_one before after rows next node row at up put n = ⊎_elim
    (λ q.
    let same : n ≡ node = eqb-true n node q in
    ap (λ o. row_or o (row_of next n)) (gone q) ∙ put n ∙ ap (λ b. cond b (Some row) (row_of rows n)) q
    ∙ sym (ap (λ o. row_or o (row_of rows n)) (ap (λ k. get nat_cmp before k) same ∙ at)))
    (λ q. ap (λ o. row_or o (row_of next n)) (left q) ∙ ap (λ o. row_or (get nat_cmp before n) o) (put n ∙ ap (λ b. cond b (Some row) (row_of rows n)) q))
    (cases_Bool (nat_eq n node))
  where
    gone : nat_eq n node ≡ true → get nat_cmp after n ≡ None
    gone q = up n ∙ ap (λ b. cond b None (get nat_cmp before n)) (eq_is node n ∙ turn_eq node n ∙ q)

    left : nat_eq n node ≡ false → get nat_cmp after n ≡ get nat_cmp before n
    left q = up n ∙ ap (λ b. cond b None (get nat_cmp before n)) (eq_is node n ∙ turn_eq node n ∙ q)

some_left : (b : Bool) (o : Option Row) → is_some (cond b None o) ≡ true → is_some o ≡ true
some_left true o h = absurd (false≢true h)
some_left false o h = h

pub keys_one : (before after : BTreeMap ℕ Row) (rows next : Rows) (node : ℕ)
    → ((q : ℕ) → get nat_cmp after q ≡ cond (is_eq (nat_cmp node q)) None (get nat_cmp before q))
    → ((n : ℕ) → is_some (get nat_cmp next n) ≡ is_some (get nat_cmp rows n))
    → ((n : ℕ) → is_some (get nat_cmp before n) ≡ true → is_some (get nat_cmp rows n) ≡ true)
    → (n : ℕ) → is_some (get nat_cmp after n) ≡ true → is_some (get nat_cmp next n) ≡ true
keys_one before after rows next node up same keys n h =
    same n ∙ keys n (some_left (is_eq (nat_cmp node n)) (get nat_cmp before n) (ap is_some (sym (up n)) ∙ h))

-- the rows of the nodes told of, and of those that stay
pub record IsFilled (old new : Rows) (ready : BTreeMap ℕ Row) (told : List Told) (touched : List ℕ) : Type 0 where
  pub nodes : (n : ℕ) → is_some (get nat_cmp ready n) ≡ is_told told n
  pub rows : (n : ℕ) → row_of new n ≡ row_or (get nat_cmp ready n) (cond (has touched n) None (row_of old n))

kept_bool : (r o : Option Row) (t : Bool) → is_some (row_or r (cond t None o)) ≡ ((is_some o && not t) || is_some r)
kept_bool None None true = refl
kept_bool None None false = refl
kept_bool None (Some x) true = refl
kept_bool None (Some x) false = refl
kept_bool (Some y) None true = refl
kept_bool (Some y) None false = refl
kept_bool (Some y) (Some x) true = refl
kept_bool (Some y) (Some x) false = refl

pub kept_is : (old new : Rows) (ready : BTreeMap ℕ Row) (told : List Told) (touched : List ℕ) → IsFilled old new ready told touched
    → (n : ℕ) → kept new n ≡ in_region old touched told n
kept_is old new ready told touched f n = ap is_some (f.rows n) ∙ kept_bool (get nat_cmp ready n) (row_of old n) (has touched n)
    ∙ ap (λ b. stays old touched n || b) (f.nodes n)

pub none_if : (o : Option Row) → is_some o ≡ false → o ≡ None
none_if None h = refl
none_if (Some x) h = absurd (false≢true (sym h))

some_if : (o : Option Row) → is_some o ≡ true → (x : Row) × (o ≡ Some x)
some_if None h = absurd (false≢true h)
some_if (Some x) h = (x, refl)

not_true : (b : Bool) → not b ≡ true → b ≡ false
not_true true h = sym h
not_true false h = refl

-- what stays has its row
pub stay_row : (old new : Rows) (ready : BTreeMap ℕ Row) (told : List Told) (touched : List ℕ) → IsFilled old new ready told touched
    → (n : ℕ) → stays old touched n ≡ true → is_told told n ≡ false → row_of new n ≡ row_of old n
stay_row old new ready told touched f n s off = f.rows n
    ∙ ap (λ o. row_or o (cond (has touched n) None (row_of old n))) (none_if (get nat_cmp ready n) (f.nodes n ∙ off))
    ∙ ap (λ b. cond b None (row_of old n)) (not_true (has touched n) (and_parts (kept old n) (not (has touched n)) s).1)

-- what is told of has the row that is ready
pub told_row : (old new : Rows) (ready : BTreeMap ℕ Row) (told : List Told) (touched : List ℕ) → IsFilled old new ready told touched
    → (n : ℕ) → is_told told n ≡ true → (row : Row) × (get nat_cmp ready n ≡ Some row) × (row_of new n ≡ Some row)
told_row old new ready told touched f n h =
    let s = some_if (get nat_cmp ready n) (f.nodes n ∙ h) in
    (s.0, s.1, f.rows n ∙ ap (λ o. row_or o (cond (has touched n) None (row_of old n))) s.1)

-- a derivation stays one where the sets agree on what it can come to
derived_on : (world : ℕ → Fact) (part inside : ℕ → Bool) (user : ℕ) (a b : ℕ → Bool)
    → ((n m : ℕ) → part n ≡ true → has (arcs_of (world n).shape) m ≡ true → inside m ≡ true)
    → ((n : ℕ) → inside n ≡ true → a n ≡ b n)
    → (n : ℕ) → inside n ≡ true → Derived world part user a n → Derived world part user b n
derived_on world part inside user a b closed agree n i (outside o h) = outside o (sym (agree n i) ∙ h)
derived_on world part inside user a b closed agree n i (follows pn from named below g) = follows pn from named
    (λ m h. derived_on world part inside user a b closed agree m (closed n m pn (plain_named (world n).shape m (named m h))) (below m h))
    (gives_agree (has (world n).own user) from from b a (world n).shape (λ m h. refl)
    (λ m h. sym (agree m (closed n m pn (taken_named (world n).shape m h)))) ∙ g)

least_on : (world : ℕ → Fact) (part inside : ℕ → Bool) (user : ℕ) (a b : ℕ → Bool)
    → ((n m : ℕ) → part n ≡ true → has (arcs_of (world n).shape) m ≡ true → inside m ≡ true)
    → ((n : ℕ) → part n ≡ true → inside n ≡ true)
    → ((n : ℕ) → inside n ≡ true → a n ≡ b n)
    → IsLeastIn world part user a → IsLeastIn world part user b
least_on world part inside user a b closed within agree l = record {
  closed = λ n pn g. sym (agree n (within n pn)) ∙ l.closed n pn (gives_agree (has (world n).own user) a b a b (world n).shape
      (λ m h. agree m (closed n m pn (plain_named (world n).shape m h)))
      (λ m h. agree m (closed n m pn (taken_named (world n).shape m h))) ∙ g);
  derived = λ n pn s. derived_on world part inside user a b closed agree n (within n pn) (l.derived n pn (agree n (within n pn) ∙ s));
}

derived_part : (world : ℕ → Fact) (p q : ℕ → Bool) (user : ℕ) (set : ℕ → Bool) → ((n : ℕ) → p n ≡ q n) → (n : ℕ) → Derived world p user set n → Derived world q user set n
derived_part world p q user set e n (outside o h) = outside (sym (e n) ∙ o) h
derived_part world p q user set e n (follows pn from named below g) = follows (sym (e n) ∙ pn) from named (λ m h. derived_part world p q user set e m (below m h)) g

-- a set is the least one of equal parts
least_part : (world : ℕ → Fact) (p q : ℕ → Bool) (user : ℕ) (set : ℕ → Bool) → ((n : ℕ) → p n ≡ q n) → IsLeastIn world p user set → IsLeastIn world q user set
least_part world p q user set e l = record {
  closed = λ n h g. l.closed n (e n ∙ h) g;
  derived = λ n h s. derived_part world p q user set e n (l.derived n (e n ∙ h) s);
}

pub walk_kept : (p : ℕ → ℕ → Bool) (found : ℕ → Bool) (a b : ℕ)
    → ((n m : ℕ) → found n ≡ true → p n m ≡ true → found m ≡ true) → found a ≡ true → Walk p a b → found b ≡ true
walk_kept p found a b closed start here = start
walk_kept p found a b closed start (on {b = m} w h) = closed m b (walk_kept p found a m closed start w) h

-- what is reached in the world is reached along the arcs that are kept
walk_in : (world : ℕ → Fact) (roots : List ℕ) (old : Rows) → IsHeld world roots old → (a b : ℕ) → kept old a ≡ true → Walk (arc_of world) a b → (kept old b ≡ true) × Walk (arc_in old) a b
walk_in world roots old was a b k here = (k, here)
walk_in world roots old was a b k (on {b = m} w h) =
    let p = walk_in world roots old was a m k w in
    let arc : arc_in old m b ≡ true = was.arcs m b p.0 ∙ h in
    (was.closed m b p.0 arc, on p.1 arc)

reached_in : (world : ℕ → Fact) (roots : List ℕ) (old : Rows) → IsHeld world roots old → (n : ℕ) → kept old n ≡ true → IsReached (arc_in old) roots n
reached_in world roots old was n k =
    let r = was.reached n k in
    record { start = r.start; among = r.among; walk = (walk_in world roots old was r.start n (was.from_roots r.start r.among) r.walk).1 }

module _ (world : ℕ → Fact) (roots turned changed : List ℕ) (old new : Rows) (ready : BTreeMap ℕ Row) (told : List Told) (touched : List ℕ) (sets : ℕ → ℕ → Bool)
    (got : IsGathered world old roots turned changed told touched) (filled : IsFilled old new ready told touched) (rows : AreReady world sets ready) where
  told_arc : (n m : ℕ) → is_told told n ≡ true → arc_in new n m ≡ arc_of world n m
  told_arc n m h =
      let r = told_row old new ready told touched filled n h in
      ap (λ (o : Option Row). has (arcs_or_none o) m) r.2 ∙ (rows n r.0 r.1).0 m

  stay_arc : (n m : ℕ) → stays old touched n ≡ true → arc_in new n m ≡ arc_in old n m
  stay_arc n m h = ap (λ (o : Option Row). has (arcs_or_none o) m) (stay_row old new ready told touched filled n h (got.apart n h))

  pub closed_after : IsClosed new
  closed_after n m h a = kept_is old new ready told touched filled m ∙ ⊎_elim
      (λ s. or_left (stays old touched m) (is_told told m) (got.stay_arcs n m s (sym (stay_arc n m s) ∙ a)))
      (λ t. got.told_arcs n m t (sym (told_arc n m t) ∙ a))
      (or_cases (stays old touched n) (is_told told n) (sym (kept_is old new ready told touched filled n) ∙ h))

  none_kept : (n m : ℕ) → arc_in new n m ≡ true → kept new n ≡ true
  none_kept n m a = ⊎_elim (λ k. k)
      (λ k. absurd (false≢true (sym (ap (λ (o : Option Row). has (arcs_or_none o) m) (none_if (row_of new n) k)) ∙ a)))
      (cases_Bool (kept new n))

  pub backed_after : (first back : Lists) → IsBacked old first
      → ((a b : ℕ) → listed first a b ≡ true → listed back a b ≡ true)
      → ((n m : ℕ) → is_told told n ≡ true → names_in ready n m ≡ true → listed back m n ≡ true)
      → IsBacked new back
  backed_after first back was grows there n m a = ⊎_elim
      (λ s. grows m n (was n m (sym (stay_arc n m s) ∙ a)))
      (λ t. let r = told_row old new ready told touched filled n t in
      there n m t (ap (λ (o : Option Row). has (arcs_or_none o) m) (r.1 ∙ sym r.2) ∙ a))
      (or_cases (stays old touched n) (is_told told n) (sym (kept_is old new ready told touched filled n) ∙ none_kept n m a))

  pub held_after : (before : ℕ → Fact) (first : List ℕ) → IsHeld before first old → IsTurned first roots turned → IsSameElsewhere before world old changed
      → ((user : ℕ) → IsLeastIn world (is_told told) user (sets user))
      → ((user n : ℕ) → is_told told n ≡ false → sets user n ≡ holds old user n)
      → IsHeld world roots new
  held_after before first was turns same least others = record {
    from_roots = λ n h. kept_is old new ready told touched filled n ∙ got.from_roots n h (⊎_elim
        (λ t. inr t)
        (λ t. inl (was.from_roots n (sym (turns n t) ∙ h)))
        (cases_Bool (has turned n)));
    reached = λ n h. ⊎_elim
        (λ s. got.stay_reached first
        (λ m k. reached_in before first old was m k) turns
        (λ a b st arc. ap (λ (f : Fact). has (arcs_of f.shape) b) (unchanged a st) ∙ sym (was.arcs a b (got.untouched a st).0) ∙ arc) n s)
        (λ t. got.reached n t)
        (or_cases (stays old touched n) (is_told told n) (sym (kept_is old new ready told touched filled n) ∙ h));
    arcs = λ n m h. ⊎_elim
        (λ s. stay_arc n m s ∙ was.arcs n m (got.untouched n s).0 ∙ ap (λ (f : Fact). has (arcs_of f.shape) m) (sym (unchanged n s)))
        (λ t. told_arc n m t)
        (or_cases (stays old touched n) (is_told told n) (sym (kept_is old new ready told touched filled n) ∙ h));
    closed = closed_after;
    least = λ user. least_part world (in_region old touched told) (kept new) user (holds new user) (λ n. sym (kept_is old new ready told touched filled n))
        (refresh before world (kept old) (stays old touched) (is_told told) user (holds old user) (holds new user)
        (was.least user)
        (record {
          within = λ n h. (got.untouched n h).0;
          inside = λ n m h a. got.stay_arcs n m h (was.arcs n m (got.untouched n h).0 ∙ a);
          same = unchanged;
        })
        (λ n h. stay_member user n h)
        (least_on world (is_told told) (in_region old touched told) user (sets user) (holds new user) (λ n m t a. got.told_arcs n m t a)
        (λ n t. or_right (stays old touched n) (is_told told n) t)
        (λ n i. ⊎_elim (λ s. others user n (got.apart n s) ∙ sym (stay_member user n s))
        (λ t. let r = told_row old new ready told touched filled n t in
        sym (ap (λ (o : Option Row). has (members_or_none o) user) r.2 ∙ (rows n r.0 r.1).1 user))
        (or_cases (stays old touched n) (is_told told n) i))
        (least user)));
  }
    where
      not_touched : (n : ℕ) → stays old touched n ≡ true → IsTouched (arc_in old) changed n → ⊥
      not_touched n h t = false≢true (sym (got.untouched t.end (walk_kept (arc_in old) (stays old touched) n t.end (λ a b. got.stay_arcs a b) h t.walk)).1 ∙ t.among)

      unchanged : (n : ℕ) → stays old touched n ≡ true → world n ≡ before n
      unchanged n h = same n (got.untouched n h).0 (not_touched n h)

      stay_member : (user n : ℕ) → stays old touched n ≡ true → holds new user n ≡ holds old user n
      stay_member user n h = ap (λ (o : Option Row). has (members_or_none o) user) (stay_row old new ready told touched filled n h (got.apart n h))

-- a row that is ready takes the place of another, whether that one was dropped before or not
row_or_dropped : (r o : Option Row) (t : Bool) → row_or r (cond (t && not (is_some r)) None o) ≡ row_or r (cond t None o)
row_or_dropped None o true = refl
row_or_dropped None o false = refl
row_or_dropped (Some row) o t = refl

pub filled : (old taken dropped new : Rows) (ready : BTreeMap ℕ Row) (told : List Told) (touched : List ℕ)
    → ((n : ℕ) → is_some (get nat_cmp ready n) ≡ is_told told n)
    → ((n : ℕ) → row_of taken n ≡ row_of old n)
    → ((n : ℕ) → row_of dropped n ≡ cond (has touched n && not (is_some (get nat_cmp ready n))) None (row_of taken n))
    → ((n : ℕ) → row_of new n ≡ row_or (get nat_cmp ready n) (row_of dropped n))
    → IsFilled old new ready told touched
filled old taken dropped new ready told touched nodes a b p = record {
  nodes = nodes;
  rows = λ n. p n ∙ ap (λ o. row_or (get nat_cmp ready n) o) (b n ∙ ap (λ o. cond (has touched n && not (is_some (get nat_cmp ready n))) None o) (a n))
      ∙ row_or_dropped (get nat_cmp ready n) (row_of old n) (has touched n);
}
