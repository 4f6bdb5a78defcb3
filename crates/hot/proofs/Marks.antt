-- Marks, and what is kept before and after a change.
use Rattle.std.proofs.Common.{ℕ, ◌≡◌, Bool, true, false, ◌||◌, ◌&&◌, not, nat_eq, List, [], ◌∷◌, refl, sym, ◌∙◌, ap, subst, ⊎_elim, ◌⊎◌, inl, inr}
use Rattle.std.specs.Prelude.{◌↔◌, Option, Some, None, is_some}
use Rattle.std.specs.List.{slice_get}
use Rattle.std.specs.Map.{lookup}
use Rattle.std.specs.BTreeMap.{is_at}
use Rattle.std.specs.Ordering.{nat_cmp}
use Rattle.std.proofs.lemmas.Bool.{or_cases, or_left, or_right, and_parts, and_from, cases_Bool, false≢true, eqb-true, eq-eqb}
use Rattle.std.proofs.Math.Path.{fun_ext}
use Rattle.std.proofs.lemmas.Option.{none-some, same_Some}
use Rattle.names.specs.declared.object.Object.{Object}
use Rattle.names.specs.declared.node.Node.{Node}
use Rattle.names.specs.declared.commit.Event.{Event}
use Rattle.names.specs.declared.commit.Commit.TheVariants.{Tuples}
use Rattle.meaning.specs.Snap.{Snap}
use Rattle.meaning.specs.History.{after_commit}
use Rattle.meaning.specs.Reads.{IsValid}
use Rattle.idsets.specs.Naming.{AreDistinct}
use Rattle.least_sets.specs.World.{Fact, AnyOf, has, arcs_of}
use Rattle.least_sets.specs.Least.{IsLevelled, IsLeastIn}
use Rattle.least_sets.specs.Walks.{IsTouched, here, on}
use Rattle.region.specs.declared.rule.Told.{Told}
use Rattle.region.specs.declared.sets.Row.{Row}
use Rattle.region.specs.Rules.{fact_of}
use Rattle.region.specs.Steps.{AreTold}
use Rattle.region.specs.Tables.{Rows, row_of, kept, arc_in, holds, arcs_or_none, members_or_none, Lists, IsBacked}
use Rattle.region.specs.Sets.{IsHeld}
use Rattle.region.specs.Gathered.{IsTurned, stays}
use Rattle.region.specs.Refreshed.{IsRefreshed}
use Rattle.facts.specs.Numbers.{Grew}
use Rattle.facts.specs.Telling.{MayTell, IsLater}
use Rattle.facts.specs.inside.Tables.{grew_get}
use Rattle.facts.specs.inside.Growing.{may_more}
use Rattle.hot.proofs.Changing.{may_after}
use Rattle.hot.specs.Kept.{AreKept, AreOfWorld, Remembered, told_of}
use Rattle.hot.specs.inside.Remembering.{MayRecall, IsRenewed}
use Rattle.hot.specs.inside.Events.{AreOfEvents}
use Rattle.hot.specs.inside.Following.{AreTellable}
use Rattle.hot.proofs.After.{after, after_of_world}

abbrev nobody : Fact
nobody = record { level = 0; shape = AnyOf []; own = [] }

-- nothing is kept where there is no row
pub held_none : (world : ℕ → Fact) (rows : Rows) → ((n : ℕ) → row_of rows n ≡ None) → IsHeld world [] rows
held_none world rows e = record {
  from_roots = λ n h. absurd (false≢true h);
  reached = λ n h. absurd (off n h);
  arcs = λ n m h. absurd (off n h);
  closed = λ n m h arc. absurd (off n h);
  least = λ user. record { closed = λ n h g. absurd (off n h); derived = λ n h s. absurd (off n h) };
}
  where
    off : (n : ℕ) → kept rows n ≡ true → ⊥
    off n h = false≢true (sym (ap (λ (r : Option Row). is_some r) (e n)) ∙ h)

pub kept_none : (S : Snap) (nodes : List Node) (users : List Object) (rows : Rows) → ((n : ℕ) → row_of rows n ≡ None) → AreKept S nodes users [] rows
kept_none S nodes users rows e = record {
  world = λ n. nobody;
  levelled = record { plain = λ n m h. absurd (false≢true h); taken = λ n m h. absurd (false≢true h) };
  held = held_none (λ n. nobody) rows e;
  told = λ n h. absurd (false≢true (sym (ap (λ (r : Option Row). is_some r) (e n)) ∙ h));
}

-- the same rows
held_same : (world : ℕ → Fact) (marks : List ℕ) (a b : Rows) → ((n : ℕ) → row_of b n ≡ row_of a n) → IsHeld world marks a → IsHeld world marks b
held_same world marks a b e held = record {
  from_roots = λ n h. kept_is n ∙ held.from_roots n h;
  reached = λ n h. held.reached n (sym (kept_is n) ∙ h);
  arcs = λ n m h. ap (λ (r : Option Row). has (arcs_or_none r) m) (e n) ∙ held.arcs n m (sym (kept_is n) ∙ h);
  closed = λ n m h arc. kept_is m ∙ held.closed n m (sym (kept_is n) ∙ h) (sym (ap (λ (r : Option Row). has (arcs_or_none r) m) (e n)) ∙ arc);
  least = λ user. subst (λ (part : ℕ → Bool). IsLeastIn world part user (holds b user)) (sym (fun_ext kept_is))
      (subst (λ (set : ℕ → Bool). IsLeastIn world (kept a) user set) (sym (fun_ext (λ n. ap (λ (r : Option Row). has (members_or_none r) user) (e n)))) (held.least user));
}
  where
    kept_is : (n : ℕ) → kept b n ≡ kept a n
    kept_is n = ap (λ (r : Option Row). is_some r) (e n)

pub kept_same : (S : Snap) (nodes nodes' : List Node) (users users' : List Object) (marks : List ℕ) (a b : Rows) → ((n : ℕ) → row_of b n ≡ row_of a n) → IsLater nodes nodes' users users'
    → AreKept S nodes users marks a → AreKept S nodes' users' marks b
kept_same S nodes nodes' users users' marks a b e later k = record {
  world = k.world;
  levelled = k.levelled;
  held = held_same k.world marks a b e k.held;
  told = λ n h. may_more S nodes nodes' users users' n (k.world n) later (k.told n (sym (ap (λ (r : Option Row). is_some r) (e n)) ∙ h));
}

-- nothing is remembered
pub told_none : (memory : Remembered) → memory.entries ≡ [] → (n : ℕ) → told_of memory n ≡ None
told_none memory e n = ap (λ (entries : List (ℕ × Told)). lookup (is_at (nat_cmp n)) entries) e

pub nothing_of_world : (world : ℕ → Fact) (rows : Rows) (memory : Remembered) → ((n : ℕ) → told_of memory n ≡ None) → AreOfWorld world rows memory
nothing_of_world world rows memory none = record { each = λ n t at. absurd (none-some t (sym (none n) ∙ at)) }

-- no more is remembered, of the same rows
pub same_of_world : (S : Snap) (nodes nodes' : List Node) (users users' : List Object) (marks : List ℕ) (a b : Rows) (e : (n : ℕ) → row_of b n ≡ row_of a n) (later : IsLater nodes nodes' users users')
    (k : AreKept S nodes users marks a) (memory less : Remembered) → ((n : ℕ) (t : Told) → told_of less n ≡ Some t → told_of memory n ≡ Some t)
    → AreOfWorld k.world a memory → AreOfWorld (kept_same S nodes nodes' users users' marks a b e later k).world b less
unfolding kept_same
same_of_world S nodes nodes' users users' marks a b e later k memory less fewer of = record {
  each = λ n t at. let there = of.each n t (fewer n t at) in (ap (λ (r : Option Row). is_some r) (e n) ∙ there.0, there.1);
}

-- what may be told where nothing changed: what is remembered may be told
pub recall_same : (S : Snap) (nodes nodes' : List Node) (users users' : List Object) (marks : List ℕ) (rows : Rows) (memory : Remembered) (k : AreKept S nodes users marks rows)
    → AreOfWorld k.world rows memory → IsLater nodes nodes' users users' → (n : ℕ) (fact : Fact) → MayRecall S memory nodes' users' n fact → MayTell S nodes' users' n fact
recall_same S nodes nodes' users users' marks rows memory k of later n fact (inl told) = told.1
recall_same S nodes nodes' users users' marks rows memory k of later n fact (inr recalled) =
    let there = of.each n recalled.0 recalled.1 in
    may_more S nodes nodes' users users' n fact later (subst (λ (f : Fact). MayTell S nodes users n f) (sym (recalled.2 ∙ there.1)) (k.told n there.0))

-- where nothing is remembered
pub recall_none : (S : Snap) (nodes : List Node) (users : List Object) (memory : Remembered) → ((n : ℕ) → told_of memory n ≡ None) → (n : ℕ) (fact : Fact) → MayRecall S memory nodes users n fact → MayTell S nodes users n fact
recall_none S nodes users memory none n fact (inl told) = told.1
recall_none S nodes users memory none n fact (inr recalled) = absurd (none-some recalled.0 (sym (none n) ∙ recalled.1))

-- the same refresh, by what is told
pub renewed_by : (A B : ℕ → Fact → Type 0) (old new : Rows) (roots turned changed asked asked' : List ℕ) (was is : Remembered) → ((n : ℕ) (fact : Fact) → A n fact → B n fact)
    → IsRenewed A old new roots turned changed asked asked' was is → IsRenewed B old new roots turned changed asked asked' was is
renewed_by A B old new roots turned changed asked asked' was is to r = record {
  refreshed = record {
    told = r.refreshed.told;
    are_told = told_by r.refreshed.told r.refreshed.are_told;
    some = r.refreshed.some;
    asked_is = r.refreshed.asked_is;
    once = r.refreshed.once;
    few = r.refreshed.few;
    nodes = r.refreshed.nodes;
    arcs = r.refreshed.arcs;
    reached = r.refreshed.reached;
    held = r.refreshed.held;
  };
  dropped = r.dropped;
  stays = r.stays;
  remembered = r.remembered;
}
  where
    told_by : (told : List Told) → AreTold A told → AreTold B told
    told_by [] h = tt
    told_by (t ∷ ts) h = (to t.node _ h.0, told_by ts h.1)

-- one mark more, or none
pub kept_marked : (S : Snap) (nodes nodes' : List Node) (users users' : List Object) (marks marks' turned : List ℕ) (a b : Rows) (asked asked' : List ℕ)
    → IsValid S → IsLater nodes nodes' users users' → IsTurned marks marks' turned → AreKept S nodes users marks a
    → IsRefreshed (MayTell S nodes' users') a b marks' turned [] asked asked' → AreKept S nodes' users' marks' b
kept_marked S nodes nodes' users users' marks marks' turned a b asked asked' valid later turns k r =
    after S S nodes nodes' users users' a b marks marks' turned [] asked asked' k.world refl valid valid k.held k.told later (λ n h off. k.told n h) turns r

pub marked_of_world : (S : Snap) (nodes nodes' : List Node) (users users' : List Object) (marks marks' turned : List ℕ) (a b : Rows) (asked asked' : List ℕ)
    (valid : IsValid S) (later : IsLater nodes nodes' users users') (turns : IsTurned marks marks' turned) (k : AreKept S nodes users marks a) (before after : Remembered)
    (r : IsRenewed (MayTell S nodes' users') a b marks' turned [] asked asked' before after)
    → AreOfWorld k.world a before → AreOfWorld (kept_marked S nodes nodes' users users' marks marks' turned a b asked asked' valid later turns k r.refreshed).world b after
unfolding kept_marked
marked_of_world S nodes nodes' users users' marks marks' turned a b asked asked' valid later turns k before after r of =
    after_of_world S S nodes nodes' users users' a b marks marks' turned [] asked asked' k.world refl valid valid k.held k.told later (λ n h off. k.told n h) turns r.refreshed
    before after r.dropped (λ n t at. let there = of.each n t at in (there.0, λ off. there.1)) r.stays r.remembered

pub turned_one : (marks marks' : List ℕ) (id : ℕ) → ((o : ℕ) → has marks' o ≡ (nat_eq o id || has marks o)) → IsTurned marks marks' (id ∷ [])
turned_one marks marks' id e n off = e n ∙ first (nat_eq n id) (has marks n) off
  where
    first : (x y : Bool) → (x || false) ≡ false → (x || y) ≡ y
    first true y h = absurd (false≢true (sym h))
    first false y h = refl

-- a commit of events
stays_after : (S T : Snap) (events : List Event) (nodes : List Node) (users : List Object) (marks changed : List ℕ) (rows : Rows)
    → T ≡ after_commit S (Tuples events) → AreOfEvents nodes events changed → (k : AreKept S nodes users marks rows)
    → (n : ℕ) → kept rows n ≡ true → (IsTouched (arc_in rows) changed n → ⊥) → MayTell T nodes users n (k.world n)
stays_after S T events nodes users marks changed rows is are k n h off =
    may_after S T events nodes users n (k.world n) (sym (ap (λ (x : Snap). x.config) is)) (ap (λ (x : Snap). x.tuples) is)
    (λ e c at. off (record { end = n; among = are.complete e n c at; walk = here }))
    (λ j arc same e c at. off (record { end = j; among = are.complete e j c at; walk = on here (k.held.arcs n j h ∙ arc) }))
    (k.told n h)

pub kept_after : (S T : Snap) (events : List Event) (nodes nodes' : List Node) (users users' : List Object) (marks changed : List ℕ) (a b : Rows) (asked asked' : List ℕ)
    → IsValid S → IsValid T → T ≡ after_commit S (Tuples events) → AreOfEvents nodes events changed → IsLater nodes nodes' users users' → AreKept S nodes users marks a
    → IsRefreshed (MayTell T nodes' users') a b marks [] changed asked asked' → AreKept T nodes' users' marks b
kept_after S T events nodes nodes' users users' marks changed a b asked asked' valid valid' is are later k r =
    after S T nodes nodes' users users' a b marks marks [] changed asked asked' k.world (sym (ap (λ (x : Snap). x.config) is)) valid valid' k.held k.told later
    (stays_after S T events nodes users marks changed a is are k) (λ n h. refl) r

pub commit_of_world : (S T : Snap) (events : List Event) (nodes nodes' : List Node) (users users' : List Object) (marks changed : List ℕ) (a b : Rows) (asked asked' : List ℕ)
    (valid : IsValid S) (valid' : IsValid T) (is : T ≡ after_commit S (Tuples events)) (are : AreOfEvents nodes events changed) (later : IsLater nodes nodes' users users') (k : AreKept S nodes users marks a)
    (before after : Remembered) (r : IsRenewed (MayTell T nodes' users') a b marks [] changed asked asked' before after)
    → ((n : ℕ) (t : Told) → told_of before n ≡ Some t → (kept a n ≡ true) × (has changed n ≡ false → fact_of t ≡ k.world n))
    → AreOfWorld (kept_after S T events nodes nodes' users users' marks changed a b asked asked' valid valid' is are later k r.refreshed).world b after
unfolding kept_after
commit_of_world S T events nodes nodes' users users' marks changed a b asked asked' valid valid' is are later k before after r of =
    after_of_world S T nodes nodes' users users' a b marks marks [] changed asked asked' k.world (sym (ap (λ (x : Snap). x.config) is)) valid valid' k.held k.told later
    (stays_after S T events nodes users marks changed a is are k) (λ n h. refl) r.refreshed
    before after r.dropped (λ n t at. let there = of n t at in (there.0, λ off. there.1 (r.stays n there.0 off).2)) r.stays r.remembered

-- what is remembered may be told
pub are_tellable : (S : Snap) (nodes : List Node) (users : List Object) (marks : List ℕ) (rows : Rows) (back : Lists) (memory : Remembered) (k : AreKept S nodes users marks rows)
    → AreOfWorld k.world rows memory → IsBacked rows back → AreTellable S nodes users back memory
are_tellable S nodes users marks rows back memory k of backed n t at =
    let there = of.each n t at in (
      subst (λ (f : Fact). MayTell S nodes users n f) (sym there.1) (k.told n there.0),
      λ m arc. backed n m (k.held.arcs n m there.0 ∙ subst (λ (f : Fact). has (arcs_of f.shape) m ≡ true) there.1 arc),
    )

pub recall_after : (T : Snap) (nodes nodes' : List Node) (users users' : List Object) (back : Lists) (memory : Remembered) → AreTellable T nodes users back memory
    → IsLater nodes nodes' users users' → (n : ℕ) (fact : Fact) → MayRecall T memory nodes' users' n fact → MayTell T nodes' users' n fact
recall_after T nodes nodes' users users' back memory are later n fact (inl told) = told.1
recall_after T nodes nodes' users users' back memory are later n fact (inr recalled) =
    may_more T nodes nodes' users users' n fact later (subst (λ (f : Fact). MayTell T nodes users n f) (sym recalled.2) (are n recalled.0 recalled.1).0)

-- anew
pub kept_anew : (T : Snap) (nodes nodes' : List Node) (users users' : List Object) (marks : List ℕ) (a b : Rows) (asked asked' : List ℕ)
    → IsValid T → ((n : ℕ) → row_of a n ≡ None) → IsLater nodes nodes' users users' → IsRefreshed (MayTell T nodes' users') a b marks marks [] asked asked' → AreKept T nodes' users' marks b
kept_anew T nodes nodes' users users' marks a b asked asked' valid e later r =
    let k = kept_none T nodes users a e in
    after T T nodes nodes' users users' a b [] marks marks [] asked asked' k.world refl valid valid k.held k.told later (λ n h off. k.told n h) (λ n h. h) r

pub anew_of_world : (T : Snap) (nodes nodes' : List Node) (users users' : List Object) (marks : List ℕ) (a b : Rows) (asked asked' : List ℕ)
    (valid : IsValid T) (e : (n : ℕ) → row_of a n ≡ None) (later : IsLater nodes nodes' users users') (before after : Remembered)
    (r : IsRenewed (MayTell T nodes' users') a b marks marks [] asked asked' before after)
    → ((n : ℕ) → told_of before n ≡ None) → AreOfWorld (kept_anew T nodes nodes' users users' marks a b asked asked' valid e later r.refreshed).world b after
unfolding kept_anew
anew_of_world T nodes nodes' users users' marks a b asked asked' valid e later before after r none =
    let k = kept_none T nodes users a e in
    after_of_world T T nodes nodes' users users' a b [] marks marks [] asked asked' k.world refl valid valid k.held k.told later (λ n h off. k.told n h) (λ n h. h) r.refreshed
    before after r.dropped (λ n t at. absurd (none-some t (sym (none n) ∙ at))) r.stays r.remembered

-- each mark has its node
pub marks_there : (S : Snap) (nodes : List Node) (users : List Object) (marks : List ℕ) (rows : Rows) → AreKept S nodes users marks rows → (i : ℕ) → has marks i ≡ true → (n : Node) × (slice_get nodes i ≡ Some n)
marks_there S nodes users marks rows k i h = (k.told i (k.held.from_roots i h)).named

-- where each mark has a node, more numbers change no mark
pub marked_same : (nodes nodes' : List Node) (marks : List ℕ) → Grew nodes nodes' → ((i : ℕ) → has marks i ≡ true → (n : Node) × (slice_get nodes i ≡ Some n)) → (n : Node)
    → ((i : ℕ) × (has marks i ≡ true) × (slice_get nodes' i ≡ Some n)) ↔ ((i : ℕ) × (has marks i ≡ true) × (slice_get nodes i ≡ Some n))
marked_same nodes nodes' marks g there n = (
  λ q. (let s = there q.0 q.1 in (q.0, q.1, s.1 ∙ ap (λ x. Some x) (same_Some s.0 n (sym (grew_get nodes nodes' q.0 s.0 g s.1) ∙ q.2)))),
  λ q. (q.0, q.1, grew_get nodes nodes' q.0 n g q.2),
)

-- the marks with one more
pub marked_more : (nodes nodes' : List Node) (marks marks' : List ℕ) (id : ℕ) (m : Node) → Grew nodes nodes' → slice_get nodes' id ≡ Some m → ((o : ℕ) → has marks' o ≡ (nat_eq o id || has marks o))
    → ((i : ℕ) → has marks i ≡ true → (n : Node) × (slice_get nodes i ≡ Some n)) → (n : Node)
    → ((i : ℕ) × (has marks' i ≡ true) × (slice_get nodes' i ≡ Some n)) ↔ (((i : ℕ) × (has marks i ≡ true) × (slice_get nodes i ≡ Some n)) ⊎ (n ≡ m))
marked_more nodes nodes' marks marks' id m g at e there n = (
  λ q. ⊎_elim
      (λ here. inr (same_Some n m (sym q.2 ∙ ap (slice_get nodes') (eqb-true q.0 id here) ∙ at)))
      (λ old. inl ((marked_same nodes nodes' marks g there n).0 (q.0, old, q.2)))
      (or_cases (nat_eq q.0 id) (has marks q.0) (sym (e q.0) ∙ q.1)),
  λ q. ⊎_elim
      (λ old. (let s = (marked_same nodes nodes' marks g there n).1 old in (s.0, e s.0 ∙ or_right (nat_eq s.0 id) (has marks s.0) s.1, s.2)))
      (λ here. (id, e id ∙ or_left (nat_eq id id) (has marks id) (eq-eqb id id refl), at ∙ ap (λ x. Some x) (sym here)))
      q,
)

-- one mark less
pub turned_off : (marks marks' : List ℕ) (id : ℕ) → ((o : ℕ) → has marks' o ≡ (has marks o && not (nat_eq o id))) → IsTurned marks marks' (id ∷ [])
turned_off marks marks' id e n off = e n ∙ first (has marks n) (nat_eq n id) off
  where
    first : (x y : Bool) → (y || false) ≡ false → (x && not y) ≡ x
    first x true h = absurd (false≢true (sym h))
    first true false h = refl
    first false false h = refl

less_in : (marks marks' : List ℕ) (id : ℕ) → ((o : ℕ) → has marks' o ≡ (has marks o && not (nat_eq o id))) → (o : ℕ) → has marks' o ≡ true → (has marks o ≡ true) × (not (nat_eq o id) ≡ true)
less_in marks marks' id e o h = and_parts (has marks o) (not (nat_eq o id)) (sym (e o) ∙ h)

pub kept_swept : (S : Snap) (nodes : List Node) (users : List Object) (marks marks' : List ℕ) (id : ℕ) (a b : Rows)
    → ((o : ℕ) → has marks' o ≡ (has marks o && not (nat_eq o id)))
    → ((n : ℕ) → kept b n ≡ true → row_of b n ≡ row_of a n)
    → ((world : ℕ → Fact) (first : List ℕ) → IsLevelled world → IsHeld world first a → IsTurned first marks' (id ∷ []) → ((n : ℕ) → has marks' n ≡ true → kept a n ≡ true) → IsHeld world marks' b)
    → AreKept S nodes users marks a → AreKept S nodes users marks' b
kept_swept S nodes users marks marks' id a b e same held k = record {
  world = k.world;
  levelled = k.levelled;
  held = held k.world marks k.levelled k.held (turned_off marks marks' id e) (λ n h. k.held.from_roots n (less_in marks marks' id e n h).0);
  told = λ n h. k.told n (sym (ap (λ (r : Option Row). is_some r) (same n h)) ∙ h);
}

pub swept_of_world : (S : Snap) (nodes : List Node) (users : List Object) (marks marks' : List ℕ) (id : ℕ) (a b : Rows)
    (e : (o : ℕ) → has marks' o ≡ (has marks o && not (nat_eq o id))) (same : (n : ℕ) → kept b n ≡ true → row_of b n ≡ row_of a n)
    (held : (world : ℕ → Fact) (first : List ℕ) → IsLevelled world → IsHeld world first a → IsTurned first marks' (id ∷ []) → ((n : ℕ) → has marks' n ≡ true → kept a n ≡ true) → IsHeld world marks' b)
    (k : AreKept S nodes users marks a) (gone : List ℕ) (memory less : Remembered) → ((n : ℕ) → kept b n ≡ stays a gone n)
    → ((n : ℕ) (t : Told) → told_of less n ≡ Some t → (told_of memory n ≡ Some t) × (has gone n ≡ false))
    → AreOfWorld k.world a memory → AreOfWorld (kept_swept S nodes users marks marks' id a b e same held k).world b less
unfolding kept_swept
swept_of_world S nodes users marks marks' id a b e same held k gone memory less stay fewer of = record {
  each = λ n t at.
      let left = fewer n t at in
      let there = of.each n t left.0 in
      (stay n ∙ and_from (kept a n) (not (has gone n)) there.0 (ap not left.1), there.1);
}

-- the marks with one less
pub marked_less : (nodes : List Node) (marks marks' : List ℕ) (id : ℕ) (m : Node) → AreDistinct nodes → slice_get nodes id ≡ Some m
    → ((o : ℕ) → has marks' o ≡ (has marks o && not (nat_eq o id))) → (n : Node)
    → ((i : ℕ) × (has marks' i ≡ true) × (slice_get nodes i ≡ Some n)) ↔ (((i : ℕ) × (has marks i ≡ true) × (slice_get nodes i ≡ Some n)) × (n ≡ m → ⊥))
marked_less nodes marks marks' id m distinct at e n = (
  λ q. (let both = less_in marks marks' id e q.0 q.1 in (
    (q.0, both.0, q.2),
    λ is. false≢true (sym (ap not (eq-eqb q.0 id (distinct q.0 id m (q.2 ∙ ap (λ x. Some x) is) at))) ∙ both.1),
  )),
  λ q. (q.0.0, e q.0.0 ∙ and_from (has marks q.0.0) (not (nat_eq q.0.0 id)) q.0.1 (apart q.0.0 q.0.2 q.1), q.0.2),
)
  where
    apart : (i : ℕ) → slice_get nodes i ≡ Some n → (n ≡ m → ⊥) → not (nat_eq i id) ≡ true
    apart i at_i off = ⊎_elim
        (λ same. absurd (off (same_Some n m (sym at_i ∙ ap (slice_get nodes) (eqb-true i id same) ∙ at))))
        (λ other. ap not other)
        (cases_Bool (nat_eq i id))

-- where no mark is the node's, all stay
pub marked_others : (nodes : List Node) (marks : List ℕ) (m : Node) → ((i : ℕ) → has marks i ≡ true → slice_get nodes i ≡ Some m → ⊥) → (n : Node)
    → ((i : ℕ) × (has marks i ≡ true) × (slice_get nodes i ≡ Some n)) ↔ (((i : ℕ) × (has marks i ≡ true) × (slice_get nodes i ≡ Some n)) × (n ≡ m → ⊥))
marked_others nodes marks m off n = (
  λ q. (q, λ is. off q.0 q.1 (q.2 ∙ ap (λ x. Some x) is)),
  λ q. q.0,
)

-- a mark that is there already
pub marked_again : (nodes nodes' : List Node) (marks : List ℕ) (id : ℕ) (m : Node) → Grew nodes nodes' → slice_get nodes' id ≡ Some m → has marks id ≡ true
    → ((i : ℕ) → has marks i ≡ true → (n : Node) × (slice_get nodes i ≡ Some n)) → (n : Node)
    → ((i : ℕ) × (has marks i ≡ true) × (slice_get nodes' i ≡ Some n)) ↔ (((i : ℕ) × (has marks i ≡ true) × (slice_get nodes i ≡ Some n)) ⊎ (n ≡ m))
marked_again nodes nodes' marks id m g at there_id there n = (
  λ q. inl ((marked_same nodes nodes' marks g there n).0 q),
  λ q. ⊎_elim
      (λ old. (marked_same nodes nodes' marks g there n).1 old)
      (λ is. (id, there_id, at ∙ ap (λ x. Some x) (sym is)))
      q,
)

-- a node whose number is no mark is not marked
pub not_marked : (nodes nodes' : List Node) (marks : List ℕ) (id : ℕ) (m : Node) → Grew nodes nodes' → AreDistinct nodes' → slice_get nodes' id ≡ Some m → has marks id ≡ false
    → ((i : ℕ) × (has marks i ≡ true) × (slice_get nodes i ≡ Some m)) → ⊥
not_marked nodes nodes' marks id m g distinct at off q =
    false≢true (sym off ∙ subst (λ j. has marks j ≡ true) (distinct q.0 id m (grew_get nodes nodes' q.0 m g q.2) at) q.1)

-- what was changed was a copy
pub put_in : (old copy now : List ℕ) (id : ℕ) → copy ≡ old → ((o : ℕ) → has now o ≡ (nat_eq o id || has copy o)) → (o : ℕ) → has now o ≡ (nat_eq o id || has old o)
put_in old copy now id same e o = e o ∙ ap (λ xs. nat_eq o id || has xs o) same

pub taken_out : (old copy now : List ℕ) (id : ℕ) → copy ≡ old → ((o : ℕ) → has now o ≡ (has copy o && not (nat_eq o id))) → (o : ℕ) → has now o ≡ (has old o && not (nat_eq o id))
taken_out old copy now id same e o = e o ∙ ap (λ xs. has xs o && not (nat_eq o id)) same
