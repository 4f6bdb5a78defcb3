-- What is kept is what the marked nodes lead to.
use Rattle.std.proofs.Common.{ℕ, ◌≡◌, ◌<◌, Bool, true, List, length, sym, ◌∙◌, ap, subst}
use Rattle.std.specs.Prelude.{Some}
use Rattle.std.specs.List.{slice_get}
use Rattle.std.proofs.lemmas.Option.{slice_get_within}
use Rattle.names.specs.declared.object.Object.{Object}
use Rattle.names.specs.declared.node.Node.{Node}
use Rattle.names.specs.declared.commit.Event.{Event}
use Rattle.meaning.specs.Snap.{Snap}
use Rattle.meaning.specs.Reads.{IsValid}
use Rattle.least_sets.specs.World.{has}
use Rattle.least_sets.specs.Walks.{Walk, IsTouched, arc_of}
use Rattle.least_sets.specs.Walks as walks
use Rattle.region.specs.Tables.{Rows, kept, arc_in}
use Rattle.facts.specs.Numbers.{node_at}
use Rattle.hot.specs.Depending.{DependsOn, Leads, IsTouchedBy, here, on}
use Rattle.facts.specs.inside.Tables.{node_is, node_got}
use Rattle.hot.proofs.Depends.{told_depends, depends_told}
use Rattle.hot.specs.Kept.{AreKept}
use Rattle.hot.specs.inside.Events.{AreOfEvents}

module _ (S : Snap) (nodes : List Node) (users : List Object) (marks : List ℕ) (rows : Rows) (valid : IsValid S) (k : AreKept S nodes users marks rows) where
  within : (i : ℕ) → kept rows i ≡ true → i < length nodes
  within i h = slice_get_within nodes i (k.told i h).named.0 (k.told i h).named.1

  named : (i : ℕ) → kept rows i ≡ true → slice_get nodes i ≡ Some (node_at nodes i)
  named i h = node_got nodes i (within i h)

  arc_kept : (i j : ℕ) → kept rows i ≡ true → arc_of k.world i j ≡ true → kept rows j ≡ true
  arc_kept i j h arc = k.held.closed i j h (k.held.arcs i j h ∙ arc)

  -- a walk of arcs from a kept node is one of dependence, among kept nodes
  walked : (arc : ℕ → ℕ → Bool) (i j : ℕ) → ((a b : ℕ) → kept rows a ≡ true → arc a b ≡ true → arc_of k.world a b ≡ true) → kept rows i ≡ true → Walk arc i j
      → (kept rows j ≡ true) × Leads S (node_at nodes i) (node_at nodes j)
  walked arc i j f h walks.here = (h, here)
  walked arc i j f h (walks.on {b = b} w e) =
      let before = walked arc i b f h w in
      let step = f b j before.0 e in
      (arc_kept b j before.0 step, on before.1 (told_depends S nodes users b j (k.world b) (k.told b before.0) step))

  pub kept_led : (n : Node) (i : ℕ) → slice_get nodes i ≡ Some n → kept rows i ≡ true → (m : Node) × ((j : ℕ) × (has marks j ≡ true) × (slice_get nodes j ≡ Some m)) × Leads S m n
  kept_led n i at h =
      let r = k.held.reached i h in
      let start = k.held.from_roots r.start r.among in
      let w = walked (arc_of k.world) r.start i (λ a b q e. e) start r.walk in
      (node_at nodes r.start, (r.start, r.among, named r.start start), subst (λ x. Leads S (node_at nodes r.start) x) (node_is nodes i n at) w.1)

  pub led_kept : (m n : Node) → (j : ℕ) → has marks j ≡ true → slice_get nodes j ≡ Some m → Leads S m n → (i : ℕ) × (slice_get nodes i ≡ Some n) × (kept rows i ≡ true)
  led_kept m n j among at here = (j, at, k.held.from_roots j among)
  led_kept m n j among at (on {a = a} w e) =
      let before = led_kept m a j among at w in
      let found = depends_told S valid nodes users before.0 n (k.world before.0) (k.told before.0 before.2) (subst (λ x. DependsOn S x n) (sym (node_is nodes before.0 a before.1)) e) in
      let there = arc_kept before.0 found.0 before.2 found.1 in
      (found.0, named found.0 there ∙ ap (λ x. Some x) found.2, there)

  -- what a kept node leads to is kept, at the end of a walk of arcs
  led_walk : (m n : Node) (i : ℕ) → slice_get nodes i ≡ Some m → kept rows i ≡ true → Leads S m n
      → (j : ℕ) × (slice_get nodes j ≡ Some n) × (kept rows j ≡ true) × Walk (arc_in rows) i j
  led_walk m n i at h here = (i, at, h, walks.here)
  led_walk m n i at h (on {a = a} w e) =
      let before = led_walk m a i at h w in
      let found = depends_told S valid nodes users before.0 n (k.world before.0) (k.told before.0 before.2) (subst (λ x. DependsOn S x n) (sym (node_is nodes before.0 a before.1)) e) in
      let there = arc_kept before.0 found.0 before.2 found.1 in
      (found.0, named found.0 there ∙ ap (λ x. Some x) found.2, there, walks.on before.3 (k.held.arcs before.0 found.0 before.2 ∙ found.1))

  -- a kept node that is touched by an event has a walk of arcs to a changed one
  pub touched_in : (events : List Event) (changed : List ℕ) (n : Node) (i : ℕ) → AreOfEvents nodes events changed → slice_get nodes i ≡ Some n → kept rows i ≡ true
      → IsTouchedBy S events n → IsTouched (arc_in rows) changed i
  touched_in events changed n i are at h t =
      let w = led_walk n t.0.tuple.node i at h t.2 in
      record { end = w.0; among = are.complete t.0 w.0 t.1 w.1; walk = w.3 }

  -- a kept node with a walk of arcs to a changed one is touched by an event
  pub touched_by : (events : List Event) (changed : List ℕ) (i : ℕ) → AreOfEvents nodes events changed → kept rows i ≡ true → IsTouched (arc_in rows) changed i → IsTouchedBy S events (node_at nodes i)
  touched_by events changed i are h t =
      let e = are.sound t.end t.among in
      let w = walked (arc_in rows) i t.end (λ a b q arc. sym (k.held.arcs a b q) ∙ arc) h t.walk in
      (e.0, e.1, subst (λ x. Leads S (node_at nodes i) x) (node_is nodes t.end e.0.tuple.node e.2) w.1)
