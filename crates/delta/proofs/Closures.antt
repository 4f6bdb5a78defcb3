-- What is kept of a group are the ends of walks from it.
use Rattle.std.proofs.Common.{ℕ, ◌≡◌, Bool, true, List, refl, sym, ◌∙◌, ap, subst}
use Rattle.std.specs.Prelude.{◌↔◌, Option, Some, None, is_some}
use Rattle.std.specs.List.{slice_get}
use Rattle.std.specs.Option.{option_map}
use Rattle.std.proofs.lemmas.Option.{none-some, same_Some}
use Rattle.names.specs.declared.node.Node.{Node}
use Rattle.meaning.specs.Snap.{Snap}
use Rattle.least_sets.specs.World.{Fact, has, arcs_of}
use Rattle.least_sets.specs.Groups.{GroupsAreWalks}
use Rattle.least_sets.specs.Walks.{Walk}
use Rattle.least_sets.specs.Walks as walks
use Rattle.region.specs.declared.sets.Row.{Row}
use Rattle.region.specs.Tables.{Rows, kept, row_of, holds, members_or_none}
use Rattle.graphs.specs.Groups.{IsGroupArc, GroupWalk, here, on}
use Rattle.facts.specs.Numbers.{AreNumbersOf}
use Rattle.delta.specs.Noted.{led_in}
use Rattle.delta.specs.Layers.{AreKept}
use Rattle.delta.specs.inside.Named.{IsNamedBy}

-- the row of a group that leads to these
pub row_there : (r : Option Row) (ids : List ℕ) → option_map (λ (row : Row). row.members) r ≡ Some ids → (is_some r ≡ true) × (members_or_none r ≡ ids)
row_there None ids e = absurd (none-some ids e)
row_there (Some row) ids e = (refl, same_Some row.members ids e)

pub there_row : (r : Option Row) → is_some r ≡ true → (ids : List ℕ) × (option_map (λ (row : Row). row.members) r ≡ Some ids)
there_row None e = cc
there_row (Some row) e = (row.members, refl)

-- arcs by which a walk goes on
abbrev pub along : (ℕ → List ℕ) → ℕ → ℕ → Bool
along arcs a b = has (arcs a) b

module _ (S : Snap) (nodes : List Node) (roots : List ℕ) (rows : Rows) (k : AreKept S nodes roots rows) where
  pub arc_kept : (i j : ℕ) → kept rows i ≡ true → has (k.arcs i) j ≡ true → kept rows j ≡ true
  arc_kept i j h e = k.held.closed i j h (k.held.arcs i j h ∙ e)

  pub ends_told : (i : ℕ) (h : kept rows i ≡ true) → AreNumbersOf nodes (k.arcs i) (IsGroupArc S (k.told i h).group)
  ends_told i h = subst (λ xs. AreNumbersOf nodes xs (IsGroupArc S (k.told i h).group)) (sym (ap (λ (f : Fact). arcs_of f.shape) (k.told i h).fact_is)) (k.told i h).ends

  pub ends_of : (i : ℕ) (g : Node) → kept rows i ≡ true → slice_get nodes i ≡ Some g → AreNumbersOf nodes (k.arcs i) (IsGroupArc S g)
  ends_of i g h at = subst (λ n. AreNumbersOf nodes (k.arcs i) (IsGroupArc S n)) (same_Some (k.told i h).group g (sym (k.told i h).named ∙ at)) (ends_told i h)

  -- a walk by numbers is one of groups
  pub walked : (i j : ℕ) (g : Node) → kept rows i ≡ true → slice_get nodes i ≡ Some g → Walk (along k.arcs) i j
      → (kept rows j ≡ true) × ((n : Node) × (slice_get nodes j ≡ Some n) × GroupWalk S g n)
  walked i j g h at walks.here = (h, (g, at, here))
  walked i j g h at (walks.on {b = b} w e) =
      let before = walked i b g h at w in
      let found = (ends_of b before.1.0 before.0 before.1.1).sound j e in
      (arc_kept b j before.0 e, (found.0, found.2, on before.1.2 found.1))

  -- a walk of groups is one by numbers
  pub walked_by : (i : ℕ) (g n : Node) → kept rows i ≡ true → slice_get nodes i ≡ Some g → GroupWalk S g n
      → (j : ℕ) × (kept rows j ≡ true) × (slice_get nodes j ≡ Some n) × Walk (along k.arcs) i j
  walked_by i g n h at here = (i, h, at, walks.here)
  walked_by i g n h at (on {g = m} w a) =
      let before = walked_by i g m h at w in
      let found = (ends_of before.0 m before.1 before.2).complete n a in
      (found.0, arc_kept before.0 found.0 before.1 found.1, found.2, walks.on before.3 found.1)

  -- the groups with the numbers that are kept are those to which the group leads
  pub closure : GroupsAreWalks → (i : ℕ) (g : Node) (ids : List ℕ) → slice_get nodes i ≡ Some g → led_in rows i ≡ Some ids → (n : Node) → IsNamedBy nodes ids n ↔ GroupWalk S g n
  closure law i g ids at led n =
      let row = row_there (row_of rows i) ids led in (
        λ s. (
            let j = s.0 in
            let held : holds rows j i ≡ true = ap (λ xs. has xs j) row.1 ∙ s.1 in
            let w = (law k.arcs (kept rows) j (holds rows j) arc_kept (k.held.least j) i row.0).0 held in
            let end = walked i j g row.0 at w in
            subst (GroupWalk S g) (same_Some end.1.0 n (sym end.1.1 ∙ s.2)) end.1.2),
        λ w. (
            let found = walked_by i g n row.0 at w in
            let j = found.0 in
            let held : holds rows j i ≡ true = (law k.arcs (kept rows) j (holds rows j) arc_kept (k.held.least j) i row.0).1 found.3 in
            (j, ap (λ xs. has xs j) (sym row.1) ∙ held, found.2)),
      )

  -- the numbers of what is kept, and of what it leads to, are those of nodes
  pub kept_named : (i : ℕ) → kept rows i ≡ true → (n : Node) × (slice_get nodes i ≡ Some n)
  kept_named i h = ((k.told i h).group, (k.told i h).named)

  pub led_named : GroupsAreWalks → (i : ℕ) (ids : List ℕ) → led_in rows i ≡ Some ids → (j : ℕ) → has ids j ≡ true → (n : Node) × (slice_get nodes j ≡ Some n)
  led_named law i ids led j there =
      let row = row_there (row_of rows i) ids led in
      let held : holds rows j i ≡ true = ap (λ xs. has xs j) row.1 ∙ there in
      let start = kept_named i row.0 in
      let w = (law k.arcs (kept rows) j (holds rows j) arc_kept (k.held.least j) i row.0).0 held in
      let end = walked i j start.0 row.0 start.1 w in
      (end.1.0, end.1.1)
