-- A layer that begins, that is asked, and whose base moves up.
use Rattle.std.proofs.Common.{ℕ, ◌≡◌, ◌≤◌, true, nat_lt, List, sym, ◌∙◌, ap, subst, arith, ⊎_elim, inl, inr}
use Rattle.std.specs.Prelude.{◌↔◌, Some, None, Contains, filter}
use Rattle.std.specs.List.{slice_get}
use Rattle.std.proofs.lemmas.Option.{none-some, same_Some}
use Rattle.names.specs.declared.node.Node.{Node}
use Rattle.names.specs.declared.tuple.Tuple.{Tuple}
use Rattle.meaning.specs.TupleSet as set
use Rattle.meaning.specs.Config.{Configured}
use Rattle.meaning.specs.Snap.{Snap}
use Rattle.idsets.specs.Naming.{AreDistinct}
use Rattle.least_sets.specs.World.{has}
use Rattle.least_sets.specs.Groups.{GroupsAreWalks}
use Rattle.region.specs.Tables.{Rows}
use Rattle.graphs.specs.Groups.{GroupWalk}
use Rattle.facts.specs.Numbers.{AreNumbersOf}
use Rattle.facts.specs.inside.Tables.{grew_get}
use Rattle.leopard.specs.Finding.{IsNamedBy}
use Rattle.leopard.specs.Groups.{IsGroup, GroupToGroup}
use Rattle.leopard.specs.Index.{bare}
use Rattle.leopard.specs.inside.Asking.{AreAll}
use Rattle.delta.specs.declared.earlier.Earlier.{Earlier}
use Rattle.delta.specs.declared.layer.Layer.{Layer}
use Rattle.delta.specs.Telling.{IsMore}
use Rattle.delta.specs.Noted.{led_at}
use Rattle.delta.specs.Layers.{AreKept, AreRoots, IsAbove, IsIn, IsLayerOf, KeepsAt, Tells}
use Rattle.delta.specs.inside.Growing.{more_none}
use Rattle.delta.specs.inside.Named.{AreNamed}
use Rattle.delta.proofs.Rows.{led_filtered}
use Rattle.delta.proofs.Told.{tells_now, tells_still}

-- the groups above the tuples of a snapshot are roots
pub roots_of : (T : Snap) (config : Configured) (nodes nodes' : List Node) (tuples : List Tuple) (turned roots : List ℕ) → config ≡ T.config → tuples ≡ set.items T.tuples
    → AreNumbersOf nodes turned (IsAbove config (Contains tuples)) → ((i : ℕ) → has roots i ≡ has turned i) → IsMore nodes nodes' → AreRoots T nodes' roots
roots_of T config nodes nodes' tuples turned roots same all above set_is more g h =
    let found = above.complete g (subst (λ (ts : List Tuple). IsAbove config (Contains ts) g) (sym all) (subst (λ (c : Configured). IsAbove c (IsIn T) g) (sym same) h)) in
    (found.0, set_is found.0 ∙ found.1, grew_get nodes nodes' found.0 g more.grew found.2)

pub begun : GroupsAreWalks → (layer : Layer) (snaps : ℕ → Snap) (T : Snap) → snaps layer.cursor ≡ T → layer.base ≡ layer.cursor → layer.config ≡ T.config → AreDistinct layer.nodes
    → AreKept T layer.nodes layer.roots layer.sets.rows → AreRoots T layer.nodes layer.roots → IsLayerOf layer snaps
begun law layer snaps T there base config distinct kept roots = record {
  order = omega (arith, base);
  distinct = distinct;
  kept = subst (λ (S : Snap). AreKept S layer.nodes layer.roots layer.sets.rows) (sym there) kept;
  roots = subst (λ (S : Snap). AreRoots S layer.nodes layer.roots) (sym there) roots;
  tells = λ rev from to.
      subst (λ q. Tells layer q (snaps q)) (let e : layer.cursor ≡ rev = omega (arith, from, to, base) in e)
      (subst (λ (S : Snap). Tells layer layer.cursor S) (sym there)
      (tells_now law layer layer.cursor T (sym config) distinct kept roots layer.noted.up_to));
}

-- what was noted up to the new base is dropped
pub rebased : (before layer : Layer) (snaps : ℕ → Snap) (rev : ℕ) → IsLayerOf before snaps → before.base ≤ rev → rev ≤ before.cursor → layer.config ≡ before.config → layer.base ≡ rev
    → layer.cursor ≡ before.cursor → layer.nodes ≡ before.nodes → layer.roots ≡ before.roots → layer.sets.rows ≡ before.sets.rows
    → layer.earlier.items ≡ filter (λ (e : Earlier). nat_lt rev e.rev) before.earlier.items → IsLayerOf layer snaps
rebased before layer snaps rev is up low config base cursor nodes roots rows noted = record {
  order = omega (arith, low, base, cursor);
  distinct = subst (λ (ns : List Node). AreDistinct ns) (sym nodes) is.distinct;
  kept = subst (λ c. AreKept (snaps c) layer.nodes layer.roots layer.sets.rows) (sym cursor)
      (subst (λ (ns : List Node). AreKept (snaps before.cursor) ns layer.roots layer.sets.rows) (sym nodes)
      (subst (λ xs. AreKept (snaps before.cursor) before.nodes xs layer.sets.rows) (sym roots)
      (subst (λ (rs : Rows). AreKept (snaps before.cursor) before.nodes before.roots rs) (sym rows) is.kept)));
  roots = subst (λ c. AreRoots (snaps c) layer.nodes layer.roots) (sym cursor)
      (subst (λ (ns : List Node). AreRoots (snaps before.cursor) ns layer.roots) (sym nodes)
      (subst (λ xs. AreRoots (snaps before.cursor) before.nodes xs) (sym roots) is.roots));
  tells = λ at from to. tells_still before layer at (snaps at) config (subst (λ (ns : List Node). IsMore before.nodes ns) (sym nodes) (more_none before.nodes))
      (λ i. ap (λ xs. led_at xs layer.sets.rows i at) noted
      ∙ ap (λ (rs : Rows). led_at (filter (λ (e : Earlier). nat_lt rev e.rev) before.earlier.items) rs i at) rows
      ∙ led_filtered rev before.earlier.items before.sets.rows i at (omega (arith, from, base)))
      (is.tells at (omega (arith, from, base, up)) (omega (arith, to, cursor)));
}

-- a layer is that of other snapshots too, which are the same from its base to its cursor
pub agreed : (layer : Layer) (snaps others : ℕ → Snap) → ((rev : ℕ) → layer.base ≤ rev → rev ≤ layer.cursor → others rev ≡ snaps rev) → IsLayerOf layer snaps → IsLayerOf layer others
agreed layer snaps others same is = record {
  order = is.order;
  distinct = is.distinct;
  kept = subst (λ (S : Snap). AreKept S layer.nodes layer.roots layer.sets.rows) (sym here) is.kept;
  roots = subst (λ (S : Snap). AreRoots S layer.nodes layer.roots) (sym here) is.roots;
  tells = λ rev from to. subst (λ (S : Snap). Tells layer rev S) (sym (same rev from to)) (is.tells rev from to);
}
  where
    here : others layer.cursor ≡ snaps layer.cursor
    here = same layer.cursor is.order (omega arith)

module _ (layer : Layer) (snaps : ℕ → Snap) (g : Node) (rev : ℕ) (is : IsLayerOf layer snaps) (from : layer.base ≤ rev) (to : rev ≤ layer.cursor) (group : IsGroup (snaps rev).config g) where
  t : Tells layer rev (snaps rev)
  t = is.tells rev from to

  pub bare_answer : ((ids : List ℕ) → KeepsAt layer rev g ids → ⊥) → (v : List Node) → AreAll (GroupWalk (bare layer.config) g) v → (n : Node) → Contains v n ↔ GroupToGroup (snaps rev) g n
  bare_answer none v are n = (
    λ c. (t.closures g n group).0 (inr (none, (are n).0 c)),
    λ w. ⊎_elim
        (λ (ids, keeps, there). absurd (none ids keeps))
        (λ (off, along). (are n).1 along)
        ((t.closures g n group).1 w),
  )

  -- what is kept of the group with this number
  pub kept_ids : (id : ℕ) (ids : List ℕ) → slice_get layer.nodes id ≡ Some g → Some ids ≡ led_at layer.earlier.items layer.sets.rows id rev
      → (n : Node) → IsNamedBy layer.nodes ids n ↔ GroupToGroup (snaps rev) g n
  kept_ids id ids there led n = (
    λ (j, at, h). (t.closures g n group).0 (inl (ids, (id, there, sym led), (j, h, at))),
    λ w. ⊎_elim
        (λ (others, (i, at, led'), (j, h, found)).
        let same : others ≡ ids = same_Some others ids (sym led' ∙ ap (λ k. led_at layer.earlier.items layer.sets.rows k rev) (is.distinct i id g at there) ∙ sym led) in
        (j, found, subst (λ (xs : List ℕ). has xs j ≡ true) same h))
        (λ (off, along). absurd (off ids (id, there, sym led)))
        ((t.closures g n group).1 w),
  )

-- a group without a number is not kept
pub missing_keeps : (layer : Layer) (g : Node) (rev : ℕ) → ((i : ℕ) → slice_get layer.nodes i ≡ Some g → ⊥) → (ids : List ℕ) → KeepsAt layer rev g ids → ⊥
missing_keeps layer g rev missing ids (i, at, led) = missing i at

-- nor is one with a number of which nothing is kept
pub none_keeps : (layer : Layer) (g : Node) (rev id : ℕ) → AreDistinct layer.nodes → slice_get layer.nodes id ≡ Some g → None ≡ led_at layer.earlier.items layer.sets.rows id rev
    → (ids : List ℕ) → KeepsAt layer rev g ids → ⊥
none_keeps layer g rev id distinct there none ids (i, at, led) =
    none-some ids (none ∙ ap (λ j. led_at layer.earlier.items layer.sets.rows j rev) (distinct id i g there at) ∙ led)

-- the names of what is kept
pub named_answer : (layer : Layer) (snaps : ℕ → Snap) (g : Node) (rev : ℕ) (ids : List ℕ) (v : List Node) → AreNamed layer.nodes ids v
    → ((n : Node) → IsNamedBy layer.nodes ids n ↔ GroupToGroup (snaps rev) g n) → (n : Node) → Contains v n ↔ GroupToGroup (snaps rev) g n
named_answer layer snaps g rev ids v named kept n = (
  λ c. let (i, h, at) = (named n).0 c in (kept n).0 (i, at, h),
  λ w. let (i, at, h) = (kept n).1 w in (named n).1 (i, h, at),
)
