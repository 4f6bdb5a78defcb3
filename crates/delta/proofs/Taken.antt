-- A layer after a commit.
use Rattle.std.proofs.Common.{ℕ, ◌+◌, ◌≡◌, ◌≤◌, true, false, ◌||◌, List, map, refl, sym, ◌∙◌, ap, subst, arith, ⊎_elim, inl, inr}
use Rattle.std.specs.Prelude.{◌↔◌, Bool, [], Some, Contains}
use Rattle.std.proofs.lemmas.Bool.{cases_lt, or_left, or_right}
use Rattle.std.proofs.lemmas.Option.{same_Some}
use Rattle.names.specs.declared.node.Node.{Node}
use Rattle.names.specs.declared.tuple.Tuple.{Tuple}
use Rattle.names.specs.declared.commit.Event.{Event}
use Rattle.names.specs.declared.commit.Commit.TheVariants.{Tuples}
use Rattle.meaning.specs.Config.{Configured, Defines, rel_of}
use Rattle.meaning.specs.Snap.{Snap, set_of}
use Rattle.meaning.specs.Membership.{HasSet}
use Rattle.meaning.specs.History.{after_commit}
use Rattle.meaning.proofs.Lists.{contains_map}
use Rattle.least_sets.specs.World.{has}
use Rattle.least_sets.specs.Groups.{groups, GroupsAreWalks}
use Rattle.least_sets.specs.Walks.{IsTouched, here}
use Rattle.region.specs.Tables.{Rows, kept, arc_in, row_of}
use Rattle.region.specs.Gathered.{IsTurned}
use Rattle.region.specs.Refreshed.{IsRefreshed}
use Rattle.graphs.specs.Groups.{IsGroupArc, GroupWalk}
use Rattle.facts.specs.Numbers.{AreNumbersOf}
use Rattle.facts.specs.inside.Tables.{grew_none, grew_get, numbers_keep}
use Rattle.leopard.specs.Groups.{IsGroup}
use Rattle.leopard.specs.Index.{bare}
use Rattle.delta.specs.declared.layer.Layer.{Layer}
use Rattle.delta.specs.Telling.{IsMore, MayTell}
use Rattle.delta.specs.Noted.{IsNoted, led_at}
use Rattle.delta.specs.Layers.{AreKept, AreRoots, IsAbove, IsIn, IsLayerOf, IsNext, IsOfSet, Tells}
use Rattle.delta.specs.inside.Changing.{AreOfEvents}
use Rattle.delta.specs.inside.Growing.{may_more}
use Rattle.delta.proofs.After.{after, kept_same}
use Rattle.delta.proofs.Replayed.{tuple_or_same}
use Rattle.delta.proofs.Rows.{noted_before, led_same}
use Rattle.delta.proofs.Told.{tells_now, tells_still}

abbrev pub tuples_of : List Event → List Tuple
tuples_of events = map (λ (e : Event). e.tuple) events

-- the arcs of a group without events are what they were
module _ (S T : Snap) (events : List Event) (next : T ≡ after_commit S (Tuples events)) (g : Node) (quiet : (e : Event) → Contains events e → IsOfSet e.tuple → e.tuple.node ≡ g → ⊥) where
  set_same : (m : Node) → HasSet S g m ↔ HasSet T g m
  set_same m = ⊎_elim
      (λ (e, c, is). absurd (quiet e c (m, ap (λ (t : Tuple). t.subject) is) (ap (λ (t : Tuple). t.node) is)))
      (λ same. same)
      (tuple_or_same (record { node = g; subject = set_of m }) S T events next)

  same_config : T.config ≡ S.config
  same_config = ap (λ (x : Snap). x.config) next

  pub arc_same : (m : Node) → IsGroupArc S g m ↔ IsGroupArc T g m
  arc_same m = (
    λ h. ⊎_elim
        (λ t. inl ((set_same m).0 t))
        (λ (d, c, defines, computes, is). inr (d, c, subst (λ (k : Configured). Defines k (rel_of g) d) (sym same_config) defines, computes, is))
        h,
    λ h. ⊎_elim
        (λ t. inl ((set_same m).1 t))
        (λ (d, c, defines, computes, is). inr (d, c, subst (λ (k : Configured). Defines k (rel_of g) d) same_config defines, computes, is))
        h,
  )

-- What was taken: the snapshot before is S, the one after T. Numbers were given to the groups above the events, and then to those that were asked.
module _ (S T : Snap) (events : List Event) (next : T ≡ after_commit S (Tuples events)) (nodes nodes1 nodes' : List Node) (roots turned roots' changed asked : List ℕ) (old new : Rows)
    (first : IsMore nodes nodes1) (then : IsMore nodes1 nodes')
    (above : AreNumbersOf nodes1 turned (IsAbove S.config (Contains (tuples_of events))))
    (are : AreOfEvents nodes1 events changed)
    (all : (i : ℕ) → has roots' i ≡ (has roots i || has turned i))
    (was : AreKept S nodes roots old) (had : AreRoots S nodes roots)
    (r : IsRefreshed (MayTell T nodes') old new roots' turned changed [] asked) where
  pub was1 : AreKept S nodes1 roots old
  was1 = kept_same S nodes nodes1 roots old old first (λ n. refl) was

  pub turns : IsTurned roots roots' turned
  turns n off = all n ∙ ap (λ b. has roots n || b) off ∙ or_none (has roots n)
    where
      or_none : (b : Bool) → (b || false) ≡ b
      or_none true = refl
      or_none false = refl

  pub stays : (i : ℕ) → kept old i ≡ true → (IsTouched (arc_in old) changed i → ⊥) → MayTell T nodes' i (groups was1.arcs i)
  stays i h off =
      let may = may_more S nodes1 nodes' i (groups was1.arcs i) then (was1.told i h) in
      let same : (was1.told i h).group ≡ may.group = same_Some (was1.told i h).group may.group (sym (grew_get nodes1 nodes' i (was1.told i h).group then.grew (was1.told i h).named) ∙ may.named) in
      let quiet : (e : Event) → Contains events e → IsOfSet e.tuple → e.tuple.node ≡ may.group → ⊥ = λ e c of is.
      off (record { end = i; among = are.complete e i c of ((was1.told i h).named ∙ ap (λ x. Some x) (same ∙ sym is)); walk = here }) in
      record {
        group = may.group;
        named = may.named;
        arcs = may.arcs;
        fact_is = may.fact_is;
        ends = numbers_keep nodes' nodes' may.arcs (IsGroupArc S may.group) (IsGroupArc T may.group) (grew_none nodes') (arc_same S T events next may.group quiet) may.ends;
      }

  pub now_kept : AreKept T nodes' roots' new
  now_kept = after S T nodes1 nodes' old new roots roots' turned changed [] asked was1 stays turns r

  pub now_roots : AreRoots T nodes' roots'
  now_roots g (group, (t, there, of, along)) = ⊎_elim
      (λ (e, c, is). (
      let found = above.complete g (before group, (t, subst (λ (x : Tuple). Contains (tuples_of events) x) is (mapped events e c), of, before_walk along)) in
      (found.0, all found.0 ∙ or_right (has roots found.0) (has turned found.0) found.1, grew_get nodes1 nodes' found.0 g then.grew found.2)))
      (λ same. (
      let found = had g (before group, (t, same.1 there, of, before_walk along)) in
      (found.0, all found.0 ∙ or_left (has roots found.0) (has turned found.0) found.1, grew_get nodes1 nodes' found.0 g then.grew (grew_get nodes nodes1 found.0 g first.grew found.2))))
      (tuple_or_same t S T events next)
    where
      config : T.config ≡ S.config
      config = ap (λ (x : Snap). x.config) next

      before : IsGroup T.config g → IsGroup S.config g
      before h = subst (λ (c : Configured). IsGroup c g) config h

      before_walk : {n : Node} → GroupWalk (bare T.config) g n → GroupWalk (bare S.config) g n
      before_walk {n} h = subst (λ (c : Configured). GroupWalk (bare c) g n) config h

      mapped : (es : List Event) (e : Event) → Contains es e → Contains (tuples_of es) e.tuple
      mapped es e c = contains_map (λ (x : Event). x.tuple) es e c

-- the layer of the revision after
pub taken : (law : GroupsAreWalks) (before layer : Layer) (snaps : ℕ → Snap) (events : List Event) (T : Snap) → IsLayerOf before snaps → IsNext snaps before.cursor events T
    → layer.config ≡ before.config → layer.base ≡ before.base → layer.cursor ≡ before.cursor + 1 → IsMore before.nodes layer.nodes
    → AreKept T layer.nodes layer.roots layer.sets.rows → AreRoots T layer.nodes layer.roots
    → IsNoted layer.cursor before.sets.rows layer.sets.rows before.earlier.items layer.earlier.items
    → IsLayerOf layer snaps
taken law before layer snaps events T is next config base cursor more kept roots noted = record {
  order = let o = is.order in omega (arith, o, base, cursor);
  distinct = more.distinct is.distinct;
  kept = subst (λ (S : Snap). AreKept S layer.nodes layer.roots layer.sets.rows) (sym there) kept;
  roots = subst (λ (S : Snap). AreRoots S layer.nodes layer.roots) (sym there) roots;
  tells = λ rev from to. ⊎_elim
      (λ lt. tells_still before layer rev (snaps rev) config more
      (λ i. noted_before layer.cursor before.sets.rows layer.sets.rows i rev (omega (arith, lt, cursor)) before.earlier.items layer.earlier.items noted)
      (is.tells rev (subst (λ b. b ≤ rev) base from) (omega (arith, lt))))
      (λ le. subst (λ q. Tells layer q (snaps q)) (let e : layer.cursor ≡ rev = omega (arith, le, to, cursor) in e)
      (subst (λ (S : Snap). Tells layer layer.cursor S) (sym there) (tells_now law layer layer.cursor T same_config (more.distinct is.distinct) kept roots layer.noted.up_to)))
      (cases_lt rev (before.cursor + 1));
}
  where
    there : snaps layer.cursor ≡ T
    there = ap snaps cursor ∙ next.now

    same_config : T.config ≡ layer.config
    same_config = ap (λ (x : Snap). x.config) next.after ∙ (is.tells before.cursor is.order (omega arith)).config ∙ sym config

-- nothing was taken: more groups may have numbers
pub kept_layer : (before layer : Layer) (snaps : ℕ → Snap) → IsLayerOf before snaps → layer.config ≡ before.config → layer.base ≡ before.base → layer.cursor ≡ before.cursor
    → IsMore before.nodes layer.nodes → layer.roots ≡ before.roots → ((n : ℕ) → row_of layer.sets.rows n ≡ row_of before.sets.rows n) → layer.earlier.items ≡ before.earlier.items → IsLayerOf layer snaps
kept_layer before layer snaps is config base cursor more roots rows noted = record {
  order = let o = is.order in omega (arith, o, base, cursor);
  distinct = more.distinct is.distinct;
  kept = subst (λ c. AreKept (snaps c) layer.nodes layer.roots layer.sets.rows) (sym cursor)
      (subst (λ xs. AreKept (snaps before.cursor) layer.nodes xs layer.sets.rows) (sym roots)
      (kept_same (snaps before.cursor) before.nodes layer.nodes before.roots before.sets.rows layer.sets.rows more rows is.kept));
  roots = λ g h.
      let found = is.roots g (subst (λ c. IsAbove (snaps c).config (IsIn (snaps c)) g) cursor h) in
      (found.0, subst (λ xs. has xs found.0 ≡ true) (sym roots) found.1, grew_get before.nodes layer.nodes found.0 g more.grew found.2);
  tells = λ rev from to. tells_still before layer rev (snaps rev) config more
      (λ i. ap (λ xs. led_at xs layer.sets.rows i rev) noted ∙ led_same before.earlier.items before.sets.rows layer.sets.rows i rev rows)
      (is.tells rev (subst (λ b. b ≤ rev) base from) (subst (λ c. rev ≤ c) cursor to));
}
