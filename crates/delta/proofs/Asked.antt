-- Who was asked.
use Rattle.std.proofs.Common.{ℕ, ◌≡◌, true, ◌||◌, List, [], sym, ◌∙◌, ap, subst, refl, ⊎_elim, ◌⊎◌, inl, inr}
use Rattle.std.specs.Prelude.{Some, nat_eq, Contains}
use Rattle.std.specs.List.{slice_get, IsDistinct}
use Rattle.std.proofs.lemmas.Bool.{or_cases, or_left, cases_Bool, false≢true}
use Rattle.std.proofs.lemmas.Option.{same_Some}
use Rattle.names.specs.declared.node.Node.{Node}
use Rattle.names.specs.declared.tuple.Tuple.{Tuple}
use Rattle.names.specs.declared.commit.Event.{Event}
use Rattle.names.specs.declared.commit.Commit.TheVariants.{Tuples}
use Rattle.meaning.specs.Snap.{Snap, set_of}
use Rattle.meaning.specs.Membership.{HasSet}
use Rattle.meaning.specs.History.{after_commit}
use Rattle.meaning.proofs.Lists.{contains_map_back}
use Rattle.idsets.specs.Naming.{AreDistinct}
use Rattle.least_sets.specs.World.{has}
use Rattle.least_sets.specs.Groups.{groups}
use Rattle.least_sets.specs.Walks.{Walk, IsTouched, arc_of, here, on}
use Rattle.least_sets.proofs.WalkLemmas.{walk_from}
use Rattle.region.specs.Steps.{is_told}
use Rattle.region.specs.Tables.{Rows, kept, arc_in}
use Rattle.region.specs.Refreshed.{IsRefreshed}
use Rattle.region.proofs.Walked.{told_nodes}
use Rattle.graphs.specs.Groups.{IsGroupArc, GroupWalk}
use Rattle.graphs.specs.Groups as groups
use Rattle.facts.specs.Numbers.{AreNumbersOf}
use Rattle.facts.specs.inside.Tables.{grew_get}
use Rattle.leopard.specs.Groups.{IsGroup}
use Rattle.delta.specs.Telling.{IsMore, MayTell}
use Rattle.delta.specs.Layers.{AreKept, AreRoots, IsAbove, IsIn}
use Rattle.delta.specs.Layers as layers
use Rattle.delta.specs.Asked.{HasEvent}
use Rattle.delta.specs.inside.Changing.{AreOfEvents}
use Rattle.delta.specs.inside.Handing.{IsAnew}
use Rattle.delta.proofs.After.{after, arcs_stay, told_reached, may_tell}
use Rattle.delta.proofs.Bare.{bare_walk}
use Rattle.delta.proofs.Closures.{along, arc_kept, ends_of, kept_named, walked}
use Rattle.delta.proofs.Taken.{tuples_of, was1, turns, stays}

module _ (S T : Snap) (events : List Event) (next : T ≡ after_commit S (Tuples events)) (nodes nodes1 nodes' : List Node) (roots turned roots' changed asked : List ℕ) (old new : Rows)
    (first : IsMore nodes nodes1) (then : IsMore nodes1 nodes') (distinct : AreDistinct nodes')
    (above : AreNumbersOf nodes1 turned (IsAbove S.config (Contains (tuples_of events))))
    (are : AreOfEvents nodes1 events changed)
    (all : (i : ℕ) → has roots' i ≡ (has roots i || has turned i))
    (was : AreKept S nodes roots old) (had : AreRoots S nodes roots)
    (r : IsRefreshed (MayTell T nodes') old new roots' turned changed [] asked) where
  abbrev k : AreKept S nodes1 roots old
  k = was1 S T events next nodes nodes1 nodes' roots turned roots' changed asked old new first then above are all was had r

  abbrev now : AreKept T nodes' roots' new
  now = after S T nodes1 nodes' old new roots roots' turned changed [] asked k
      (stays S T events next nodes nodes1 nodes' roots turned roots' changed asked old new first then above are all was had r)
      (turns S T events next nodes nodes1 nodes' roots turned roots' changed asked old new first then above are all was had r) r

  pub asked_once : IsDistinct nat_eq asked
  asked_once = subst (λ xs. IsDistinct nat_eq xs) (sym r.asked_is) r.once

  told : (i : ℕ) → has asked i ≡ true → is_told r.told i ≡ true
  told i h = sym (told_nodes r.told i) ∙ sym (ap (λ xs. has xs i) r.asked_is) ∙ h

  -- a kept group from which arcs lead to a changed one is touched
  touched_by : (i : ℕ) (n : Node) → kept old i ≡ true → slice_get nodes1 i ≡ Some n → IsTouched (arc_in old) changed i → layers.IsTouched S T events n
  touched_by i n h at t =
      let e = are.sound t.end t.among in
      let w = walk_there t.end t.walk in
      let end = walked S nodes1 roots old k i t.end n h at w.1 in
      (e.0, e.1, inl (subst (λ x. GroupWalk S n x) (same_Some end.1.0 e.0.tuple.node (sym end.1.1 ∙ e.3)) end.1.2))
    where
      walk_there : (j : ℕ) → Walk (arc_in old) i j → (kept old j ≡ true) × Walk (along k.arcs) i j
      walk_there j here = (h, here)
      walk_there j (on {b = b} w arc) =
          let before = walk_there b w in
          let step : has (k.arcs b) j ≡ true = sym (k.held.arcs b j before.0) ∙ arc in
          (arc_kept S nodes1 roots old k b j before.0 step, on before.1 step)

  -- what an untouched group leads to was kept
  untouched_kept : (i j : ℕ) → kept old i ≡ true → (IsTouched (arc_in old) changed i → ⊥) → Walk (arc_of (groups now.arcs)) i j → (kept old j ≡ true) × (IsTouched (arc_in old) changed j → ⊥)
  untouched_kept i j h off here = (h, off)
  untouched_kept i j h off (on {b = b} w arc) =
      let before = untouched_kept i b h off w in
      let same = arcs_stay S T nodes1 nodes' old new roots roots' turned changed [] asked k
      (stays S T events next nodes nodes1 nodes' roots turned roots' changed asked old new first then above are all was had r)
      (turns S T events next nodes nodes1 nodes' roots turned roots' changed asked old new first then above are all was had r) r b before.0 before.1 in
      let step : has (k.arcs b) j ≡ true = subst (λ xs. has xs j ≡ true) same arc in
      let there : arc_in old b j ≡ true = k.held.arcs b j before.0 ∙ step in
      (arc_kept S nodes1 roots old k b j before.0 step, λ t. before.1 (record { end = t.end; among = t.among; walk = walk_from there t.walk }))

  -- a group that was asked and not kept is led to from a touched one
  newly : (i : ℕ) (n : Node) → is_told r.told i ≡ true → slice_get nodes' i ≡ Some n → (kept old i ≡ true → ⊥) → layers.IsNewlyLedTo S T events n
  newly i n t at off =
      let reach = told_reached S T nodes1 nodes' old new roots roots' turned changed [] asked k
      (stays S T events next nodes nodes1 nodes' roots turned roots' changed asked old new first then above are all was had r)
      (turns S T events next nodes nodes1 nodes' roots turned roots' changed asked old new first then above are all was had r) r i t in
      let s = reach.start in
      let start_kept = now.held.from_roots s reach.among in
      let start = kept_named T nodes' roots' new now s start_kept in
      let end = walked T nodes' roots' new now s i start.0 start_kept start.1 reach.walk in
      let leads : GroupWalk T start.0 n = subst (λ x. GroupWalk T start.0 x) (same_Some end.1.0 n (sym end.1.1 ∙ at)) end.1.2 in
      ((start.0, touched_start s start.0 start.1 (or_cases (has roots s) (has turned s) (sym (all s) ∙ reach.among)) reach.walk, leads), unnamed)
    where
      touched_start : (s : ℕ) (g : Node) → slice_get nodes' s ≡ Some g → (has roots s ≡ true) ⊎ (has turned s ≡ true) → Walk (arc_of (groups now.arcs)) s i → layers.IsTouched S T events g
      touched_start s g there (inl root) w =
          let h = k.held.from_roots s root in
          let had = kept_named S nodes1 roots old k s h in
          let same : had.0 ≡ g = same_Some had.0 g (sym (grew_get nodes1 nodes' s had.0 then.grew had.1) ∙ there) in
          subst (λ x. layers.IsTouched S T events x) same (⊎_elim
          (λ q. touched_by s had.0 h had.1 ((r.few s q).1 h))
          (λ q. absurd (off (untouched_kept s i h q.1 w).0))
          (r.nodes s (now.held.from_roots s ((all s) ∙ or_left (has roots s) (has turned s) root))))
      touched_start s g there (inr turn) w =
          let (x, (group, (t, c, of, along)), named) = above.sound s turn in
          let back = contains_map_back (λ (e : Event). e.tuple) events t c in
          let same : x ≡ g = same_Some x g (sym (grew_get nodes1 nodes' s x then.grew named) ∙ there) in
          subst (λ y. layers.IsTouched S T events y) same (back.0, back.1, inl (subst (λ (q : Tuple). GroupWalk S x q.node) (sym back.2) (bare_walk S x t.node along)))

      unnamed : (g : Node) → IsGroup S.config g → HasSet S g n → ⊥
      unnamed g group names =
          let root = had g (group, (record { node = g; subject = set_of n }, names, (n, refl), groups.here)) in
          let h = was.held.from_roots root.0 root.1 in
          let h1 : kept old root.0 ≡ true = h in
          let found = (ends_of S nodes roots old was root.0 g h root.2).complete n (inl names) in
          let there = arc_kept S nodes roots old was root.0 found.0 h found.1 in
          let one : found.0 ≡ i = distinct found.0 i n (grew_get nodes1 nodes' found.0 n then.grew (grew_get nodes nodes1 found.0 n first.grew found.2)) at in
          off (subst (λ j. kept old j ≡ true) one there)

  -- a kept group that has changed has an event
  pub asked_few : (i : ℕ) → has asked i ≡ true → IsAnew old changed i → (n : Node) × (slice_get nodes' i ≡ Some n) × (HasEvent events n ⊎ layers.IsNewlyLedTo S T events n)
  asked_few i h anew =
      let t = told i h in
      let may = may_tell S T nodes1 nodes' old new roots roots' turned changed [] asked k
      (stays S T events next nodes nodes1 nodes' roots turned roots' changed asked old new first then above are all was had r)
      (turns S T events next nodes nodes1 nodes' roots turned roots' changed asked old new first then above are all was had r) r i t in (
        may.group,
        may.named,
        ⊎_elim
            (λ q. (
            let e = are.sound i (anew q) in
            inl (e.0, e.1, e.2, same_Some e.0.tuple.node may.group (sym (grew_get nodes1 nodes' i e.0.tuple.node then.grew e.3) ∙ may.named))))
            (λ q. inr (newly i may.group t may.named (λ e. false≢true (sym q ∙ e))))
            (cases_Bool (kept old i)),
      )
