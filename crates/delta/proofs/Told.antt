-- What a layer tells of a revision.
use Rattle.std.proofs.Common.{ℕ, ◌≡◌, ◌≤◌, true, List, refl, sym, ◌∙◌, subst, arith, ⊎_elim, ◌⊎◌, inl, inr}
use Rattle.std.specs.Prelude.{◌↔◌, Some, Contains}
use Rattle.std.specs.List.{slice_get}
use Rattle.std.proofs.lemmas.Bool.{cases_Bool, false≢true}
use Rattle.std.proofs.lemmas.Option.{slice_get_within}
use Rattle.names.specs.declared.node.Node.{Node}
use Rattle.names.specs.declared.tuple.Tuple.{Tuple}
use Rattle.meaning.specs.Config.{Configured}
use Rattle.meaning.specs.Snap.{Snap, set_of}
use Rattle.idsets.specs.Naming.{AreDistinct}
use Rattle.least_sets.specs.World.{has}
use Rattle.least_sets.specs.Groups.{GroupsAreWalks}
use Rattle.region.specs.Tables.{kept, row_of}
use Rattle.graphs.specs.Groups.{GroupWalk}
use Rattle.facts.specs.inside.Tables.{grew_get, grew_longer}
use Rattle.leopard.specs.Groups.{IsGroup}
use Rattle.leopard.specs.Index.{bare}
use Rattle.delta.specs.declared.earlier.Earlier.{Earlier}
use Rattle.delta.specs.declared.layer.Layer.{Layer}
use Rattle.delta.specs.Telling.{IsMore}
use Rattle.delta.specs.Noted.{led_in, led_at}
use Rattle.delta.specs.Layers.{AreKept, AreRoots, KeepsAt, Tells}
use Rattle.delta.proofs.Bare.{bare_walk, walk_bare}
use Rattle.delta.proofs.Closures.{row_there, there_row, closure, kept_named, led_named}
use Rattle.delta.proofs.Lists.{find_node, got_before}
use Rattle.delta.proofs.Rows.{led_now}

-- Of the revision of the cursor it tells what is kept.
module _ (law : GroupsAreWalks) (layer : Layer) (rev : ℕ) (S : Snap) (config : S.config ≡ layer.config) (distinct : AreDistinct layer.nodes)
    (k : AreKept S layer.nodes layer.roots layer.sets.rows) (roots : AreRoots S layer.nodes layer.roots)
    (low : (e : Earlier) → Contains layer.earlier.items e → e.rev ≤ rev) where
  now : (i : ℕ) → led_at layer.earlier.items layer.sets.rows i rev ≡ led_in layer.sets.rows i
  now i = led_now layer.earlier.items layer.sets.rows i rev low

  kept_tells : (g n : Node) (ids : List ℕ) → KeepsAt layer rev g ids → ((j : ℕ) × (has ids j ≡ true) × (slice_get layer.nodes j ≡ Some n)) ↔ GroupWalk S g n
  kept_tells g n ids (i, at, led) = closure S layer.nodes layer.roots layer.sets.rows k law i g ids at (sym (now i) ∙ led) n

  is_kept : (g : Node) (i : ℕ) → slice_get layer.nodes i ≡ Some g → kept layer.sets.rows i ≡ true → (ids : List ℕ) × KeepsAt layer rev g ids
  is_kept g i at h = let there = there_row (row_of layer.sets.rows i) h in (there.0, (i, at, now i ∙ there.1))

  -- it is kept, or it is not
  either : (g : Node) → ((ids : List ℕ) × KeepsAt layer rev g ids) ⊎ ((ids : List ℕ) → KeepsAt layer rev g ids → ⊥)
  either g = ⊎_elim
      (λ (i, at). ⊎_elim
      (λ h. inl (is_kept g i at h))
      (λ h. inr (λ ids (j, there, led).
      let same : j ≡ i = distinct j i g there at in
      let row = row_there (row_of layer.sets.rows j) ids (sym (now j) ∙ led) in
      absurd (false≢true (sym h ∙ subst (λ q. kept layer.sets.rows q ≡ true) same row.0))))
      (cases_Bool (kept layer.sets.rows i)))
      (λ none. inr (λ ids (j, there, led). none j there))
      (find_node layer.nodes g)

  -- from a group that is not kept no tuple leads on
  leads_bare : (g n : Node) → IsGroup S.config g → ((ids : List ℕ) → KeepsAt layer rev g ids → ⊥) → GroupWalk S g n → GroupWalk (bare S.config) g n
  leads_bare g n group none w = walk_bare S g n
      (λ h m along there.
      let t : Tuple = record { node = h; subject = set_of m } in
      let root = roots g (group, (t, there, (m, refl), along)) in
      let found = is_kept g root.0 root.2 (k.held.from_roots root.0 root.1) in
      none found.0 found.1)
      w

  pub tells_now : Tells layer rev S
  tells_now = record {
    config = config;
    closures = λ g n group. (
      λ h. ⊎_elim
          (λ (ids, keeps, there). (kept_tells g n ids keeps).0 there)
          (λ (none, w). bare_walk S g n (subst (λ (c : Configured). GroupWalk (bare c) g n) (sym config) w))
          h,
      λ w. ⊎_elim
          (λ (ids, keeps). inl (ids, keeps, (kept_tells g n ids keeps).1 w))
          (λ none. inr (none, subst (λ (c : Configured). GroupWalk (bare c) g n) config (leads_bare g n group none w)))
          (either g),
    );
    within = λ i ids led.
        let is = sym (now i) ∙ led in
        let row = row_there (row_of layer.sets.rows i) ids is in
        let named = kept_named S layer.nodes layer.roots layer.sets.rows k i row.0 in (
          slice_get_within layer.nodes i named.0 named.1,
          λ j there.
              let end = led_named S layer.nodes layer.roots layer.sets.rows k law i ids is j there in
              slice_get_within layer.nodes j end.0 end.1,
        );
  }

-- It tells of an earlier revision what it told, where more groups have numbers and what it leads to there is the same.
module _ (before layer : Layer) (rev : ℕ) (S : Snap) (config : layer.config ≡ before.config) (more : IsMore before.nodes layer.nodes)
    (led : (i : ℕ) → led_at layer.earlier.items layer.sets.rows i rev ≡ led_at before.earlier.items before.sets.rows i rev)
    (t : Tells before rev S) where
  keeps_still : (g : Node) (ids : List ℕ) → KeepsAt before rev g ids → KeepsAt layer rev g ids
  keeps_still g ids (i, at, is) = (i, grew_get before.nodes layer.nodes i g more.grew at, led i ∙ is)

  kept_then : (g : Node) (ids : List ℕ) → KeepsAt layer rev g ids → KeepsAt before rev g ids
  kept_then g ids (i, at, is) =
      let was = sym (led i) ∙ is in
      (i, got_before before.nodes layer.nodes i g more.grew (t.within i ids was).0 at, was)

  there_then : (g n : Node) (ids : List ℕ) → KeepsAt layer rev g ids → ((j : ℕ) × (has ids j ≡ true) × (slice_get layer.nodes j ≡ Some n)) → ((j : ℕ) × (has ids j ≡ true) × (slice_get before.nodes j ≡ Some n))
  there_then g n ids (i, at, is) (j, h, there) = (j, h, got_before before.nodes layer.nodes j n more.grew ((t.within i ids (sym (led i) ∙ is)).1 j h) there)

  pub tells_still : Tells layer rev S
  tells_still = record {
    config = t.config ∙ sym config;
    closures = λ g n group. (
      λ h. (t.closures g n group).0 (⊎_elim
          (λ (ids, keeps, there). inl (ids, kept_then g ids keeps, there_then g n ids keeps there))
          (λ (none, w). inr ((λ ids keeps. none ids (keeps_still g ids keeps)), subst (λ (c : Configured). GroupWalk (bare c) g n) config w))
          h),
      λ w. ⊎_elim
          (λ (ids, keeps, (j, h, there)). inl (ids, keeps_still g ids keeps, (j, h, grew_get before.nodes layer.nodes j n more.grew there)))
          (λ (none, along). inr ((λ ids keeps. none ids (kept_then g ids keeps)), subst (λ (c : Configured). GroupWalk (bare c) g n) (sym config) along))
          ((t.closures g n group).1 w),
    );
    within = λ i ids is.
        let was = t.within i ids (sym (led i) ∙ is) in
        let l = grew_longer before.nodes layer.nodes more.grew in (
          omega (arith, was.0, l),
          λ j h. let lt = was.1 j h in omega (arith, lt, l),
        );
  }
