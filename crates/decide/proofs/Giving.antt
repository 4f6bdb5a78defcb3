-- A node has the user, and all that waited for it are to be looked at.
use Rattle.std.proofs.Common.{◌≡◌, ℕ, suc, ◌<◌, List, [], ◌∷◌, ◌++◌, true, false, length, set, refl, ap, ◌∙◌, sym, subst, inl, inr, ⊎_elim, arith}
use Rattle.std.specs.Prelude.{◌⊎◌, Contains, Some, None}
use Rattle.std.proofs.lemmas.Bool.{cases_eq, false≢true}
use Rattle.std.proofs.lemmas.List.{length-set}
use Rattle.std.proofs.lemmas.List.Elements.{Contains-append_left, Contains-push, Contains-push_cases}
use Rattle.names.specs.declared.object.Object.{Object}
use Rattle.names.specs.declared.node.Node.{Node}
use Rattle.meaning.specs.Snap.{Snap}
use Rattle.meaning.specs.Config.{IsAt, rel_of}
use Rattle.config.specs.Places.{StandsAt}
use Rattle.meaning.proofs.Lists.{contains_none}
use Rattle.decide.specs.declared.search.Search.{Search}
use Rattle.decide.specs.declared.search.Opened.{Opened}
use Rattle.decide.specs.inside.Under.{Under}
use Rattle.decide.specs.inside.Searches.{Stands, IsStacked, Waits, IsNumberOf, Pushes, Wakes, AreFalling, sures}
use Rattle.decide.specs.inside.Reads.{IsKept}
use Rattle.decide.specs.inside.Running.{IsRunning}
use Rattle.decide.proofs.Elements.{Holds, holds_same, holds_set, holds_stored, holds_set_back, contains_or_not}
use Rattle.decide.proofs.Pushing.{pushed_long, pushed_stays, pushed_here, pushed_from}
use Rattle.decide.proofs.SearchLemmas.{waits_stuck, kept_same}
use Rattle.decide.proofs.Counting.{sures_given}

pub wakes_none : (s : Search) → Wakes s s []
wakes_none s = record {
  long = refl;
  stays = λ l i on. on;
  woken = λ w e c at. absurd (contains_none w c);
  only = λ l i on. inl on;
  falling = λ falls. falls;
}

pub wakes_one : (r s t : Search) (xs : List ℕ) (w : ℕ) (e : Opened) → Wakes r s xs → Stands r w e
    → e.level < length s.stacks.items → Pushes s.stacks.items t.stacks.items e.level w → (AreFalling s.frames.items → AreFalling t.frames.items) → Wakes r t (xs ++ w ∷ [])
wakes_one r s t xs w e wakes at there pushes falls = record {
  long = pushed_long s.stacks.items t.stacks.items e.level w pushes ∙ wakes.long;
  stays = λ l i on. pushed_stays s.stacks.items t.stacks.items e.level w pushes l i (wakes.stays l i on);
  woken = λ v f c standing. ⊎_elim
      (λ before. pushed_stays s.stacks.items t.stacks.items e.level w pushes f.level v (wakes.woken v f before standing))
      (λ same.
      let here : e ≡ f = holds_same r.opened.items v e f (subst (λ q. Holds r.opened.items q e) same at) standing in
      let on = pushed_here s.stacks.items t.stacks.items e.level w pushes there in
      subst (λ (x : Opened). IsStacked t x.level v) here (subst (IsStacked t e.level) same on))
      (Contains-push_cases xs w v c);
  only = λ l i on. ⊎_elim
      (λ before. ⊎_elim inl (λ (c, level). inr (Contains-append_left xs (w ∷ []) i c, level)) (wakes.only l i before))
      (λ (same, low). inr (
        subst (Contains (xs ++ w ∷ [])) same (Contains-push xs w),
        λ f standing. ap (λ (x : Opened). x.level) (holds_same r.opened.items i f e standing (subst (λ q. Holds r.opened.items q e) same at)) ∙ sym low,
      ))
      (pushed_from s.stacks.items t.stacks.items e.level w pushes l i on);
  falling = λ falling. falls (wakes.falling falling);
}

-- what a search is after it, where none waits for the node any more
pub record Gave (s t : Search) (i : ℕ) (e f : Opened) : Type 0 where
  pub at : Stands s i e
  pub opened : t.opened.items ≡ set s.opened.items i f
  pub node : f.node ≡ e.node
  pub level : f.level ≡ e.level
  pub place : f.place ≡ e.place
  pub sure : f.sure ≡ true
  pub alone : f.waiting.items ≡ []
  pub own : f.own ≡ e.own
  pub parents : f.parents ≡ e.parents
  pub long : length t.stacks.items ≡ length s.stacks.items
  pub stays : (l j : ℕ) → IsStacked s l j → IsStacked t l j
  pub woken : (w : ℕ) (g : Opened) → Contains e.waiting.items w → Stands s w g → IsStacked t g.level w
  pub only : (l j : ℕ) → IsStacked t l j → IsStacked s l j ⊎ (Contains e.waiting.items j × ((g : Opened) → Stands s j g → g.level ≡ l))
  pub falling : AreFalling s.frames.items → AreFalling t.frames.items

module _ (s t : Search) (i : ℕ) (e f : Opened) (gave : Gave s t i e f) where
  cases : (j : ℕ) (g : Opened) → Stands t j g → ((j ≡ i) × (g ≡ f)) ⊎ ((j ≡ i → ⊥) × Stands s j g)
  cases j g at = holds_set_back s.opened.items i f j g (subst (λ xs. Holds xs j g) gave.opened at)

  kept : (j : ℕ) (g : Opened) → (j ≡ i → ⊥) → Stands s j g → Stands t j g
  kept j g other at = subst (λ xs. Holds xs j g) (sym gave.opened) (holds_set s.opened.items i f j g other at)

  pub as_long : length t.opened.items ≡ length s.opened.items
  as_long = ap length gave.opened ∙ length-set s.opened.items i f

  pub gave_sures : (g : Opened) → Stands s i g → g.sure ≡ false → sures s < sures t
  gave_sures g at unsure =
      sures_given s t i e f gave.at gave.opened (ap (λ (x : Opened). x.sure) (holds_same s.opened.items i e g gave.at at) ∙ unsure) gave.sure

  pub gave_numbers : (j k : ℕ) (n : Node) → IsNumberOf s j n k → IsNumberOf t j n k
  gave_numbers j k n (g, at, node, level) = ⊎_elim
      (λ same.
      let here : e ≡ g = holds_same s.opened.items j e g (subst (λ q. Holds s.opened.items q e) (sym same) gave.at) at in
      let stored : Stands t i f = subst (λ xs. Holds xs i f) (sym gave.opened) (holds_stored s.opened.items i f gave.at.0) in (
        f,
        subst (λ q. Holds t.opened.items q f) (sym same) stored,
        gave.node ∙ ap (λ (x : Opened). x.node) here ∙ node,
        gave.level ∙ ap (λ (x : Opened). x.level) here ∙ level,
      ))
      (λ other. (g, kept j g other at, node, level))
      (cases_eq j i)

  -- who does not wait for the node waits as before
  waits_still : (j : ℕ) → (Contains e.waiting.items j → ⊥) → (m : Node) → Waits s m j → Waits t m j
  waits_still j not m (k, g, at, node, unsure, c) = ⊎_elim
      (λ same.
      let here : g ≡ e = holds_same s.opened.items k g e at (subst (λ q. Holds s.opened.items q e) (sym same) gave.at) in
      absurd (not (subst (λ (x : Opened). Contains x.waiting.items j) here c)))
      (λ other. (k, g, kept k g other at, node, unsure, c))
      (cases_eq k i)

  module _ (S : Snap) (u : Object) (has : Under S u (suc e.level) e.node) (r : IsRunning S u s (Some i)) where
    at_all : (j : ℕ) (g : Opened) → Stands t j g → IsAt S.config g.node g.level
    at_all j g at = ⊎_elim
        (λ (_, same).
        let named : IsAt S.config f.node e.level = subst (λ m. IsAt S.config m e.level) (sym gave.node) (r.at i e gave.at) in
        let whole : IsAt S.config f.node f.level = subst (IsAt S.config f.node) (sym gave.level) named in
        subst (λ (x : Opened). IsAt S.config x.node x.level) (sym same) whole)
        (λ (_, old). r.at j g old)
        (cases j g at)

    placed_all : (j : ℕ) (g : Opened) → Stands t j g → StandsAt S.config (rel_of g.node) g.place
    placed_all j g at = ⊎_elim
        (λ (_, same).
        let named : StandsAt S.config (rel_of f.node) e.place = subst (λ m. StandsAt S.config (rel_of m) e.place) (sym gave.node) (r.placed i e gave.at) in
        let whole : StandsAt S.config (rel_of f.node) f.place = subst (StandsAt S.config (rel_of f.node)) (sym gave.place) named in
        subst (λ (x : Opened). StandsAt S.config (rel_of x.node) x.place) (sym same) whole)
        (λ (_, old). r.placed j g old)
        (cases j g at)

    right_all : (j : ℕ) (g : Opened) → Stands t j g → g.sure ≡ true → Under S u (suc g.level) g.node
    right_all j g at sure = ⊎_elim
        (λ (_, same).
        let named : Under S u (suc e.level) f.node = subst (Under S u (suc e.level)) (sym gave.node) has in
        let whole : Under S u (suc f.level) f.node = subst (λ k. Under S u (suc k) f.node) (sym gave.level) named in
        subst (λ (x : Opened). Under S u (suc x.level) x.node) (sym same) whole)
        (λ (_, old). r.right j g old sure)
        (cases j g at)

    pub gave_running : IsRunning S u t None
    gave_running = record {
      at = at_all;
      placed = placed_all;
      stack_there = λ j g at. ⊎_elim
          (λ (_, same).
          let lt = r.stack_there i e gave.at in
          let level = ap (λ (x : Opened). x.level) same ∙ gave.level in
          omega (arith, lt, level, gave.long))
          (λ (_, old). let lt = r.stack_there j g old in omega (arith, lt, gave.long))
          (cases j g at);
      waiting_there = λ j w g at c. ⊎_elim
          (λ (_, same). absurd (contains_none w (subst (λ xs. Contains xs w) (ap (λ (x : Opened). x.waiting.items) same ∙ gave.alone) c)))
          (λ (_, old). let lt = r.waiting_there j w g old c in omega (arith, lt, as_long))
          (cases j g at);
      stacked_there = λ l j on. ⊎_elim
          (λ old. let lt = r.stacked_there l j old in omega (arith, lt, as_long))
          (λ (c, _). let lt = r.waiting_there i j e gave.at c in omega (arith, lt, as_long))
          (gave.only l j on);
      leveled = λ l j g on at. ⊎_elim
          (λ (same, here).
          let old : Stands s j e = subst (λ q. Holds s.opened.items q e) (sym same) gave.at in
          ap (λ (x : Opened). x.level) here ∙ gave.level ∙ ⊎_elim (λ before. r.leveled l j e before old) (λ (_, level). level e old) (gave.only l j on))
          (λ (_, old). ⊎_elim (λ before. r.leveled l j g before old) (λ (_, level). level g old) (gave.only l j on))
          (cases j g at);
      falling = gave.falling r.falling;
      right = right_all;
      kept = λ j g at. ⊎_elim
          (λ (_, same). subst (IsKept S u) (sym same) (kept_same S u e f gave.node gave.own gave.parents (r.kept i e gave.at)))
          (λ (_, old). r.kept j g old)
          (cases j g at);
      covered = λ j g at unsure _. ⊎_elim
          (λ (_, same). absurd (false≢true (sym unsure ∙ ap (λ (x : Opened). x.sure) same ∙ gave.sure)))
          (λ (other, old). ⊎_elim
          (λ c. inl (gave.woken j g c old))
          (λ not. ⊎_elim
          (λ on. inl (gave.stays g.level j on))
          (λ stuck. inr (waits_stuck S u s t j g g (waits_still j not) refl refl stuck))
          (r.covered j g old unsure (λ equal. other (sym (some_same equal)))))
          (contains_or_not e.waiting.items j))
          (cases j g at);
    }
      where
        some_same : {j : ℕ} → Some i ≡ Some j → i ≡ j
        some_same equal = cc

-- a store of a node at the same level moves no other
module _ (xs : List Opened) (i : ℕ) (e b : Opened) (at : Holds xs i e) (level : b.level ≡ e.level) where
  pub stored_before : (w : ℕ) (h : Opened) → Holds (set xs i b) w h → (g : Opened) × Holds xs w g × (h.level ≡ g.level)
  stored_before w h standing = ⊎_elim
      (λ (same, here). (e, subst (λ q. Holds xs q e) (sym same) at, ap (λ (x : Opened). x.level) here ∙ level))
      (λ (_, old). (h, old, refl))
      (holds_set_back xs i b w h standing)

  pub stored_after : (w : ℕ) (g : Opened) → Holds xs w g → (h : Opened) × Holds (set xs i b) w h × (h.level ≡ g.level)
  stored_after w g standing = ⊎_elim
      (λ same.
      let here : e ≡ g = holds_same xs w e g (subst (λ q. Holds xs q e) (sym same) at) standing in
      (b, subst (λ q. Holds (set xs i b) q b) (sym same) (holds_stored xs i b at.0), level ∙ ap (λ (x : Opened). x.level) here))
      (λ other. (g, holds_set xs i b w g other standing, refl))
      (cases_eq w i)
