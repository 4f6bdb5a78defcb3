-- A search that keeps what its nodes are: what is to be looked at is covered still.
use Rattle.std.proofs.Common.{◌≡◌, ℕ, suc, ◌<◌, [], ◌∷◌, ◌++◌, length, set, ap, ◌∙◌, sym, subst, inl, inr, ⊎_elim, arith}
use Rattle.std.specs.Prelude.{◌⊎◌, Contains, Option, Some, None}
use Rattle.std.proofs.lemmas.Bool.{cases_eq}
use Rattle.std.proofs.lemmas.List.{length-set}
use Rattle.std.proofs.lemmas.List.Elements.{Contains-push_cases}
use Rattle.names.specs.declared.object.Object.{Object}
use Rattle.meaning.specs.Snap.{Snap}
use Rattle.meaning.specs.Config.{IsAt, rel_of}
use Rattle.config.specs.Places.{StandsAt}
use Rattle.decide.specs.declared.search.Search.{Search}
use Rattle.decide.specs.declared.search.Opened.{Opened}
use Rattle.decide.specs.inside.Under.{Under}
use Rattle.decide.specs.inside.Searches.{Stands, IsStacked, Keeps, Grew, IsMore, Pushes, AreFalling}
use Rattle.decide.specs.inside.Reads.{IsKept}
use Rattle.decide.specs.inside.Running.{IsRunning}
use Rattle.decide.proofs.Elements.{Holds, holds_same, holds_set, holds_stored, holds_set_back}
use Rattle.decide.proofs.Pushing.{IsOn, pushed_long, pushed_stays, pushed_here, pushed_back, pushed_from}
use Rattle.decide.proofs.Counting.{sures_replaced}
use Rattle.decide.proofs.SearchLemmas.{more_refl, grew_keeps, grew_stuck, kept_same}

module _ (S : Snap) (u : Object) (s t : Search) (but except : Option ℕ) (grew : Keeps s t)
    (back : (j : ℕ) (g : Opened) → Stands t j g → (h : Opened) × Stands s j h × IsMore h g)
    (waiting : (j w : ℕ) (g : Opened) → Stands t j g → Contains g.waiting.items w → w < length t.opened.items)
    (stacked : (l j : ℕ) → IsStacked t l j → j < length t.opened.items)
    (leveled : IsRunning S u s but → (l j : ℕ) (g : Opened) → IsStacked t l j → Stands t j g → g.level ≡ l)
    (falling : IsRunning S u s but → AreFalling t.frames.items)
    (kept : IsRunning S u s but → (j : ℕ) (g : Opened) → Stands t j g → IsKept S u g)
    (cover : (j : ℕ) (g : Opened) → Stands t j g → (except ≡ Some j → ⊥) → (but ≡ Some j → ⊥) ⊎ IsStacked t g.level j) where
  pub grew_running : IsRunning S u s but → IsRunning S u t except
  grew_running r = record {
    at = λ j g at.
        let (h, old, more) = back j g at in
        let named : IsAt S.config g.node h.level = subst (λ m. IsAt S.config m h.level) (sym more.node) (r.at j h old) in
        subst (IsAt S.config g.node) (sym more.level) named;
    placed = λ j g at.
        let (h, old, more) = back j g at in
        let named : StandsAt S.config (rel_of g.node) h.place = subst (λ m. StandsAt S.config (rel_of m) h.place) (sym more.node) (r.placed j h old) in
        subst (StandsAt S.config (rel_of g.node)) (sym more.place) named;
    stack_there = λ j g at.
        let (h, old, more) = back j g at in
        let lt = r.stack_there j h old in
        let same = more.level in
        omega (arith, lt, same, grew.long);
    waiting_there = waiting;
    stacked_there = stacked;
    leveled = leveled r;
    falling = falling r;
    right = λ j g at sure.
        let (h, old, more) = back j g at in
        let named : Under S u (suc h.level) g.node = subst (Under S u (suc h.level)) (sym more.node) (r.right j h old (sym more.sure ∙ sure)) in
        subst (λ k. Under S u (suc k) g.node) (sym more.level) named;
    kept = kept r;
    covered = λ j g at no other.
        let (h, old, more) = back j g at in
        ⊎_elim
        (λ free. ⊎_elim
        (λ on. inl (subst (λ k. IsStacked t k j) (sym more.level) (grew.stacked h.level j on)))
        (λ stuck. inr (grew_stuck S u s t j h g grew old at more stuck))
        (r.covered j h old (sym more.sure ∙ no) free))
        inl
        (cover j g at other);
  }

-- one node was replaced by one for which more wait
module _ (s t : Search) (i : ℕ) (e f : Opened) (at : Stands s i e) (more : IsMore e f)
    (opened : t.opened.items ≡ set s.opened.items i f) (stacks : t.stacks.items ≡ s.stacks.items) (frames : t.frames.items ≡ s.frames.items) where
  pub replaced_grew : Grew s t
  replaced_grew = record {
    stands = λ j g old. ⊎_elim
        (λ same.
        let here : e ≡ g = holds_same s.opened.items j e g (subst (λ q. Holds s.opened.items q e) (sym same) at) old in
        let stored : Holds (set s.opened.items i f) j f = subst (λ q. Holds (set s.opened.items i f) q f) (sym same) (holds_stored s.opened.items i f at.0) in
        (f, subst (λ xs. Holds xs j f) (sym opened) stored, subst (λ x. IsMore x f) here more))
        (λ other. (g, subst (λ xs. Holds xs j g) (sym opened) (holds_set s.opened.items i f j g other old), more_refl g))
        (cases_eq j i);
    stacked = λ l j on. subst (λ xs. IsOn xs l j) (sym stacks) on;
    long = ap length stacks;
    frames = frames;
    sures = sures_replaced s t i e f at opened more.sure;
    rises = inr (stacks, ap length opened ∙ length-set s.opened.items i f);
  }

  pub replaced_back : (j : ℕ) (g : Opened) → Stands t j g → (h : Opened) × Stands s j h × IsMore h g
  replaced_back j g new = ⊎_elim
      (λ (same, here). (e, subst (λ q. Holds s.opened.items q e) (sym same) at, subst (IsMore e) (sym here) more))
      (λ (_, old). (g, old, more_refl g))
      (holds_set_back s.opened.items i f j g (subst (λ xs. Holds xs j g) opened new))

  replaced_leveled : (S : Snap) (u : Object) (but : Option ℕ) → IsRunning S u s but → (l j : ℕ) (g : Opened) → IsStacked t l j → Stands t j g → g.level ≡ l
  replaced_leveled S u but r l j g on new =
      let (h, old, more) = replaced_back j g new in
      more.level ∙ r.leveled l j h (subst (λ xs. IsOn xs l j) stacks on) old

  -- what is kept is right where the new one's is
  pub replaced_kept : (S : Snap) (u : Object) → IsKept S u f → ((j : ℕ) (g : Opened) → Stands s j g → IsKept S u g)
      → (j : ℕ) (g : Opened) → Stands t j g → IsKept S u g
  replaced_kept S u here before j g new = ⊎_elim
      (λ (_, same). subst (IsKept S u) (sym same) here)
      (λ (_, old). before j g old)
      (holds_set_back s.opened.items i f j g (subst (λ xs. Holds xs j g) opened new))

  -- more or less is kept of it
  module _ (waiting : f.waiting.items ≡ e.waiting.items) (S : Snap) (u : Object) (but : Option ℕ) where
    pub reading_running : IsKept S u f → IsRunning S u s but → IsRunning S u t but
    reading_running right r =
        let long : length t.opened.items ≡ length s.opened.items = ap length opened ∙ length-set s.opened.items i f in
        grew_running S u s t but but (grew_keeps s t replaced_grew) replaced_back
        (λ j w g new c. ⊎_elim
        (λ (_, here).
        let lt = r.waiting_there i w e at (subst (λ xs. Contains xs w) (ap (λ (x : Opened). x.waiting.items) here ∙ waiting) c) in
        omega (arith, lt, long))
        (λ (_, old). let lt = r.waiting_there j w g old c in omega (arith, lt, long))
        (holds_set_back s.opened.items i f j g (subst (λ xs. Holds xs j g) opened new)))
        (λ l j on. let lt = r.stacked_there l j (subst (λ xs. IsOn xs l j) stacks on) in omega (arith, lt, long))
        (λ before. replaced_leveled S u but before)
        (λ before. subst AreFalling (sym frames) before.falling)
        (λ before. replaced_kept S u right before.kept)
        (λ j g new free. inl free)
        r

  module _ (own : f.own ≡ e.own) (parents : f.parents ≡ e.parents) (asker : ℕ) (last : f.waiting.items ≡ e.waiting.items ++ asker ∷ []) (there : asker < length s.opened.items) (S : Snap) (u : Object) (but : Option ℕ) where
    pub waiting_running : IsRunning S u s but → IsRunning S u t but
    waiting_running r =
        let long : length t.opened.items ≡ length s.opened.items = ap length opened ∙ length-set s.opened.items i f in
        grew_running S u s t but but (grew_keeps s t replaced_grew) replaced_back
        (λ j w g new c. ⊎_elim
        (λ (_, here).
        let pushed : Contains (e.waiting.items ++ asker ∷ []) w = subst (λ xs. Contains xs w) (ap (λ (x : Opened). x.waiting.items) here ∙ last) c in
        ⊎_elim
        (λ before. let lt = r.waiting_there i w e at before in omega (arith, lt, long))
        (λ same. omega (arith, same, there, long))
        (Contains-push_cases e.waiting.items asker w pushed))
        (λ (_, old). let lt = r.waiting_there j w g old c in omega (arith, lt, long))
        (holds_set_back s.opened.items i f j g (subst (λ xs. Holds xs j g) opened new)))
        (λ l j on. let lt = r.stacked_there l j (subst (λ xs. IsOn xs l j) stacks on) in omega (arith, lt, long))
        (λ before. replaced_leveled S u but before)
        (λ before. subst AreFalling (sym frames) before.falling)
        (λ before. replaced_kept S u (kept_same S u e f more.node own parents (before.kept i e at)) before.kept)
        (λ j g new free. inl free)
        r

-- one number was stacked at its level
module _ (s t : Search) (i : ℕ) (e : Opened) (at : Stands s i e) (opened : t.opened.items ≡ s.opened.items)
    (pushes : Pushes s.stacks.items t.stacks.items e.level i) where
  stacked_keeps : Keeps s t
  stacked_keeps = record {
    stands = λ j g old. (g, subst (λ xs. Holds xs j g) (sym opened) old, more_refl g);
    stacked = pushed_stays s.stacks.items t.stacks.items e.level i pushes;
    long = pushed_long s.stacks.items t.stacks.items e.level i pushes;
  }

  pub stacked_running : (S : Snap) (u : Object) → (AreFalling s.frames.items → AreFalling t.frames.items) → IsRunning S u s (Some i) → IsRunning S u t None
  stacked_running S u falls r =
      let old : (j : ℕ) (g : Opened) → Stands t j g → Stands s j g = λ j g new. subst (λ xs. Holds xs j g) opened new in
      let long : length t.opened.items ≡ length s.opened.items = ap length opened in
      grew_running S u s t (Some i) None stacked_keeps
      (λ j g new. (g, old j g new, more_refl g))
      (λ j w g new c. let lt = r.waiting_there j w g (old j g new) c in omega (arith, lt, long))
      (λ l j on. ⊎_elim
      (λ before. let lt = r.stacked_there l j before in omega (arith, lt, long))
      (λ same. let lt = at.0 in omega (arith, same, lt, long))
      (pushed_back s.stacks.items t.stacks.items e.level i pushes l j on))
      (λ before l j g on new. ⊎_elim
      (λ stood. before.leveled l j g stood (old j g new))
      (λ (same, low). ap (λ (x : Opened). x.level) (holds_same s.opened.items j g e (old j g new) (subst (λ q. Holds s.opened.items q e) same at)) ∙ sym low)
      (pushed_from s.stacks.items t.stacks.items e.level i pushes l j on))
      (λ before. falls before.falling)
      (λ before j g new. before.kept j g (old j g new))
      (λ j g new _. ⊎_elim
      (λ same.
      let here : e ≡ g = holds_same s.opened.items j e g (subst (λ q. Holds s.opened.items q e) (sym same) at) (old j g new) in
      let on = pushed_here s.stacks.items t.stacks.items e.level i pushes (r.stack_there i e at) in
      inr (subst (λ (x : Opened). IsStacked t x.level j) here (subst (IsStacked t e.level) (sym same) on)))
      (λ other. inl (λ equal. other (sym (some_same equal))))
      (cases_eq j i))
      r
    where
      some_same : {j : ℕ} → Some i ≡ Some j → i ≡ j
      some_same equal = cc
