-- A node was opened.
use Rattle.std.proofs.Common.{◌≡◌, ℕ, ◌<◌, ◌+◌, [], ◌∷◌, ◌++◌, length, ap, ◌∙◌, sym, subst, inl, inr, ⊎_elim, arith, length-append}
use Rattle.std.specs.Prelude.{◌⊎◌, Contains, Option}
use Rattle.std.proofs.lemmas.Bool.{false≢true}
use Rattle.names.specs.declared.object.Object.{Object}
use Rattle.names.specs.declared.node.Node.{Node}
use Rattle.meaning.specs.Snap.{Snap}
use Rattle.meaning.specs.Config.{IsAt, rel_of}
use Rattle.config.specs.Places.{StandsAt}
use Rattle.meaning.proofs.Lists.{contains_none}
use Rattle.decide.specs.declared.search.Search.{Search}
use Rattle.decide.specs.declared.search.Opened.{Opened}
use Rattle.decide.specs.inside.Searches.{Stands, IsStacked, Grew, IsNumberOf, Opens, AreFalling}
use Rattle.decide.specs.inside.Running.{IsRunning}
use Rattle.decide.proofs.Elements.{Holds, holds_left, holds_last, holds_back}
use Rattle.decide.proofs.Pushing.{pushed_long, pushed_stays, pushed_here, pushed_back, pushed_from}
use Rattle.decide.proofs.SearchLemmas.{more_refl, grew_keeps, grew_stuck, kept_none}
use Rattle.decide.proofs.Counting.{sures_pushed}

module _ (s t : Search) (n : Node) (k p i : ℕ) (opens : Opens s t n k p i) where
  pub opens_grew : Grew s t
  opens_grew =
      let (e, opened, _, _, _, unsure, _, _, _, _, pushes, frames) = opens in
      record {
        stands = λ j f at. (f, subst (λ zs. Holds zs j f) (sym opened) (holds_left s.opened.items (e ∷ []) j f at), more_refl f);
        stacked = pushed_stays s.stacks.items t.stacks.items k i pushes;
        long = pushed_long s.stacks.items t.stacks.items k i pushes;
        frames = frames;
        sures = sures_pushed s t e opened unsure;
        rises = inl (omega (arith, ap length opened, length-append s.opened.items (e ∷ [])));
      }

  pub opens_number : IsNumberOf t i n k
  opens_number =
      let (e, opened, node, level, _, _, _, _, _, is, _, _) = opens in
      let last : Holds (s.opened.items ++ e ∷ []) i e = subst (λ q. Holds (s.opened.items ++ e ∷ []) q e) (sym is) (holds_last s.opened.items e) in
      (e, subst (λ zs. Holds zs i e) (sym opened) last, node, level)

  module _ (S : Snap) (u : Object) (but : Option ℕ) (there : k < length s.stacks.items) (here : IsAt S.config n k) (stands : StandsAt S.config (rel_of n) p) (r : IsRunning S u s but) where
    opens_back : (j : ℕ) (f : Opened) → Stands t j f → Stands s j f ⊎ ((j ≡ i) × (f ≡ opens.0))
    opens_back j f at =
        let (e, opened, _, _, _, _, _, _, _, is, _, _) = opens in
        ⊎_elim inl (λ (last, same). inr (last ∙ sym is, same)) (holds_back s.opened.items e j f (subst (λ zs. Holds zs j f) opened at))

    longer : length t.opened.items ≡ length s.opened.items + 1
    longer = ap length opens.1 ∙ length-append s.opened.items (opens.0 ∷ [])

    pub opens_running : IsRunning S u t but
    opens_running =
        let (e, opened, node, level, place, unsure, alone, own, parents, is, pushes, frames) = opens in
        let grew = opens_grew in
        let level_of : (f : Opened) → f ≡ e → f.level ≡ k = λ f same. ap (λ (x : Opened). x.level) same ∙ level in
        record {
          at = λ j f at. ⊎_elim (r.at j f)
              (λ (_, same).
              let named : IsAt S.config e.node k = subst (λ m. IsAt S.config m k) (sym node) here in
              let whole : IsAt S.config e.node e.level = subst (IsAt S.config e.node) (sym level) named in
              subst (λ (x : Opened). IsAt S.config x.node x.level) (sym same) whole)
              (opens_back j f at);
          placed = λ j f at. ⊎_elim (r.placed j f)
              (λ (_, same).
              let named : StandsAt S.config (rel_of e.node) p = subst (λ m. StandsAt S.config (rel_of m) p) (sym node) stands in
              let whole : StandsAt S.config (rel_of e.node) e.place = subst (StandsAt S.config (rel_of e.node)) (sym place) named in
              subst (λ (x : Opened). StandsAt S.config (rel_of x.node) x.place) (sym same) whole)
              (opens_back j f at);
          stack_there = λ j f at. ⊎_elim
              (λ old. let lt = r.stack_there j f old in omega (arith, lt, grew.long))
              (λ (_, same). let l = level_of f same in omega (arith, l, there, grew.long))
              (opens_back j f at);
          waiting_there = λ j w f at c. ⊎_elim
              (λ old. let lt = r.waiting_there j w f old c in omega (arith, lt, longer))
              (λ (_, same). absurd (contains_none w (subst (λ xs. Contains xs w) (ap (λ (x : Opened). x.waiting.items) same ∙ alone) c)))
              (opens_back j f at);
          stacked_there = λ l j on. ⊎_elim
              (λ old. let lt = r.stacked_there l j old in omega (arith, lt, longer))
              (λ same. omega (arith, same, is, longer))
              (pushed_back s.stacks.items t.stacks.items k i pushes l j on);
          leveled = λ l j f on at. ⊎_elim
              (λ before. ⊎_elim
              (λ old. r.leveled l j f before old)
              (λ (last, _). let lt = r.stacked_there l j before in absurd (omega (arith, lt, last, is)))
              (opens_back j f at))
              (λ (last, low). ⊎_elim
              (λ old. let lt = old.0 in absurd (omega (arith, lt, last, is)))
              (λ (_, same). level_of f same ∙ sym low)
              (opens_back j f at))
              (pushed_from s.stacks.items t.stacks.items k i pushes l j on);
          falling = subst AreFalling (sym frames) r.falling;
          right = λ j f at sure. ⊎_elim
              (λ old. r.right j f old sure)
              (λ (_, same). absurd (false≢true (sym unsure ∙ sym (ap (λ (x : Opened). x.sure) same) ∙ sure)))
              (opens_back j f at);
          kept = λ j f at. ⊎_elim
              (λ old. r.kept j f old)
              (λ (_, same). kept_none S u f (ap (λ (x : Opened). x.own) same ∙ own) (ap (λ (x : Opened). x.parents) same ∙ parents))
              (opens_back j f at);
          covered = λ j f at no other. ⊎_elim
              (λ old. ⊎_elim
              (λ on. inl (grew.stacked f.level j on))
              (λ stuck. inr (grew_stuck S u s t j f f (grew_keeps s t grew) old at (more_refl f) stuck))
              (r.covered j f old no other))
              (λ (last, same). inl (subst (λ l. IsStacked t l j) (sym (level_of f same)) (subst (IsStacked t k) (sym last) (pushed_here s.stacks.items t.stacks.items k i pushes there))))
              (opens_back j f at);
        }
