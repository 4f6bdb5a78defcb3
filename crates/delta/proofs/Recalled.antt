-- What is kept of a group without events may be told of it after a commit.
use Rattle.std.proofs.Common.{ℕ, ◌≡◌, true, false, ◌⊎◌, List, [], ◌∷◌, refl, sym, ◌∙◌, ap, subst, ⊎_elim}
use Rattle.std.specs.Prelude.{Some, Contains}
use Rattle.std.proofs.lemmas.Bool.{false≢true}
use Rattle.std.proofs.lemmas.Option.{same_Some}
use Rattle.names.specs.declared.node.Node.{Node}
use Rattle.names.specs.declared.commit.Event.{Event}
use Rattle.names.specs.declared.commit.Commit.TheVariants.{Tuples}
use Rattle.meaning.specs.Snap.{Snap}
use Rattle.meaning.specs.History.{after_commit}
use Rattle.least_sets.specs.World.{Fact, has, arcs_of}
use Rattle.least_sets.specs.Groups.{groups}
use Rattle.region.specs.declared.rule.Told.{Told}
use Rattle.region.specs.Steps.{AreTold}
use Rattle.region.specs.Tables.{Rows, arcs_or_none, kept, row_of}
use Rattle.region.specs.Refreshed.{IsRefreshed}
use Rattle.graphs.specs.Groups.{IsGroupArc}
use Rattle.facts.specs.Numbers.{AreNumbersOf}
use Rattle.facts.specs.inside.Tables.{grew_none, grew_get, numbers_keep}
use Rattle.delta.specs.Telling.{IsMore, MayTell}
use Rattle.delta.specs.Layers.{AreKept, IsOfSet}
use Rattle.delta.specs.inside.Changing.{AreOfEvents}
use Rattle.delta.specs.inside.Growing.{may_more}
use Rattle.delta.proofs.Taken.{arc_same}

-- what the view may tell of a group, or what is kept of one that has not changed
abbrev pub MayRecall : Rows → List ℕ → Snap → List Node → ℕ → Fact → Type 0
MayRecall rows changed S nodes n fact = MayTell S nodes n fact
    ⊎ ((kept rows n ≡ true) × (has changed n ≡ false) × (fact ≡ groups (λ _. arcs_or_none (row_of rows n)) n))

-- the same numbers in another list
numbers_same : (table : List Node) (ids others : List ℕ) (P : Node → Type 0) → ((m : ℕ) → has others m ≡ has ids m) → AreNumbersOf table ids P → AreNumbersOf table others P
numbers_same table ids others P same are = record {
  sound = λ i h. are.sound i (sym (same i) ∙ h);
  complete = λ n p. let s = are.complete n p in (s.0, same s.0 ∙ s.1, s.2);
}

-- The snapshot before is S, the one after T. The groups had numbers before, and more have them then.
module _ (S T : Snap) (events : List Event) (next : T ≡ after_commit S (Tuples events)) (nodes nodes' : List Node) (roots changed : List ℕ) (old : Rows)
    (then : IsMore nodes nodes') (are : AreOfEvents nodes events changed) (was : AreKept S nodes roots old) where
  pub told_again : (i : ℕ) → kept old i ≡ true → has changed i ≡ false → MayTell T nodes' i (groups (λ _. arcs_or_none (row_of old i)) i)
  told_again i h off =
      let may = may_more S nodes nodes' i (groups was.arcs i) then (was.told i h) in
      let same : (was.told i h).group ≡ may.group = same_Some (was.told i h).group may.group (sym (grew_get nodes nodes' i (was.told i h).group then.grew (was.told i h).named) ∙ may.named) in
      let quiet : (e : Event) → Contains events e → IsOfSet e.tuple → e.tuple.node ≡ may.group → ⊥ = λ e c of is.
      false≢true (sym off ∙ are.complete e i c of ((was.told i h).named ∙ ap (λ x. Some x) (same ∙ sym is))) in
      let arcs : was.arcs i ≡ may.arcs = ap (λ (f : Fact). arcs_of f.shape) may.fact_is in
      record {
        group = may.group;
        named = may.named;
        arcs = arcs_or_none (row_of old i);
        fact_is = refl;
        ends = numbers_same nodes' may.arcs (arcs_or_none (row_of old i)) (IsGroupArc T may.group)
            (λ m. was.held.arcs i m h ∙ ap (λ (xs : List ℕ). has xs m) arcs)
            (numbers_keep nodes' nodes' may.arcs (IsGroupArc S may.group) (IsGroupArc T may.group) (grew_none nodes') (arc_same S T events next may.group quiet) may.ends);
      }

  pub recalled : (n : ℕ) (fact : Fact) → MayRecall old changed T nodes' n fact → MayTell T nodes' n fact
  recalled n fact = ⊎_elim
      (λ told. told)
      (λ (there, off, is). subst (λ (f : Fact). MayTell T nodes' n f) (sym is) (told_again n there off))

-- what was told of is told of by another
pub refreshed_by : (A B : ℕ → Fact → Type 0) (old new : Rows) (roots turned changed asked asked' : List ℕ) → ((n : ℕ) (fact : Fact) → A n fact → B n fact)
    → IsRefreshed A old new roots turned changed asked asked' → IsRefreshed B old new roots turned changed asked asked'
refreshed_by A B old new roots turned changed asked asked' to r = record {
  told = r.told;
  are_told = told_by r.told r.are_told;
  some = r.some;
  asked_is = r.asked_is;
  once = r.once;
  few = r.few;
  nodes = r.nodes;
  arcs = r.arcs;
  reached = r.reached;
  held = r.held;
}
  where
    told_by : (told : List Told) → AreTold A told → AreTold B told
    told_by [] h = tt
    told_by (t ∷ ts) h = (to t.node _ h.0, told_by ts h.1)

-- the numbers of the nodes of events as a set
pub events_set : (nodes : List Node) (events : List Event) (ids others : List ℕ) → ((i : ℕ) → has others i ≡ has ids i) → AreOfEvents nodes events ids → AreOfEvents nodes events others
events_set nodes events ids others same are = record {
  sound = λ i h. are.sound i (sym (same i) ∙ h);
  complete = λ e i c of at. same i ∙ are.complete e i c of at;
}
