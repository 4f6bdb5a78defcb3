use Rattle.std.proofs.Common.{◌≡◌, true, sym, ◌∙◌, ⊎_elim, inl, inr}
use Rattle.std.proofs.lemmas.Bool.{or_right, or_cases}
use Rattle.region.specs.Steps.{is_told}
use Rattle.region.specs.Gathered.{nodes_of, stays}
use Rattle.region.proofs.Listing.{on_ok_then, on_ok_both, on_err_all}
use Rattle.region.proofs.Walked.{told_nodes, untouched}
use Rattle.region.proofs.refreshing.refresh.Goals as goal

pub fill-requires-clause-gathered : goal.fill-requires-clause-gathered
fill-requires-clause-gathered g c =
    let one = c.in_ok-region.ensures.agree in
    (one.0, c.args.roots.now, c.args.turned.now, c.args.changed.now, c.in_ok-region.ensures.gathered one.0 one.1)

pub returns-clause-asked : goal.returns-clause-asked
returns-clause-asked g c = on_ok_then c.fill.result
    (λ nodes. record {
      nodes = nodes_of c.in_ok-region.region.told.items;
      asked = c.in_ok-region.ensures.asked.asked;
      once = c.in_ok-region.ensures.asked.once;
      few = λ n h.
          let told : is_told c.in_ok-region.region.told.items n ≡ true = sym (told_nodes c.in_ok-region.region.told.items n) ∙ h in
          let one = c.in_ok-region.ensures.agree in (
            nodes n ∙ or_right (stays c.args.sets.now.rows c.in_ok-region.region.dropped.items n) (is_told c.in_ok-region.region.told.items n) told,
            (c.in_ok-region.ensures.gathered one.0 one.1).new_or_touched n told,
          );
    })
    c.fill.ensures.nodes

pub returns-clause-refused : goal.returns-clause-refused
returns-clause-refused g c = on_err_all c.fill.result (record {
  told = c.in_ok-region.region.told.items;
  are_told = c.in_ok-region.ensures.told;
  some = c.in_ok-region.ensures.agree;
  each = λ world t.
      let got = c.in_ok-region.ensures.gathered world t in
      record {
        nodes = nodes_of c.in_ok-region.region.told.items;
        asked = c.in_ok-region.ensures.asked.asked;
        once = c.in_ok-region.ensures.asked.once;
        few = λ n h. got.new_or_touched n (sym (told_nodes c.in_ok-region.region.told.items n) ∙ h);
        reached = λ n h. got.reached n (sym (told_nodes c.in_ok-region.region.told.items n) ∙ h);
      };
})

pub returns-clause-refreshed : goal.returns-clause-refreshed
returns-clause-refreshed g c = on_ok_both c.fill.result
    (λ nodes held. record {
      told = c.in_ok-region.region.told.items;
      are_told = c.in_ok-region.ensures.told;
      some = c.in_ok-region.ensures.agree;
      asked_is = c.in_ok-region.ensures.asked.asked;
      once = c.in_ok-region.ensures.asked.once;
      few = λ n told.
          let one = c.in_ok-region.ensures.agree in (
            nodes n ∙ or_right (stays c.args.sets.now.rows c.in_ok-region.region.dropped.items n) (is_told c.in_ok-region.region.told.items n) told,
            (c.in_ok-region.ensures.gathered one.0 one.1).new_or_touched n told,
          );
      nodes = λ n h. ⊎_elim
          (λ s. let one = c.in_ok-region.ensures.agree in
          let got = c.in_ok-region.ensures.gathered one.0 one.1 in
          inr ((got.untouched n s).0, untouched one.0 c.args.sets.now.rows c.args.roots.now c.args.turned.now c.args.changed.now c.in_ok-region.region.told.items c.in_ok-region.region.dropped.items got n s))
          (λ t. inl t)
          (or_cases (stays c.args.sets.now.rows c.in_ok-region.region.dropped.items n) (is_told c.in_ok-region.region.told.items n) (sym (nodes n) ∙ h));
      arcs = λ world t n m told arc. nodes m ∙ (c.in_ok-region.ensures.gathered world t).told_arcs n m told arc;
      reached = λ world t. (c.in_ok-region.ensures.gathered world t).reached;
      held = λ before world first levels t was turns same.
          held before world first c.args.roots.now c.args.turned.now c.args.changed.now levels was turns (c.in_ok-region.ensures.gathered world t) same;
    })
    c.fill.ensures.nodes c.fill.ensures.held
