use Rattle.std.proofs.Common.{◌≡◌, ℕ, ◌+◌, ◌++◌, ◌∷◌, List, drop, ap, sym, subst, ◌∙◌}
use Rattle.std.proofs.lemmas.List.{drop_more, drop_all}
use Rattle.meaning.specs.Snap.{Snap}
use Rattle.lookup.specs.inside.Underway.{IsUnderway}
use Rattle.lookup.proofs.Steps.{enough_of}
use Rattle.lookup.proofs.looking.ask_each.Goals as goal

pub look_at-requires : goal.look_at-requires
look_at-requires g c = subst (g.O.Oracle.tells c.loop-id.oracle) (sym c.loop-id.invariant.same) c.loop-id.invariant.tells

pub loop-id-preserved : goal.loop-id-preserved
loop-id-preserved g c =
    let ids = c.args.ids.now in
    let k = c.loop-id.id-index in
    let asked = c.args.asked.now in
    let next : drop k ids ≡ c.id-item.result ∷ drop (k + 1) ids = drop_more ids k c.id-item.result c.loop-id-test.true ∙ ap (λ i. i ∷ drop (k + 1) ids) (sym c.id-item.is) in
    let same = c.loop-id.invariant.same in
    record {
      underway = λ left is.
          let before = subst (λ (xs : List (List ℕ)). IsUnderway c.args.asker.now asked c.loop-id.found (xs ++ left)) next (c.loop-id.invariant.underway left is) in
          let here = subst (λ (S : Snap). IsUnderway S asked c.loop-id.found (c.id-item.result ∷ drop (k + 1) ids ++ left)) (sym same) before in
          subst (λ (S : Snap). IsUnderway S asked c.look_at.new.found (drop (k + 1) ids ++ left)) same (c.in_ok-look_at.ensures.underway (drop (k + 1) ids ++ left) here);
      tells = subst (g.O.Oracle.tells c.look_at.new.oracle) same c.in_ok-look_at.ensures.tells;
      same = c.in_ok-look_at.ensures.same ∙ same;
    }

pub returns-then-is_full-clause-underway : goal.returns-then-is_full-clause-underway
returns-then-is_full-clause-underway g c left is =
    enough_of c.args.asker.now c.args.asked.now c.loop-id.found (drop c.loop-id.id-index c.args.ids.now) left (c.loop-id.invariant.underway left is) (c.is_full.ensures.full c.if-is_full.true)

pub returns-clause-underway : goal.returns-clause-underway
returns-clause-underway g c left is =
    subst (λ (xs : List (List ℕ)). IsUnderway c.args.asker.now c.args.asked.now c.loop-id.found (xs ++ left)) (drop_all c.loop-id.id-index c.args.ids.now c.loop-id-test.false) (c.loop-id.invariant.underway left is)
