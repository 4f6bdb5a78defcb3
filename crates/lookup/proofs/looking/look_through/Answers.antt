use Rattle.std.proofs.Common.{◌≡◌, ◌+◌, ◌++◌, ◌∷◌, List, drop, ap, sym, subst, ◌∙◌}
use Rattle.std.proofs.lemmas.List.{drop_more, drop_all}
use Rattle.names.specs.declared.tuple.Tuple.{Tuple}
use Rattle.meaning.specs.Snap.{Snap}
use Rattle.lookup.specs.inside.Pages.{ids_of}
use Rattle.lookup.specs.inside.Underway.{IsUnderway}
use Rattle.lookup.proofs.looking.look_through.Goals as goal

pub look_at-requires : goal.look_at-requires
look_at-requires g c = subst (g.O.Oracle.tells c.loop-tuple.oracle) (sym c.loop-tuple.invariant.same) c.loop-tuple.invariant.tells

pub loop-tuple-preserved : goal.loop-tuple-preserved
loop-tuple-preserved g c =
    let ts = c.args.tuples.now in
    let k = c.loop-tuple.tuple-index in
    let next : drop k ts ≡ c.tuple-item.result ∷ drop (k + 1) ts = drop_more ts k c.tuple-item.result c.loop-tuple-test.true ∙ ap (λ t. t ∷ drop (k + 1) ts) (sym c.tuple-item.is) in
    let same = c.loop-tuple.invariant.same in
    record {
      underway = λ left is.
          let before = subst (λ (xs : List Tuple). IsUnderway c.args.asker.now c.args.asked.now c.loop-tuple.found (ids_of xs ++ left)) next (c.loop-tuple.invariant.underway left is) in
          let here = subst (λ (S : Snap). IsUnderway S c.args.asked.now c.loop-tuple.found (ids_of (c.tuple-item.result ∷ drop (k + 1) ts) ++ left)) (sym same) before in
          subst (λ (S : Snap). IsUnderway S c.args.asked.now c.look_at.new.found (ids_of (drop (k + 1) ts) ++ left)) same (c.in_ok-look_at.ensures.underway (ids_of (drop (k + 1) ts) ++ left) here);
      tells = subst (g.O.Oracle.tells c.look_at.new.oracle) same c.in_ok-look_at.ensures.tells;
      same = c.in_ok-look_at.ensures.same ∙ same;
    }

pub returns-clause-underway : goal.returns-clause-underway
returns-clause-underway g c left is =
    subst (λ (xs : List Tuple). IsUnderway c.args.asker.now c.args.asked.now c.loop-tuple.found (ids_of xs ++ left)) (drop_all c.loop-tuple.tuple-index c.args.tuples.now c.loop-tuple-test.false) (c.loop-tuple.invariant.underway left is)
