use Rattle.std.proofs.Common.{◌≡◌, ◌+◌, List, [], ◌∷◌, false, drop, IfOk, sym, subst, rules, arith}
use Rattle.meaning.specs.Snap.{Snap}
use Rattle.leopard.specs.declared.expr.Expr.{Expr, the_lemmas}
use Rattle.leopard.specs.Causes.{names_unindexed, some_name_unindexed}
use Rattle.leopard.specs.Exprs.{query_of, part_queries}
use Rattle.leopard.specs.Finding.{AreFound}
use Rattle.leopard.specs.Groups.{Means, SomeMeans, EachMeans}
use Rattle.leopard.specs.Query.{Query, Member2Group, Group2Group, Union, Intersection, Exclusion}
use Rattle.leopard.proofs.Expressions.{first_has_parts, first_indexed, some_splits, each_splits}
use Rattle.leopard.proofs.Finding.{less_of, none_yet, each_all, if_ok, closure_as}
use Rattle.leopard.proofs.Gather.{left_at, left_none}
use Rattle.leopard.proofs.Indices.{or_false}
use Rattle.leopard.proofs.Leftover.{gather, narrow, added_as, kept_as}
use Rattle.leopard.proofs.evaluating.+finding.Goals as goal

pub found_of-returns-in-Union : goal.found_of-returns-in-Union
found_of-returns-in-Union g t c =
    let tells = g.T.GroupSets.tells c.args.sets.now in
    let names = g.T.GroupSets.names c.args.sets.now in
    let parts = subst (λ (es : List Expr). IfOk c.found_in_some.result (λ f. (S : Snap) → tells S → some_name_unindexed S.config (part_queries es) ≡ false → AreFound names (SomeMeans S (part_queries es)) f.ids f.others.keys))
    c.deref.ensures.value c.found_in_some.ensures in
    let query : query_of c.args.expr.now ≡ Union (part_queries c.in-Union.parts.items) = search (rules, the_lemmas) in
    subst (λ (q : Query). IfOk c.found_in_some.result (λ f. (S : Snap) → tells S → names_unindexed S.config q ≡ false → AreFound names (Means S q) f.ids f.others.keys)) (sym query) parts

pub found_of-returns-in-Intersection : goal.found_of-returns-in-Intersection
found_of-returns-in-Intersection g t c =
    let tells = g.T.GroupSets.tells c.args.sets.now in
    let names = g.T.GroupSets.names c.args.sets.now in
    let parts = subst (λ (es : List Expr). IfOk c.found_in_each.result (λ f. (S : Snap) → tells S → some_name_unindexed S.config (part_queries es) ≡ false → AreFound names (EachMeans S (part_queries es)) f.ids f.others.keys))
    c.deref-in-Intersection.ensures.value c.found_in_each.ensures in
    let query : query_of c.args.expr.now ≡ Intersection (part_queries c.in-Intersection.parts.items) = search (rules, the_lemmas) in
    subst (λ (q : Query). IfOk c.found_in_each.result (λ f. (S : Snap) → tells S → names_unindexed S.config q ≡ false → AreFound names (Means S q) f.ids f.others.keys)) (sym query) parts

pub found_of-returns-in_ok-less-in-Exclusion : goal.found_of-returns-in_ok-less-in-Exclusion
found_of-returns-in_ok-less-in-Exclusion g t c =
    let tells = g.T.GroupSets.tells c.args.sets.now in
    let names = g.T.GroupSets.names c.args.sets.now in
    let a : Query = query_of c.in-Exclusion.base.value in
    let b : Query = query_of c.in-Exclusion.less.value in
    let query : query_of c.args.expr.now ≡ Exclusion a b = search (rules, the_lemmas) in
    let base : (S : Snap) → tells S → names_unindexed S.config a ≡ false → AreFound names (Means S a) c.in_ok-base-in-Exclusion.base.ids c.in_ok-base-in-Exclusion.base.others.keys = rw (sym c.deref-in-Exclusion.ensures) c.in_ok-base-in-Exclusion.ensures in
    let less : (S : Snap) → tells S → names_unindexed S.config b ≡ false → AreFound names (Means S b) c.in_ok-less-in-Exclusion.less.ids c.in_ok-less-in-Exclusion.less.others.keys = rw (sym c.deref-in-Exclusion-2.ensures) c.in_ok-less-in-Exclusion.ensures in
    subst (λ (q : Query). IfOk c.lessened.result (λ f. (S : Snap) → tells S → names_unindexed S.config q ≡ false → AreFound names (Means S q) f.ids f.others.keys)) (sym query)
    (less_of names tells (λ S. Means S a) (λ S. Means S b) (λ S. names_unindexed S.config a) (λ S. names_unindexed S.config b) c.in_ok-base-in-Exclusion.base c.in_ok-less-in-Exclusion.less c.lessened.result
    (λ S told. g.met.T.GroupSets.distinct c.args.sets.now S told) base less c.lessened.ensures.less c.lessened.ensures.unnamed)

pub found_of-returns-in-Member2Group : goal.found_of-returns-in-Member2Group
found_of-returns-in-Member2Group g t c =
    let tells = g.T.GroupSets.tells c.args.sets.now in
    let names = g.T.GroupSets.names c.args.sets.now in
    let query : query_of c.args.expr.now ≡ Member2Group c.in-Member2Group.user = search (rules, the_lemmas) in
    subst (λ (q : Query). IfOk c.direct.result (λ f. (S : Snap) → tells S → names_unindexed S.config q ≡ false → AreFound names (Means S q) f.ids f.others.keys)) (sym query)
    (if_ok _ _ c.direct.result (λ f are S told indexed. are S told) c.direct.ensures)

pub found_of-returns-in-Group2Group : goal.found_of-returns-in-Group2Group
found_of-returns-in-Group2Group g t c =
    let tells = g.T.GroupSets.tells c.args.sets.now in
    let names = g.T.GroupSets.names c.args.sets.now in
    let query : query_of c.args.expr.now ≡ Group2Group c.in-Group2Group.group = search (rules, the_lemmas) in
    subst (λ (q : Query). IfOk c.closure.result (λ f. (S : Snap) → tells S → names_unindexed S.config q ≡ false → AreFound names (Means S q) f.ids f.others.keys)) (sym query)
    (if_ok _ _ c.closure.result (λ f are S told indexed. closure_as S c.in-Group2Group.group names f.ids f.others.keys indexed (are S told)) c.closure.ensures)

pub found_in_some-loop-part-init : goal.found_in_some-loop-part-init
found_in_some-loop-part-init g t c =
    let names = g.T.GroupSets.names c.args.sets.now in
    record {
      parts = c.requires;
      indexed = λ S none. none;
      unnamed = λ S told indexed. c.nothing-found.ensures.unnamed names;
      groups = λ S told indexed n. none_yet names c.nothing-found.result.ids c.nothing-found.result.others.keys n (SomeMeans S (part_queries c.args.parts.now) n)
          (λ f. c.nothing-found.ensures.none names n f);
    }

pub found_in_some-loop-part-preserved : goal.found_in_some-loop-part-preserved
found_in_some-loop-part-preserved g t c =
    let names = g.T.GroupSets.names c.args.sets.now in
    let parts = c.args.parts.now in
    let i = c.loop-part.part-index in
    let part : Expr = c.part-item.result in
    let indexed_here = λ (S : Snap) (whole : some_name_unindexed S.config (part_queries parts) ≡ false). first_indexed S.config parts i part c.loop-part-test.true c.part-item.is (c.loop-part.invariant.indexed S whole) in
    record {
      parts = (first_has_parts parts i part c.loop-part-test.true c.part-item.is c.loop-part.invariant.parts).1;
      indexed = λ S whole. (indexed_here S whole).1;
      unnamed = λ S told whole. c.in_ok-found.ensures.unnamed names (c.loop-part.invariant.unnamed S told whole) (c.in_ok-more.ensures S told (indexed_here S whole).0).unnamed;
      groups = λ S told whole n. gather (λ es. SomeMeans S (part_queries es) n) _ _ _ _ (drop i parts) part (drop (i + 1) parts) (left_at parts i part c.loop-part-test.true c.part-item.is)
          (some_splits S part (drop (i + 1) parts) n) (c.loop-part.invariant.groups S told whole n)
          (added_as _ _ _ _ (c.in_ok-found.ensures.either names n) ((c.in_ok-more.ensures S told (indexed_here S whole).0).all n));
    }

pub found_in_each-loop-part-preserved : goal.found_in_each-loop-part-preserved
found_in_each-loop-part-preserved g t c =
    let names = g.T.GroupSets.names c.args.sets.now in
    let others = c.in-Some.others.now in
    let i = c.loop-part.part-index in
    let part : Expr = c.part-item.result in
    let indexed_here = λ (S : Snap) (whole : some_name_unindexed S.config (part_queries others) ≡ false). first_indexed S.config others i part c.loop-part-test.true c.part-item.is (c.loop-part.invariant.indexed S whole) in
    record {
      parts = (first_has_parts others i part c.loop-part-test.true c.part-item.is c.loop-part.invariant.parts).1;
      indexed = λ S whole. (indexed_here S whole).1;
      unnamed = λ S told begun. c.in_ok-found-2.ensures.unnamed names (c.loop-part.invariant.unnamed S told begun);
      groups = λ S told begun whole n.
          let more = c.in_ok-more.ensures S told (indexed_here S whole).0 in
          narrow (λ es. EachMeans S (part_queries es) n) _ _ _ _ (drop i others) part (drop (i + 1) others) (left_at others i part c.loop-part-test.true c.part-item.is)
          (each_splits S part (drop (i + 1) others) n) (c.loop-part.invariant.groups S told begun whole n)
          (kept_as _ _ _ _ (c.in_ok-found-2.ensures.both names n (record {
            distinct = g.met.T.GroupSets.distinct c.args.sets.now S told;
            first = c.loop-part.invariant.unnamed S told begun;
            second = more.unnamed;
          })) (more.all n));
    }

pub found_in_each-returns : goal.found_in_each-returns
found_in_each-returns g t c S told whole =
    let first : Expr = c.in-Some.first.now in
    let others : List Expr = c.in-Some.others.now in
    let i = c.loop-part.part-index in
    let is : c.args.parts.now ≡ first ∷ others = search rules in
    let none : drop i others ≡ [] = left_none others i (omega (arith, c.loop-part-test.false, c.loop-part.auto.part-index-end)) in
    let both = or_false (names_unindexed S.config (query_of first)) (some_name_unindexed S.config (part_queries others)) (subst (λ (es : List Expr). some_name_unindexed S.config (part_queries es) ≡ false) is whole) in
    let begun = c.in_ok-found.ensures S told both.0 in
    record {
      unnamed = c.loop-part.invariant.unnamed S told begun.unnamed;
      all = λ n. each_all S c.args.parts.now others (drop i others) first n _ _ is none (begun.all n) (c.loop-part.invariant.groups S told begun.unnamed both.1 n);
    }
