use Rattle.std.proofs.Common.{◌<◌, ◌++◌, ℕ, List, sym, subst, ◌∙◌, inl, inr, arith, length}
use Rattle.std.specs.Prelude.{All, IsSome}
use Rattle.std.proofs.lemmas.List.Elements.{All-contains}
use Rattle.names.specs.declared.tuple.Tuple.{Tuple}
use Rattle.meaning.specs.Config.{Configured, Defined, IsWhole}
use Rattle.rows.specs.declared.tupleset.TheConstants.{MAX_PAGE}
use Rattle.meaning.specs.Snap.{Snap}
use Rattle.lookup.specs.inside.Pages.{start_of, ids_of}
use Rattle.lookup.specs.inside.Underway.{IsUnderway}
use Rattle.lookup.proofs.Ends.{ended}
use Rattle.lookup.proofs.Pages.{starts, asks_first, asks_on, last_page, goes_on, fewer, rest_of, page_done}
use Rattle.lookup.proofs.looking.look_over.Goals.{then-is_full-via-then-is_full, then-is_full-via-else-is_full+then-len}
use Rattle.lookup.proofs.looking.look_over.Goals as goal

pub pages-init : goal.pages-init
pages-init g c =
    let S = c.args.view.now in
    let asked = c.args.asked.now in
    record {
      asks = asks_first asked.relation.namespace (start_of asked) c.in_ok-tupleset.tupleset c.in_ok-tupleset.ensures;
      underway = starts S asked c.in_ok-found.found c.in_ok-tupleset.tupleset
          (λ d there. All-contains (λ (x : Defined). IsWhole x.form) S.config.relations d (subst (λ (k : Configured). All (λ (x : Defined). IsWhole x.form) k.relations) c.config-config.ensures.config c.relations.ensures.whole) there)
          c.in_ok-found.ensures.ids c.in_ok-found.ensures.last c.in_ok-tupleset.ensures;
      tells = c.requires;
      same = c.of-asker.ensures;
    }

pub pages-preserved : goal.pages-preserved
pages-preserved g c =
    let S = c.args.view.now in
    let asked = c.args.asked.now in
    let q = c.pages.tupleset in
    let page = c.in_ok-page.page.items in
    let asks = c.pages.invariant.asks in
    let looked = subst (λ (R : Snap). (left : List (List ℕ)) → IsUnderway R asked c.pages.found (ids_of c.deref.result.now ++ left) → IsUnderway R asked c.look_through.new.found left)
    c.pages.invariant.same c.in_ok-look_through.ensures.underway in
    let some : IsSome c.pop-tupleset.result = c.pop-tupleset.ensures.variant.1 (grind (arith, c.len.ensures, c.if-len.false, c.in_ok-page.page.ok)) in
    record {
      asks = asks_on S.tuples asked.relation.namespace q asks page c.in_ok-page.ensures c.pop-tupleset.result;
      underway = subst (λ (ts : List Tuple). IsUnderway S asked c.look_through.new.found (ids_of ts))
          (sym (goes_on S.tuples asked.relation.namespace q asks page c.in_ok-page.ensures c.pop-tupleset.result some c.pop-tupleset.new.self.items c.pop-tupleset.ensures.items))
          (page_done S asked c.pages.found c.look_through.new.found q asks page c.deref.result.now c.in_ok-page.ensures c.deref.ensures.value c.pages.invariant.underway looked);
      tells = subst (g.O.Oracle.tells c.look_through.new.oracle) c.pages.invariant.same c.in_ok-look_through.ensures.tells;
      same = c.in_ok-look_through.ensures.same ∙ c.pages.invariant.same;
    }

pub pages-smaller : goal.pages-smaller
pages-smaller g c =
    fewer c.args.view.now.tuples c.args.asked.now.relation.namespace c.pages.tupleset c.pages.invariant.asks c.in_ok-page.page.items c.in_ok-page.ensures
    c.pop-tupleset.result (c.pop-tupleset.ensures.variant.1 (grind (arith, c.len.ensures, c.if-len.false, c.in_ok-page.page.ok))) c.pop-tupleset.new.self.items c.pop-tupleset.ensures.items

pub returns-then-is_full-clause-ok : goal.returns-then-is_full-clause-ok
returns-then-is_full-clause-ok g c =
    let S = c.args.view.now in
    let asked = c.args.asked.now in
    let q = c.pages.tupleset in
    let page = c.in_ok-page.page.items in
    let asks = c.pages.invariant.asks in
    let looked = subst (λ (R : Snap). (left : List (List ℕ)) → IsUnderway R asked c.pages.found (ids_of c.deref.result.now ++ left) → IsUnderway R asked c.look_through.new.found left)
    c.pages.invariant.same c.in_ok-look_through.ensures.underway in
    let done = page_done S asked c.pages.found c.look_through.new.found q asks page c.deref.result.now c.in_ok-page.ensures c.deref.ensures.value c.pages.invariant.underway looked in
    elim c.then-is_full.branch [
      | then-is_full-via-then-is_full w ↦ ended S asked c.look_through.new.found (ids_of (rest_of q S.tuples)) done (inr (c.is_full.ensures.full w.if-is_full.true))
      | then-is_full-via-else-is_full+then-len w ↦
          let few : length page < MAX_PAGE = grind (arith, w.len.ensures, w.if-len.true, c.in_ok-page.page.ok) in
          ended S asked c.look_through.new.found (ids_of (rest_of q S.tuples)) done (inl (last_page S.tuples asked.relation.namespace q asks page c.in_ok-page.ensures few))
    ]

pub look_through-requires : goal.look_through-requires
look_through-requires g c = subst (g.O.Oracle.tells c.pages.oracle) (sym c.pages.invariant.same) c.pages.invariant.tells
