use Rattle.std.proofs.Common.{Any, Contains, ◌+◌, drop, arith, ap, sym, ◌∙◌}
use Rattle.std.proofs.lemmas.Bool.{false≢true}
use Rattle.meaning.specs.Config.{Configured}
use Rattle.meaning.specs.Snap.{Snap}
use Rattle.leopard.specs.inside.Direct.{Names, NamesIndexed}
use Rattle.leopard.proofs.Gather.{gather_more, gather_none, gather_all, left_at, left_none}
use Rattle.leopard.proofs.Named.{named_by_all, under_test}
use Rattle.leopard.proofs.direct.direct.Goals.{then-relation+in_ok-put_named, else-relation}
use Rattle.leopard.proofs.direct.direct.Goals as goal

pub loop-relation-preserved : goal.loop-relation-preserved
loop-relation-preserved c n =
    let next = left_at c.relations-relations.result.now c.loop-relation.relation-index c.relation-item.result c.loop-relation-test.true c.relation-item.is in
    elim c.if-relation.branch [
      | then-relation+in_ok-put_named w ↦
          rw w.groups-is
          (gather_more (NamesIndexed c.args.view.now c.args.user.now n) (Any (NamesIndexed c.args.view.now c.args.user.now n) c.relations-relations.result.now)
          (Contains c.loop-relation.groups.keys n) (Contains w.put_named.new.groups.keys n)
          (drop c.loop-relation.relation-index c.relations-relations.result.now) c.relation-item.result (drop (c.loop-relation.relation-index + 1) c.relations-relations.result.now)
          next (c.loop-relation.invariant n)
          (under_test c.relation-item.result.indexed (Contains c.loop-relation.groups.keys n) (Contains w.put_named.new.groups.keys n) (Names c.args.view.now c.relation-item.result.name c.args.user.now n)
          w.if-relation.true (w.in_ok-put_named.ensures n)))
      | else-relation w ↦
          rw w.groups-is
          (gather_none (NamesIndexed c.args.view.now c.args.user.now n) (Any (NamesIndexed c.args.view.now c.args.user.now n) c.relations-relations.result.now)
          (Contains c.loop-relation.groups.keys n)
          (drop c.loop-relation.relation-index c.relations-relations.result.now) c.relation-item.result (drop (c.loop-relation.relation-index + 1) c.relations-relations.result.now)
          next (c.loop-relation.invariant n)
          (λ named. false≢true (sym w.if-relation.false ∙ named.0)))
    ]

pub returns : goal.returns
returns c n =
    let all = gather_all (NamesIndexed c.args.view.now c.args.user.now n) (Any (NamesIndexed c.args.view.now c.args.user.now n) c.relations-relations.result.now)
    (Contains c.loop-relation.groups.keys n) (drop c.loop-relation.relation-index c.relations-relations.result.now)
    (left_none c.relations-relations.result.now c.loop-relation.relation-index (omega (arith, c.loop-relation-test.false, c.loop-relation.auto.relation-index-end)))
    (c.loop-relation.invariant n) in
    let named = named_by_all c.args.view.now c.args.user.now c.relations-relations.result.now (c.relations-relations.ensures.relations ∙ ap (λ (k : Configured). k.relations) c.config.ensures.config ∙ ap (λ (S : Snap). S.config.relations) c.view.ensures) n in
    (λ h. named.0 (all.0 h), λ m. all.1 (named.1 m))
