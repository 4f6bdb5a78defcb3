use Rattle.std.proofs.Common.{◌≡◌, ◌++◌, List, Vec, ap, sym, subst, ◌∙◌, get_or}
use Rattle.std.specs.Prelude.{filter, Contains}
use Rattle.std.specs.Global.{Global}
use Rattle.std.proofs.lemmas.List.{take_all}
use Rattle.names.specs.declared.node.Node.{Node}
use Rattle.names.specs.declared.relation.SubjectType.{SubjectType}
use Rattle.names.specs.declared.tuple.Tuple.{Tuple}
use Rattle.config_text.specs.declared.relation.Relation.{Relation}
use Rattle.meaning.specs.TupleSet as set
use Rattle.meaning.specs.Admits.{Admits}
use Rattle.meaning.specs.Config.{Configured, Has, rel_of}
use Rattle.config.proofs.Searching.{read_there}
use Rattle.meaning.specs.Snap.{Snap, set_of}
use Rattle.meaning.proofs.AdmitsLemmas.{told_admitted}
use Rattle.meaning.proofs.Lists.{contains_none}
use Rattle.meaning.proofs.TupleSets.{contains_iff}
use Rattle.versions.specs.Named.{nodes_in}
use Rattle.tuple_keys.specs.Named.{is_within}
use Rattle.rows.specs.Lookups.{DeclaresNodes}
use Rattle.rows.proofs.Naming.{declared_none, declared_all, more_only, more_all, same_only, same_all}
use Rattle.rows.proofs.view.View.usersets_of.Goals as goal
use Rattle.rows.proofs.view.View.usersets_of.Goals.{then-is_first+in_ok-usersets_in, else-is_first}

pub returns-in_default-clause-all : goal.returns-in_default-clause-all
returns-in_default-clause-all c = λ m has known.
    let t : Tuple = record { node = c.args.node.now; subject = set_of m } in
    let given = told_admitted c.args.self.now.config t (c.config-config.ensures.admitted t ((contains_iff c.args.self.now.tuples t).1 has)) in
    absurd (c.in_default.ensures.none (subst (λ (k : Configured). Has k (rel_of c.args.node.now)) (sym c.config-config.ensures.config) (given.0, given.1)))

pub loop-i-init : goal.loop-i-init
loop-i-init c = record {
  only = λ m in'. absurd (contains_none m (subst (λ (ms : List Node). Contains ms m) c.new-nodes.ensures.items in'));
  all = λ m _ one. absurd (declared_none c.as_slice-types.result.now m.object.namespace one);
}

pub loop-i-preserved : goal.loop-i-preserved
loop-i-preserved c =
    let n = c.args.node.now in
    let ts : List Tuple = set.items c.args.self.now.tuples in
    let types = c.as_slice-types.result.now in
    let old = c.loop-i.nodes.items in
    let now = c.if-is_first.nodes.items in
    let only = c.loop-i.invariant.only in
    let all = c.loop-i.invariant.all in
    elim c.if-is_first.branch [
      | then-is_first+in_ok-usersets_in w ↦
          let d : SubjectType = get_or types c.loop-i.i w.index-types-i.result in
          let adds : now ≡ old ++ nodes_in (filter (is_within n d.namespace) ts) = ap (λ (v : Vec Node Global). v.items) w.nodes-is ∙ w.in_ok-usersets_in.ensures
          ∙ ap (λ (s : Snap). old ++ nodes_in (filter (is_within n d.namespace) (set.items s.tuples))) c.self.view_is in
          record {
            only = more_only n ts types c.loop-i.i c.loop-i-test.true old now only all w.index-types-i.result adds;
            all = more_all n ts types c.loop-i.i c.loop-i-test.true old now only all w.index-types-i.result adds;
          }
      | else-is_first w ↦
          let same : now ≡ old = ap (λ (v : Vec Node Global). v.items) w.nodes-is in
          record {
            only = same_only n ts types c.loop-i.i c.loop-i-test.true old now only all same;
            all = same_all n ts types c.loop-i.i c.loop-i-test.true old now only all same (c.is_first.ensures w.if-is_first.false);
          }
    ]

pub returns-clause-all : goal.returns-clause-all
returns-clause-all c = λ m has known.
    let n = c.args.node.now in
    let t : Tuple = record { node = n; subject = set_of m } in
    let config = c.config-config.result.now in
    let admitted = subst (λ (k : Configured). Admits k t) (sym c.config-config.ensures.config) (told_admitted c.args.self.now.config t (c.config-config.ensures.admitted t ((contains_iff c.args.self.now.tuples t).1 has))) in
    let d : Relation = c.index-relations-place.result in
    let stands = c.in-Some.ensures.found in
    let is = read_there config c.relations.result.now (rel_of n) c.in-Some.place d c.relations.ensures.relations stands c.index-relations-place.is in
    let types = c.as_slice-types.result.now in
    let items : types ≡ d.types.items = c.as_slice-types.ensures.value ∙ ap (λ (r : Relation). r.types.items) (sym c.index-relations-place.is) in
    let declared = declared_all config n m c.in-Some.place stands d is admitted in
    c.loop-i.invariant.all m has
    (subst (λ (ts : List SubjectType). DeclaresNodes ts m.object.namespace) (sym (take_all c.loop-i.i types c.loop-i-test.false))
    (subst (λ (ts : List SubjectType). DeclaresNodes ts m.object.namespace) (sym items) declared))
