use Rattle.std.proofs.Common.{List, map, ap, sym, ◌∙◌, arith}
use Rattle.std.specs.List.{list_all}
use Rattle.names.specs.declared.relation.SubjectType.{SubjectType}
use Rattle.meaning.specs.Admits.{admits}
use Rattle.meaning.specs.Config.{Configured}
use Rattle.config_text.specs.declared.relation.Relation.{Relation}
use Rattle.config_text.specs.Forms.{defined_of}
use Rattle.config.proofs.Typing.{of_type, admits_types, all_passed, one_failed, one_passed, each_admitted, some_refused}
use Rattle.config.proofs.config.Config.admits_all_of.Goals as goal

pub loop-relation-preserved : goal.loop-relation-preserved
loop-relation-preserved c =
    let config = c.args.self.now in
    one_passed (admits_types config) defined_of c.deref-relation-items.result.now c.loop-relation.relation-index c.loop-relation.invariant c.relation-item.result c.loop-relation-test.true c.relation-item.is
    (sym (ap (λ (types : List SubjectType). list_all (λ type. admits config (of_type c.relation-item.result.name type)) types) c.deref.ensures.value) ∙ sym c.if-not-declares_all.ensures)

pub returns-then-not-declares_all-clause-no : goal.returns-then-not-declares_all-clause-no
returns-then-not-declares_all-clause-no c = λ _.
    let items = c.deref-relation-items.result.now in
    let config = c.args.self.now in
    some_refused config c.args.earlier.now
    (sym (ap (λ (rs : List Relation). list_all (admits_types config) (map defined_of rs)) c.deref-relation-items.ensures.value ∙ ap (λ (x : Configured). list_all (admits_types config) x.relations) c.earlier.view_is)
    ∙ one_failed (admits_types config) defined_of items c.loop-relation.relation-index c.loop-relation.invariant c.relation-item.result c.loop-relation-test.true c.relation-item.is
    (sym (ap (λ (types : List SubjectType). list_all (λ type. admits config (of_type c.relation-item.result.name type)) types) c.deref.ensures.value) ∙ sym c.if-not-declares_all.ensures))

pub returns-clause-yes : goal.returns-clause-yes
returns-clause-yes c = λ _.
    let items = c.deref-relation-items.result.now in
    let config = c.args.self.now in
    each_admitted config c.args.earlier.now
    (sym (ap (λ (rs : List Relation). list_all (admits_types config) (map defined_of rs)) c.deref-relation-items.ensures.value ∙ ap (λ (x : Configured). list_all (admits_types config) x.relations) c.earlier.view_is)
    ∙ all_passed (admits_types config) defined_of items c.loop-relation.relation-index c.loop-relation.invariant (omega (arith, c.loop-relation-test.false)))
