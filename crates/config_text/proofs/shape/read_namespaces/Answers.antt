use Rattle.std.proofs.Common.{◌∷◌, [], ◌++◌, ap, sym, ◌∙◌, map, append_assoc}
use Rattle.std.specs.Prelude.{option_map, option_and_then}
use Rattle.serde_json.specs.Find.{as_object}
use Rattle.serde_json.specs.View.{view, members_view}
use Rattle.serde_json.proofs.Views.{Entry}
use Rattle.config_text.specs.Texts.{relation_texts, config_texts}
use Rattle.config_text.specs.Shape.{relations_read}
use Rattle.config_text.proofs.Ascending.{entries_in_order, values_more, values_done, texts_ordered}
use Rattle.config_text.proofs.Sections.{namespace_more, namespaces_done}
use Rattle.config_text.proofs.shape.read_namespaces.Goals as goal

pub loop-key-preserved : goal.loop-key-preserved
loop-key-preserved c =
    let e : Entry = (c.in-Some.key.now, c.in-Some.value.now) in let i = c.loop-key.invariant in (
      namespace_more c.loop-key.namespaces.items c.push.new.self.items c.loop-key.relations.items c.in-Some-2.more.items c.append.new.self.items c.in_ok-clone.field-0 e c.next.new.self c.loop-key.key-iterator c.args.members.now.entries
          c.in-Some.ensures.steps
          (sym (ap (λ k. option_and_then (relations_read k) (as_object (view c.in-Some.value.now))) c.as_str.ensures.value) ∙ sym c.in_ok-more.ensures.ok ∙ ap (option_map (λ v. map relation_texts v.items)) c.in-Some-2.is)
          c.in_ok-clone.ensures.cases c.in_ok-push.ensures.items c.in_ok-append.ensures.items i.0,
      (i.1.0 ++ e ∷ [], i.1.1 ∙ ap (λ xs. i.1.0 ++ xs) c.in-Some.ensures.steps ∙ sym (append_assoc i.1.0 (e ∷ []) c.next.new.self), values_more i.1.0 e i.1.2 c.in_ok-more.ensures.ordered),
    )

pub returns-clause-ordered : goal.returns-clause-ordered
returns-clause-ordered c =
    let i = c.loop-key.invariant in let es = c.args.members.now.entries in
    let t = config_texts (record { namespaces = c.loop-key.namespaces; relations = c.loop-key.relations }) in
    texts_ordered (members_view es) t (sym (namespaces_done t c.loop-key.key-iterator es c.in-None.ensures.steps.0 i.0))
    (entries_in_order es c.iter-key-items.ensures.ordered) (values_done i.1.0 c.loop-key.key-iterator es i.1.1 c.in-None.ensures.steps.0 i.1.2)
