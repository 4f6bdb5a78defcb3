use Rattle.std.proofs.Common.{◌≡◌, ℕ, ◌++◌, List, [], ap, sym, subst, ◌∙◌}
use Rattle.std.specs.Prelude.{Option, false}
use Rattle.std.specs.List.{starts_with}
use Rattle.std.specs.Option.{option_to_list}
use Rattle.std.proofs.Math.Dec.{eqb}
use Rattle.names.specs.declared.object.Object.{Object}
use Rattle.names.specs.declared.tuple.Tuple.{Tuple}
use Rattle.versions.specs.declared.version.Version.{Version}
use Rattle.tuple_keys.specs.Spelled.{spelled_node}
use Rattle.tuple_keys.specs.Named.{is_of}
use Rattle.tuple_keys.specs.Named.{object_in}
use Rattle.versions.proofs.Decoding.{sorted_view}
use Rattle.tuple_keys.proofs.Prefixes.{node_begins}
use Rattle.versions.proofs.Together.{from}
use Rattle.versions.proofs.Going.{Left, left_first, left_none, left_past, left_more, left_late, first_rises, joined_starts}
use Rattle.versions.proofs.version_map.VersionMap.objects_of.Goals as goal

pub loop-text-init : goal.loop-text-init
loop-text-init c =
    let node = c.args.node.now in
    let h : Tuple → Option Object = λ t. object_in t.subject in
    let p : List ℕ = spelled_node node in
    subst (λ (os : List Object). Left h p (is_of node) c.args.rev c.args.self.now [] os c.into_iter-text-iterator.result) (sym c.new-objects.ensures.items)
    (left_first h p (is_of node) (node_begins node c.of_node-least.ensures.is) c.args.rev c.texts-texts.result.now c.texts-texts.ensures.spelled c.range-text-items.ensures.ordered c.args.self.now c.texts-texts.ensures.entries c.requires c.into_iter-text-iterator.result (sym (c.into_iter-text-iterator.ensures.into_iter_gives ∙ c.range-text-items.ensures.between ∙ ap (λ (l : List ℕ). from l c.texts-texts.result.now) (c.as_str.ensures ∙ c.of_node-least.ensures.text))) [])

pub returns-in_default-clause-ordered : goal.returns-in_default-clause-ordered
returns-in_default-clause-ordered c = sorted_view c.texts-texts.result.now c.args.self.now c.texts-texts.ensures.entries c.texts-texts.ensures.spelled c.range-text-items.ensures.ordered

pub returns-in_default-clause-found : goal.returns-in_default-clause-found
returns-in_default-clause-found c =
    let node = c.args.node.now in
    let h : Tuple → Option Object = λ t. object_in t.subject in
    let p : List ℕ = spelled_node node in
    let e : List ℕ × List Version = (c.in-Some.text.now, c.in-Some.versions.now) in
    let past : starts_with eqb e.0 p ≡ false =
    sym (ap (starts_with eqb e.0) c.of_node-least.ensures.text) ∙ c.in_default.ensures.none in
    left_past h p (is_of node) (node_begins node c.of_node-least.ensures.is) c.args.rev c.args.self.now [] c.loop-text.objects.items c.loop-text.text-iterator c.loop-text.invariant e c.next.new.self c.in-Some.ensures.steps past
    (sorted_view c.texts-texts.result.now c.args.self.now c.texts-texts.ensures.entries c.texts-texts.ensures.spelled c.range-text-items.ensures.ordered)

pub stands_at-requires : goal.stands_at-requires
stands_at-requires c =
    let node = c.args.node.now in
    let h : Tuple → Option Object = λ t. object_in t.subject in
    let p : List ℕ = spelled_node node in
    let e : List ℕ × List Version = (c.in-Some.text.now, c.in-Some.versions.now) in
    first_rises h p (is_of node) (node_begins node c.of_node-least.ensures.is) c.args.rev c.args.self.now [] c.loop-text.objects.items c.loop-text.text-iterator c.loop-text.invariant e c.next.new.self c.in-Some.ensures.steps

pub loop-text-preserved-in-Continue-1 : goal.loop-text-preserved-in-Continue-1
loop-text-preserved-in-Continue-1 c =
    let node = c.args.node.now in
    let h : Tuple → Option Object = λ t. object_in t.subject in
    let p : List ℕ = spelled_node node in
    let e : List ℕ × List Version = (c.in-Some.text.now, c.in-Some.versions.now) in
    let reads : e.0 ≡ p ++ c.in-Some-rest_of.field-0.now = c.in-Some-rest_of.ensures.some ∙ ap (λ (l : List ℕ). l ++ c.in-Some-rest_of.field-0.now) c.of_node-least.ensures.text in
    left_more h p (is_of node) (node_begins node c.of_node-least.ensures.is) c.args.rev c.args.self.now [] c.loop-text.objects.items c.loop-text.text-iterator c.loop-text.invariant e c.next.new.self c.in-Some.ensures.steps (joined_starts e.0 p c.in-Some-rest_of.field-0.now reads) (sym c.stands_at.ensures ∙ c.if-stands_at.true) c.push_object.new.objects.items
    (c.in_ok-push_object.ensures ∙ ap (λ (t : Tuple). c.loop-text.objects.items ++ option_to_list (object_in t.subject)) (c.of.ensures))

pub loop-text-preserved : goal.loop-text-preserved
loop-text-preserved c =
    let node = c.args.node.now in
    let h : Tuple → Option Object = λ t. object_in t.subject in
    let p : List ℕ = spelled_node node in
    let e : List ℕ × List Version = (c.in-Some.text.now, c.in-Some.versions.now) in
    left_late h p (is_of node) (node_begins node c.of_node-least.ensures.is) c.args.rev c.args.self.now [] c.loop-text.objects.items c.loop-text.text-iterator c.loop-text.invariant e c.next.new.self c.in-Some.ensures.steps (sym c.stands_at.ensures ∙ c.if-stands_at.false)

pub returns : goal.returns
returns c =
    let node = c.args.node.now in
    let h : Tuple → Option Object = λ t. object_in t.subject in
    let p : List ℕ = spelled_node node in
    let ordered = sorted_view c.texts-texts.result.now c.args.self.now c.texts-texts.ensures.entries c.texts-texts.ensures.spelled c.range-text-items.ensures.ordered in
    record {
      found = left_none h p (is_of node) (node_begins node c.of_node-least.ensures.is) c.args.rev c.args.self.now [] c.loop-text.objects.items c.loop-text.text-iterator c.loop-text.invariant c.in-None.ensures.steps.0 ordered;
      ordered = ordered;
    }
