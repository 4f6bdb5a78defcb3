use Rattle.std.proofs.Common.{◌≡◌, ◌++◌, ℕ, List, [], ap, sym, subst, ◌∙◌}
use Rattle.std.specs.Prelude.{Some, false, filter}
use Rattle.std.specs.List.{starts_with}
use Rattle.std.proofs.Math.Dec.{eqb}
use Rattle.names.specs.declared.tuple.Tuple.{Tuple}
use Rattle.versions.specs.declared.version.Version.{Version}
use Rattle.tuple_keys.specs.Spelled.{spelled_node}
use Rattle.versions.specs.Versions.{tuples_at}
use Rattle.tuple_keys.specs.Named.{is_of}
use Rattle.versions.proofs.Decoding.{sorted_view}
use Rattle.tuple_keys.proofs.Prefixes.{node_begins}
use Rattle.versions.proofs.Together.{from}
use Rattle.versions.proofs.Going.{Left, left_first, left_none, left_past, left_more, left_late, first_rises, joined_starts, all_given}
use Rattle.versions.proofs.version_map.VersionMap.tuples_of.Goals as goal

pub loop-text-init : goal.loop-text-init
loop-text-init c =
    let node = c.args.node.now in
    subst (λ (ts : List Tuple). Left Some (spelled_node node) (is_of node) c.args.rev c.args.self.now [] ts c.into_iter-text-iterator.result) (sym c.new-tuples.ensures.items)
    (left_first Some (spelled_node node) (is_of node) (node_begins node c.of_node-least.ensures.is) c.args.rev c.texts-texts.result.now c.texts-texts.ensures.spelled c.range-text-items.ensures.ordered c.args.self.now c.texts-texts.ensures.entries c.requires c.into_iter-text-iterator.result (sym (c.into_iter-text-iterator.ensures.into_iter_gives ∙ c.range-text-items.ensures.between ∙ ap (λ (l : List ℕ). from l c.texts-texts.result.now) (c.as_str.ensures ∙ c.of_node-least.ensures.text))) [])

pub stands_at-requires : goal.stands_at-requires
stands_at-requires c =
    let node = c.args.node.now in
    let e : List ℕ × List Version = (c.in-Some.text.now, c.in-Some.versions.now) in
    first_rises Some (spelled_node node) (is_of node) (node_begins node c.of_node-least.ensures.is) c.args.rev c.args.self.now [] c.loop-text.tuples.items c.loop-text.text-iterator c.loop-text.invariant e c.next.new.self c.in-Some.ensures.steps

pub returns-in_default : goal.returns-in_default
returns-in_default c =
    let node = c.args.node.now in
    let e : List ℕ × List Version = (c.in-Some.text.now, c.in-Some.versions.now) in
    let ordered = sorted_view c.texts-texts.result.now c.args.self.now c.texts-texts.ensures.entries c.texts-texts.ensures.spelled c.range-text-items.ensures.ordered in
    let past : starts_with eqb e.0 (spelled_node node) ≡ false = sym (ap (starts_with eqb e.0) c.of_node-least.ensures.text) ∙ c.in_default.ensures.none in
    record {
      found = left_past Some (spelled_node node) (is_of node) (node_begins node c.of_node-least.ensures.is) c.args.rev c.args.self.now [] c.loop-text.tuples.items c.loop-text.text-iterator c.loop-text.invariant e c.next.new.self c.in-Some.ensures.steps past ordered ∙ all_given (filter (is_of node) (tuples_at c.args.self.now c.args.rev));
      ordered = ordered;
    }

pub loop-text-preserved-in-Continue-1 : goal.loop-text-preserved-in-Continue-1
loop-text-preserved-in-Continue-1 c =
    let node = c.args.node.now in
    let e : List ℕ × List Version = (c.in-Some.text.now, c.in-Some.versions.now) in
    let starts = joined_starts e.0 (spelled_node node) c.in-Some-rest_of.field-0.now (c.in-Some-rest_of.ensures.some ∙ ap (λ (l : List ℕ). l ++ c.in-Some-rest_of.field-0.now) c.of_node-least.ensures.text) in
    left_more Some (spelled_node node) (is_of node) (node_begins node c.of_node-least.ensures.is) c.args.rev c.args.self.now [] c.loop-text.tuples.items c.loop-text.text-iterator c.loop-text.invariant e c.next.new.self c.in-Some.ensures.steps starts (sym c.stands_at.ensures ∙ c.if-stands_at.true) c.push_tuple.new.tuples.items c.in_ok-push_tuple.ensures

pub loop-text-preserved : goal.loop-text-preserved
loop-text-preserved c =
    let node = c.args.node.now in
    let e : List ℕ × List Version = (c.in-Some.text.now, c.in-Some.versions.now) in
    left_late Some (spelled_node node) (is_of node) (node_begins node c.of_node-least.ensures.is) c.args.rev c.args.self.now [] c.loop-text.tuples.items c.loop-text.text-iterator c.loop-text.invariant e c.next.new.self c.in-Some.ensures.steps (sym c.stands_at.ensures ∙ c.if-stands_at.false)

pub returns : goal.returns
returns c =
    let node = c.args.node.now in
    let ordered = sorted_view c.texts-texts.result.now c.args.self.now c.texts-texts.ensures.entries c.texts-texts.ensures.spelled c.range-text-items.ensures.ordered in
    record {
      found = left_none Some (spelled_node node) (is_of node) (node_begins node c.of_node-least.ensures.is) c.args.rev c.args.self.now [] c.loop-text.tuples.items c.loop-text.text-iterator c.loop-text.invariant c.in-None.ensures.steps.0 ordered ∙ all_given (filter (is_of node) (tuples_at c.args.self.now c.args.rev));
      ordered = ordered;
    }
