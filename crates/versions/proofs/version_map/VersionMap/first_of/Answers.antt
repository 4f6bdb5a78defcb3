use Rattle.std.proofs.Common.{◌≡◌, ◌≤◌, ◌++◌, ◌∷◌, ◌+◌, ℕ, List, [], length, ap, sym, subst, ◌∙◌, arith}
use Rattle.std.proofs.lemmas.List.{length-append}
use Rattle.std.specs.Prelude.{Some, false, filter}
use Rattle.std.specs.List.{starts_with}
use Rattle.std.proofs.Math.Dec.{eqb}
use Rattle.names.specs.declared.tuple.Tuple.{Tuple}
use Rattle.versions.specs.declared.version.Version.{Version}
use Rattle.tuple_keys.specs.Spelled.{spelled_node, tuple_of}
use Rattle.versions.specs.Versions.{tuples_at}
use Rattle.tuple_keys.specs.Named.{is_of}
use Rattle.versions.proofs.Decoding.{sorted_view}
use Rattle.tuple_keys.proofs.Prefixes.{node_begins}
use Rattle.versions.proofs.Together.{from}
use Rattle.versions.proofs.Going.{Left, left_first, left_none, left_past, left_more, left_late, first_rises, joined_starts, all_given, left_first_found, first_all, first_enough}
use Rattle.versions.proofs.version_map.VersionMap.first_of.Goals as goal

pub loop-text-init : goal.loop-text-init
loop-text-init c =
    let node = c.args.node.now in (
      subst (λ (ts : List Tuple). Left Some (spelled_node node) (is_of node) c.args.rev c.args.self.now [] ts c.into_iter-text-iterator.result) (sym c.new-tuples.ensures.items)
          (left_first Some (spelled_node node) (is_of node) (node_begins node c.of_node-least.ensures.is) c.args.rev c.texts-texts.result.now c.texts-texts.ensures.spelled c.range-text-items.ensures.ordered c.args.self.now c.texts-texts.ensures.entries c.requires c.into_iter-text-iterator.result (sym (c.into_iter-text-iterator.ensures.into_iter_gives ∙ c.range-text-items.ensures.between ∙ ap (λ (l : List ℕ). from l c.texts-texts.result.now) (c.as_str.ensures ∙ c.of_node-least.ensures.text))) []),
      subst (λ (ts : List Tuple). length ts ≤ c.args.most) (sym c.new-tuples.ensures.items) (omega arith),
    )

pub stands_at-requires : goal.stands_at-requires
stands_at-requires c =
    let node = c.args.node.now in
    let e : List ℕ × List Version = (c.in-Some.text.now, c.in-Some.versions.now) in
    first_rises Some (spelled_node node) (is_of node) (node_begins node c.of_node-least.ensures.is) c.args.rev c.args.self.now [] c.loop-text.tuples.items c.loop-text.text-iterator c.loop-text.invariant.0 e c.next.new.self c.in-Some.ensures.steps

pub returns-in_default : goal.returns-in_default
returns-in_default c =
    let node = c.args.node.now in
    let e : List ℕ × List Version = (c.in-Some.text.now, c.in-Some.versions.now) in
    let ordered = sorted_view c.texts-texts.result.now c.args.self.now c.texts-texts.ensures.entries c.texts-texts.ensures.spelled c.range-text-items.ensures.ordered in
    let past : starts_with eqb e.0 (spelled_node node) ≡ false = sym (ap (starts_with eqb e.0) c.of_node-least.ensures.text) ∙ c.in_default.ensures.none in
    let all = filter (is_of node) (tuples_at c.args.self.now c.args.rev) in
    record {
      found = first_all c.args.most c.loop-text.tuples.items all c.loop-text.invariant.1 (left_past Some (spelled_node node) (is_of node) (node_begins node c.of_node-least.ensures.is) c.args.rev c.args.self.now [] c.loop-text.tuples.items c.loop-text.text-iterator c.loop-text.invariant.0 e c.next.new.self c.in-Some.ensures.steps past ordered ∙ all_given all);
      ordered = ordered;
    }

pub loop-text-preserved-in-Continue-1 : goal.loop-text-preserved-in-Continue-1
loop-text-preserved-in-Continue-1 c =
    let node = c.args.node.now in
    let e : List ℕ × List Version = (c.in-Some.text.now, c.in-Some.versions.now) in
    let starts = joined_starts e.0 (spelled_node node) c.in-Some-rest_of.field-0.now (c.in-Some-rest_of.ensures.some ∙ ap (λ (l : List ℕ). l ++ c.in-Some-rest_of.field-0.now) c.of_node-least.ensures.text) in (
      left_more Some (spelled_node node) (is_of node) (node_begins node c.of_node-least.ensures.is) c.args.rev c.args.self.now [] c.loop-text.tuples.items c.loop-text.text-iterator c.loop-text.invariant.0 e c.next.new.self c.in-Some.ensures.steps starts (sym c.stands_at.ensures ∙ c.if-stands_at.true) c.push_tuple.new.tuples.items c.in_ok-push_tuple.ensures,
      let found = c.loop-text.tuples.items in
          let same : length c.as_slice.result.now ≡ length found = ap (λ (ts : List Tuple). length ts) c.as_slice.ensures.value in
          let long : length (found ++ tuple_of e.0 ∷ []) ≡ length found + 1 = length-append found (tuple_of e.0 ∷ []) in
          subst (λ (ts : List Tuple). length ts ≤ c.args.most) (sym c.in_ok-push_tuple.ensures) (omega (arith, same, long, c.if-as_slice-most.false)),
    )

pub loop-text-preserved : goal.loop-text-preserved
loop-text-preserved c =
    let node = c.args.node.now in
    let e : List ℕ × List Version = (c.in-Some.text.now, c.in-Some.versions.now) in (
      left_late Some (spelled_node node) (is_of node) (node_begins node c.of_node-least.ensures.is) c.args.rev c.args.self.now [] c.loop-text.tuples.items c.loop-text.text-iterator c.loop-text.invariant.0 e c.next.new.self c.in-Some.ensures.steps (sym c.stands_at.ensures ∙ c.if-stands_at.false),
      c.loop-text.invariant.1,
    )

pub returns : goal.returns
returns c =
    let node = c.args.node.now in
    let ordered = sorted_view c.texts-texts.result.now c.args.self.now c.texts-texts.ensures.entries c.texts-texts.ensures.spelled c.range-text-items.ensures.ordered in
    let all = filter (is_of node) (tuples_at c.args.self.now c.args.rev) in
    record {
      found = first_all c.args.most c.loop-text.tuples.items all c.loop-text.invariant.1 (left_none Some (spelled_node node) (is_of node) (node_begins node c.of_node-least.ensures.is) c.args.rev c.args.self.now [] c.loop-text.tuples.items c.loop-text.text-iterator c.loop-text.invariant.0 c.in-None.ensures.steps.0 ordered ∙ all_given all);
      ordered = ordered;
    }

pub returns-then-as_slice-most-clause-found : goal.returns-then-as_slice-most-clause-found
returns-then-as_slice-most-clause-found c =
    let node = c.args.node.now in
    let found = c.loop-text.tuples.items in
    let ordered = sorted_view c.texts-texts.result.now c.args.self.now c.texts-texts.ensures.entries c.texts-texts.ensures.spelled c.range-text-items.ensures.ordered in
    let all = filter (is_of node) (tuples_at c.args.self.now c.args.rev) in
    let same : length c.as_slice.result.now ≡ length found = ap (λ (ts : List Tuple). length ts) c.as_slice.ensures.value in
    first_enough c.args.most found _ all c.loop-text.invariant.1 (omega (arith, same, c.if-as_slice-most.true))
    (left_first_found Some (spelled_node node) (is_of node) (node_begins node c.of_node-least.ensures.is) c.args.rev c.args.self.now [] found c.loop-text.text-iterator c.loop-text.invariant.0 ordered ∙ all_given all)

pub returns-then-as_slice-most-clause-ordered : goal.returns-then-as_slice-most-clause-ordered
returns-then-as_slice-most-clause-ordered c =
    sorted_view c.texts-texts.result.now c.args.self.now c.texts-texts.ensures.entries c.texts-texts.ensures.spelled c.range-text-items.ensures.ordered
