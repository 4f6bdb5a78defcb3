use Rattle.std.proofs.Common.{◌≡◌, ◌++◌, ℕ, List, [], ap, sym, subst, ◌∙◌}
use Rattle.std.specs.Prelude.{Some, false, filter}
use Rattle.std.specs.List.{starts_with}
use Rattle.std.proofs.Math.Dec.{eqb}
use Rattle.names.specs.declared.tuple.Tuple.{Tuple}
use Rattle.versions.specs.declared.version.Version.{Version}
use Rattle.tuple_keys.specs.Spelled.{spelled_object}
use Rattle.versions.specs.Versions.{tuples_at}
use Rattle.tuple_keys.specs.Named.{is_at}
use Rattle.versions.proofs.Decoding.{sorted_view}
use Rattle.versions.proofs.Counting.{counted_first, counted_out, counted_more}
use Rattle.tuple_keys.proofs.Prefixes.{object_begins}
use Rattle.versions.proofs.Together.{from}
use Rattle.versions.proofs.Going.{Left, left_first, left_none, left_past, left_more, left_late, first_rises, joined_starts, all_given}
use Rattle.versions.proofs.version_map.VersionMap.tuples_at_object.Goals as goal

pub loop-text-init : goal.loop-text-init
loop-text-init c =
    let object = c.args.object.now in
    let begins = object_begins object c.of_object-least.ensures.is in
    let here = sym (c.into_iter-text-iterator.ensures.into_iter_gives ∙ c.range-text-items.ensures.between ∙ ap (λ (l : List ℕ). from l c.texts-texts.result.now) (c.as_str.ensures ∙ c.of_object-least.ensures.text)) in
    record {
      left =
          subst (λ (ts : List Tuple). Left Some (spelled_object object) (is_at object) c.args.rev c.args.self.now [] ts c.into_iter-text-iterator.result) (sym c.new-tuples.ensures.items)
          (left_first Some (spelled_object object) (is_at object) begins c.args.rev c.texts-texts.result.now c.texts-texts.ensures.spelled c.range-text-items.ensures.ordered c.args.self.now c.texts-texts.ensures.entries c.requires c.into_iter-text-iterator.result here []);
      counted = counted_first (spelled_object object) (is_at object) begins c.texts-texts.result.now c.texts-texts.ensures.spelled c.args.self.now c.texts-texts.ensures.entries c.into_iter-text-iterator.result here c.args.most;
    }

pub stands_at-requires : goal.stands_at-requires
stands_at-requires c =
    let object = c.args.object.now in
    let e : List ℕ × List Version = (c.in-Some.text.now, c.in-Some.versions.now) in
    first_rises Some (spelled_object object) (is_at object) (object_begins object c.of_object-least.ensures.is) c.args.rev c.args.self.now [] c.loop-text.tuples.items c.loop-text.text-iterator c.loop-text.invariant.left e c.next.new.self c.in-Some.ensures.steps

pub returns-in_default-clause-found : goal.returns-in_default-clause-found
returns-in_default-clause-found c =
    let object = c.args.object.now in
    let e : List ℕ × List Version = (c.in-Some.text.now, c.in-Some.versions.now) in
    let past : starts_with eqb e.0 (spelled_object object) ≡ false = sym (ap (starts_with eqb e.0) c.of_object-least.ensures.text) ∙ c.in_default.ensures.none in
    left_past Some (spelled_object object) (is_at object) (object_begins object c.of_object-least.ensures.is) c.args.rev c.args.self.now [] c.loop-text.tuples.items c.loop-text.text-iterator c.loop-text.invariant.left e c.next.new.self c.in-Some.ensures.steps past
    (sorted_view c.texts-texts.result.now c.args.self.now c.texts-texts.ensures.entries c.texts-texts.ensures.spelled c.range-text-items.ensures.ordered)
    ∙ all_given (filter (is_at object) (tuples_at c.args.self.now c.args.rev))

pub returns-in_default-clause-ordered : goal.returns-in_default-clause-ordered
returns-in_default-clause-ordered c = sorted_view c.texts-texts.result.now c.args.self.now c.texts-texts.ensures.entries c.texts-texts.ensures.spelled c.range-text-items.ensures.ordered

pub returns-then-more-eq0-clause-few : goal.returns-then-more-eq0-clause-few
returns-then-more-eq0-clause-few c =
    let object = c.args.object.now in
    let e : List ℕ × List Version = (c.in-Some.text.now, c.in-Some.versions.now) in
    let starts = joined_starts e.0 (spelled_object object) c.in-Some-rest_of.field-0.now (c.in-Some-rest_of.ensures.some ∙ ap (λ (l : List ℕ). l ++ c.in-Some-rest_of.field-0.now) c.of_object-least.ensures.text) in
    counted_out (spelled_object object) (is_at object) (object_begins object c.of_object-least.ensures.is) c.args.self.now c.loop-text.text-iterator c.loop-text.invariant.left.spelled c.args.most c.loop-text.more c.loop-text.invariant.counted e c.next.new.self c.in-Some.ensures.steps starts c.if-more-eq0.true

pub returns-then-more-eq0-clause-ordered : goal.returns-then-more-eq0-clause-ordered
returns-then-more-eq0-clause-ordered c = sorted_view c.texts-texts.result.now c.args.self.now c.texts-texts.ensures.entries c.texts-texts.ensures.spelled c.range-text-items.ensures.ordered

pub loop-text-preserved-in-Continue-1 : goal.loop-text-preserved-in-Continue-1
loop-text-preserved-in-Continue-1 c =
    let object = c.args.object.now in
    let begins = object_begins object c.of_object-least.ensures.is in
    let e : List ℕ × List Version = (c.in-Some.text.now, c.in-Some.versions.now) in
    let starts = joined_starts e.0 (spelled_object object) c.in-Some-rest_of.field-0.now (c.in-Some-rest_of.ensures.some ∙ ap (λ (l : List ℕ). l ++ c.in-Some-rest_of.field-0.now) c.of_object-least.ensures.text) in
    record {
      left = left_more Some (spelled_object object) (is_at object) begins c.args.rev c.args.self.now [] c.loop-text.tuples.items c.loop-text.text-iterator c.loop-text.invariant.left e c.next.new.self c.in-Some.ensures.steps starts (sym c.stands_at.ensures ∙ c.if-stands_at.true) c.push_ref.new.tuples.items c.in_ok-push_ref.ensures;
      counted = counted_more (spelled_object object) (is_at object) begins c.args.self.now c.loop-text.text-iterator c.loop-text.invariant.left.spelled c.args.most c.loop-text.more c.loop-text.invariant.counted e c.next.new.self c.in-Some.ensures.steps starts c.if-more-eq0.false;
    }

pub loop-text-preserved : goal.loop-text-preserved
loop-text-preserved c =
    let object = c.args.object.now in
    let begins = object_begins object c.of_object-least.ensures.is in
    let e : List ℕ × List Version = (c.in-Some.text.now, c.in-Some.versions.now) in
    let starts = joined_starts e.0 (spelled_object object) c.in-Some-rest_of.field-0.now (c.in-Some-rest_of.ensures.some ∙ ap (λ (l : List ℕ). l ++ c.in-Some-rest_of.field-0.now) c.of_object-least.ensures.text) in
    record {
      left = left_late Some (spelled_object object) (is_at object) begins c.args.rev c.args.self.now [] c.loop-text.tuples.items c.loop-text.text-iterator c.loop-text.invariant.left e c.next.new.self c.in-Some.ensures.steps (sym c.stands_at.ensures ∙ c.if-stands_at.false);
      counted = counted_more (spelled_object object) (is_at object) begins c.args.self.now c.loop-text.text-iterator c.loop-text.invariant.left.spelled c.args.most c.loop-text.more c.loop-text.invariant.counted e c.next.new.self c.in-Some.ensures.steps starts c.if-more-eq0.false;
    }

pub returns-clause-found : goal.returns-clause-found
returns-clause-found c =
    let object = c.args.object.now in
    left_none Some (spelled_object object) (is_at object) (object_begins object c.of_object-least.ensures.is) c.args.rev c.args.self.now [] c.loop-text.tuples.items c.loop-text.text-iterator c.loop-text.invariant.left c.in-None.ensures.steps.0
    (sorted_view c.texts-texts.result.now c.args.self.now c.texts-texts.ensures.entries c.texts-texts.ensures.spelled c.range-text-items.ensures.ordered)
    ∙ all_given (filter (is_at object) (tuples_at c.args.self.now c.args.rev))

pub returns-clause-ordered : goal.returns-clause-ordered
returns-clause-ordered c = sorted_view c.texts-texts.result.now c.args.self.now c.texts-texts.ensures.entries c.texts-texts.ensures.spelled c.range-text-items.ensures.ordered
