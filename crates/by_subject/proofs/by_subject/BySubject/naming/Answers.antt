use Rattle.std.proofs.Common.{◌≡◌, ℕ, ◌++◌, List, ap, sym, ◌∙◌}
use Rattle.std.specs.Prelude.{false}
use Rattle.std.specs.List.{starts_with}
use Rattle.std.specs.Option.{option_to_list}
use Rattle.std.proofs.Math.Dec.{eqb}
use Rattle.names.specs.declared.node.Node.{Node}
use Rattle.names.specs.declared.tuple.Tuple.{Tuple}
use Rattle.tuple_keys.specs.Spelled.{spelled_object}
use Rattle.tuple_keys.specs.Named.{is_at}
use Rattle.tuple_keys.proofs.Prefixes.{object_begins}
use Rattle.by_subject.specs.inside.Texts.{Texts, namer_in}
use Rattle.by_subject.proofs.Going.{from, left_first, left_none, left_past, left_more, spelled_now, joined_starts}
use Rattle.by_subject.proofs.Counting.{counted_first, counted_out, counted_more}
use Rattle.by_subject.proofs.Named.{named_by}
use Rattle.by_subject.proofs.by_subject.BySubject.naming.Goals as goal

pub loop-text-init : goal.loop-text-init
loop-text-init c =
    let object = c.args.object.now in
    let p : List ℕ = spelled_object object in
    let here = sym (c.into_iter-text-iterator.ensures.into_iter_gives ∙ c.range-text-items.ensures.between ∙ ap (λ (l : List ℕ). from l c.texts-texts.result.now) (c.as_str.ensures ∙ c.of_object-least.ensures.text)) in
    record {
      left =
          left_first namer_in p (is_at object) (object_begins object c.of_object-least.ensures.is)
          c.texts-texts.result.now c.texts-texts.ensures.spelled c.range-text-items.ensures.ordered c.args.self.now c.texts-texts.ensures.found c.into_iter-text-iterator.result
          here
          c.new-nodes.result.items c.new-nodes.ensures.items;
      counted = counted_first p (is_at object) (object_begins object c.of_object-least.ensures.is) c.texts-texts.result.now c.texts-texts.ensures.spelled c.range-text-items.ensures.ordered c.args.self.now c.texts-texts.ensures.found c.into_iter-text-iterator.result here c.args.most;
    }

pub returns-in_default-clause-found : goal.returns-in_default-clause-found
returns-in_default-clause-found c =
    let object = c.args.object.now in
    let p : List ℕ = spelled_object object in
    let found : List Node = c.loop-text.nodes.items in
    let it : Texts = c.loop-text.text-iterator in
    let e : List ℕ × Unit {0} = (c.in-Some.text.now, tt) in
    let past : starts_with eqb e.0 p ≡ false = sym (ap (starts_with eqb e.0) c.of_object-least.ensures.text) ∙ c.in_default.ensures.none in
    named_by c.args.self.now object found
    (left_past namer_in p (is_at object) (object_begins object c.of_object-least.ensures.is) c.args.self.now found it c.loop-text.invariant.left e c.next.new.self c.in-Some.ensures.steps past)

pub of-requires : goal.of-requires
of-requires c =
    let object = c.args.object.now in
    let p : List ℕ = spelled_object object in
    let found : List Node = c.loop-text.nodes.items in
    let it : Texts = c.loop-text.text-iterator in
    let e : List ℕ × Unit {0} = (c.in-Some.text.now, tt) in
    (spelled_now namer_in p (is_at object) (object_begins object c.of_object-least.ensures.is) c.args.self.now found it c.loop-text.invariant.left e c.next.new.self c.in-Some.ensures.steps).0

pub loop-text-preserved : goal.loop-text-preserved
loop-text-preserved c =
    let object = c.args.object.now in
    let p : List ℕ = spelled_object object in
    let found : List Node = c.loop-text.nodes.items in
    let it : Texts = c.loop-text.text-iterator in
    let e : List ℕ × Unit {0} = (c.in-Some.text.now, tt) in
    let reads : e.0 ≡ p ++ c.in-Some-rest_of.field-0.now = c.in-Some-rest_of.ensures.some ∙ ap (λ (l : List ℕ). l ++ c.in-Some-rest_of.field-0.now) c.of_object-least.ensures.text in
    let starts = joined_starts e.0 p c.in-Some-rest_of.field-0.now reads in
    record {
      left =
          left_more namer_in p (is_at object) (object_begins object c.of_object-least.ensures.is) c.args.self.now found it c.loop-text.invariant.left e c.next.new.self c.in-Some.ensures.steps
          starts
          c.push_namer.new.nodes.items
          (c.in_ok-push_namer.ensures ∙ ap (λ (t : Tuple). found ++ option_to_list (namer_in t)) c.of.ensures);
      counted = counted_more p (is_at object) (object_begins object c.of_object-least.ensures.is) c.args.self.now it c.loop-text.invariant.left.spelled c.args.most c.loop-text.more c.loop-text.invariant.counted e c.next.new.self c.in-Some.ensures.steps starts c.if-more-eq0.false;
    }

pub returns-then-more-eq0-clause-many : goal.returns-then-more-eq0-clause-many
returns-then-more-eq0-clause-many c =
    let object = c.args.object.now in
    let p : List ℕ = spelled_object object in
    let it : Texts = c.loop-text.text-iterator in
    let e : List ℕ × Unit {0} = (c.in-Some.text.now, tt) in
    let reads : e.0 ≡ p ++ c.in-Some-rest_of.field-0.now = c.in-Some-rest_of.ensures.some ∙ ap (λ (l : List ℕ). l ++ c.in-Some-rest_of.field-0.now) c.of_object-least.ensures.text in
    let starts = joined_starts e.0 p c.in-Some-rest_of.field-0.now reads in
    counted_out p (is_at object) (object_begins object c.of_object-least.ensures.is) c.args.self.now it c.loop-text.invariant.left.spelled c.args.most c.loop-text.more c.loop-text.invariant.counted e c.next.new.self c.in-Some.ensures.steps starts c.if-more-eq0.true

pub returns-clause-found : goal.returns-clause-found
returns-clause-found c =
    let object = c.args.object.now in
    let p : List ℕ = spelled_object object in
    let found : List Node = c.loop-text.nodes.items in
    let it : Texts = c.loop-text.text-iterator in
    named_by c.args.self.now object found
    (left_none namer_in p (is_at object) (object_begins object c.of_object-least.ensures.is) c.args.self.now found it c.loop-text.invariant.left c.in-None.ensures.steps.0)
