use Rattle.std.proofs.Common.{ℕ, List, ◌∷◌, refl, ap, sym, ◌∙◌, subst}
use Rattle.versions.specs.declared.version.Version.{Version}
use Rattle.versions.specs.Ranges.{standing_in, IsRange}
use Rattle.versions.proofs.Going.{joined_starts}
use Rattle.versions.proofs.Ranging.{range_rest, first_spelled, first_rises, first_stands, first_fell, none_after, none_past}
use Rattle.versions.proofs.tuples.first_standing.Goals as goal

pub loop-text-init : goal.loop-text-init
loop-text-init c = record { range = c.requires; same = refl }

pub returns-in_default-rest_of-clause-range : goal.returns-in_default-rest_of-clause-range
returns-in_default-rest_of-clause-range c =
    let e : List ℕ × List Version = (c.in-Some.text.now, c.in-Some.versions.now) in
    range_rest c.args.start.now c.args.rev c.loop-text.walk c.next.new.self e c.in-Some.ensures.steps c.loop-text.invariant.range

pub returns-in_default-rest_of-clause-first : goal.returns-in_default-rest_of-clause-first
returns-in_default-rest_of-clause-first c =
    let e : List ℕ × List Version = (c.in-Some.text.now, c.in-Some.versions.now) in
    let range = c.loop-text.invariant.range in (
      c.loop-text.invariant.same ∙ none_past c.args.start.now c.args.rev c.loop-text.walk c.next.new.self e c.in-Some.ensures.steps range c.in_default-rest_of.ensures.none,
      none_after c.args.start.now c.args.rev c.loop-text.walk c.next.new.self e c.in-Some.ensures.steps range c.in_default-rest_of.ensures.none,
    )

pub stands_at-requires : goal.stands_at-requires
stands_at-requires c =
    let e : List ℕ × List Version = (c.in-Some.text.now, c.in-Some.versions.now) in
    first_rises c.args.start.now c.args.rev c.loop-text.walk c.next.new.self e c.in-Some.ensures.steps c.loop-text.invariant.range

pub of-requires : goal.of-requires
of-requires c =
    let e : List ℕ × List Version = (c.in-Some.text.now, c.in-Some.versions.now) in
    first_spelled c.args.start.now c.args.rev c.loop-text.walk c.next.new.self e c.in-Some.ensures.steps c.loop-text.invariant.range

pub returns-then-stands_at-clause-range : goal.returns-then-stands_at-clause-range
returns-then-stands_at-clause-range c =
    let e : List ℕ × List Version = (c.in-Some.text.now, c.in-Some.versions.now) in
    range_rest c.args.start.now c.args.rev c.loop-text.walk c.next.new.self e c.in-Some.ensures.steps c.loop-text.invariant.range

pub returns-then-stands_at-clause-first : goal.returns-then-stands_at-clause-first
returns-then-stands_at-clause-first c =
    let e : List ℕ × List Version = (c.in-Some.text.now, c.in-Some.versions.now) in
    let starts = joined_starts e.0 c.args.start.now c.in-Some-rest_of.field-0.now c.in-Some-rest_of.ensures.some in
    c.loop-text.invariant.same
    ∙ first_stands c.args.start.now c.args.rev c.loop-text.walk c.next.new.self e c.in-Some.ensures.steps c.loop-text.invariant.range (sym c.stands_at.ensures ∙ c.if-stands_at.true) starts
    ∙ ap (λ t. t ∷ standing_in c.args.start.now c.args.rev c.next.new.self) (sym c.of.ensures)

pub loop-text-preserved : goal.loop-text-preserved
loop-text-preserved c =
    let e : List ℕ × List Version = (c.in-Some.text.now, c.in-Some.versions.now) in
    let range = c.loop-text.invariant.range in
    record {
      range = range_rest c.args.start.now c.args.rev c.loop-text.walk c.next.new.self e c.in-Some.ensures.steps range;
      same = c.loop-text.invariant.same
          ∙ first_fell c.args.start.now c.args.rev c.loop-text.walk c.next.new.self e c.in-Some.ensures.steps range (sym c.stands_at.ensures ∙ c.if-stands_at.false);
    }

pub returns-clause-range : goal.returns-clause-range
returns-clause-range c = subst (IsRange c.args.start.now) (c.in_default.ensures.steps.0 ∙ sym c.in_default.ensures.steps.1) c.loop-text.invariant.range

pub returns-clause-first : goal.returns-clause-first
returns-clause-first c = (
  c.loop-text.invariant.same ∙ ap (standing_in c.args.start.now c.args.rev) c.in_default.ensures.steps.0,
  ap (standing_in c.args.start.now c.args.rev) c.in_default.ensures.steps.1,
)
