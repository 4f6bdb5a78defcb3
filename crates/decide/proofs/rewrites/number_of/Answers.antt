use Rattle.std.proofs.Common.{◌<◌, ◌≤◌, subst, arith}
use Rattle.std.specs.Prelude.{Some}
use Rattle.names.specs.declared.node.Node.{Node}
use Rattle.decide.specs.inside.Asked.{IsCounted, IsLeft}
use Rattle.decide.specs.inside.Reads.{node_with}
use Rattle.decide.proofs.Found.{goes_refl, goes_on, too_high, no_relation, opened_at, opened_counts, asker_there, high_low}
use Rattle.decide.proofs.Opening.{opens_grew, opens_number, opens_running}
use Rattle.decide.proofs.rewrites.number_of.Goals as goal

pub returns-then-level_of-high-clause-none : goal.returns-then-level_of-high-clause-none
returns-then-level_of-high-clause-none c =
    let view = c.args.facts.now in
    let a = c.args.asking.now in
    let level = c.level_of.result in
    too_high view a c.args.search.now (node_with c.args.relation.now c.args.object.now) level
    (opened_at view a c.args.search.now (node_with c.args.relation.now c.args.object.now) c.in-Ok.number (Some a.number) level c.requires.asking.running c.in-Ok.ensures c.level_of.ensures)
    (subst (λ h. h ≤ level) c.high.ensures c.if-level_of-high.true)

pub returns-in-Ok-clause-some : goal.returns-in-Ok-clause-some
returns-in-Ok-clause-some c =
    let view = c.args.facts.now in
    let a = c.args.asking.now in
    let level = c.level_of.result in
    opened_counts view a c.args.search.now (node_with c.args.relation.now c.args.object.now) c.in-Ok.number (Some a.number) level c.requires.asking.running c.in-Ok.ensures c.level_of.ensures
    (subst (λ h. level < h) c.high.ensures c.if-level_of-high.false)

pub returns-in_default-clause-none : goal.returns-in_default-clause-none
returns-in_default-clause-none c =
    let view = c.args.facts.now in
    let a = c.args.asking.now in
    let s = c.args.search.now in
    subst (λ (n : Node). IsLeft view s a n → ⊥) c.node_of-node.ensures (no_relation view a s c.node_of-node.result c.in_default.ensures.none)

pub returns-then-level-high-clause-none : goal.returns-then-level-high-clause-none
returns-then-level-high-clause-none c =
    let view = c.args.facts.now in
    let a = c.args.asking.now in
    let s = c.args.search.now in
    let m = c.node_of-node.result in
    let level = c.level_at-level.result in
    let stands = c.in-Some.ensures.some a.user.now (Some a.number) c.requires.asking.running in
    subst (λ (n : Node). IsLeft view s a n → ⊥) c.node_of-node.ensures
    (too_high view a s m level (c.level_at-level.ensures.at m stands) (subst (λ h. h ≤ level) c.high-2.ensures c.if-level-high.true))

pub returns-clause-goes_on : goal.returns-clause-goes_on
returns-clause-goes_on c =
    let view = c.args.facts.now in
    let user = c.args.asking.now.user.now in
    let a = c.args.asking.now in
    let s = c.args.search.now in
    let t = c.open.new.self in
    let m = c.node_of-node.result in
    let level = c.level_at-level.result in
    let place = c.in-Some.place in
    let number = c.in_ok-number.number in
    let opens = c.in_ok-number.ensures in
    let stands = c.in-Some.ensures.some user (Some a.number) c.requires.asking.running in
    let low : level < c.high-2.result = c.if-level-high.false in
    let there = (asker_there view a s c.requires.asking).0 in
    let up = high_low a in
    goes_on view a s t c.requires.asking (opens_grew s t m level place number opens)
    (opens_running s t m level place number opens view user (Some a.number) (omega (arith, low, there, up, c.high-2.ensures)) (c.level_at-level.ensures.at m stands) stands c.requires.asking.running)

pub returns-clause-some : goal.returns-clause-some
returns-clause-some c =
    let view = c.args.facts.now in
    let a = c.args.asking.now in
    let t = c.open.new.self in
    let m = c.node_of-node.result in
    let level = c.level_at-level.result in
    let number = c.in_ok-number.number in
    let stands = c.in-Some.ensures.some a.user.now (Some a.number) c.requires.asking.running in
    subst (λ (n : Node). IsCounted view t a n number) c.node_of-node.ensures (
      level,
      opens_number c.args.search.now t m level c.in-Some.place number c.in_ok-number.ensures,
      c.level_at-level.ensures.at m stands,
      subst (λ h. level < h) c.high-2.ensures c.if-level-high.false,
    )

pub returns-then-level_of-high-clause-goes_on : goal.returns-then-level_of-high-clause-goes_on
returns-then-level_of-high-clause-goes_on c = goes_refl c.args.facts.now c.args.asking.now c.args.search.now c.requires.asking

pub returns-in-Ok-clause-goes_on : goal.returns-in-Ok-clause-goes_on
returns-in-Ok-clause-goes_on c = goes_refl c.args.facts.now c.args.asking.now c.args.search.now c.requires.asking

pub returns-in_default-clause-goes_on : goal.returns-in_default-clause-goes_on
returns-in_default-clause-goes_on c = goes_refl c.args.facts.now c.args.asking.now c.args.search.now c.requires.asking

pub returns-then-level-high-clause-goes_on : goal.returns-then-level-high-clause-goes_on
returns-then-level-high-clause-goes_on c = goes_refl c.args.facts.now c.args.asking.now c.args.search.now c.requires.asking

pub level_at-level-requires : goal.level_at-level-requires
level_at-level-requires c = (c.in-Some.ensures.some c.args.asking.now.user.now (Some c.args.asking.now.number) c.requires.asking.running).within
