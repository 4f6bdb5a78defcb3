use Rattle.std.proofs.Common.{ℕ, ◌+◌, ◌-◌, ◌≤◌, ◌++◌, List, length, take, drop, subst, arith, below_more, length-take, length-drop}
use Rattle.http_api.specs.Heads.{max_head}
use Rattle.http_api.specs.inside.Endings.{shortest, after_name, HasNoHead}
use Rattle.http_api.proofs.Endings.{all_from, no_ending}
use Rattle.http_api.proofs.ending.can_be_ended.Goals as goal

pub loop-at-init : goal.loop-at-init
loop-at-init c = λ j below fits. absurd (omega (arith, below, fits))

pub loop-at-preserved : goal.loop-at-preserved
loop-at-preserved c =
    let P : ℕ → Type 0 = λ j. length c.args.bytes.now + (15 - j) ≤ max_head → HasNoHead (c.args.bytes.now ++ drop j shortest) in
    below_more P c.loop-at.at c.loop-at.invariant (λ fits. subst (λ (e : List ℕ). HasNoHead (c.args.bytes.now ++ e)) (all_from c.loop-at.at) (c.is_ended_by.ensures.no c.if-is_ended_by.false))

pub returns-then-is_ended_by-clause-yes : goal.returns-then-is_ended_by-clause-yes
returns-then-is_ended_by-clause-yes c = λ is. (take (15 - c.loop-at.at) (drop c.loop-at.at shortest), omega (arith, length-take (15 - c.loop-at.at) (drop c.loop-at.at shortest), length-drop c.loop-at.at shortest), c.is_ended_by.ensures.yes c.if-is_ended_by.true)

pub returns-then-room-ge3-clause-yes : goal.returns-then-room-ge3-clause-yes
returns-then-room-ge3-clause-yes c = λ is. (after_name, omega (arith, c.if-room-ge3.true), c.is_ended_by-then-room-ge3.ensures.yes is)

pub returns-then-room-ge3-clause-no : goal.returns-then-room-ge3-clause-no
returns-then-room-ge3-clause-no c = λ is. no_ending _ _ c.loop-at-test.false c.loop-at.invariant (λ fits. c.is_ended_by-then-room-ge3.ensures.no is)

pub returns-else-room-ge3-clause-no : goal.returns-else-room-ge3-clause-no
returns-else-room-ge3-clause-no c = λ is. no_ending _ _ c.loop-at-test.false c.loop-at.invariant (λ fits. absurd (omega (arith, fits, c.if-room-ge3.false, c.requires.short)))
