use Rattle.std.proofs.Common.{rules, ◌≡◌, ◌<◌, ◌≤◌, ◌-◌, ◌++◌, ◌∷◌, [], length, get_or, ap, ◌∙◌, sym, subst, arith}
use Rattle.decide.specs.inside.Searches.{IsFrame, AreFalling}
use Rattle.std.specs.Prelude.{Vec, Some}
use Rattle.std.specs.Global.{Global}
use Rattle.std.specs.Vec.{vec_len}
use Rattle.std.specs.Option.{option_to_list}
use Rattle.decide.specs.declared.search.Frame.{Frame}
use Rattle.decide.specs.inside.Ending.{left_on}
use Rattle.decide.proofs.Counting.{last_lowest, falling_popped, left_unframed}
use Rattle.decide.proofs.Popping.{taken_running, taken_lowest, taken_numbers, same_running, some_mapped, none_mapped}
use Rattle.decide.proofs.search.Search.next.Goals as goal

its_frames : {v w : Vec Frame Global} → v ≡ w → v.items ≡ w.items
its_frames same = ap (λ (x : Vec Frame Global). x.items) same

pub returns-in-Some-clause-numbers : goal.returns-in-Some-clause-numbers
returns-in-Some-clause-numbers c =
    taken_numbers c.args.self.now c.loop-self.self c.pop_below.new.self c.loop-self.invariant.opened c.loop-self.invariant.stacks c.in-Some.ensures.opened (its_frames c.in-Some.ensures.frames) c.loop-self.invariant.falls

pub returns-in-Some-clause-some : goal.returns-in-Some-clause-some
returns-in-Some-clause-some c S u =
    taken_running c.args.self.now c.loop-self.self c.pop_below.new.self c.loop-self.invariant.opened c.loop-self.invariant.stacks c.in-Some.ensures.opened (its_frames c.in-Some.ensures.frames) c.loop-self.invariant.falls
    S u c.in-Some.number c.in-Some.ensures.long c.in-Some.ensures.stacked c.in-Some.ensures.some

pub returns-clause-numbers : goal.returns-clause-numbers
returns-clause-numbers c =
    taken_numbers c.args.self.now c.loop-self.self c.pop_below-2.new.self c.loop-self.invariant.opened c.loop-self.invariant.stacks c.pop_below-2.ensures.opened (its_frames c.pop_below-2.ensures.frames) c.loop-self.invariant.falls

pub returns-clause-none : goal.returns-clause-none
returns-clause-none c = none_mapped c.pop_below-2.result _ _
    (λ empty l i on.
    let old = c.pop_below-2.ensures.stacked l i on in
    let below : l < c.len-levels.result = omega (arith, old.1, c.len-levels.ensures) in
    empty l i below old)
    c.pop_below-2.ensures.empty

pub returns-clause-same : goal.returns-clause-same
returns-clause-same c = none_mapped c.pop_below-2.result _ _
    (λ stacks S u running. same_running S u c.args.self.now c.pop_below-2.new.self
    (c.pop_below-2.ensures.opened ∙ c.loop-self.invariant.opened) (stacks ∙ c.loop-self.invariant.stacks)
    (λ falls. subst AreFalling (sym (its_frames c.pop_below-2.ensures.frames)) (c.loop-self.invariant.falls falls)) running)
    c.pop_below-2.ensures.none

pub returns-clause-some : goal.returns-clause-some
returns-clause-some c = some_mapped c.pop_below-2.result _ _
    (λ n took S u running.
    taken_running c.args.self.now c.loop-self.self c.pop_below-2.new.self c.loop-self.invariant.opened c.loop-self.invariant.stacks c.pop_below-2.ensures.opened (its_frames c.pop_below-2.ensures.frames) c.loop-self.invariant.falls
    S u n c.pop_below-2.ensures.long c.pop_below-2.ensures.stacked took running)
    c.pop_below-2.ensures.some

pub returns-in-Some-clause-lowest : goal.returns-in-Some-clause-lowest
returns-in-Some-clause-lowest c S u running =
    let fs = c.loop-self.self.frames.items in
    taken_lowest c.args.self.now c.loop-self.self c.pop_below.new.self c.loop-self.invariant.opened c.loop-self.invariant.stacks c.in-Some.ensures.opened (its_frames c.in-Some.ensures.frames) c.loop-self.invariant.falls
    S u c.in-Some.number c.index.result.now.level c.in-Some.ensures.below
    (λ falls i f at.
    let lt = at.0 in
    let long : c.len.result ≡ length fs = omega (arith, c.len.ensures) in
    let last : IsFrame fs (length fs - 1) c.index.result.now = (omega (arith, lt), sym (c.index.ensures ∙ ap (λ n. get_or fs (n - 1) c.index.result.now) long)) in
    last_lowest fs i f c.index.result.now falls at last)
    running

pub returns-clause-lowest : goal.returns-clause-lowest
returns-clause-lowest c = some_mapped c.pop_below-2.result _ _
    (λ n below S u running.
    let none : length c.loop-self.self.frames.items ≡ 0 = search rules in
    taken_lowest c.args.self.now c.loop-self.self c.pop_below-2.new.self c.loop-self.invariant.opened c.loop-self.invariant.stacks c.pop_below-2.ensures.opened (its_frames c.pop_below-2.ensures.frames) c.loop-self.invariant.falls
    S u n c.len-levels.result below
    (λ falls i f at. let lt = at.0 in absurd (omega (arith, lt, none)))
    running)
    c.pop_below-2.ensures.below

pub returns-in-Some-clause-ends : goal.returns-in-Some-clause-ends
returns-in-Some-clause-ends c = omega (arith, c.in-Some.ensures.ends, c.loop-self.invariant.ends)

pub returns-clause-ends : goal.returns-clause-ends
returns-clause-ends c = some_mapped c.pop_below-2.result _ _ (λ n less. omega (arith, less, c.loop-self.invariant.ends)) c.pop_below-2.ensures.ends

pub returns-in-Some-clause-opened : goal.returns-in-Some-clause-opened
returns-in-Some-clause-opened c = c.in-Some.ensures.opened ∙ c.loop-self.invariant.opened

pub returns-clause-opened : goal.returns-clause-opened
returns-clause-opened c = c.pop_below-2.ensures.opened ∙ c.loop-self.invariant.opened

pub loop-self-preserved : goal.loop-self-preserved
loop-self-preserved c =
    let before = c.loop-self.self in
    let f = c.index.result.now in
    let gs = c.pop.new.self.items in
    let some : 0 < vec_len before.frames = search rules in
    let there : 0 < vec_len c.pop_below.new.self.frames = subst (λ (v : Vec Frame Global). 0 < vec_len v) (sym c.in-None.ensures.frames) some in
    let read : get_or c.pop_below.new.self.frames.items (vec_len c.pop_below.new.self.frames - 1) f ≡ f =
    ap (λ (v : Vec Frame Global). get_or v.items (vec_len v - 1) f) c.in-None.ensures.frames ∙ ap (λ n. get_or before.frames.items (n - 1) f) (sym c.len.ensures) ∙ sym c.index.ensures in
    let one : c.pop.result ≡ Some f = c.pop.ensures.value f there ∙ ap (λ x. Some x) read in
    let all : c.pop_below.new.self.frames.items ≡ gs ++ f ∷ [] = c.pop.ensures.items ∙ ap (λ o. gs ++ option_to_list o) one in
    let less : left_on before.stacks.items gs ≤ left_on before.stacks.items before.frames.items =
    left_unframed before.stacks.items before.frames.items gs f (sym (its_frames c.in-None.ensures.frames) ∙ all) (λ k i below on. c.in-None.ensures.empty k i below on) in
    let stacks : left_on c.pop_below.new.self.stacks.items gs ≡ left_on before.stacks.items gs = ap (λ xs. left_on xs gs) c.in-None.ensures.none in
    record {
      opened = c.in-None.ensures.opened ∙ c.loop-self.invariant.opened;
      stacks = c.in-None.ensures.none ∙ c.loop-self.invariant.stacks;
      falls = λ falls. falling_popped c.pop_below.new.self.frames.items gs (f ∷ []) all (subst AreFalling (sym (its_frames c.in-None.ensures.frames)) (c.loop-self.invariant.falls falls));
      ends = omega (arith, less, stacks, c.loop-self.invariant.ends);
    }
