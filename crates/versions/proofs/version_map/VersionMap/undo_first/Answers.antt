use Rattle.std.proofs.Common.{◌≡◌, ℕ, List, ◌+◌, ◌-◌, ◌<◌, ◌++◌, length, take, get_or, length-take-le, ap, sym, subst, ◌∙◌, suc, arith}
use Rattle.std.specs.Prelude.{cond, not, ◌&&◌}
use Rattle.names.specs.Order.{is_same_tuple}
use Rattle.names.specs.declared.tuple.Tuple.{Tuple}
use Rattle.versions.specs.declared.version.Version.{Version}
use Rattle.versions.specs.Versions.{drop_last, versions_at, versions_in, is_there, GoesOn}
use Rattle.std.proofs.lemmas.List.{get_or-take}
use Rattle.versions.proofs.Settling.{take_all}
use Rattle.versions.proofs.Steps.{off_one, off_all}
use Rattle.versions.proofs.Coming.{ChangedFrom, changed_more, changed_none, changed_all, one, one_most}
use Rattle.versions.proofs.version_map.VersionMap.undo_first.Goals as goal

pub loop-left-preserved : goal.loop-left-preserved
loop-left-preserved c =
    let es = take c.args.count c.args.events.now in
    let long : length es ≡ c.args.count = length-take-le c.args.count c.args.events.now c.requires.within in
    let k : ℕ = c.loop-left.left - 1 in
    let e = c.event-event.result in
    let less : c.loop-left.left ≡ suc k = omega (arith, c.loop-left-test.true) in
    let within = c.loop-left.invariant.within in
    let small : k < length es = omega (arith, c.loop-left-test.true, within, long) in
    let at : e ≡ get_or es k e = c.event-event.ensures ∙ sym (get_or-take c.args.count c.args.events.now k e (omega (arith, c.loop-left-test.true, within))) in
    let rest : (before : Tuple → List Version) (rev : ℕ) → GoesOn before c.args.self.now rev es → GoesOn before c.pop.new.self rev (take k es) = λ before rev h q. off_one rev es k e q (before q) (versions_at c.loop-left.self q) (versions_at c.pop.new.self q) small at
    (c.loop-left.invariant.rest before rev h q ∙ ap (λ (n : ℕ). before q ++ versions_in rev (take n es) q) less)
    (c.pop.ensures q ∙ ap (λ (t : Tuple). cond (is_same_tuple q t) (drop_last (versions_at c.loop-left.self q)) (versions_at c.loop-left.self q)) c.tuple_ref.ensures) in
    let put = ap (λ (m : Version). m.put) c.of.ensures in
    let come = c.and-change.ensures.come in
    let gone = c.and-change.ensures.gone in
    let come_before = c.loop-left.invariant.come in
    let gone_before = c.loop-left.invariant.gone in
    let come_most = one_most (c.of.result.put && not c.holds.result) in
    let gone_most = one_most (not c.of.result.put && c.holds.result) in
    record {
      within = omega (arith, within);
      come = omega (arith, c.loop-left-test.true, come, come_before, come_most);
      gone = omega (arith, c.loop-left-test.true, gone, gone_before, gone_most);
      rest = rest;
      changed = λ before rev h. changed_more before rev es k e c.loop-left.change c.and-change.result c.holds.result small at
          (c.holds.ensures ∙ ap (λ (t : Tuple). is_there (versions_at c.pop.new.self t)) c.tuple_ref-in-loop-left.ensures ∙ ap is_there (rest before rev h e.tuple))
          (come ∙ ap (λ b. c.loop-left.change.come + one (b && not c.holds.result)) put)
          (gone ∙ ap (λ b. c.loop-left.change.gone + one (not b && c.holds.result)) put)
          (subst (λ n. ChangedFrom before es n c.loop-left.change) less (c.loop-left.invariant.changed before rev h));
    }

pub returns-clause-versions : goal.returns-clause-versions
returns-clause-versions c = λ before rev h q.
    let es = take c.args.count c.args.events.now in
    let none : c.loop-left.left ≡ 0 = omega (arith, c.loop-left-test.false) in
    c.loop-left.invariant.rest before rev h q
    ∙ ap (λ (k : ℕ). before q ++ versions_in rev (take k es) q) none
    ∙ off_all rev es q (before q)

pub returns-clause-change : goal.returns-clause-change
returns-clause-change c = λ before rev h.
    let es = take c.args.count c.args.events.now in
    let none : c.loop-left.left ≡ 0 = omega (arith, c.loop-left-test.false) in
    changed_all before es c.loop-left.change (subst (λ n. ChangedFrom before es n c.loop-left.change) none (c.loop-left.invariant.changed before rev h))

pub returns-clause-come : goal.returns-clause-come
returns-clause-come c = let most = c.loop-left.invariant.come in omega (arith, most)

pub returns-clause-gone : goal.returns-clause-gone
returns-clause-gone c = let most = c.loop-left.invariant.gone in omega (arith, most)

pub and-change-requires-clause-come : goal.and-change-requires-clause-come
and-change-requires-clause-come c =
    let most = c.loop-left.invariant.come in
    let small = c.requires.small in
    omega (arith, most, small)

pub and-change-requires-clause-gone : goal.and-change-requires-clause-gone
and-change-requires-clause-gone c =
    let most = c.loop-left.invariant.gone in
    let small = c.requires.small in
    omega (arith, most, small)

pub loop-left-init : goal.loop-left-init
loop-left-init c =
    let es = take c.args.count c.args.events.now in
    let long : length es ≡ c.args.count = length-take-le c.args.count c.args.events.now c.requires.within in
    let come = c.none-change.ensures.come in
    let gone = c.none-change.ensures.gone in
    record {
      within = omega arith;
      come = omega (arith, come);
      gone = omega (arith, gone);
      rest = λ before rev h. subst (λ xs. GoesOn before c.args.self.now rev xs) (sym (take_all es c.args.count (sym long))) h;
      changed = λ before rev h. changed_none before es c.none-change.result c.args.count (sym long) come gone;
    }
