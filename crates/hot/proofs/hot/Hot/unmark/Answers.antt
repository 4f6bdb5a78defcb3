use Rattle.std.proofs.Common.{sym, ◌∙◌, arith}
use Rattle.facts.specs.inside.Growing.{later_stays}
use Rattle.hot.proofs.Marks.{kept_same, same_of_world, kept_swept, swept_of_world, marked_less, taken_out}
use Rattle.hot.proofs.Counting.{count_less}
use Rattle.hot.proofs.hot.Hot.unmark.Goals as goal

pub returns-in_err-gone-clause-hot : goal.returns-in_err-gone-clause-hot
returns-in_err-gone-clause-hot c = λ S is.
    let hot = c.args.self.now in
    record {
      valid = is.valid;
      all = record {
        kept = kept_same S hot.numbers.nodes hot.numbers.nodes hot.numbers.users hot.numbers.users hot.marks hot.sets.rows c.sweep.new.sets.rows
            c.in_err-gone.ensures.err (later_stays hot.numbers.nodes hot.numbers.users) is.all.kept;
        remembered = same_of_world S hot.numbers.nodes hot.numbers.nodes hot.numbers.users hot.numbers.users hot.marks hot.sets.rows c.sweep.new.sets.rows
            c.in_err-gone.ensures.err (later_stays hot.numbers.nodes hot.numbers.users) is.all.kept hot.told hot.told (λ n t at. at) is.all.remembered;
      };
      distinct = is.distinct;
    }

pub invariant_of-self-2 : goal.invariant_of-self-2
invariant_of-self-2 c = record {
  whole = c.in_ok-gone.ensures.whole;
  few =
      let count = count_less c.args.self.now.marks c.remove.new.self c.in-Some.id c.args.self.now.rising c.remove.ensures.ascending (sym c.contains.ensures ∙ c.if-not-contains.false) (taken_out c.args.self.now.marks c.in_ok-marks.marks c.remove.new.self c.in-Some.id c.in_ok-marks.ensures c.remove.ensures.members) in
      let few = c.args.self.now.few in
      omega (arith, count, few);
  rising = c.remove.ensures.ascending;
}

pub returns-clause-hot : goal.returns-clause-hot
returns-clause-hot c = λ S is.
    let hot = c.args.self.now in
    record {
      valid = is.valid;
      all = record {
        kept = kept_swept S hot.numbers.nodes hot.numbers.users hot.marks c.remove.new.self c.in-Some.id hot.sets.rows c.sweep.new.sets.rows
            (taken_out c.args.self.now.marks c.in_ok-marks.marks c.remove.new.self c.in-Some.id c.in_ok-marks.ensures c.remove.ensures.members) c.in_ok-gone.ensures.same c.in_ok-gone.ensures.held is.all.kept;
        remembered = swept_of_world S hot.numbers.nodes hot.numbers.users hot.marks c.remove.new.self c.in-Some.id hot.sets.rows c.sweep.new.sets.rows
            (taken_out c.args.self.now.marks c.in_ok-marks.marks c.remove.new.self c.in-Some.id c.in_ok-marks.ensures c.remove.ensures.members) c.in_ok-gone.ensures.same c.in_ok-gone.ensures.held is.all.kept
            c.in_ok-gone.gone.items hot.told c.forget_each.new.told c.in_ok-gone.ensures.gone (rw c.deref.ensures.value at c.forget_each.ensures) is.all.remembered;
      };
      distinct = is.distinct;
    }

pub returns-clause-ok : goal.returns-clause-ok
returns-clause-ok c =
    let hot = c.args.self.now in
    record {
      nodes = marked_less hot.numbers.nodes hot.marks c.remove.new.self c.in-Some.id c.args.node.now c.len.ensures.distinct c.in-Some.ensures.found (taken_out c.args.self.now.marks c.in_ok-marks.marks c.remove.new.self c.in-Some.id c.in_ok-marks.ensures c.remove.ensures.members);
      less = λ _. count_less hot.marks c.remove.new.self c.in-Some.id hot.rising c.remove.ensures.ascending (sym c.contains.ensures ∙ c.if-not-contains.false) (taken_out c.args.self.now.marks c.in_ok-marks.marks c.remove.new.self c.in-Some.id c.in_ok-marks.ensures c.remove.ensures.members);
      none = λ unmarked. absurd (unmarked (c.in-Some.id, sym c.contains.ensures ∙ c.if-not-contains.false, c.in-Some.ensures.found));
    }
