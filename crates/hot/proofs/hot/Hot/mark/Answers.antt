use Rattle.std.proofs.Common.{◌≡◌, true, false, [], refl, sym, ◌∙◌, subst, arith}
use Rattle.std.specs.Prelude.{Some}
use Rattle.meaning.specs.Snap.{Snap}
use Rattle.facts.specs.Telling.{MayTell}
use Rattle.facts.specs.inside.Growing.{later_further}
use Rattle.hot.specs.Kept.{AreKept, Remembered, told_of}
use Rattle.hot.specs.Nodes.{snap_asked}
use Rattle.hot.specs.inside.Remembering.{MayRecall}
use Rattle.facts.specs.inside.Tables.{grew_get}
use Rattle.least_sets.specs.World.{has}
use Rattle.least_sets.proofs.Found.{distinct_none}
use Rattle.region.proofs.Listing.{on_err_all}
use Rattle.hot.proofs.Marks.{kept_same, same_of_world, kept_marked, marked_of_world, recall_same, renewed_by, turned_one, marked_same, marked_more, marked_again, marks_there, not_marked, put_in}
use Rattle.hot.proofs.Counting.{count_more}
use Rattle.hot.proofs.Asked.{asked_once, asked_exactly, none_new, none_touched}
use Rattle.hot.proofs.hot.Hot.mark.Goals as goal

pub returns-in_err-id-clause-hot : goal.returns-in_err-id-clause-hot
returns-in_err-id-clause-hot c = λ is.
    let hot = c.args.self.now in
    let now = c.numbered.new.numbers in
    record {
      valid = is.valid;
      all = record {
        kept = kept_same c.args.view.now hot.numbers.nodes now.nodes hot.numbers.users now.users hot.marks hot.sets.rows hot.sets.rows (λ n. refl) c.numbered.ensures.later is.all.kept;
        remembered = same_of_world c.args.view.now hot.numbers.nodes now.nodes hot.numbers.users now.users hot.marks hot.sets.rows hot.sets.rows (λ n. refl) c.numbered.ensures.later is.all.kept hot.told hot.told (λ n t at. at) is.all.remembered;
      };
      distinct = c.numbered.ensures.distinct;
    }

pub returns-in_err-id-clause-err : goal.returns-in_err-id-clause-err
returns-in_err-id-clause-err c = on_err_all c.from_residual.result (λ is.
    let hot = c.args.self.now in
    record {
      nodes = λ n. marked_same hot.numbers.nodes c.numbered.new.numbers.nodes hot.marks c.numbered.ensures.later.nodes_grew
          (marks_there c.args.view.now hot.numbers.nodes hot.numbers.users hot.marks hot.sets.rows is.all.kept) n;
      count = refl;
    })

pub returns-then-contains-clause-hot : goal.returns-then-contains-clause-hot
returns-then-contains-clause-hot c = λ is.
    let hot = c.args.self.now in
    let now = c.numbered.new.numbers in
    record {
      valid = is.valid;
      all = record {
        kept = kept_same c.args.view.now hot.numbers.nodes now.nodes hot.numbers.users now.users hot.marks hot.sets.rows hot.sets.rows (λ n. refl) c.in_ok-id.ensures.later is.all.kept;
        remembered = same_of_world c.args.view.now hot.numbers.nodes now.nodes hot.numbers.users now.users hot.marks hot.sets.rows hot.sets.rows (λ n. refl) c.in_ok-id.ensures.later is.all.kept hot.told hot.told (λ n t at. at) is.all.remembered;
      };
      distinct = c.in_ok-id.ensures.distinct;
    }

pub returns-then-contains-clause-ok : goal.returns-then-contains-clause-ok
returns-then-contains-clause-ok c = λ is.
    let hot = c.args.self.now in
    let now = c.numbered.new.numbers in
    let there = marks_there c.args.view.now hot.numbers.nodes hot.numbers.users hot.marks hot.sets.rows is.all.kept in
    let marked : has hot.marks c.in_ok-id.id ≡ true = sym c.contains.ensures ∙ c.if-contains.true in
    record {
      nodes = λ n. marked_again hot.numbers.nodes now.nodes hot.marks c.in_ok-id.id c.args.node.now c.in_ok-id.ensures.later.nodes_grew c.in_ok-id.ensures.id marked there n;
      again = λ _. refl;
      more = λ off. absurd (off ((marked_same hot.numbers.nodes now.nodes hot.marks c.in_ok-id.ensures.later.nodes_grew there c.args.node.now).0
          (c.in_ok-id.id, marked, c.in_ok-id.ensures.id)));
    }

pub returns-then-contains-clause-asked : goal.returns-then-contains-clause-asked
returns-then-contains-clause-asked c = λ is.
    let hot = c.args.self.now in
    let now = c.numbered.new.numbers in
    record {
      once = distinct_none c.new.result.items c.new.ensures.items;
      exactly = none_new c.args.view.now hot.numbers.nodes now.nodes hot.numbers.users now.users hot.marks hot.sets.rows is.all.kept c.in_ok-id.ensures.later c.new.result.items c.new.ensures.items;
    }

pub returns-then-is_full-clause-hot : goal.returns-then-is_full-clause-hot
returns-then-is_full-clause-hot c = λ is.
    let hot = c.args.self.now in
    let now = c.numbered.new.numbers in
    record {
      valid = is.valid;
      all = record {
        kept = kept_same c.args.view.now hot.numbers.nodes now.nodes hot.numbers.users now.users hot.marks hot.sets.rows hot.sets.rows (λ n. refl) c.in_ok-id.ensures.later is.all.kept;
        remembered = same_of_world c.args.view.now hot.numbers.nodes now.nodes hot.numbers.users now.users hot.marks hot.sets.rows hot.sets.rows (λ n. refl) c.in_ok-id.ensures.later is.all.kept hot.told hot.told (λ n t at. at) is.all.remembered;
      };
      distinct = c.in_ok-id.ensures.distinct;
    }

pub returns-then-is_full-clause-err : goal.returns-then-is_full-clause-err
returns-then-is_full-clause-err c = λ is.
    let hot = c.args.self.now in
    record {
      nodes = λ n. marked_same hot.numbers.nodes c.numbered.new.numbers.nodes hot.marks c.in_ok-id.ensures.later.nodes_grew
          (marks_there c.args.view.now hot.numbers.nodes hot.numbers.users hot.marks hot.sets.rows is.all.kept) n;
      count = refl;
    }

pub returns-then-is_full-clause-cause : goal.returns-then-is_full-clause-cause
returns-then-is_full-clause-cause c =
    let hot = c.args.self.now in
    let off : has hot.marks c.in_ok-id.id ≡ false = sym c.contains.ensures ∙ c.if-contains.false in (
      c.is_full.ensures.full c.if-is_full.true,
      not_marked hot.numbers.nodes c.numbered.new.numbers.nodes hot.marks c.in_ok-id.id c.args.node.now c.in_ok-id.ensures.later.nodes_grew c.in_ok-id.ensures.distinct c.in_ok-id.ensures.id off,
    )

pub returns-in_err-marks-clause-hot : goal.returns-in_err-marks-clause-hot
returns-in_err-marks-clause-hot c = λ is.
    let hot = c.args.self.now in
    let now = c.numbered.new.numbers in
    record {
      valid = is.valid;
      all = record {
        kept = kept_same c.args.view.now hot.numbers.nodes now.nodes hot.numbers.users now.users hot.marks hot.sets.rows hot.sets.rows (λ n. refl) c.in_ok-id.ensures.later is.all.kept;
        remembered = same_of_world c.args.view.now hot.numbers.nodes now.nodes hot.numbers.users now.users hot.marks hot.sets.rows hot.sets.rows (λ n. refl) c.in_ok-id.ensures.later is.all.kept hot.told hot.told (λ n t at. at) is.all.remembered;
      };
      distinct = c.in_ok-id.ensures.distinct;
    }

pub returns-in_err-marks-clause-err : goal.returns-in_err-marks-clause-err
returns-in_err-marks-clause-err c = on_err_all c.from_residual-in_err-marks.result (λ is.
    let hot = c.args.self.now in
    record {
      nodes = λ n. marked_same hot.numbers.nodes c.numbered.new.numbers.nodes hot.marks c.in_ok-id.ensures.later.nodes_grew
          (marks_there c.args.view.now hot.numbers.nodes hot.numbers.users hot.marks hot.sets.rows is.all.kept) n;
      count = refl;
    })

pub returns-in_err-insert-clause-hot : goal.returns-in_err-insert-clause-hot
returns-in_err-insert-clause-hot c = λ is.
    let hot = c.args.self.now in
    let now = c.numbered.new.numbers in
    record {
      valid = is.valid;
      all = record {
        kept = kept_same c.args.view.now hot.numbers.nodes now.nodes hot.numbers.users now.users hot.marks hot.sets.rows hot.sets.rows (λ n. refl) c.in_ok-id.ensures.later is.all.kept;
        remembered = same_of_world c.args.view.now hot.numbers.nodes now.nodes hot.numbers.users now.users hot.marks hot.sets.rows hot.sets.rows (λ n. refl) c.in_ok-id.ensures.later is.all.kept hot.told hot.told (λ n t at. at) is.all.remembered;
      };
      distinct = c.in_ok-id.ensures.distinct;
    }

pub returns-in_err-insert-clause-err : goal.returns-in_err-insert-clause-err
returns-in_err-insert-clause-err c = on_err_all c.from_residual-in_err-insert.result (λ is.
    let hot = c.args.self.now in
    record {
      nodes = λ n. marked_same hot.numbers.nodes c.numbered.new.numbers.nodes hot.marks c.in_ok-id.ensures.later.nodes_grew
          (marks_there c.args.view.now hot.numbers.nodes hot.numbers.users hot.marks hot.sets.rows is.all.kept) n;
      count = refl;
    })

pub returns-in_err-asked-clause-hot : goal.returns-in_err-asked-clause-hot
returns-in_err-asked-clause-hot c = λ is.
    let hot = c.args.self.now in
    let now = c.numbered.new.numbers in
    let end = c.renew.new.numbers in
    record {
      valid = is.valid;
      all = record {
        kept = kept_same c.args.view.now hot.numbers.nodes end.nodes hot.numbers.users end.users hot.marks hot.sets.rows c.renew.new.sets.rows c.in_err-asked.ensures.err
            (later_further hot.numbers.nodes now.nodes end.nodes hot.numbers.users now.users end.users c.in_ok-id.ensures.later c.renew.ensures.later) is.all.kept;
        remembered = same_of_world c.args.view.now hot.numbers.nodes end.nodes hot.numbers.users end.users hot.marks hot.sets.rows c.renew.new.sets.rows c.in_err-asked.ensures.err
            (later_further hot.numbers.nodes now.nodes end.nodes hot.numbers.users now.users end.users c.in_ok-id.ensures.later c.renew.ensures.later) is.all.kept hot.told c.renew.new.told
            (λ n t at. subst (λ (m : Remembered). told_of m n ≡ Some t) c.in_err-asked.ensures.err_told at) is.all.remembered;
      };
      distinct = c.renew.ensures.later.nodes_distinct c.in_ok-id.ensures.distinct;
    }

pub returns-in_err-asked-clause-err : goal.returns-in_err-asked-clause-err
returns-in_err-asked-clause-err c = on_err_all c.from_residual-in_err-asked.result (λ is.
    let hot = c.args.self.now in
    let now = c.numbered.new.numbers in
    let end = c.renew.new.numbers in
    let later = later_further hot.numbers.nodes now.nodes end.nodes hot.numbers.users now.users end.users c.in_ok-id.ensures.later c.renew.ensures.later in
    record {
      nodes = λ n. marked_same hot.numbers.nodes end.nodes hot.marks later.nodes_grew
          (marks_there c.args.view.now hot.numbers.nodes hot.numbers.users hot.marks hot.sets.rows is.all.kept) n;
      count = refl;
    })

pub invariant_of-self-3 : goal.invariant_of-self-3
invariant_of-self-3 c = record {
  whole = c.renew.ensures.whole;
  few = let count = count_more c.args.self.now.marks c.insert.new.self c.in_ok-id.id c.args.self.now.rising c.insert.ensures.ascending (sym c.contains.ensures ∙ c.if-contains.false)
      (put_in c.args.self.now.marks c.in_ok-marks.marks c.insert.new.self c.in_ok-id.id c.in_ok-marks.ensures c.in_ok-insert.ensures.members) in let room = c.is_full.ensures.room c.if-is_full.false in omega (arith, count, room);
  rising = c.insert.ensures.ascending;
}

pub returns-clause-hot : goal.returns-clause-hot
returns-clause-hot c = λ is.
    let hot = c.args.self.now in
    let end = c.renew.new.numbers in
    let last = later_further c.args.self.now.numbers.nodes c.numbered.new.numbers.nodes c.renew.new.numbers.nodes c.args.self.now.numbers.users c.numbered.new.numbers.users c.renew.new.numbers.users
    c.in_ok-id.ensures.later c.renew.ensures.later in
    let p = renewed_by (MayRecall (snap_asked c.of-facts.result) hot.told end.nodes end.users) (MayTell c.args.view.now end.nodes end.users) hot.sets.rows c.renew.new.sets.rows c.insert.new.self _ [] [] c.in_ok-asked.asked.items
    hot.told c.renew.new.told
    (λ n fact may. recall_same c.args.view.now hot.numbers.nodes end.nodes hot.numbers.users end.users hot.marks hot.sets.rows hot.told is.all.kept is.all.remembered last n fact
    (subst (λ (x : Snap). MayRecall x hot.told end.nodes end.users n fact) c.of-facts.ensures.snap may)) c.in_ok-asked.ensures.renewed in
    record {
      valid = is.valid;
      all = record {
        kept = kept_marked c.args.view.now hot.numbers.nodes end.nodes hot.numbers.users end.users hot.marks c.insert.new.self _ hot.sets.rows c.renew.new.sets.rows _ _
            is.valid last (turned_one hot.marks c.insert.new.self c.in_ok-id.id (put_in c.args.self.now.marks c.in_ok-marks.marks c.insert.new.self c.in_ok-id.id c.in_ok-marks.ensures c.in_ok-insert.ensures.members)) is.all.kept p.refreshed;
        remembered = marked_of_world c.args.view.now hot.numbers.nodes end.nodes hot.numbers.users end.users hot.marks c.insert.new.self _ hot.sets.rows c.renew.new.sets.rows _ _
            is.valid last (turned_one hot.marks c.insert.new.self c.in_ok-id.id (put_in c.args.self.now.marks c.in_ok-marks.marks c.insert.new.self c.in_ok-id.id c.in_ok-marks.ensures c.in_ok-insert.ensures.members)) is.all.kept hot.told c.renew.new.told p is.all.remembered;
      };
      distinct = c.renew.ensures.later.nodes_distinct c.in_ok-id.ensures.distinct;
    }

pub returns-clause-ok : goal.returns-clause-ok
returns-clause-ok c = λ is.
    let hot = c.args.self.now in
    let end = c.renew.new.numbers in
    let last = later_further c.args.self.now.numbers.nodes c.numbered.new.numbers.nodes c.renew.new.numbers.nodes c.args.self.now.numbers.users c.numbered.new.numbers.users c.renew.new.numbers.users
    c.in_ok-id.ensures.later c.renew.ensures.later in
    let at = grew_get c.numbered.new.numbers.nodes end.nodes c.in_ok-id.id c.args.node.now c.renew.ensures.later.nodes_grew c.in_ok-id.ensures.id in
    record {
      nodes = λ n. marked_more hot.numbers.nodes end.nodes hot.marks c.insert.new.self c.in_ok-id.id c.args.node.now last.nodes_grew at (put_in c.args.self.now.marks c.in_ok-marks.marks c.insert.new.self c.in_ok-id.id c.in_ok-marks.ensures c.in_ok-insert.ensures.members)
          (marks_there c.args.view.now hot.numbers.nodes hot.numbers.users hot.marks hot.sets.rows is.all.kept) n;
      again = λ was. absurd (not_marked hot.numbers.nodes c.numbered.new.numbers.nodes hot.marks c.in_ok-id.id c.args.node.now c.in_ok-id.ensures.later.nodes_grew c.in_ok-id.ensures.distinct
          c.in_ok-id.ensures.id (sym c.contains.ensures ∙ c.if-contains.false) was);
      more = λ _. count_more c.args.self.now.marks c.insert.new.self c.in_ok-id.id c.args.self.now.rising c.insert.ensures.ascending (sym c.contains.ensures ∙ c.if-contains.false)
          (put_in c.args.self.now.marks c.in_ok-marks.marks c.insert.new.self c.in_ok-id.id c.in_ok-marks.ensures c.in_ok-insert.ensures.members);
    }

pub returns-clause-asked : goal.returns-clause-asked
returns-clause-asked c = λ is.
    let hot = c.args.self.now in
    let end = c.renew.new.numbers in
    let last = later_further hot.numbers.nodes c.numbered.new.numbers.nodes end.nodes hot.numbers.users c.numbered.new.numbers.users end.users c.in_ok-id.ensures.later c.renew.ensures.later in
    let p = renewed_by (MayRecall (snap_asked c.of-facts.result) hot.told end.nodes end.users) (MayTell c.args.view.now end.nodes end.users) hot.sets.rows c.renew.new.sets.rows c.insert.new.self _ [] [] c.in_ok-asked.asked.items
    hot.told c.renew.new.told
    (λ n fact may. recall_same c.args.view.now hot.numbers.nodes end.nodes hot.numbers.users end.users hot.marks hot.sets.rows hot.told is.all.kept is.all.remembered last n fact
    (subst (λ (x : Snap). MayRecall x hot.told end.nodes end.users n fact) c.of-facts.ensures.snap may)) c.in_ok-asked.ensures.renewed in
    let distinct = c.renew.ensures.later.nodes_distinct c.in_ok-id.ensures.distinct in
    let now : AreKept c.args.view.now end.nodes end.users c.insert.new.self c.renew.new.sets.rows =
    kept_marked c.args.view.now hot.numbers.nodes end.nodes hot.numbers.users end.users hot.marks c.insert.new.self _ hot.sets.rows c.renew.new.sets.rows _ _
    is.valid last (turned_one hot.marks c.insert.new.self c.in_ok-id.id (put_in hot.marks c.in_ok-marks.marks c.insert.new.self c.in_ok-id.id c.in_ok-marks.ensures c.in_ok-insert.ensures.members)) is.all.kept p.refreshed in
    record {
      once = asked_once c.args.view.now c.args.view.now hot.numbers.nodes end.nodes hot.numbers.users end.users hot.marks c.insert.new.self _ _ _ hot.sets.rows c.renew.new.sets.rows c.in_ok-asked.asked.items
          is.all.kept distinct last now p.refreshed;
      exactly = asked_exactly c.args.view.now c.args.view.now hot.numbers.nodes end.nodes hot.numbers.users end.users hot.marks c.insert.new.self _ _ _ hot.sets.rows c.renew.new.sets.rows c.in_ok-asked.asked.items
          is.all.kept distinct last now p.refreshed (λ n. ⊥) (λ n i at there. none_touched hot.sets.rows i);
    }
