use Rattle.std.proofs.Common.{[], refl, subst}
use Rattle.meaning.specs.Snap.{Snap}
use Rattle.facts.specs.Telling.{MayTell}
use Rattle.hot.specs.Nodes.{snap_asked}
use Rattle.hot.specs.inside.Remembering.{MayRecall}
use Rattle.region.proofs.Listing.{on_err_all}
use Rattle.hot.proofs.Marks.{kept_anew, anew_of_world, recall_none, renewed_by, told_none, kept_same, same_of_world, marked_same, marks_there}
use Rattle.hot.proofs.Asked.{all_once, all_asked}
use Rattle.hot.proofs.hot.Hot.restart.Goals as goal

pub returns-in_err-asked-clause-err : goal.returns-in_err-asked-clause-err
returns-in_err-asked-clause-err c = on_err_all c.from_residual.result (λ S is.
    let hot = c.args.self.now in
    let now = c.renew.new.numbers in
    record {
      valid = is.valid;
      all = record {
        kept = kept_same S hot.numbers.nodes now.nodes hot.numbers.users now.users hot.marks hot.sets.rows hot.sets.rows (λ n. refl) c.renew.ensures.later is.all.kept;
        remembered = same_of_world S hot.numbers.nodes now.nodes hot.numbers.users now.users hot.marks hot.sets.rows hot.sets.rows (λ n. refl) c.renew.ensures.later is.all.kept hot.told hot.told (λ n t at. at) is.all.remembered;
      };
      distinct = c.renew.ensures.later.nodes_distinct is.distinct;
    })

pub returns-in_err-asked-clause-marked : goal.returns-in_err-asked-clause-marked
returns-in_err-asked-clause-marked c = λ S is.
    let hot = c.args.self.now in
    record {
      nodes = λ n. marked_same hot.numbers.nodes c.renew.new.numbers.nodes hot.marks c.renew.ensures.later.nodes_grew
          (marks_there S hot.numbers.nodes hot.numbers.users hot.marks hot.sets.rows is.all.kept) n;
      count = refl;
    }

pub returns-clause-hot : goal.returns-clause-hot
returns-clause-hot c = λ S is.
    let hot = c.args.self.now in
    let now = c.renew.new.numbers in
    let later = c.renew.ensures.later in
    let r = rw c.as_slice-turned.ensures.ids at c.in_ok-asked.ensures.renewed in
    let p = renewed_by (MayRecall (snap_asked c.of-facts.result) c.new-fresh.result now.nodes now.users) (MayTell c.args.view.now now.nodes now.users) c.new-kept.result.rows c.renew.new.sets.rows hot.marks hot.marks [] [] c.in_ok-asked.asked.items
    c.new-fresh.result c.renew.new.told
    (λ n fact may. recall_none c.args.view.now now.nodes now.users c.new-fresh.result (told_none c.new-fresh.result c.new-fresh.ensures.empty) n fact
    (subst (λ (x : Snap). MayRecall x c.new-fresh.result now.nodes now.users n fact) c.of-facts.ensures.snap may)) r in
    record {
      valid = c.each_view_is_valid.ensures;
      all = record {
        kept = kept_anew c.args.view.now hot.numbers.nodes now.nodes hot.numbers.users now.users hot.marks c.new-kept.result.rows c.renew.new.sets.rows _ _
            c.each_view_is_valid.ensures c.new-kept.ensures.none later p.refreshed;
        remembered = anew_of_world c.args.view.now hot.numbers.nodes now.nodes hot.numbers.users now.users hot.marks c.new-kept.result.rows c.renew.new.sets.rows _ _
            c.each_view_is_valid.ensures c.new-kept.ensures.none later c.new-fresh.result c.renew.new.told p (told_none c.new-fresh.result c.new-fresh.ensures.empty);
      };
      distinct = later.nodes_distinct is.distinct;
    }

pub returns-clause-asked : goal.returns-clause-asked
returns-clause-asked c = λ S is.
    let hot = c.args.self.now in
    let now = c.renew.new.numbers in
    let later = c.renew.ensures.later in
    let r = rw c.as_slice-turned.ensures.ids at c.in_ok-asked.ensures.renewed in
    let p = renewed_by (MayRecall (snap_asked c.of-facts.result) c.new-fresh.result now.nodes now.users) (MayTell c.args.view.now now.nodes now.users) c.new-kept.result.rows c.renew.new.sets.rows hot.marks hot.marks [] [] c.in_ok-asked.asked.items
    c.new-fresh.result c.renew.new.told
    (λ n fact may. recall_none c.args.view.now now.nodes now.users c.new-fresh.result (told_none c.new-fresh.result c.new-fresh.ensures.empty) n fact
    (subst (λ (x : Snap). MayRecall x c.new-fresh.result now.nodes now.users n fact) c.of-facts.ensures.snap may)) r in
    record {
      once = all_once c.args.view.now hot.numbers.nodes now.nodes hot.numbers.users now.users hot.marks c.new-kept.result.rows c.renew.new.sets.rows c.in_ok-asked.asked.items
          c.each_view_is_valid.ensures c.new-kept.ensures.none later (later.nodes_distinct is.distinct) p.refreshed;
      exactly = all_asked c.args.view.now hot.numbers.nodes now.nodes hot.numbers.users now.users hot.marks c.new-kept.result.rows c.renew.new.sets.rows c.in_ok-asked.asked.items
          c.each_view_is_valid.ensures c.new-kept.ensures.none later (later.nodes_distinct is.distinct) p.refreshed;
    }

pub returns-clause-marked : goal.returns-clause-marked
returns-clause-marked c = λ S is.
    let hot = c.args.self.now in
    record {
      nodes = λ n. marked_same hot.numbers.nodes c.renew.new.numbers.nodes hot.marks c.renew.ensures.later.nodes_grew
          (marks_there S hot.numbers.nodes hot.numbers.users hot.marks hot.sets.rows is.all.kept) n;
      count = refl;
    }
