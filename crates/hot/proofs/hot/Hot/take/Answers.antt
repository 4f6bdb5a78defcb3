use Rattle.std.proofs.Common.{◌≡◌, List, [], refl, sym, ◌∙◌, subst}
use Rattle.std.specs.Prelude.{Some}
use Rattle.std.proofs.lemmas.Bool.{false≢true}
use Rattle.names.specs.declared.node.Node.{Node}
use Rattle.meaning.specs.Snap.{Snap}
use Rattle.region.proofs.Listing.{on_err_all}
use Rattle.facts.specs.Telling.{MayTell, IsLater}
use Rattle.facts.specs.inside.Growing.{later_further}
use Rattle.hot.specs.inside.Events.{AreOfEvents}
use Rattle.hot.specs.inside.Remembering.{MayRecall}
use Rattle.hot.specs.inside.Following.{AreTellable}
use Rattle.hot.specs.Depending.{IsTouchedBy}
use Rattle.hot.specs.Kept.{AreKept, Remembered, told_of}
use Rattle.hot.proofs.Marks.{kept_after, commit_of_world, kept_same, same_of_world, are_tellable, recall_after, renewed_by, marked_same, marks_there}
use Rattle.hot.proofs.Asked.{asked_once, asked_exactly, touched_exactly}
use Rattle.hot.proofs.Passed.{asked_only}
use Rattle.hot.proofs.hot.Hot.take.Goals as goal

pub returns-in_err-changed-clause-err : goal.returns-in_err-changed-clause-err
returns-in_err-changed-clause-err g c =
    on_err_all c.from_residual.result (λ S is. record { valid = is.valid; all = is.all; distinct = is.distinct })

pub returns-in-Ok-clause-hot : goal.returns-in-Ok-clause-hot
returns-in-Ok-clause-hot g c = λ S is view.
    let hot = c.args.self.now in
    let T = g.F.CountedNodes.snap c.args.facts.now in
    let now = c.renew.new.numbers in
    let follow = c.follow.new.numbers in
    let last = later_further hot.numbers.nodes follow.nodes now.nodes hot.numbers.users follow.users now.users c.follow.ensures.later c.renew.ensures.later in
    let are = subst (λ xs. AreOfEvents hot.numbers.nodes c.args.events.now xs) (sym c.deref.ensures.value) c.in_ok-changed.ensures in
    let p = renewed_by (MayRecall T c.follow.new.told now.nodes now.users) (MayTell T now.nodes now.users) hot.sets.rows c.renew.new.sets.rows hot.marks [] _ [] c.in-Ok.field-0.items
    c.follow.new.told c.renew.new.told
    (recall_after T hot.numbers.nodes now.nodes follow.users now.users hot.sets.back c.follow.new.told
    (subst (λ (x : Snap). AreTellable x hot.numbers.nodes follow.users hot.sets.back c.follow.new.told) (sym view)
    (c.follow.ensures.tells S (are_tellable S hot.numbers.nodes hot.numbers.users hot.marks hot.sets.rows hot.sets.back hot.told is.all.kept is.all.remembered hot.whole.backed)))
    (subst (λ (ns : List Node). IsLater ns now.nodes follow.users now.users) c.follow.ensures.nodes c.renew.ensures.later))
    c.in-Ok.ensures.renewed in
    record {
      valid = c.tells_what_is_valid.ensures;
      all = record {
        kept = kept_after S T c.args.events.now hot.numbers.nodes now.nodes hot.numbers.users now.users hot.marks _ hot.sets.rows c.renew.new.sets.rows _ _
            is.valid c.tells_what_is_valid.ensures view are last is.all.kept p.refreshed;
        remembered = commit_of_world S T c.args.events.now hot.numbers.nodes now.nodes hot.numbers.users now.users hot.marks _ hot.sets.rows c.renew.new.sets.rows _ _
            is.valid c.tells_what_is_valid.ensures view are last is.all.kept c.follow.new.told c.renew.new.told p
            (λ n t at.
            let key = c.follow.ensures.keys n t at in (
              (is.all.remembered.each n key.0 key.1).0,
              λ off. (is.all.remembered.each n t (c.follow.ensures.same n t at (λ e there g. false≢true (sym off ∙ are.complete e n there g)))).1,
            ));
      };
      distinct = last.nodes_distinct is.distinct;
    }

pub returns-in-Ok-clause-asked : goal.returns-in-Ok-clause-asked
returns-in-Ok-clause-asked g c = λ S is view.
    let hot = c.args.self.now in
    let T = g.F.CountedNodes.snap c.args.facts.now in
    let now = c.renew.new.numbers in
    let follow = c.follow.new.numbers in
    let last = later_further hot.numbers.nodes follow.nodes now.nodes hot.numbers.users follow.users now.users c.follow.ensures.later c.renew.ensures.later in
    let are = subst (λ xs. AreOfEvents hot.numbers.nodes c.args.events.now xs) (sym c.deref.ensures.value) c.in_ok-changed.ensures in
    let p = renewed_by (MayRecall T c.follow.new.told now.nodes now.users) (MayTell T now.nodes now.users) hot.sets.rows c.renew.new.sets.rows hot.marks [] _ [] c.in-Ok.field-0.items
    c.follow.new.told c.renew.new.told
    (recall_after T hot.numbers.nodes now.nodes follow.users now.users hot.sets.back c.follow.new.told
    (subst (λ (x : Snap). AreTellable x hot.numbers.nodes follow.users hot.sets.back c.follow.new.told) (sym view)
    (c.follow.ensures.tells S (are_tellable S hot.numbers.nodes hot.numbers.users hot.marks hot.sets.rows hot.sets.back hot.told is.all.kept is.all.remembered hot.whole.backed)))
    (subst (λ (ns : List Node). IsLater ns now.nodes follow.users now.users) c.follow.ensures.nodes c.renew.ensures.later))
    c.in-Ok.ensures.renewed in
    let kept : AreKept T now.nodes now.users hot.marks c.renew.new.sets.rows =
    kept_after S T c.args.events.now hot.numbers.nodes now.nodes hot.numbers.users now.users hot.marks _ hot.sets.rows c.renew.new.sets.rows _ _
    is.valid c.tells_what_is_valid.ensures view are last is.all.kept p.refreshed in
    let distinct = last.nodes_distinct is.distinct in
    asked_only now.nodes c.in-Ok.field-0.items (g.F.CountedNodes.asked c.args.facts.now) (g.F.CountedNodes.asked c.renew.new.facts) _ distinct
    (asked_once S T hot.numbers.nodes now.nodes hot.numbers.users now.users hot.marks hot.marks hot.marks _ _ hot.sets.rows c.renew.new.sets.rows c.in-Ok.field-0.items
    is.all.kept distinct last kept p.refreshed)
    (λ i. (asked_exactly S T hot.numbers.nodes now.nodes hot.numbers.users now.users hot.marks hot.marks hot.marks _ _ hot.sets.rows c.renew.new.sets.rows c.in-Ok.field-0.items
    is.all.kept distinct last kept p.refreshed (λ n. IsTouchedBy S c.args.events.now n)
    (touched_exactly S c.args.events.now hot.numbers.nodes hot.numbers.users hot.marks _ hot.sets.rows is.valid are is.all.kept) i).0)
    c.in-Ok.ensures.passed

pub returns-clause-err : goal.returns-clause-err
returns-clause-err g c = λ S is.
    let hot = c.args.self.now in
    let now = c.renew.new.numbers in
    let follow = c.follow.new.numbers in
    let last = later_further hot.numbers.nodes follow.nodes now.nodes hot.numbers.users follow.users now.users c.follow.ensures.later c.renew.ensures.later in
    let are = subst (λ xs. AreOfEvents hot.numbers.nodes c.args.events.now xs) (sym c.deref-in-Err.ensures.value) c.in_ok-changed.ensures in
    record {
      valid = is.valid;
      all = record {
        kept = kept_same S hot.numbers.nodes now.nodes hot.numbers.users now.users hot.marks hot.sets.rows c.renew.new.sets.rows c.in-Err.ensures.err last is.all.kept;
        remembered = same_of_world S hot.numbers.nodes now.nodes hot.numbers.users now.users hot.marks hot.sets.rows c.renew.new.sets.rows c.in-Err.ensures.err last is.all.kept hot.told c.forget_each.new.told
            (λ n t at.
            let left = c.forget_each.ensures n t at in
            c.follow.ensures.same n t (subst (λ (m : Remembered). told_of m n ≡ Some t) c.in-Err.ensures.err_told left.0) (λ e there g. false≢true (sym left.1 ∙ are.complete e n there g)))
            is.all.remembered;
      };
      distinct = last.nodes_distinct is.distinct;
    }

pub returns-in-Ok-clause-marked : goal.returns-in-Ok-clause-marked
returns-in-Ok-clause-marked g c = λ S is.
    let hot = c.args.self.now in
    let now = c.renew.new.numbers in
    let follow = c.follow.new.numbers in
    let last = later_further hot.numbers.nodes follow.nodes now.nodes hot.numbers.users follow.users now.users c.follow.ensures.later c.renew.ensures.later in
    record {
      nodes = λ n. marked_same hot.numbers.nodes now.nodes hot.marks last.nodes_grew (marks_there S hot.numbers.nodes hot.numbers.users hot.marks hot.sets.rows is.all.kept) n;
      count = refl;
    }

pub returns-clause-marked : goal.returns-clause-marked
returns-clause-marked g c = λ S is.
    let hot = c.args.self.now in
    let now = c.renew.new.numbers in
    let follow = c.follow.new.numbers in
    let last = later_further hot.numbers.nodes follow.nodes now.nodes hot.numbers.users follow.users now.users c.follow.ensures.later c.renew.ensures.later in
    record {
      nodes = λ n. marked_same hot.numbers.nodes now.nodes hot.marks last.nodes_grew (marks_there S hot.numbers.nodes hot.numbers.users hot.marks hot.sets.rows is.all.kept) n;
      count = refl;
    }
