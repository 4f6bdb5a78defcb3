use Rattle.std.proofs.Common.{ℕ, List, [], ◌++◌, refl, sym, subst, inl, append-nil}
use Rattle.meaning.specs.Snap.{Snap}
use Rattle.lookup.specs.inside.Underway.{IsUnderway}
use Rattle.lookup.proofs.Ends.{ended}
use Rattle.lookup.proofs.Steps.{begins}
use Rattle.lookup.proofs.looking.look_among.Goals as goal

pub returns-clause-ok : goal.returns-clause-ok
returns-clause-ok g c =
    let S = c.args.view.now in
    let asked = c.args.asked.now in
    let ids = c.args.ids.now in
    let start = begins S asked c.in_ok-found.found ids c.requires.rising c.requires.there c.in_ok-found.ensures.ids c.in_ok-found.ensures.last in
    let asks = subst (λ (R : Snap). (left : List (List ℕ)) → IsUnderway R asked c.in_ok-found.found (ids ++ left) → IsUnderway R asked c.ask_each.new.found left)
    c.of-asker.ensures c.in_ok-ask_each.ensures.underway in
    ended S asked c.ask_each.new.found [] (asks [] (subst (IsUnderway S asked c.in_ok-found.found) (sym (append-nil ids)) start)) (inl refl)
