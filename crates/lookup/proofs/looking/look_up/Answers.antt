use Rattle.std.proofs.Common.{ℕ, List, sym, subst}
use Rattle.std.specs.Prelude.{Contains, IfSome}
use Rattle.by_subject.specs.Complete.{Covers}
use Rattle.lookup.specs.inside.Walking.{AreCandidates}
use Rattle.lookup.proofs.looking.look_up.Goals as goal

pub look_among-requires-clause-there : goal.look_among-requires-clause-there
look_among-requires-clause-there g c id found =
    let S = c.args.view.now in
    let subjects = c.in-Some.subjects.now in
    let covers = subst (λ some. IfSome some (λ subjects. Covers subjects.now S.tuples)) c.in-Some.is c.requires.covers in
    let all = subst (λ some. IfSome some (λ ids. AreCandidates c.config-in-Some.result.now subjects c.args.asked.now ids.items)) c.in-Some-2.is c.in_ok-ids.ensures in
    subst (λ (ids : List (List ℕ)). Contains ids id) (sym c.deref.ensures.value) (all.there S (sym c.config-in-Some.ensures.config) covers id found)
