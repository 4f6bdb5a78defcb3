use Rattle.std.proofs.Common.{subst}
use Rattle.std.specs.Prelude.{IfSome}
use Rattle.std.proofs.lemmas.List.Elements.{All-contains}
use Rattle.meaning.specs.Config.{Defined, IsWhole}
use Rattle.lookup.specs.inside.Walking.{HasReached}
use Rattle.lookup.proofs.Candidates.{are_candidates}
use Rattle.lookup.proofs.walking.candidates.Goals as goal

pub returns : goal.returns
returns c =
    let config = c.args.config.now in
    are_candidates config c.args.subjects.now c.args.asked.now c.in-Some.reached c.in_ok-ids.ids.items c.sort_unstable.new.self.items
    (λ d there. All-contains (λ (x : Defined). IsWhole x.form) config.relations d c.relations.ensures.whole there)
    (subst (λ some. IfSome some (HasReached config c.args.subjects.now c.args.asked.now.user)) c.in-Some.is c.in_ok-reached.ensures)
    c.in_ok-ids.ensures c.sort_unstable.ensures.permutation c.sort_unstable.ensures.sorted
