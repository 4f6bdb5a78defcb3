use Rattle.std.proofs.Common.{◌≡◌, ◌||◌, List, ℕ, ◌∙◌, ap}
use Rattle.std.proofs.lemmas.List.Elements.{same_from_all_zip}
use Rattle.least_sets.specs.World.{has}
use Rattle.least_sets.proofs.Gives.{has-append}
use Rattle.delta.proofs.renewing.touched_in.Goals as goal

pub returns-clause-all : goal.returns-clause-all
returns-clause-all c = λ i.
    let same : c.in_ok-both.both.items ≡ c.args.asked.now.items = same_from_all_zip _ _ _ c.in_ok-both.ensures.cases.0 (λ x y e. e) in
    c.of.ensures.members i ∙ ap (λ (xs : List ℕ). has xs i) c.in_ok-extend_from_slice.ensures.items
    ∙ has-append c.in_ok-both.both.items c.args.dropped.now i
    ∙ ap (λ (xs : List ℕ). has xs i || has c.args.dropped.now i) same
