use Rattle.std.proofs.Common.{ℕ, List, [], ◌∷◌, ◌++◌, sym, subst}
use Rattle.std.specs.Prelude.{Contains}
use Rattle.names.specs.declared.node.Node.{Node}
use Rattle.facts.specs.Numbers.{AreNumbersOf}
use Rattle.delta.specs.Layers.{IsAbove}
use Rattle.delta.proofs.Above.{of_set, not_of_set}
use Rattle.delta.proofs.Numbered.{above_passed, above_more, numbers_as, numbers_join}
use Rattle.delta.proofs.leading.push_above.Goals as goal

pub returns-in-None-clause-numbers : goal.returns-in-None-clause-numbers
returns-in-None-clause-numbers c = λ ts are. numbers_as c.args.nodes.now c.args.ids.now.items (IsAbove c.args.config.now (Contains ts)) _
    (above_passed c.args.config.now ts c.args.tuple.now (not_of_set c.args.tuple.now c.in-None.is)) are

pub returns-in_ok-append-in-Some-clause-numbers : goal.returns-in_ok-append-in-Some-clause-numbers
returns-in_ok-append-in-Some-clause-numbers c = λ ts are.
    let found : List Node = c.in_ok-groups-in-Some.groups.items in
    let numbers = subst (λ (ns : List Node). AreNumbersOf c.numbers_of.new.nodes c.in_ok-more-in-Some.more.items (Contains ns)) c.deref.ensures.value c.in_ok-more-in-Some.ensures.numbers in
    subst (λ (ids : List ℕ). AreNumbersOf c.numbers_of.new.nodes ids (IsAbove c.args.config.now (Contains (ts ++ c.args.tuple.now ∷ [])))) (sym c.in_ok-append-in-Some.ensures.items)
    (numbers_join c.args.nodes.now c.numbers_of.new.nodes c.args.ids.now.items c.in_ok-more-in-Some.more.items (IsAbove c.args.config.now (Contains ts)) (Contains found) _
    c.in_ok-more-in-Some.ensures.more.grew are numbers
    (above_more c.args.config.now ts c.args.tuple.now (of_set c.args.tuple.now c.in-Some.field-0 c.in-Some.is) found c.in_ok-groups-in-Some.ensures))
