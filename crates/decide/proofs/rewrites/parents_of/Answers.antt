use Rattle.std.proofs.Common.{sym, ◌∙◌, subst}
use Rattle.std.specs.Prelude.{Some}
use Rattle.std.specs.Cmp.Lexicographic.{same_text}
use Rattle.decide.specs.inside.Reads.{AreNodesOf}
use Rattle.decide.proofs.Found.{goes_read}
use Rattle.decide.proofs.rewrites.parents_of.Goals as goal

pub returns-then-eq-2-clause-goes_on : goal.returns-then-eq-2-clause-goes_on
returns-then-eq-2-clause-goes_on c =
    goes_read c.args.facts.now c.args.asking.now c.args.search.now c.take_parents.new.self c.requires.asking c.take_parents.ensures.grew
    (c.take_parents.ensures.running c.args.facts.now c.args.asking.now.user.now (Some c.args.asking.now.number))

pub returns-clause-goes_on : goal.returns-clause-goes_on
returns-clause-goes_on c =
    goes_read c.args.facts.now c.args.asking.now c.args.search.now c.take_parents.new.self c.requires.asking c.take_parents.ensures.grew
    (c.take_parents.ensures.running c.args.facts.now c.args.asking.now.user.now (Some c.args.asking.now.number))

pub returns-then-eq-2-clause-are : goal.returns-then-eq-2-clause-are
returns-then-eq-2-clause-are c =
    let number = c.requires.asking.number in
    let kept = c.in-Some.kept in
    let of_it = c.in-Some.ensures.parents c.args.facts.now c.args.asking.now.user.now (Some c.args.asking.now.number) c.requires.asking.running number.0 number.1 in
    let tupleset = same_text kept.tupleset c.args.tupleset.now (sym (sym c.eq.ensures ∙ c.if-eq.true)) in
    let relation = same_text kept.relation c.args.relation.now (sym (sym c.eq-then-eq.ensures ∙ c.if-eq-2.true)) in
    subst (λ t. AreNodesOf c.args.facts.now c.args.asking.now.node.now t c.args.relation.now kept.nodes.items) tupleset
    (subst (λ r. AreNodesOf c.args.facts.now c.args.asking.now.node.now kept.tupleset r kept.nodes.items) relation
    (subst (λ n. AreNodesOf c.args.facts.now n kept.tupleset kept.relation kept.nodes.items) number.2 of_it))
