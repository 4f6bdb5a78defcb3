use Rattle.std.proofs.Common.{◌++◌, ap, ◌∙◌}
use Rattle.tuple_keys.specs.Spelled.{spelled_node, spelled_subject}
use Rattle.tuple_keys.proofs.Spellings.{written_is, spelling_is, spells}
use Rattle.tuple_keys.proofs.scratch.Scratch.of.Goals as goal

pub invariant_of-result : goal.invariant_of-result
invariant_of-result c =
    let text = c.push_subject.ensures.text ∙ ap (λ l. l ++ spelled_subject c.args.tuple.now.subject) (c.push_node.ensures.text ∙ ap (λ l. l ++ spelled_node c.args.tuple.now.node) c.new-text.ensures) in
    spelling_is c.args.tuple.now c.push_subject.new.text.bytes (written_is c.args.tuple.now c.push_subject.new.text.bytes text) (c.push_node.ensures.is, c.push_subject.ensures.is)

pub returns : goal.returns
returns c =
    let text = c.push_subject.ensures.text ∙ ap (λ l. l ++ spelled_subject c.args.tuple.now.subject) (c.push_node.ensures.text ∙ ap (λ l. l ++ spelled_node c.args.tuple.now.node) c.new-text.ensures) in
    spells c.args.tuple.now c.push_subject.new.text.bytes (written_is c.args.tuple.now c.push_subject.new.text.bytes text) (c.push_node.ensures.is, c.push_subject.ensures.is)
