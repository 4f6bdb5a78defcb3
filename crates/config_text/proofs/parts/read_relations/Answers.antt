use Rattle.std.proofs.Common.{◌∷◌, [], ◌∙◌, ap, map}
use Rattle.std.proofs.lemmas.List.{map-append}
use Rattle.names.proofs.Readings.{read_exit}
use Rattle.config_text.specs.Forms.{defined_of}
use Rattle.config_text.specs.Texts.{relation_texts}
use Rattle.config_text.specs.Spelling.{IsNamed, defined_texts}
use Rattle.config_text.proofs.Spelt.{spelled_more, none_spelled}
use Rattle.config_text.proofs.parts.read_relations.Goals as goal

pub returns-in_err-relation-clause-err : goal.returns-in_err-relation-clause-err
returns-in_err-relation-clause-err c = read_exit c.from_residual.result c.in_err-relation.field-0.0 c.from_residual.ensures.1
    (λ refused. none_spelled defined_texts IsNamed relation_texts c.args.drafts.now c.loop-draft.draft-index c.draft-item.result c.loop-draft-test.true c.draft-item.is refused) c.in_err-relation.ensures.err

pub loop-draft-preserved : goal.loop-draft-preserved
loop-draft-preserved c = spelled_more defined_texts IsNamed relation_texts c.args.drafts.now c.loop-draft.draft-index c.draft-item.result (map defined_of c.loop-draft.relations.items) (map defined_of c.push.new.self.items) (defined_of c.in_ok-relation.relation)
    c.loop-draft-test.true c.draft-item.is (ap (map defined_of) c.in_ok-push.ensures.items ∙ map-append defined_of c.loop-draft.relations.items (c.in_ok-relation.relation ∷ [])) c.in_ok-relation.ensures.ok.0 c.in_ok-relation.ensures.ok.1 c.loop-draft.invariant
