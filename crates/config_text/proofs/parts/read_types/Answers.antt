use Rattle.std.proofs.Common.{◌∙◌, sym, string_bytes}
use Rattle.names.specs.Spelling.{IsSubjectType, type_text}
use Rattle.names.proofs.Readings.{read_part}
use Rattle.config_text.proofs.Spelt.{spelled_more, none_spelled}
use Rattle.config_text.proofs.parts.read_types.Goals as goal

pub returns-in_err-declared-clause-err : goal.returns-in_err-declared-clause-err
returns-in_err-declared-clause-err c = read_part c.from_residual.result c.in_err-declared.field-0.0 c.from_residual.ensures.1
    (λ refused. none_spelled type_text IsSubjectType string_bytes c.args.texts.now c.loop-text.text-index c.text-item.result c.loop-text-test.true c.text-item.is (λ t spells is. refused t (record { is = is; spelling = spells ∙ sym c.as_str.ensures.value }))) c.in_err-declared.ensures.err

pub loop-text-preserved : goal.loop-text-preserved
loop-text-preserved c = spelled_more type_text IsSubjectType string_bytes c.args.texts.now c.loop-text.text-index c.text-item.result c.loop-text.types.items c.push.new.self.items c.in_ok-declared.declared
    c.loop-text-test.true c.text-item.is c.in_ok-push.ensures.items (c.in_ok-declared.ensures.ok.spelling ∙ c.as_str.ensures.value) c.in_ok-declared.ensures.ok.is c.loop-text.invariant
