use Rattle.std.proofs.Common.{◌∙◌, string_bytes}
use Rattle.names.proofs.Readings.{read_part}
use Rattle.config_text.specs.Spelling.{IsName}
use Rattle.config_text.proofs.Spelt.{spelled_more, none_spelled, no_name}
use Rattle.config_text.proofs.parts.read_names.Goals as goal

pub returns-in_err-name-clause-err : goal.returns-in_err-name-clause-err
returns-in_err-name-clause-err c = read_part c.from_residual.result c.in_err-name.field-0.0 c.from_residual.ensures.1
    (λ refused. none_spelled (λ n. n) IsName string_bytes c.args.texts.now c.loop-text.text-index c.text-item.result c.loop-text-test.true c.text-item.is (no_name _ c.as_str.result.now c.as_str.ensures.value refused)) c.in_err-name.ensures.err

pub loop-text-preserved : goal.loop-text-preserved
loop-text-preserved c = spelled_more (λ n. n) IsName string_bytes c.args.texts.now c.loop-text.text-index c.text-item.result c.loop-text.names.items c.push.new.self.items c.in_ok-name.name
    c.loop-text-test.true c.text-item.is c.in_ok-push.ensures.items (c.in_ok-name.ensures.ok.0 ∙ c.as_str.ensures.value) (rw c.in_ok-name.ensures.ok.0 c.in_ok-name.ensures.ok.1) c.loop-text.invariant
