use Rattle.versions.proofs.Decoding.{taken_out, taken_out_spelled}
use Rattle.versions.proofs.places.forget.Goals as goal

pub returns-clause-spelled : goal.returns-clause-spelled
returns-clause-spelled c =
    taken_out_spelled c.as_str.result.now c.as_str.ensures.spelling c.args.key.now c.as_str.ensures.read c.args.map.now c.requires.spelled c.remove.new.self c.remove.ensures.entries

pub returns-clause-same : goal.returns-clause-same
returns-clause-same c =
    taken_out c.as_str.result.now c.as_str.ensures.spelling c.args.key.now c.as_str.ensures.read c.args.map.now c.requires.spelled c.remove.new.self c.remove.ensures.entries c.remove.ensures.gone c.requires.empty
