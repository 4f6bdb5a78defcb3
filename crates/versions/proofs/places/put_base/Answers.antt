use Rattle.std.proofs.Common.{ap, ◌∙◌}
use Rattle.std.specs.Prelude.{true}
use Rattle.names.specs.declared.tuple.Tuple.{Tuple}
use Rattle.versions.specs.Versions.{base_versions}
use Rattle.versions.proofs.Decoding.{put_in, put_in_spelled}
use Rattle.versions.proofs.places.put_base.Goals as goal

pub returns-clause-spelled : goal.returns-clause-spelled
returns-clause-spelled c =
    put_in_spelled c.as_str.result.now c.one-versions.result c.as_str.ensures.spelling c.tuple_ref-key.result c.as_str.ensures.read c.args.map.now c.insert.new.self c.requires c.in_ok-insert.ensures.entries

pub returns-clause-ok : goal.returns-clause-ok
returns-clause-ok c =
    put_in c.as_str.result.now c.one-versions.result c.as_str.ensures.spelling c.args.tuple.now (c.as_str.ensures.read ∙ c.tuple_ref-key.ensures ∙ ap (λ (t : Tuple). t) c.of-scratch.ensures)
    c.args.map.now c.insert.new.self c.requires c.in_ok-insert.ensures.entries
    (λ _. base_versions true) c.one-versions.ensures
