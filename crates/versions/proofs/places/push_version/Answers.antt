use Rattle.std.proofs.Common.{ap, refl, sym, subst, ◌∙◌}
use Rattle.std.specs.Result.{IsOk}
use Rattle.versions.specs.Versions.{versions_at, is_there, with_version}
use Rattle.versions.specs.Texts.{entries_of}
use Rattle.versions.proofs.Decoding.{versions_or_none, put_in, put_in_spelled}
use Rattle.versions.proofs.Placing.{stays}
use Rattle.versions.proofs.places.push_version.Goals as goal

pub returns-in-Ok-clause-spelled : goal.returns-in-Ok-clause-spelled
returns-in-Ok-clause-spelled c =
    put_in_spelled c.as_str.result.now c.add.new.self c.as_str.ensures.spelling c.args.key.now c.as_str.ensures.read c.args.map.now (c.get_or_insert.follows.lender c.add.new.self) c.requires
    (c.get_or_insert.follows.holds c.add.new.self (subst IsOk (sym c.in_ok-versions.was) refl))

pub returns-in-Ok-clause-ok : goal.returns-in-Ok-clause-ok
returns-in-Ok-clause-ok c =
    put_in c.as_str.result.now c.add.new.self c.as_str.ensures.spelling c.args.key.now c.as_str.ensures.read c.args.map.now (c.get_or_insert.follows.lender c.add.new.self) c.requires
    (c.get_or_insert.follows.holds c.add.new.self (subst IsOk (sym c.in_ok-versions.was) refl))
    (with_version c.args.version)
    (c.in-Ok.ensures.ok
    ∙ ap (with_version c.args.version)
    (c.in_ok-versions.ensures.value ∙ versions_or_none c.as_str.result.now c.as_str.ensures.spelling c.args.key.now c.as_str.ensures.read c.args.map.now c.requires c.none.result c.none.ensures))

pub returns-in-Ok-clause-was_there : goal.returns-in-Ok-clause-was_there
returns-in-Ok-clause-was_there c =
    c.is_there-was_there.ensures
    ∙ ap is_there
    (c.in_ok-versions.ensures.value ∙ versions_or_none c.as_str.result.now c.as_str.ensures.spelling c.args.key.now c.as_str.ensures.read c.args.map.now c.requires c.none.result c.none.ensures)

pub returns-in-Err-clause-spelled : goal.returns-in-Err-clause-spelled
returns-in-Err-clause-spelled c =
    put_in_spelled c.as_str.result.now c.add.new.self c.as_str.ensures.spelling c.args.key.now c.as_str.ensures.read c.args.map.now (c.get_or_insert.follows.lender c.add.new.self) c.requires
    (c.get_or_insert.follows.holds c.add.new.self (subst IsOk (sym c.in_ok-versions.was) refl))

pub returns-in-Err-clause-err : goal.returns-in-Err-clause-err
returns-in-Err-clause-err c = λ q.
    put_in c.as_str.result.now c.add.new.self c.as_str.ensures.spelling c.args.key.now c.as_str.ensures.read c.args.map.now (c.get_or_insert.follows.lender c.add.new.self) c.requires
    (c.get_or_insert.follows.holds c.add.new.self (subst IsOk (sym c.in_ok-versions.was) refl))
    (λ ms. ms)
    (c.in-Err.ensures.err
    ∙ (c.in_ok-versions.ensures.value ∙ versions_or_none c.as_str.result.now c.as_str.ensures.spelling c.args.key.now c.as_str.ensures.read c.args.map.now c.requires c.none.result c.none.ensures))
    q
    ∙ stays q c.args.key.now (versions_at (entries_of c.args.map.now) q)
