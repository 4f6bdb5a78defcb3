use Rattle.std.proofs.Common.{ap, sym, ◌∙◌, refl}
use Rattle.std.specs.Option.{option_copied_mut}
use Rattle.versions.specs.Versions.{versions_at, drop_last}
use Rattle.versions.specs.Texts.{Texts, entries_of}
use Rattle.versions.proofs.Decoding.{written, written_spelled, written_none, unwritten}
use Rattle.versions.proofs.places.pop_version.Goals as goal

pub forget-requires-clause-spelled : goal.forget-requires-clause-spelled
forget-requires-clause-spelled c =
    written_spelled c.as_str.result.now c.as_str.ensures.spelling c.args.key.now c.as_str.ensures.read c.args.map.now c.requires
    (c.get_mut.follows.lender c.drop_newest.new.self) c.drop_newest.new.self (c.get_mut.follows.holds c.drop_newest.new.self)

pub forget-requires-clause-empty : goal.forget-requires-clause-empty
forget-requires-clause-empty c =
    written_none c.as_str.result.now c.as_str.ensures.spelling c.args.key.now c.as_str.ensures.read c.args.map.now c.requires
    (c.get_mut.follows.lender c.drop_newest.new.self) c.in-Some.versions.now c.drop_newest.new.self
    c.in-Some.ensures.value (c.get_mut.follows.holds c.drop_newest.new.self) (c.is_empty.ensures c.if-is_empty.true)

pub returns-then-is_empty-clause-versions : goal.returns-then-is_empty-clause-versions
returns-then-is_empty-clause-versions c = λ q.
    c.forget.ensures.same q
    ∙ written c.as_str.result.now c.as_str.ensures.spelling c.args.key.now c.as_str.ensures.read c.args.map.now c.requires
    (c.get_mut.follows.lender c.drop_newest.new.self) c.in-Some.versions.now c.drop_newest.new.self drop_last
    c.in-Some.ensures.value (c.get_mut.follows.holds c.drop_newest.new.self) c.drop_newest.ensures q

pub returns-else-is_empty-clause-spelled : goal.returns-else-is_empty-clause-spelled
returns-else-is_empty-clause-spelled c =
    written_spelled c.as_str.result.now c.as_str.ensures.spelling c.args.key.now c.as_str.ensures.read c.args.map.now c.requires
    (c.get_mut.follows.lender c.drop_newest.new.self) c.drop_newest.new.self (c.get_mut.follows.holds c.drop_newest.new.self)

pub returns-else-is_empty-clause-versions : goal.returns-else-is_empty-clause-versions
returns-else-is_empty-clause-versions c =
    written c.as_str.result.now c.as_str.ensures.spelling c.args.key.now c.as_str.ensures.read c.args.map.now c.requires
    (c.get_mut.follows.lender c.drop_newest.new.self) c.in-Some.versions.now c.drop_newest.new.self drop_last
    c.in-Some.ensures.value (c.get_mut.follows.holds c.drop_newest.new.self) c.drop_newest.ensures

pub returns-in_default-clause-versions : goal.returns-in_default-clause-versions
returns-in_default-clause-versions c = λ q.
    ap (λ (es : Texts). versions_at (entries_of es) q) c.get_mut.follows.holds-at-none
    ∙ unwritten c.as_str.result.now c.as_str.ensures.spelling c.args.key.now c.as_str.ensures.read c.args.map.now c.requires q drop_last refl
    (ap option_copied_mut (sym c.in_default.is) ∙ c.get_mut.ensures.value)
