use Rattle.std.proofs.Common.{List, ap, sym, ◌∙◌, refl}
use Rattle.std.specs.Prelude.{Option}
use Rattle.std.specs.Option.{option_copied_mut}
use Rattle.versions.specs.declared.version.Version.{Version}
use Rattle.versions.specs.Versions.{items_or, versions_at, after_settle, is_based}
use Rattle.versions.specs.Texts.{Texts, entries_of}
use Rattle.versions.proofs.Decoding.{written, written_spelled, written_none, unwritten, versions_found, none_found}
use Rattle.versions.proofs.places.settle_version.Goals as goal

pub returns-in_default-clause-versions : goal.returns-in_default-clause-versions
returns-in_default-clause-versions c = λ q.
    ap (λ (es : Texts). versions_at (entries_of es) q) c.get_mut.follows.holds-at-none
    ∙ unwritten c.as_str.result.now c.as_str.ensures.spelling c.args.key.now c.as_str.ensures.read c.args.map.now c.requires q after_settle refl
    (ap option_copied_mut (sym c.in_default.is) ∙ c.get_mut.ensures.value)

pub returns-in_default-clause-was_based : goal.returns-in_default-clause-was_based
returns-in_default-clause-was_based c =
    ap is_based (none_found c.as_str.result.now c.as_str.ensures.spelling c.args.key.now c.as_str.ensures.read c.args.map.now c.requires
    (ap option_copied_mut (sym c.in_default.is) ∙ c.get_mut.ensures.value))

pub forget-requires-clause-spelled : goal.forget-requires-clause-spelled
forget-requires-clause-spelled c =
    written_spelled c.as_str.result.now c.as_str.ensures.spelling c.args.key.now c.as_str.ensures.read c.args.map.now c.requires
    (c.get_mut.follows.lender c.settle-was_based.new.self) c.settle-was_based.new.self (c.get_mut.follows.holds c.settle-was_based.new.self)

pub forget-requires-clause-empty : goal.forget-requires-clause-empty
forget-requires-clause-empty c =
    written_none c.as_str.result.now c.as_str.ensures.spelling c.args.key.now c.as_str.ensures.read c.args.map.now c.requires
    (c.get_mut.follows.lender c.settle-was_based.new.self) c.in-Some.versions.now c.settle-was_based.new.self
    c.in-Some.ensures.value (c.get_mut.follows.holds c.settle-was_based.new.self) (c.is_empty.ensures c.if-is_empty.true)

pub returns-then-is_empty-clause-versions : goal.returns-then-is_empty-clause-versions
returns-then-is_empty-clause-versions c = λ q.
    c.forget.ensures.same q
    ∙ written c.as_str.result.now c.as_str.ensures.spelling c.args.key.now c.as_str.ensures.read c.args.map.now c.requires
    (c.get_mut.follows.lender c.settle-was_based.new.self) c.in-Some.versions.now c.settle-was_based.new.self after_settle
    c.in-Some.ensures.value (c.get_mut.follows.holds c.settle-was_based.new.self) c.settle-was_based.ensures.versions q

pub returns-then-is_empty-clause-was_based : goal.returns-then-is_empty-clause-was_based
returns-then-is_empty-clause-was_based c =
    c.settle-was_based.ensures.was_based
    ∙ ap (λ (o : Option (List Version)). is_based (items_or o)) c.in-Some.ensures.value
    ∙ ap is_based (versions_found c.as_str.result.now c.as_str.ensures.spelling c.args.key.now c.as_str.ensures.read c.args.map.now c.requires)

pub returns-else-is_empty-clause-spelled : goal.returns-else-is_empty-clause-spelled
returns-else-is_empty-clause-spelled c =
    written_spelled c.as_str.result.now c.as_str.ensures.spelling c.args.key.now c.as_str.ensures.read c.args.map.now c.requires
    (c.get_mut.follows.lender c.settle-was_based.new.self) c.settle-was_based.new.self (c.get_mut.follows.holds c.settle-was_based.new.self)

pub returns-else-is_empty-clause-versions : goal.returns-else-is_empty-clause-versions
returns-else-is_empty-clause-versions c =
    written c.as_str.result.now c.as_str.ensures.spelling c.args.key.now c.as_str.ensures.read c.args.map.now c.requires
    (c.get_mut.follows.lender c.settle-was_based.new.self) c.in-Some.versions.now c.settle-was_based.new.self after_settle
    c.in-Some.ensures.value (c.get_mut.follows.holds c.settle-was_based.new.self) c.settle-was_based.ensures.versions

pub returns-else-is_empty-clause-was_based : goal.returns-else-is_empty-clause-was_based
returns-else-is_empty-clause-was_based c =
    c.settle-was_based.ensures.was_based
    ∙ ap (λ (o : Option (List Version)). is_based (items_or o)) c.in-Some.ensures.value
    ∙ ap is_based (versions_found c.as_str.result.now c.as_str.ensures.spelling c.args.key.now c.as_str.ensures.read c.args.map.now c.requires)
