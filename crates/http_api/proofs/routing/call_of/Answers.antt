use Rattle.std.proofs.Common.{rules, ◌≡◌, ◌∙◌, refl, sym}
use Rattle.http_api.specs.Routes.{table}
use Rattle.http_api.proofs.Literal.{first_exact, literal_by_test}
use Rattle.http_api.proofs.routing.call_of.Goals as goal

pub returns-then-is_verb : goal.returns-then-is_verb
returns-then-is_verb c =
    let same : c.unwrap-path.result.now ≡ c.args.target.now = search rules in
    let found = rw (c.requires.routes, same) at c.in-Ok.ensures.found in
    let e = sym (first_exact table c.args.target.now (literal_by_test table refl)) ∙ found in
    rw (e, ← c.is_verb.ensures, c.if-is_verb.true) refl

pub returns-else-is_verb : goal.returns-else-is_verb
returns-else-is_verb c =
    let same : c.unwrap-path.result.now ≡ c.args.target.now = search rules in
    let found = rw (c.requires.routes, same) at c.in-Ok.ensures.found in
    let e = sym (first_exact table c.args.target.now (literal_by_test table refl)) ∙ found in
    rw (e, ← c.is_verb.ensures, c.if-is_verb.false) refl

pub returns-in-Err : goal.returns-in-Err
returns-in-Err c =
    let same : c.unwrap-path.result.now ≡ c.args.target.now = search rules in
    let none = rw (c.requires.routes, same) at c.in-Err.ensures.missing in
    let e = sym (first_exact table c.args.target.now (literal_by_test table refl)) ∙ none in
    rw e refl
