use Rattle.std.proofs.Common.{◌≡◌, ℕ, List, ◌++◌, sym, ap, length, subst, arith, inl, inr}
use Rattle.std.proofs.lemmas.Result.{err_from_is_err_and}
use Rattle.httparse.specs.Grammar.{RequestHead}
use Rattle.http_api.specs.declared.looking.Heading.{Heading}
use Rattle.http_api.specs.inside.Looking.{HasHeading}
use Rattle.http_api.proofs.Pausing.{read_on_none, read_on_more, ended_later, heading_more, body_cut, few_for_body}
use Rattle.http_api.proofs.receive.receive_body.Goals as goal

heading_here : (old new more : List ℕ) (h : RequestHead) (heading : Heading) → new ≡ old ++ more → HasHeading old h heading → HasHeading new h heading
heading_here old new more h heading holds x = subst (λ (i : List ℕ). HasHeading i h heading) (sym holds) (heading_more old more h heading x)

pub loop-reader-init : goal.loop-reader-init
loop-reader-init g c = (read_on_none _ _ c.requires.reads c.requires.writes, inl c.requires.few)

pub read_more-requires-clause-waits : goal.read_more-requires-clause-waits
read_more-requires-clause-waits g c =
    let i = c.loop-reader.invariant.0 in
    let head = c.requires.head in
    body_cut _ head.0 c.args.heading (heading_here _ _ i.more head.0 c.args.heading i.holds head.1) (omega (arith, ap length c.bytes.ensures, c.loop-reader-test.true))

pub read_more-requires-clause-few : goal.read_more-requires-clause-few
read_more-requires-clause-few g c =
    let i = c.loop-reader.invariant.0 in
    let head = c.requires.head in
    few_for_body _ head.0 c.args.heading (heading_here _ _ i.more head.0 c.args.heading i.holds head.1) c.loop-reader.invariant.1

pub loop-reader-preserved : goal.loop-reader-preserved
loop-reader-preserved g c = (read_on_more _ _ _ _ c.loop-reader.invariant.0 c.in_ok-read_more.ensures.ok, inr c.in_ok-read_more.ensures.most)

pub returns-in_err-read_more-clause-err : goal.returns-in_err-read_more-clause-err
returns-in_err-read_more-clause-err g c =
    let p = err_from_is_err_and c.from_residual.result c.from_residual.ensures.1 in
    rw (p.1, p.2) (ended_later _ _ _ _ _ _ c.loop-reader.invariant.0 c.in_err-read_more.ensures.err)
