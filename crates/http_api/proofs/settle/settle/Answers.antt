use Rattle.std.proofs.Common.{◌≡◌, ◌||◌, ◌==◌, sym, ap, ◌∙◌, refl}
use Rattle.http_api.specs.Heads.{closes, max_requests}
use Rattle.http_api.specs.Connection.{after, unknown, answered, no_memory}
use Rattle.http_api.specs.Replies.{reply_text, no_route}
use Rattle.http_api.proofs.Settling.{sent_settled, given_up_settled}
use Rattle.http_api.proofs.settle.settle.Goals as goal
use Rattle.http_api.proofs.settle.settle.Goals.{then-heading, else-heading}

pub returns-in-None-clause-settles : goal.returns-in-None-clause-settles
returns-in-None-clause-settles g c input rest head r h =
    let told : c.if-heading.closed ≡ (c.args.heading.closes || (c.args.number == max_requests)) = elim c.if-heading.branch [ then-heading w ↦ w.closed-is ∙ w.if-heading.true ∙ sym (ap (λ b. b || (c.args.number == max_requests)) w.if-heading.true) | else-heading w ↦ w.closed-is ∙ sym (ap (λ b. b || (c.args.number == max_requests)) w.if-heading.false) ] in
    let closed : c.if-heading.closed ≡ closes head c.args.number = told ∙ ap (λ b. b || (c.args.number == max_requests)) h.closes in
    sent_settled g.A.Answers.step c.args.answers.now c.args.answers.now c.args.number input rest c.args.writer.now c.send.new.writer c.if-heading.closed (reply_text 404 no_route c.if-heading.closed) c.send.result c.send.ensures.sent (unknown head c.args.body.now rest r (sym h.call ∙ c.in-None.is) (ap (λ b. reply_text 404 no_route b) closed) refl (ap (λ b. after b rest) closed))

pub returns-in-Said-clause-settles : goal.returns-in-Said-clause-settles
returns-in-Said-clause-settles g c input rest head r h =
    let told : c.if-heading.closed ≡ (c.args.heading.closes || (c.args.number == max_requests)) = elim c.if-heading.branch [ then-heading w ↦ w.closed-is ∙ w.if-heading.true ∙ sym (ap (λ b. b || (c.args.number == max_requests)) w.if-heading.true) | else-heading w ↦ w.closed-is ∙ sym (ap (λ b. b || (c.args.number == max_requests)) w.if-heading.false) ] in
    let closed : c.if-heading.closed ≡ closes head c.args.number = told ∙ ap (λ b. b || (c.args.number == max_requests)) h.closes in
    let text = ap (λ t. reply_text c.in-Said.status t c.if-heading.closed) c.as_slice.ensures.value ∙ ap (λ b. reply_text c.in-Said.status c.in-Said.body.items b) closed in
    sent_settled g.A.Answers.step c.args.answers.now c.answer.new.self c.args.number input rest c.args.writer.now c.send-in-Said.new.writer c.if-heading.closed (reply_text c.in-Said.status c.as_slice.result.now c.if-heading.closed) c.send-in-Said.result c.send-in-Said.ensures.sent
    (answered head c.args.body.now rest c.in-Some.call c.in-Said.status c.in-Said.body.items r (sym h.call ∙ c.in-Some.is) c.in-Said.ensures text (ap (λ b. after b rest) closed))

pub returns-in-NoMemory-clause-settles : goal.returns-in-NoMemory-clause-settles
returns-in-NoMemory-clause-settles g c input rest head r h =
    given_up_settled g.A.Answers.step c.args.answers.now c.answer.new.self c.args.number input rest c.args.writer.now c.give_up.new.writer c.give_up.result c.give_up.ensures.given_up (no_memory head c.args.body.now rest c.in-Some.call r (sym h.call ∙ c.in-Some.is) c.in-NoMemory.ensures refl refl)
