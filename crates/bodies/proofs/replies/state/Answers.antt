use Rattle.bodies.specs.Replies.{state_data}
use Rattle.bodies.proofs.Saying.{said_text}
use Rattle.bodies.proofs.replies.state.Goals as goal

pub returns : goal.returns
returns c = said_text (λ b. b.items) c.state_text.result _ 200 (state_data c.args.store c.args.state.now) c.said.ensures c.state_text.ensures
