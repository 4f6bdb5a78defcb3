use Rattle.std.proofs.Common.{◌≡◌, ◌+◌, length, arith}
use Rattle.std.proofs.lemmas.Bool.Decides.{nat_tests}
use Rattle.published.specs.Known.{Begins}
use Rattle.published.proofs.Following.{next_by_length}
use Rattle.published.proofs.Remembering.{begun}
use Rattle.published.proofs.post.Post.is_next_of.Goals as goal

pub returns-then-begins-clause-next : goal.returns-then-begins-clause-next
returns-then-begins-clause-next g c = λ same.
    let on : Begins c.args.steps.now c.self.inside.after = begun _ c.begins.result c.if-begins.true c.begins.ensures in
    let ends = c.self.invariant.2 in
    let mine = c.len.ensures.length in
    let its = c.len-then-begins.ensures.length in
    let long : length c.args.steps.now.steps + 1 ≡ length c.self.inside.after.steps = grind (arith, nat_tests, same, mine, its) in
    rw (← c.self.view_is) (next_by_length c.args.steps.now ends.0 c.self.inside.after c.self.inside.step on ends.1 long)
