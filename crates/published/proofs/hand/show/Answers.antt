use Rattle.std.proofs.Common.{sym, subst}
use Rattle.left_right.specs.Register.{TurnsAt}
use Rattle.published.specs.Copies.{Copy, Keeps, Sees}
use Rattle.published.proofs.Rules.{turns}
use Rattle.published.proofs.Chains.{all_stand, all_go_on}
use Rattle.published.proofs.hand.show.Goals as goal

pub publish-requires : goal.publish-requires
publish-requires g c next is seat =
    let p = c.args.publisher in
    let (end, chain, judged) = c.requires in
    subst (λ (y : Copy). TurnsAt Keeps seat p.told p.published y Sees) (sym is)
    (turns seat p.told p.published _ (all_stand p.published p.waiting end chain judged) (all_go_on p.published p.waiting end chain))
