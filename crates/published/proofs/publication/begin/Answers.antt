use Rattle.std.proofs.Common.{List, sym, subst}
use Rattle.published.specs.Copies.{Posted, Chain}
use Rattle.published.specs.Known.{Known}
use Rattle.published.proofs.publication.begin.Goals as goal

pub publish-requires : goal.publish-requires
publish-requires g c = (
  c.args.entered.now,
  subst (λ (posts : List Posted). Chain c.args.publisher.now.published.prefix posts c.args.entered.now) (sym c.requires.waiting) c.requires.first,
  c.requires.judged,
)
