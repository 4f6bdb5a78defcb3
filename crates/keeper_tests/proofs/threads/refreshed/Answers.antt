use Rattle.std.proofs.Common.{◌∙◌, sym, ap}
use Rattle.published.specs.Known.{Known}
use Rattle.keeper_tests.proofs.threads.refreshed.Goals as goal

pub handed_of-requires : goal.handed_of-requires
handed_of-requires g c =
    ap (λ (k : Known). k.book) c.refresh-receipt.ensures.tells.published ∙ c.refresh-receipt.ensures.known.0 ∙ sym c.refresh-receipt.ensures.kept.0.0 ∙ c.requires

pub returns : goal.returns
returns g c = sym c.refresh-receipt.ensures.kept.0.0 ∙ c.requires
