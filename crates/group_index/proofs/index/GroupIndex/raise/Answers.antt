use Rattle.std.proofs.Common.{◌≤◌, sym, subst}
use Rattle.group_index.proofs.index.GroupIndex.raise.Goals as goal

pub returns-clause-index : goal.returns-clause-index
returns-clause-index c = λ snaps is up. record {
  closures = c.raise.ensures.layer snaps is.closures up;
  direct = c.raise-2.ensures.direct snaps is.direct (subst (λ b. b ≤ c.args.rev) (sym c.args.self.now.one_base) up);
}
