use Rattle.std.proofs.Common.{◌≤◌, refl, subst}
use Rattle.group_index.proofs.index.GroupIndex.at.Goals as goal

pub returns-clause-told : goal.returns-clause-told
returns-clause-told c = λ snaps is. record {
  snaps = snaps;
  index_of = is;
  from = subst (λ b. b ≤ c.args.rev) c.base.ensures c.if-rev-base.false;
  to = subst (λ b. c.args.rev ≤ b) c.cursor.ensures c.if-cursor-rev.false;
  holds = refl;
}
