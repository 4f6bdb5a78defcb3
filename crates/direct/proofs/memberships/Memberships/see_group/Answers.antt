use Rattle.std.proofs.Common.{refl}
use Rattle.facts.specs.inside.Tables.{grew_none}
use Rattle.direct.proofs.memberships.Memberships.see_group.Goals as goal

pub invariant_of-self-2 : goal.invariant_of-self-2
invariant_of-self-2 c = record {
  room = c.args.self.now.room;
  users_apart = c.args.self.now.users_apart;
  groups_apart = c.see.ensures.apart;
}

pub returns-clause-more : goal.returns-clause-more
returns-clause-more c = record {
  users = grew_none c.args.self.now.users;
  groups = c.see.ensures.grew;
  sets = λ user. refl;
}
