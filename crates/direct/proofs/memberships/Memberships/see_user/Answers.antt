use Rattle.std.proofs.Common.{◌≤◌, ◌<◌, ◌+◌, List, [], length, sym, subst, ◌∙◌, arith, append-nil}
use Rattle.names.specs.declared.object.Object.{Object}
use Rattle.facts.specs.Numbers.{Grew}
use Rattle.direct.proofs.memberships.Memberships.see_user.Goals as goal

pub invariant_of-self : goal.invariant_of-self
invariant_of-self c =
    let room : length c.make_room.new.self.users < length c.make_room.new.self.sets.items = c.in_ok-make_room.ensures.room in
    let longer : length c.see.new.table ≤ length c.make_room.new.self.users + 1 = c.see.ensures.longer in
    record {
      room = omega (arith, room, longer);
      users_apart = c.see.ensures.apart;
      groups_apart = c.make_room.new.self.groups_apart;
    }

pub returns-clause-more : goal.returns-clause-more
returns-clause-more c = record {
  users = subst (λ (xs : List Object). Grew xs c.see.new.table) c.in_ok-make_room.ensures.users c.see.ensures.grew;
  groups = ([], c.in_ok-make_room.ensures.groups ∙ sym (append-nil c.args.self.now.groups));
  sets = c.in_ok-make_room.ensures.sets;
}
