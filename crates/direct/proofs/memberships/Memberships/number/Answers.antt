use Rattle.std.specs.Prelude.{IsTrue}
use Rattle.std.proofs.Common.{rules}
use Rattle.facts.specs.inside.Tables.{grew_get}
use Rattle.direct.proofs.Tables.{more_both}
use Rattle.direct.proofs.memberships.Memberships.number.Goals as goal

pub returns-clause-more : goal.returns-clause-more
returns-clause-more c = more_both c.args.self.now c.see_user.new.self c.see_group.new.self c.in_ok-user.ensures.more c.in_ok-group.ensures.more

pub returns-clause-numbers : goal.returns-clause-numbers
returns-clause-numbers c =
    let yes : IsTrue c.is_direct.result = search rules in (
      c.is_direct.ensures.0 yes,
      record {
        user = grew_get c.see_user.new.self.users c.see_group.new.self.users c.in_ok-user.user c.args.tuple.now.subject.object c.in_ok-group.ensures.more.users c.in_ok-user.ensures.number;
        group = c.in_ok-group.ensures.number;
      },
    )

pub returns-in_err-group-clause-more : goal.returns-in_err-group-clause-more
returns-in_err-group-clause-more c = more_both c.args.self.now c.see_user.new.self c.see_group.new.self c.in_ok-user.ensures.more c.in_err-group.ensures.more
