use Rattle.std.proofs.Common.{refl, sym, subst, ◌∙◌}
use Rattle.std.proofs.lemmas.Bool.{false≢true}
use Rattle.region.specs.Tables.{row_of}
use Rattle.hot.specs.inside.Named.{AreNamed}
use Rattle.hot.proofs.Answering.{kept_exactly, none_under, members_are, row_there, row_gone}
use Rattle.hot.proofs.hot.Hot.members.Goals as goal

pub returns-in_default-clause-exactly : goal.returns-in_default-clause-exactly
returns-in_default-clause-exactly c = λ S is. (λ t. absurd (false≢true t), λ u. absurd (none_under c.args.self.now S is c.args.node.now c.in_default.ensures.missing u))

pub returns-in_default-members-clause-exactly : goal.returns-in_default-members-clause-exactly
returns-in_default-members-clause-exactly c = λ S is.
    let hot = c.args.self.now in
    let gone = row_gone (row_of hot.sets.rows c.in-Some.id) c.in_default-members.ensures in (
      λ t. absurd (false≢true t),
      λ u. absurd (false≢true (sym gone ∙ (kept_exactly hot S is c.in-Some.id c.args.node.now c.in-Some.ensures.found).1 u)),
    )

pub returns-clause-exactly : goal.returns-clause-exactly
returns-clause-exactly c = λ S is.
    let hot = c.args.self.now in
    let row = row_there (row_of hot.sets.rows c.in-Some.id) c.in-Some-members.ids.now c.in-Some-members.ensures in
    (λ _. (kept_exactly hot S is c.in-Some.id c.args.node.now c.in-Some.ensures.found).0 row.0, λ _. refl)

pub returns-clause-members : goal.returns-clause-members
returns-clause-members c = λ S is.
    let hot = c.args.self.now in
    members_are hot S is c.in-Some.id c.args.node.now c.in-Some-members.ids.now c.in_ok-users.users.items c.in-Some.ensures.found c.in-Some-members.ensures
    (subst (λ xs. AreNamed hot.numbers.users xs c.in_ok-users.users.items) c.as_slice.ensures.ids c.in_ok-users.ensures)

pub returns-clause-once : goal.returns-clause-once
returns-clause-once c = c.in_ok-users.ensures.once
