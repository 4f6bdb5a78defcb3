use Rattle.std.proofs.Common.{◌≡◌, sym, ◌∙◌, ap, rules}
use Rattle.std.specs.Prelude.{Some}
use Rattle.hot.proofs.Lists.{named_more, named_passed}
use Rattle.hot.proofs.members.push_named.Goals as goal

pub returns-in_ok-push-in-Some : goal.returns-in_ok-push-in-Some
returns-in_ok-push-in-Some c =
    let same : c.in-Some.user.now ≡ c.in_ok-copy-in-Some.copy = search rules in
    named_more c.args.users.now c.args.found.now.items c.push.new.self.items c.args.id c.in_ok-copy-in-Some.copy c.requires
    (sym c.in-Some.ensures ∙ ap (λ x. Some x) same) c.in_ok-push-in-Some.ensures.items

pub returns-in-None : goal.returns-in-None
returns-in-None c = λ ids _. named_passed c.args.users.now c.args.found.now.items c.args.id c.in-None.ensures ids
