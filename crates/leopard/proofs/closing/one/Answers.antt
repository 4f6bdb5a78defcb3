use Rattle.std.proofs.Common.{◌≡◌, [], ◌∷◌, ◌++◌, ap, sym, ◌∙◌}
use Rattle.idsets.specs.Sets.{has}
use Rattle.leopard.proofs.Numbers.{has_one}
use Rattle.leopard.proofs.closing.one.Goals as goal

pub returns : goal.returns
returns c = λ other.
    let is : has c.of.result other ≡ has (c.args.id ∷ []) other = c.of.ensures.members other ∙ ap (λ l. has l other) (c.in_ok-push.ensures.items ∙ ap (λ l. l ++ c.args.id ∷ []) c.new-ids.ensures.items) in
    (λ h. (has_one c.args.id other).0 (sym is ∙ h), λ e. is ∙ (has_one c.args.id other).1 e)
