use Rattle.std.proofs.Common.{ap, refl, sym, subst, ◌∙◌}
use Rattle.std.specs.Map.{lookup, set_value}
use Rattle.shelf.specs.Texts.{is_text}
use Rattle.shelf.specs.inside.Places.{IsFound, joined}
use Rattle.shelf.proofs.Writing.{set_none, set_shelf, set_entries, kept, kept_shelf, found_there}
use Rattle.shelf.proofs.texts.Shelf.get_mut.Goals as goal

pub returns-in_default : goal.returns-in_default
returns-in_default g c =
    let none = sym c.in_default.ensures ∙ ap (λ bs. lookup (is_text c.args.key.now) (joined bs)) c.deref.ensures.value in
    ((refl, λ w. set_none c.args.key.now _ w none ∙ ap (λ es. set_value (is_text c.args.key.now) es w) c.self.view_is, c.self.view_is), none ∙ ap (lookup (is_text c.args.key.now)) c.self.view_is)

pub invariant_of-self-lent : goal.invariant_of-self-lent
invariant_of-self-lent g c = λ _.
    let found = subst (IsFound c.args.key.now c.in-Some.at c.in-Some.i) c.deref.ensures.value c.in-Some.ensures in (
      λ w. set_shelf c.args.key.now c.in-Some.at c.in-Some.i _ c.self.invariant found _ c.in_ok-block.ensures.value w _ (c.value_mut.follows.holds w),
      kept_shelf c.args.key.now c.in-Some.at c.in-Some.i _ c.self.invariant found _ c.in_ok-block.ensures.value _ c.value_mut.follows.holds-at-none,
    )

pub returns : goal.returns
returns g c =
    let found = subst (IsFound c.args.key.now c.in-Some.at c.in-Some.i) c.deref.ensures.value c.in-Some.ensures in (
      (
        refl,
        λ w. set_entries c.args.key.now c.in-Some.at c.in-Some.i _ c.self.invariant found _ c.in_ok-block.ensures.value w _ (c.value_mut.follows.holds w) ∙ ap (λ es. set_value (is_text c.args.key.now) es w) c.self.view_is,
        ap joined (kept c.args.key.now c.in-Some.at c.in-Some.i _ c.self.invariant found _ c.in_ok-block.ensures.value _ c.value_mut.follows.holds-at-none) ∙ c.self.view_is,
      ),
      c.value_mut.ensures.value ∙ found_there c.args.key.now c.in-Some.at c.in-Some.i _ c.self.invariant found _ c.in_ok-block.ensures.value ∙ ap (lookup (is_text c.args.key.now)) c.self.view_is,
    )
