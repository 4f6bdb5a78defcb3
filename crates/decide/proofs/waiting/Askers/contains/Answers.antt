use Rattle.std.proofs.Common.{◌≡◌, ◌++◌, true, sym, subst, ◌∙◌}
use Rattle.std.specs.Prelude.{Contains, nat_eq}
use Rattle.std.specs.List.{list_any}
use Rattle.std.specs.Option.{option_to_list}
use Rattle.std.proofs.lemmas.List.Elements.{Contains-append_right}
use Rattle.decide.proofs.Elements.{contains_any}
use Rattle.decide.proofs.waiting.Askers.contains.Goals as goal

pub returns-else-is_it-2 : goal.returns-else-is_it-2
returns-else-is_it-2 c = λ yes.
    let a = c.self.inside in
    let others = a.others.items in
    let all : list_any (λ y. nat_eq y c.args.number) c.deref.result.now ≡ true = sym c.contains.ensures.value ∙ yes in
    let there : Contains others c.args.number = subst (λ ys. Contains ys c.args.number) c.deref.ensures.value (contains_any c.deref.result.now c.args.number all) in
    subst (λ ys. Contains ys c.args.number) c.self.view_is
    (Contains-append_right (option_to_list a.first ++ option_to_list a.second) others c.args.number there)
