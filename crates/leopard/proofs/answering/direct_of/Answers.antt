use Rattle.std.proofs.Common.{◌≡◌, [], ℕ, List, ap, subst, ◌∙◌}
use Rattle.std.specs.Prelude.{Some, slice_index_or}
use Rattle.std.specs.List.{slice_get}
use Rattle.idsets.specs.Naming.{AreDistinct}
use Rattle.leopard.specs.Index.{Index}
use Rattle.leopard.proofs.Finding.{direct_found, direct_none}
use Rattle.leopard.proofs.answering.direct_of.Goals as goal

pub returns-in_default : goal.returns-in_default
returns-in_default c = direct_none c.args.built.now c.args.user.now c.nothing.result.ids c.nothing.result.others.keys
    (subst (λ (x : Index). (at : ℕ) → slice_get x.users at ≡ Some c.args.user.now → ⊥) c.built.view_is c.in_default.ensures.missing)
    (λ n f. c.nothing.ensures.none c.args.built.now.groups n f) (c.nothing.ensures.unnamed c.args.built.now.groups)

pub returns : goal.returns
returns c = direct_found c.args.built.now c.args.user.now c.in-Some.at c.in_ok-ids.ids c.new.result.keys
    (subst (λ (x : Index). AreDistinct x.users) c.built.view_is c.len.ensures.distinct)
    (subst (λ (x : Index). slice_get x.users c.in-Some.at ≡ Some c.args.user.now) c.built.view_is c.in-Some.ensures.found)
    (subst (λ (x : Index). c.in_ok-ids.ids ≡ slice_index_or x.direct c.in-Some.at []) c.built.view_is (c.in_ok-ids.ensures ∙ ap (λ (l : List (List ℕ)). slice_index_or l c.in-Some.at []) c.deref.ensures.value))
    c.new.ensures.empty
