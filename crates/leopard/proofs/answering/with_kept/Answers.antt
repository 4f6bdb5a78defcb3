use Rattle.std.proofs.Common.{◌≡◌, [], ℕ, List, ap, subst, ◌∙◌}
use Rattle.std.specs.Prelude.{Some, slice_index_or}
use Rattle.std.specs.List.{slice_get}
use Rattle.leopard.specs.Index.{Index}
use Rattle.leopard.proofs.Finding.{other_more, other_unnamed, kept_more}
use Rattle.leopard.proofs.answering.with_kept.Goals as goal

pub returns-in_default-clause-more : goal.returns-in_default-clause-more
returns-in_default-clause-more c = other_more c.args.built.now c.requires c.args.node c.args.found.ids c.args.found.others.keys c.put.new.nodes.keys
    (subst (λ (x : Index). (at : ℕ) → slice_get x.groups at ≡ Some c.args.node → ⊥) c.built.view_is c.in_default.ensures.missing) c.in_ok-put.ensures.gains

pub returns-in_default-clause-unnamed : goal.returns-in_default-clause-unnamed
returns-in_default-clause-unnamed c = other_unnamed c.args.built.now c.requires c.args.node c.args.found.others.keys c.put.new.nodes.keys
    (subst (λ (x : Index). (at : ℕ) → slice_get x.groups at ≡ Some c.args.node → ⊥) c.built.view_is c.in_default.ensures.missing) c.in_ok-put.ensures.gains

pub returns-clause-more : goal.returns-clause-more
returns-clause-more c = kept_more c.args.built.now c.requires c.args.node c.args.found.ids c.in_ok-kept.kept c.in_ok-ids.ids c.insert.new.self c.args.found.others.keys c.in-Some.at
    (subst (λ (x : Index). slice_get x.groups c.in-Some.at ≡ Some c.args.node) c.built.view_is c.in-Some.ensures.found)
    (subst (λ (x : Index). c.in_ok-kept.kept ≡ slice_index_or x.closures c.in-Some.at []) c.built.view_is (c.in_ok-kept.ensures ∙ ap (λ (l : List (List ℕ)). slice_index_or l c.in-Some.at []) c.deref.ensures.value))
    c.in_ok-ids.ensures.members c.in_ok-insert.ensures.members
