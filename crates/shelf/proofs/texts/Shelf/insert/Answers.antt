use Rattle.std.proofs.Common.{ap, sym, subst, ◌∙◌}
use Rattle.std.specs.Map.{lookup}
use Rattle.std.specs.BTreeMap.{insert_entry}
use Rattle.shelf.specs.Texts.{text_cmp, is_text}
use Rattle.shelf.specs.inside.Places.{IsFound}
use Rattle.shelf.proofs.Shelves.{one_shelf}
use Rattle.shelf.proofs.Writing.{set_shelf, found_value}
use Rattle.shelf.proofs.Spots.{IsMissing, written_there, none_there, put_there, entered_there}
use Rattle.shelf.proofs.texts.Shelf.insert.Goals as goal

pub invariant_of-self-then-is_empty : goal.invariant_of-self-then-is_empty
invariant_of-self-then-is_empty g c =
    one_shelf _ _ _ (c.args.key.now, c.args.value) _ (sym c.is_empty.ensures ∙ c.if-is_empty.true) (c.self.inside.blocks.ok.0) c.in_ok-block.ensures c.in_ok-push.ensures.items

pub invariant_of-self-in-Ok : goal.invariant_of-self-in-Ok
invariant_of-self-in-Ok g c =
    let found = subst (IsFound c.args.key.now c.in-Ok.at c.in-Ok.i) c.deref.ensures.value c.in-Ok.ensures.ok in
    set_shelf c.args.key.now c.in-Ok.at c.in-Ok.i c.self.inside.blocks.items c.self.invariant found c.index_mut-block.result.now c.index_mut-block.ensures.value c.args.value c.replace.new.self c.replace.ensures.new

pub returns-in-Ok-clause-entries : goal.returns-in-Ok-clause-entries
returns-in-Ok-clause-entries g c =
    let found = subst (IsFound c.args.key.now c.in-Ok.at c.in-Ok.i) c.deref.ensures.value c.in-Ok.ensures.ok in
    written_there c.args.key.now c.in-Ok.at c.in-Ok.i c.self.inside.blocks.items c.self.invariant found c.index_mut-block.result.now c.index_mut-block.ensures.value c.args.value c.replace.new.self c.replace.ensures.new
    ∙ ap (λ es. insert_entry text_cmp es c.args.key.now c.args.value) c.self.view_is

pub returns-in-Ok-clause-old : goal.returns-in-Ok-clause-old
returns-in-Ok-clause-old g c =
    let found = subst (IsFound c.args.key.now c.in-Ok.at c.in-Ok.i) c.deref.ensures.value c.in-Ok.ensures.ok in
    found_value c.args.key.now c.in-Ok.at c.in-Ok.i c.self.inside.blocks.items c.self.invariant found c.index_mut-block.result.now c.index_mut-block.ensures.value _ c.replace.ensures.old
    ∙ ap (lookup (is_text c.args.key.now)) c.self.view_is

pub invariant_of-self-in-Err : goal.invariant_of-self-in-Err
invariant_of-self-in-Err g c =
    let is = subst (IsMissing c.args.key.now c.in-Err.at c.in-Err.i) c.deref.ensures.value c.in-Err.ensures.err in
    entered_there c.args.key.now c.in-Err.at c.in-Err.i c.self.inside.blocks.items is c.args.value c.self.invariant.sorted _ c.in_ok-self-inside-in-Err.ensures.filled c.in_ok-self-inside-in-Err.ensures.ok

pub returns-in_ok-self-inside-in-Err-clause-entries : goal.returns-in_ok-self-inside-in-Err-clause-entries
returns-in_ok-self-inside-in-Err-clause-entries g c =
    let is = subst (IsMissing c.args.key.now c.in-Err.at c.in-Err.i) c.deref.ensures.value c.in-Err.ensures.err in
    c.in_ok-self-inside-in-Err.ensures.ok ∙ put_there c.args.key.now c.in-Err.at c.in-Err.i c.self.inside.blocks.items is c.args.value
    ∙ ap (λ es. insert_entry text_cmp es c.args.key.now c.args.value) c.self.view_is

pub returns-in_ok-self-inside-in-Err-clause-old : goal.returns-in_ok-self-inside-in-Err-clause-old
returns-in_ok-self-inside-in-Err-clause-old g c =
    let is = subst (IsMissing c.args.key.now c.in-Err.at c.in-Err.i) c.deref.ensures.value c.in-Err.ensures.err in
    none_there c.args.key.now c.in-Err.at c.in-Err.i c.self.inside.blocks.items is ∙ ap (lookup (is_text c.args.key.now)) c.self.view_is
