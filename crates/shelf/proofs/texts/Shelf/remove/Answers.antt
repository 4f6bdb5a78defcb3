use Rattle.std.proofs.Common.{ap, sym, subst, ◌∙◌}
use Rattle.std.specs.Map.{lookup, remove_entry}
use Rattle.shelf.specs.Texts.{is_text}
use Rattle.shelf.specs.inside.Places.{IsFound, joined}
use Rattle.shelf.proofs.Taking.{out_none, out_there, out_shelf, gone_there, value_there}
use Rattle.shelf.proofs.texts.Shelf.remove.Goals as goal

pub returns-in_err-at-clause-entries : goal.returns-in_err-at-clause-entries
returns-in_err-at-clause-entries g c =
    out_none c.args.key.now _ (ap (lookup (is_text c.args.key.now)) (sym c.self.view_is ∙ ap joined (sym c.deref.ensures.value)) ∙ c.in_err-at.ensures)

pub invariant_of-self : goal.invariant_of-self
invariant_of-self g c =
    let found = subst (IsFound c.args.key.now c.in_ok-at.at c.in_ok-at.i) c.deref.ensures.value c.in_ok-at.ensures in
    out_shelf c.args.key.now c.in_ok-at.at c.in_ok-at.i c.self.inside.blocks.items c.self.invariant found _ c.take_out.ensures.filled c.take_out.ensures.rest

pub returns-clause-entries : goal.returns-clause-entries
returns-clause-entries g c =
    let found = subst (IsFound c.args.key.now c.in_ok-at.at c.in_ok-at.i) c.deref.ensures.value c.in_ok-at.ensures in
    c.take_out.ensures.rest ∙ out_there c.args.key.now c.in_ok-at.at c.in_ok-at.i c.self.inside.blocks.items c.self.invariant found ∙ ap (remove_entry (is_text c.args.key.now)) c.self.view_is

pub returns-clause-value : goal.returns-clause-value
returns-clause-value g c =
    let found = subst (IsFound c.args.key.now c.in_ok-at.at c.in_ok-at.i) c.deref.ensures.value c.in_ok-at.ensures in
    value_there c.args.key.now c.in_ok-at.at c.in_ok-at.i c.self.inside.blocks.items c.self.invariant found c.take_out.result c.take_out.ensures.value ∙ ap (lookup (is_text c.args.key.now)) c.self.view_is

pub returns-in_err-at-clause-gone : goal.returns-in_err-at-clause-gone
returns-in_err-at-clause-gone g c =
    ap (lookup (is_text c.args.key.now)) (sym c.self.view_is ∙ ap joined (sym c.deref.ensures.value)) ∙ c.in_err-at.ensures

pub returns-clause-gone : goal.returns-clause-gone
returns-clause-gone g c =
    let found = subst (IsFound c.args.key.now c.in_ok-at.at c.in_ok-at.i) c.deref.ensures.value c.in_ok-at.ensures in
    ap (lookup (is_text c.args.key.now)) c.take_out.ensures.rest ∙ gone_there c.args.key.now c.in_ok-at.at c.in_ok-at.i c.self.inside.blocks.items c.self.invariant found
