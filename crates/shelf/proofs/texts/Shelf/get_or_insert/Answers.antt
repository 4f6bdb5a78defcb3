use Rattle.std.proofs.Common.{◌≡◌, ap, refl, sym, ◌∙◌, Some}
use Rattle.std.specs.Map.{lookup}
use Rattle.std.specs.Option.{unwrap_or}
use Rattle.std.specs.BTreeMap.{insert_entry}
use Rattle.shelf.specs.Texts.{text_cmp, is_text}
use Rattle.shelf.proofs.Writing.{set_shelf, set_entries, found_there}
use Rattle.shelf.proofs.texts.Shelf.get_or_insert.Goals as goal

pub invariant_of-self-lent : goal.invariant_of-self-lent
invariant_of-self-lent g c = λ w.
    set_shelf c.args.key.now c.in_ok-at.at c.in_ok-at.i _ c.enter.ensures.shelf c.in_ok-at.ensures.found _ c.index_mut-block.ensures.value w _ refl

pub returns : goal.returns
returns g c =
    let key = c.args.key.now in
    let has = c.in_ok-at.ensures.entered in
    let same : Some c.item_mut.result.now ≡ Some (unwrap_or (lookup (is_text key) c.args.self.now) c.args.value) =
    sym c.item_mut.ensures.value
    ∙ found_there key c.in_ok-at.at c.in_ok-at.i _ c.enter.ensures.shelf c.in_ok-at.ensures.found _ c.index_mut-block.ensures.value
    ∙ has.1 ∙ ap (λ es. Some (unwrap_or (lookup (is_text key) es) c.args.value)) c.self.view_is in (
      (
        refl,
        λ w _. set_entries key c.in_ok-at.at c.in_ok-at.i _ c.enter.ensures.shelf c.in_ok-at.ensures.found _ c.index_mut-block.ensures.value w _ refl
            ∙ has.0 w ∙ ap (λ es. insert_entry text_cmp es key w) c.self.view_is,
        tt,
      ),
      cc,
    )
