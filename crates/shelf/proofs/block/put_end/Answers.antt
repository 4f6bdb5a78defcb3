use Rattle.std.proofs.Common.{◌+◌, ◌<◌, ◌∷◌, get_or, drop, subst, sym, ap, ◌∙◌}
use Rattle.std.specs.List.{insert}
use Rattle.std.specs.Prelude.{All}
use Rattle.shelf.proofs.Inserting.{all_from, rest_put}
use Rattle.shelf.proofs.block.put_end.Goals as goal

pub raise-requires : goal.raise-requires
raise-requires c =
    let old = c.args.ends.now.items in
    let start = c.start_of-start.ensures ∙ ap (λ es. get_or (0 ∷ es) c.args.i 0) c.deref.ensures.value in
    subst (λ es. All (λ end. end + c.args.by < 65536) es)
    (sym (rest_put c.deref_mut.result.now old c.args.i c.start_of-start.result c.requires.within (c.deref_mut.ensures.value ∙ c.in_ok-insert.ensures.items ∙ ap (λ es. insert es c.args.i c.start_of-start.result) c.in_ok-make_room.ensures.items) ∙ ap (λ x. x ∷ drop c.args.i old) start))
    (all_from (λ end. end + c.args.by < 65536) 0 old c.args.i c.requires.fits c.requires.within)
