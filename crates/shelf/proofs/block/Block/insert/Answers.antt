use Rattle.std.proofs.Common.{List, ◌∷◌, length, get_or, ap, ◌∙◌, arith}
use Rattle.std.specs.List.{insert, insert_slice}
use Rattle.std.specs.String.{string_bytes}
use Rattle.shelf.proofs.Blocks.{count_is, ends_are}
use Rattle.shelf.proofs.Inserting.{cut_point, fits, put_block, put_entries}
use Rattle.shelf.proofs.block.Block.insert.Goals as goal

pub start_of-start-requires : goal.start_of-start-requires
start_of-start-requires g c = omega (arith, ends_are _ _ _ c.self.invariant _ c.self.view_is)

pub put_end-requires-clause-within : goal.put_end-requires-clause-within
put_end-requires-clause-within g c = omega (arith, ends_are _ _ _ c.self.invariant _ c.self.view_is)

pub put_end-requires-clause-fits : goal.put_end-requires-clause-fits
put_end-requires-clause-fits g c =
    let n = count_is _ _ _ c.self.invariant _ c.self.view_is in
    fits _ _ _ c.self.invariant c.args.i (omega arith) (length c.args.key.now) (omega arith) c.requires.short

pub insert_str-requires : goal.insert_str-requires
insert_str-requires g c =
    let n = count_is _ _ _ c.self.invariant _ c.self.view_is in
    cut_point _ _ _ c.self.invariant c.args.i (omega arith) _ _ _ c.in_ok-make_room_in.ensures.bytes c.deref.ensures.value c.start_of-start.ensures

pub insert-requires : goal.insert-requires
insert-requires g c = omega (arith, count_is _ _ _ c.self.invariant _ c.self.view_is, ap (λ (vs : List g.row.V.Denot). length vs) c.in_ok-make_room.ensures.items)

pub invariant_of-self-2 : goal.invariant_of-self-2
invariant_of-self-2 g c =
    let n = count_is _ _ _ c.self.invariant _ c.self.view_is in
    let start = c.start_of-start.ensures ∙ ap (λ es. get_or (0 ∷ es) c.args.i 0) c.deref.ensures.value in
    put_block _ _ _ c.self.invariant c.args.i (omega arith) c.args.key.now (c.requires.short, c.utf8.key) c.args.value _ _ _
    (c.in_ok-insert_str.ensures.bytes ∙ ap (λ t. insert_slice t c.start_of-start.result c.args.key.now) c.in_ok-make_room_in.ensures.bytes ∙ ap (λ n. insert_slice (string_bytes c.self.inside.texts) n c.args.key.now) start)
    c.in_ok-put_end.ensures.ok
    (c.in_ok-insert.ensures.items ∙ ap (λ vs. insert vs c.args.i c.args.value) c.in_ok-make_room.ensures.items)
    (omega arith)

pub returns-clause-ok : goal.returns-clause-ok
returns-clause-ok g c =
    let n = count_is _ _ _ c.self.invariant _ c.self.view_is in
    let start = c.start_of-start.ensures ∙ ap (λ es. get_or (0 ∷ es) c.args.i 0) c.deref.ensures.value in
    put_entries _ _ _ c.self.invariant c.args.i (omega arith) c.args.key.now (c.requires.short, c.utf8.key) c.args.value _ _ _
    (c.in_ok-insert_str.ensures.bytes ∙ ap (λ t. insert_slice t c.start_of-start.result c.args.key.now) c.in_ok-make_room_in.ensures.bytes ∙ ap (λ n. insert_slice (string_bytes c.self.inside.texts) n c.args.key.now) start)
    c.in_ok-put_end.ensures.ok
    (c.in_ok-insert.ensures.items ∙ ap (λ vs. insert vs c.args.i c.args.value) c.in_ok-make_room.ensures.items)
    _ c.self.view_is
