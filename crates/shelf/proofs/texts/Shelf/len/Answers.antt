use Rattle.std.proofs.Common.{arith}
use Rattle.shelf.proofs.texts.Shelf.len.Goals as goal

-- blocks of so many bytes are few enough
pub overflow_add-count : goal.overflow_add-count
overflow_add-count g c =
    let few = c.as_slice-blocks.type_inv.1 in
    omega arith
