use Rattle.std.proofs.Common.{◌≡◌, ◌*◌, ◌≤◌, length, take}
use Rattle.shelf.specs.inside.Places.{joined}
use Rattle.shelf.proofs.texts.Shelf.len.Given as goal

abbrev pub invariant-loop-block : goal.invariant-loop-block
invariant-loop-block g l = record {
  counted : l.count ≡ length (joined (take l.block-index l.blocks));
  bounded : l.count ≤ 128 * l.block-index;
}
