use Rattle.std.proofs.Common.{◌≡◌, take}
use Rattle.zr_create.proofs.sizes.sizes_of.Given as goal

abbrev pub invariant-loop-slot : goal.invariant-loop-slot
invariant-loop-slot g l = l.sizes.items ≡ take l.slot (g.S.Shelf.sizes l.shelf)
