use Rattle.std.proofs.Common.{arith}
use Rattle.zr_bptr.specs.declared.Ptr.TheVariants.{Hole}
use Rattle.zr_bptr.specs.Spelling.{IsLawful}
use Rattle.zr_bptr.proofs.Pieces.{each_at, fill_small, fills_small}
use Rattle.zr_bptr.proofs.blocks.leaves_of.Goals as goal

pub overflow_add-leaves : goal.overflow_add-leaves
overflow_add-leaves c =
    let small = fill_small _ (each_at IsLawful c.args.pointers.now c.loop-p.p-index Hole c.requires.lawful c.loop-p-test.true) in
    let before = fills_small c.args.pointers.now c.loop-p.p-index c.requires.lawful in
    omega (arith, c.fill_of-leaves.ensures)
