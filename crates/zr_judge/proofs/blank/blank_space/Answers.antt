use Rattle.std.proofs.Common.{List, [], None, sym, subst}
use Rattle.zr_base.specs.declared.space.CkptPart.TheVariants.{Clear}
use Rattle.zr_base.specs.declared.space.DevPart.{DevPart}
use Rattle.zr_space.specs.Opens.{CanOpen}
use Rattle.zr_judge.proofs.Unused.{can_open}
use Rattle.zr_judge.proofs.blank.blank_space.Goals as goal

pub unreachable-requires : goal.unreachable-requires
unreachable-requires c =
    let version = c.args.version in
    let none : ¬ CanOpen (record { version = version; devs = c.in_ok-blank_devs.field-0; cond = None; ckpt = Clear }) [] [] = rw c.in_default.is at c.in_ok-space.ensures.none in
    none (subst (λ (devs : List DevPart). CanOpen (record { version = version; devs = devs; cond = None; ckpt = Clear }) [] []) (sym c.in_ok-blank_devs.ensures) (can_open version c.args.rows.now c.requires.few c.requires.small))
