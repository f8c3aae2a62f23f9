use Rattle.std.proofs.Common.{◌≡◌, length}
use Rattle.zr_space.proofs.GivingUp.{IsGivingUp}
use Rattle.zr_space.proofs.each.give_up.Given as goal

abbrev pub invariant-loop-dev : goal.invariant-loop-dev
invariant-loop-dev l = record {
  end : l.dev-end ≡ length l.initial.devs.items;
  gives : IsGivingUp l.initial.slabs l.slabs l.initial.devs.items l.devs.items l.dev;
}
