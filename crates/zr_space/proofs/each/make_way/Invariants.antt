use Rattle.std.proofs.Common.{◌≡◌, ◌≤◌, ◌<◌, ℕ, length}
use Rattle.zr_base.specs.Extents.{unit_count}
use Rattle.zr_space.specs.Views.{kept_of}
use Rattle.zr_space.proofs.Sames.{AreSame}
use Rattle.zr_space.proofs.each.make_way.Given as goal

abbrev pub invariant-loop-dev : goal.invariant-loop-dev
invariant-loop-dev l = record {
  same : AreSame l.initial.devs.items l.devs.items;
  end : l.dev-end ≡ length l.initial.devs.items;
  copies : (d : ℕ) → d < l.dev → unit_count (kept_of l.devs.items d).uses.copies ≤ (kept_of l.devs.items d).uses.spare;
}
