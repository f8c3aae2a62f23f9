use Rattle.std.proofs.Common.{◌≡◌, ℕ, ◌<◌, true, false}
use Rattle.zr_base.specs.declared.space.CkptPart.TheVariants.{Clear}
use Rattle.zr_judge.specs.Parts.{HasCopied}
use Rattle.zr_rules.specs.Places.{is_leaving, part_of, state_of_dev}
use Rattle.zr_judge.proofs.removal.may_leave.Given as goal

abbrev pub invariant-loop-part : goal.invariant-loop-part
invariant-loop-part l = record {
  none : l.met ≡ false → (d : ℕ) → d < l.part-index → is_leaving (state_of_dev l.parts d) ≡ false;
  some : l.met ≡ true
      → (d : ℕ) × (d < l.part-index) × (is_leaving (state_of_dev l.parts d) ≡ true) × (l.ckpt ≡ Clear) × HasCopied (part_of l.parts d)
      × ((e : ℕ) → e < l.part-index → is_leaving (state_of_dev l.parts e) ≡ true → e ≡ d);
}
