-- The part of each device of a root goes together.
use Rattle.std.proofs.Common.{◌≡◌, inl, inr, ℕ, ◌<◌, ◌≤◌, List, [], length, get_or, refl, sym, subst, arith}
use Rattle.std.specs.Prelude.{All}
use Rattle.std.proofs.lemmas.Bool.{cases_lt}
use Rattle.std.proofs.lemmas.List.Elements.{All-nil}
use Rattle.std.proofs.Math.ListN.{get_or-eq_default}
use Rattle.zr_base.specs.declared.space.DevPart.{DevPart}
use Rattle.zr_judge.specs.Parts.{HasMapping}
use Rattle.zr_rules.specs.Places.{no_part, part_of}
use Rattle.zr_space.specs.Views.{EndsWithin}

none_lawful : HasMapping no_part
none_lawful = record {
  small = omega arith;
  entries = record { rising = tt; within = All-nil (EndsWithin 0) };
  counts = record { each = refl; sources = λ u is. absurd (cc); fits = λ i lt. absurd (omega (arith, lt)) };
}

pub part_lawful : (devs : List DevPart) → All HasMapping devs → (d : ℕ) → HasMapping (part_of devs d)
part_lawful devs all d = elim (cases_lt d (length devs)) [
  | inl lt ↦ all d no_part lt
  | inr ge ↦ subst HasMapping (sym (get_or-eq_default devs no_part {n = d} ge)) none_lawful
]
