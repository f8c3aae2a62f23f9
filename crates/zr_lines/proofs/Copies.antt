-- In a pool that becomes one of the second version copies of the units of a device that is leaving have the bytes of their units still.
use Rattle.std.proofs.Common.{◌∙◌, ℕ, List, refl, sym, ap}
use Rattle.zr_rules.specs.Roles.{is_copy_role}
use Rattle.zr_rules.specs.Space.{Space}
use Rattle.zr_moves.specs.Moves.{with_version}
use Rattle.zr_sync.specs.Copies.{HasCopies}
use Rattle.zr_sync.specs.declared.open.OpenPool.{OpenPool}
use Rattle.zr_vdev.proofs.Alike.{AreNoNewCopies, copies_stay}
use Rattle.zr_lines.proofs.Versions.{version_role}
use Rattle.zr_lines.specs.Upgrades.{renewed}

-- the version is none of what makes a copy
version_no_copy : (s : Space) (v : ℕ) → AreNoNewCopies s (with_version s v)
version_no_copy s v = record { row = λ d. refl; entries = λ d. refl; marks = λ d u is. is; copy = λ d u is. sym (ap is_copy_role (version_role s v d u)) ∙ is }

pub renewed_copies : (disks : List (List ℕ)) (x : OpenPool) → HasCopies disks x → HasCopies disks (renewed x)
renewed_copies disks x h = copies_stay disks x.table.slots x.space (with_version x.space 2) (version_no_copy x.space 2) h
