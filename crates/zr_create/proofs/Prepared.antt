-- Slots that are prepared one behind another.
use Rattle.std.proofs.Common.{◌≡◌, ℕ, suc, ◌+◌, ◌<◌, List, length, Result, Ok, subst, arith}
use Rattle.std.specs.Prelude.{IsTrue, slice_index}
use Rattle.zr_label.specs.Blocks.{IsLabel}
use Rattle.zr_label.specs.Geometry.{is_disk_size}
use Rattle.zr_label.specs.declared.root.Label.{Label}
use Rattle.zr_scan.specs.declared.error.ScanErr.{ScanErr}
use Rattle.zr_shelf.specs.Moments.{World}
use Rattle.zr_slots.specs.Phases.{Prepares}
use Rattle.zr_create.specs.Making.{PreparesFirst, PreparesOne}

-- one of them, by the sizes as they were read
pub one_prepared : (sizes read : List ℕ) (slot : ℕ) (l : Label) (r : Result (Unit {0}) ScanErr) (before now : World) → read ≡ sizes → slot < length sizes → IsTrue (is_disk_size 2 (slice_index read slot)) → IsLabel l → Prepares (slice_index read slot) slot l r before now → PreparesOne sizes slot r before now
one_prepared sizes read slot l r before now same known used lawful prepares = record {
  known = known;
  used = subst (λ (n : List ℕ). IsTrue (is_disk_size 2 (slice_index n slot))) same used;
  label = l;
  lawful = lawful;
  prepares = subst (λ (n : List ℕ). Prepares (slice_index n slot) slot l r before now) same prepares;
}

pub next_prepared : (sizes named : List ℕ) (k : ℕ) (before mid now : World) → PreparesFirst sizes named k before mid → PreparesOne sizes (slice_index named k) (Ok tt) mid now → PreparesFirst sizes named (k + 1) before now
next_prepared sizes named k before mid now done one = subst (λ (n : ℕ). PreparesFirst sizes named n before now) more (mid, done, one)
  where
    more : suc k ≡ k + 1
    more = omega arith
