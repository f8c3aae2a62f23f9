-- The units of a disk.
use Rattle.std.proofs.Common.{◌≡◌, ℕ, ◌-◌, ◌/◌, ◌≤◌, Bool, true, false, cond, Some, None, refl, arith}
use Rattle.std.proofs.lemmas.Bool.Decides.{nat_tests}
use Rattle.zr_label.specs.Geometry.{is_disk_size, label_at, unit_at, units_of_size, whole}

opened : (b : Bool) (n units : ℕ) → cond b (Some n) None ≡ Some units → (b ≡ true) × (n ≡ units)
opened true n units is = (refl, cc)
opened false n units is = absurd cc

-- a disk that has units is one that a pool can have
pub disk_used : (size units : ℕ) → units_of_size size 2 ≡ Some units → is_disk_size 2 size ≡ true
disk_used size units is = (opened (is_disk_size 2 size) ((whole size - 4718592) / 4096) units is).0

below : (size units : ℕ) → is_disk_size 2 size ≡ true → (whole size - 4718592) / 4096 ≡ units → unit_at units ≤ label_at size 2
below size units used are = grind (arith, nat_tests, used, are)

-- its units end before its last two labels
pub units_below : (size units : ℕ) → units_of_size size 2 ≡ Some units → unit_at units ≤ label_at size 2
units_below size units is = let got = opened (is_disk_size 2 size) ((whole size - 4718592) / 4096) units is in below size units got.0 got.1
