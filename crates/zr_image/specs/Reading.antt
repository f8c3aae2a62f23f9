-- What a pointer reads from an image of the disks.
use Rattle.std.specs.Prelude.{◌≡◌, ℕ, List, []}
use Rattle.sha2.specs.Sha256.{sha256}
use Rattle.zr_base.specs.declared.refusal.Refusal.{Refusal}
use Rattle.zr_base.specs.declared.refusal.Refusal.TheVariants.{Damaged}
use Rattle.zr_bptr.specs.declared.Bptr.{Bptr}
use Rattle.zr_label.specs.declared.root.Uber.{Uber}
use Rattle.zr_rules.specs.Devices.{Devices}
use Rattle.zr_store.specs.Store.{Stored}
use Rattle.zr_view.specs.Views.{View, address_bytes}
use Rattle.zr_image.specs.Checks.{Check, Demands}
use Rattle.zr_image.specs.Current.{row_at}

-- what stands at a pointer
abbrev pub content : View → Bptr → List ℕ
content v b = address_bytes v b.at

-- the image as a store of blocks, of which only matters what each pointer reads
abbrev pub store_of : View → Stored
store_of v = record { pointers = []; bytes = content v }

-- the block has the sum of its pointer
abbrev pub HasSum : View → Bptr → Type 0
HasSum v b = sha256 (content v b) ≡ b.sum

-- the refusal that prints both sums
abbrev pub damage : View → Bptr → Refusal
damage v b = Damaged b.at b.sum (sha256 (content v b))

-- the block is read, and has its sum
abbrev pub ReadsBlock : View → Bptr → Check (Unit {0})
ReadsBlock v b = Demands (HasSum v b) (damage v b)

-- the devices of a root before any mapping is known, as its metadata is read
abbrev pub bare_devices : Uber → Devices
bare_devices u = record { count = u.count; row = row_at u; entries = λ d. [] }
