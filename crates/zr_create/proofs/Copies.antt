-- Copies of the units of a device that is leaving have the bytes of their units still, once a pool has a device more.
use Rattle.std.proofs.Common.{◌≡◌, ◌∙◌, ℕ, ◌<◌, List, Option, None, Some, length, refl, subst, sym, ap}
use Rattle.std.specs.Prelude.{Vec}
use Rattle.std.specs.Global.{Global}
use Rattle.zr_label.specs.Geometry.{unit_at}
use Rattle.zr_rules.specs.Places.{Place}
use Rattle.zr_rules.specs.Roles.{is_copy_role}
use Rattle.zr_rules.specs.Space.{Space}
use Rattle.zr_rules.specs.Steps as steps
use Rattle.zr_shelf.specs.Disks.{Stand}
use Rattle.zr_shelf.specs.Moments.{IsStill, World}
use Rattle.zr_sync.specs.Copies.{HasCopies, KeepsCopies}
use Rattle.zr_sync.specs.Pools.{IsPool}
use Rattle.zr_sync.specs.declared.open.DeviceStreams.{DeviceStreams}
use Rattle.zr_sync.specs.declared.open.OpenPool.{OpenPool}
use Rattle.zr_sync.specs.declared.open.Table.{Table}
use Rattle.zr_vdev.specs.Alike.{IsCopyAt}
use Rattle.zr_view.specs.Views.{slot_of, unit_bytes}
use Rattle.zr_create.specs.Devices.{new_row, with_device}
use Rattle.zr_create.proofs.Beside.{KeepsOtherDisks}
use Rattle.zr_create.proofs.Grown.{copy_before, leaving_before, role_known}
use Rattle.zr_create.proofs.Keeping.{same_slots}
use Rattle.zr_create.proofs.Taken.{IsFree}

-- the same disks
pub copies_still : (a b : World) (pool : OpenPool) → IsStill a b → KeepsCopies a b pool pool
copies_still a b pool still h = subst (λ (s : Stand). HasCopies s.seen pool) (sym still.now) h

abbrev some_slot : ℕ → Option ℕ
some_slot n = Some n

-- where no device is in the slot, each unit has its bytes
pub unit_beside : (slots : List (Option ℕ)) (slot : ℕ) → IsFree slots slot → (before now : List (List ℕ)) → KeepsOtherDisks slot before now → (d u : ℕ) → unit_bytes now (slot_of slots d) u ≡ unit_bytes before (slot_of slots d) u
unit_beside slots slot free before now kept d u = (elim (slot_of slots d) as (λ (o : Option ℕ). slot_of slots d ≡ o → unit_bytes now o u ≡ unit_bytes before o u) [
  | None ↦ λ is. refl
  | Some other ↦ λ is. kept other (unit_at u) 4096 (λ same. free d (is ∙ ap some_slot same))
]) refl

module _ (sizes : List ℕ) (x : OpenPool) (slot units : ℕ) (o : IsPool 0 sizes x) (free : IsFree x.table.slots slot) (txg : ℕ) (table : Table) (space : Space) (streams : Vec DeviceStreams Global)
    (is_table : table ≡ with_device x.table slot (new_row units txg)) (adds : steps.AddsDevice x.space space units txg) (before now : List (List ℕ)) (kept : KeepsOtherDisks slot before now) where
  abbrev y : OpenPool
  y = record x { table = table; space = space; streams = streams }

  -- a unit of a device of before has its bytes
  unit_stays : (d u : ℕ) → d < length x.space.parts.devs → unit_bytes now (slot_of table.slots d) u ≡ unit_bytes before (slot_of x.table.slots d) u
  unit_stays d u lt =
      ap (λ (at : Option ℕ). unit_bytes now at u) (same_slots sizes x slot units o free txg table space streams is_table adds d lt)
      ∙ unit_beside x.table.slots slot free before now kept d u

  -- a copy was one before, of a device of before and on one
  pub copies_kept : HasCopies before x → HasCopies now y
  copies_kept stood d u p c =
      let was : IsCopyAt x.space d u p = copy_before x.space space units txg adds d u p c in
      let at = role_known x.space space units txg adds is_copy_role refl refl p.0 p.1 c.copy in
      let of = leaving_before x.space space units txg adds d c.leaving in
      unit_stays p.0 p.1 at ∙ stood d u p was ∙ sym (unit_stays d u of)
