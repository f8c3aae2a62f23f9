-- A pool with a device more holds the objects that it held.
use Rattle.std.proofs.Common.{◌≡◌, ◌∙◌, ℕ, ◌<◌, true, List, [], length, None, refl, sym, ap, subst, arith}
use Rattle.std.specs.Prelude.{Vec}
use Rattle.std.specs.Global.{Global}
use Rattle.zr_base.specs.declared.space.Dva.{Dva}
use Rattle.zr_held.proofs.Same.{same}
use Rattle.zr_model.specs.Objects.{Objects}
use Rattle.zr_rules.specs.Equation.{devices_in}
use Rattle.zr_rules.specs.Resolve.{is_resolved}
use Rattle.zr_rules.specs.Space.{Space}
use Rattle.zr_rules.specs.Steps as steps
use Rattle.zr_shelf.specs.Disks.{Stand}
use Rattle.zr_shelf.specs.Moments.{World, IsStill}
use Rattle.zr_store.specs.Store.{Stored, Swaps, Now}
use Rattle.zr_vdev.specs.Runs.{view_of}
use Rattle.zr_vdev.specs.declared.kind.Kind.TheVariants.{Block, Meta}
use Rattle.zr_vdev.proofs.Moves.{retold}
use Rattle.zr_view.specs.Views.{slot_of, address_bytes}
use Rattle.zr_sync.specs.Holds.{HasBlocks}
use Rattle.zr_sync.specs.Objects.{HoldsObjects, account_of}
use Rattle.zr_sync.specs.Pools.{IsPool}
use Rattle.zr_sync.specs.Streams.{HasMeta}
use Rattle.zr_sync.specs.declared.open.DeviceStreams.{DeviceStreams}
use Rattle.zr_sync.specs.declared.open.OpenPool.{OpenPool}
use Rattle.zr_sync.specs.declared.open.Table.{Table}
use Rattle.zr_create.specs.Devices.{new_row, with_device}
use Rattle.zr_create.proofs.Beside.{KeepsOtherDisks, address_beside}
use Rattle.zr_create.proofs.Grown.{address_still, held_still}
use Rattle.zr_create.proofs.Taken.{IsFree, at_other}

-- the same disks, told of anew
pub objects_still : (told is_told : Type 0) (a b : World) (pool : OpenPool) (objects : Objects) → is_told → IsStill a b → HoldsObjects told a.now.seen pool objects → HoldsObjects is_told b.now.seen pool objects
objects_still told is_told a b pool objects tells still h =
    subst (λ (disks : List (List ℕ)). HoldsObjects is_told disks pool objects) (ap (λ (s : Stand). s.seen) (sym still.now))
    (record { stored = h.stored; held = retold Block pool.table.slots told is_told a.now.seen pool.space None pool.cache h.stored tells h.held; has = h.has })

module _ (sizes : List ℕ) (x : OpenPool) (slot units : ℕ) (o : IsPool 0 sizes x) (free : IsFree x.table.slots slot) (txg : ℕ) (table : Table) (space : Space) (streams : Vec DeviceStreams Global)
    (is_table : table ≡ with_device x.table slot (new_row units txg)) (adds : steps.AddsDevice x.space space units txg) where
  abbrev y : OpenPool
  y = record x { table = table; space = space; streams = streams }

  pub same_slots : (d : ℕ) → d < length x.space.parts.devs → slot_of table.slots d ≡ slot_of x.table.slots d
  same_slots d lt =
      let n = o.devices in
      ap (λ (t : Table). slot_of t.slots d) is_table ∙ at_other x.table.slots x.table.count slot d (λ is. omega (arith, lt, n, is))

  module _ (before now : List (List ℕ)) (kept : KeepsOtherDisks slot before now) where
    reads : (a : Dva) → is_resolved (devices_in x.space) a ≡ true → address_bytes (view_of now table.slots space) a ≡ address_bytes (view_of before x.table.slots x.space) a
    reads a resolves =
        address_still x.space space units txg adds x.table.slots table.slots same_slots now a resolves
        ∙ address_beside x.table.slots slot free (devices_in x.space) before now kept a

    blocks_stay : (told is_told : Type 0) (s : Stored) → is_told → HasBlocks told before x s → Now (HasBlocks is_told now y) (λ n. Swaps s n [] [])
    blocks_stay told is_told s tells held = held_still x.space space units txg adds x.table.slots table.slots before now reads Block told is_told x.cache s tells held

    pub meta_stays : (told is_told : Type 0) (s : Stored) → is_told → HasMeta told before x s → Now (HasMeta is_told now y) (λ n. Swaps s n [] [])
    meta_stays told is_told s tells held = held_still x.space space units txg adds x.table.slots table.slots before now reads Meta told is_told x.cache s tells held

    pub objects_kept : (told is_told : Type 0) (objects : Objects) → is_told → HoldsObjects told before x objects → HoldsObjects is_told now y objects
    objects_kept told is_told objects tells h =
        let next = blocks_stay told is_told h.stored tells h.held in
        record { stored = next.stored; held = next.held; has = same h.stored next.stored (account_of x) (account_of y) objects next.is refl refl h.has }
