-- The pool that the disks show, and that the opened one holds.
use Rattle.std.proofs.Common.{◌≡◌, ◌==◌, inl, inr, ℕ, Bool, true, false, if◌then◌else◌, List, map, length, Option, Some, None, Ok, refl, sym, ◌∙◌, ap, subst, arith}
use Rattle.std.specs.Prelude.{All, slice_index_or}
use Rattle.std.proofs.lemmas.Bool.{cases_lt}
use Rattle.std.proofs.Math.ListN.{get_or-eq_default}
use Rattle.zr_base.specs.declared.space.CkptPart.{CkptPart}
use Rattle.zr_base.specs.declared.space.CkptPart.TheVariants.{Clear, Held, Discarding}
use Rattle.zr_base.specs.declared.space.Dva.{Dva}
use Rattle.zr_base.specs.declared.space.DevPart.{DevPart}
use Rattle.zr_base.specs.declared.space.DevRow.{DevRow}
use Rattle.zr_base.specs.declared.space.SpaceParts.{SpaceParts}
use Rattle.zr_image.specs.Current.{FindsCurrent, ShowsAll, reset_of, row_at, slots_of}
use Rattle.zr_image.specs.Reading.{store_of}
use Rattle.zr_roots.specs.Devices.{HasRows}
use Rattle.zr_image.specs.Roots as image
use Rattle.zr_image.specs.Roots.{rows_of}
use Rattle.zr_image.specs.StateOf.{AreObjects, IsSaved, devices_at, is_discarding}
use Rattle.zr_import.specs.Directories.{IsInPlace}
use Rattle.zr_import.specs.Spending.{MarksHeld}
use Rattle.zr_judge.specs.Parts.{HasMapping}
use Rattle.zr_import.specs.declared.roots.Root.{Root}
use Rattle.zr_label.specs.Blocks.{IsUber, name_of, no_row}
use Rattle.zr_label.specs.declared.root.Seen.{Seen}
use Rattle.zr_label.specs.declared.root.Uber.{Uber}
use Rattle.zr_meta.specs.Heads as heads
use Rattle.zr_meta.specs.Heads.{IsHead}
use Rattle.zr_model.specs.Objects.{Objects}
use Rattle.zr_model.specs.State as model
use Rattle.zr_model.specs.State.{PoolState}
use Rattle.zr_objset.specs.Records.{all_reach}
use Rattle.zr_rules.specs.Devices.{devices_of}
use Rattle.zr_rules.specs.Places.{no_part, part_of}
use Rattle.zr_store.specs.Store.{Stored}
use Rattle.zr_sync.specs.Objects.{HoldsObjects}
use Rattle.zr_sync.specs.Pools.{IsOpen}
use Rattle.zr_sync.specs.States.{HasCheckpoint, HoldsState}
use Rattle.zr_sync.specs.declared.open.OpenPool.{OpenPool}
use Rattle.zr_vdev.specs.Runs.{view_of}
use Rattle.zr_open.proofs.Holding.{objects_held, objects_are, found}
use Rattle.zr_roots.proofs.Rows.{past_rows}
use Rattle.zr_open.proofs.Views.{stands_same, store_same}
use Rattle.zr_current.specs.Current.{HasSlots}
use Rattle.zr_open.specs.Opened.{IsFresh}
use Rattle.zr_roots.specs.Standing.{Stands, blocks_of}
use Rattle.zr_open.specs.Roots.{HasParts, IsBeside, IsSavedRoot, told_root}
use Rattle.zr_open.specs.Shown.{IsShownBeside, Shows}
use Rattle.zr_open.specs.declared.saved.SavedRoot.{SavedRoot}

-- ---- a pool holds the objects of its root

module _ (tells : Type 0) (told : tells) (disks : List (List ℕ)) (sizes : List ℕ) (sized : map length disks ≡ sizes) (u : Uber) (pool : OpenPool) (root : Root) (meta : List Dva) (is : IsUber u) (ready : IsOpen sizes pool)
    (fresh : IsFresh u pool) (parts : HasParts root meta pool) (mapped : All HasMapping root.parts.devs) (stands : Stands disks pool.table.slots u root) where
  pub rows : (d : ℕ) → (part_of pool.space.parts.devs d).row ≡ row_at u d
  rows d = elim (cases_lt d u.count) [
    | inl lt ↦ ready.rows d (let n = fresh.count in omega (arith, n, lt)) ∙ ap (λ (rs : List DevRow). slice_index_or rs d no_row) fresh.rows
    | inr ge ↦
        let n = fresh.count in let m = ready.devices in
        ap (λ (p : DevPart). p.row) (get_or-eq_default pool.space.parts.devs no_part {n = d} (omega (arith, n, m, ge))) ∙ sym (past_rows u is d ge)
  ]

  -- the parts have the rows of the root
  pub own_rows : HasRows u root.parts.devs
  own_rows = subst (λ (ps : SpaceParts). HasRows u ps.devs) parts.space.parts_are (record { count = ready.devices ∙ fresh.count; each = λ d lt. rows d })

  image_is : store_of (view_of disks pool.table.slots pool.space) ≡ blocks_of disks pool.table.slots root
  image_is = ap (λ (ps : SpaceParts). store_of (record { disks = disks; slots = pool.table.slots; devices = devices_of ps.devs })) parts.space.parts_are

  pub held : MarksHeld u.txg root.parts root.meta (all_reach (store_of (view_of disks pool.table.slots pool.space)) root.head.dir)
  held = subst (λ (s : Stored). MarksHeld u.txg root.parts root.meta (all_reach s root.head.dir)) (sym image_is) stands.held

  pub place : IsInPlace (store_of (view_of disks pool.table.slots pool.space)) root.head.dir
  place = subst (λ (s : Stored). IsInPlace s root.head.dir) (sym image_is) stands.place

  abbrev pub objects : Objects
  objects = (found tells told disks sizes sized pool root meta u.txg ready parts.space parts.dir fresh.empty fresh.cache mapped held place).objects

  pub holds : HoldsObjects tells disks pool objects
  holds = objects_held tells told disks sizes sized pool root meta u.txg ready parts.space parts.dir fresh.empty fresh.cache mapped held place

  pub are : AreObjects (store_of (record { disks = disks; slots = pool.table.slots; devices = devices_of root.parts.devs })) root.head.dir objects
  are = subst (λ (ps : SpaceParts). AreObjects (store_of (record { disks = disks; slots = pool.table.slots; devices = devices_of ps.devs })) root.head.dir objects) parts.space.parts_are
      (objects_are tells told disks sizes sized pool root meta u.txg ready parts.space parts.dir fresh.empty fresh.cache mapped held place)

-- ---- the saved root

-- the saved root as the disks show it, and what it means
pub record ShowsSaved (paths disks : List (List ℕ)) (slots : List (Option ℕ)) (whole : image.Root) : Type 0 where
  pub root : Option image.Root
  pub shown : IsShownBeside disks slots whole whole.head.saved root
  pub state : Option model.Saved
  pub is : IsSaved paths disks slots root state

-- with these objects
pub saved_with : (tells : Type 0) (told : tells) (paths disks : List (List ℕ)) (slots : List (Option ℕ)) (u : Uber) (root : Root) (block : List ℕ) (r : SavedRoot) → root.head.saved ≡ Some block → IsSavedRoot tells disks slots u root block r
    → (os : Objects) → AreObjects (store_of (record { disks = disks; slots = slots; devices = devices_of r.root.parts.devs })) r.root.head.dir os
    → IsShownBeside disks slots (told_root u root) root.head.saved (Some (told_root r.uber r.root)) × IsSaved paths disks slots (Some (told_root r.uber r.root)) (Some (record { objects = os; devs = devices_at paths slots r.uber }))
saved_with tells told paths disks slots u root block r is h os are = (
  subst (λ (x : Option (List ℕ)). IsShownBeside disks slots (told_root u root) x (Some (told_root r.uber r.root))) (sym is) (h.is_saved, record { head = h.head; reads = (h.stands told).reads }),
  (are, refl),
)

pub shows_saved : (tells : Type 0) (told : tells) (paths disks : List (List ℕ)) (slots : List (Option ℕ)) (u : Uber) (root : Root) (saved : Option SavedRoot) → IsBeside tells disks slots u root saved → ShowsSaved paths disks slots (told_root u root)
shows_saved tells told paths disks slots u root None is = record { root = None; shown = subst (λ (x : Option (List ℕ)). IsShownBeside disks slots (told_root u root) x None) (sym is) tt; state = None; is = refl }
shows_saved tells told paths disks slots u root (Some r) (block, is, h) =
    let meant = h.objects told in
    let part = saved_with tells told paths disks slots u root block r is h meant.0 meant.1 in
    record { root = Some (told_root r.uber r.root); shown = part.0; state = Some (record { objects = meant.0; devs = devices_at paths slots r.uber }); is = part.1 }

-- ---- how its checkpoint stands

pub counted_ckpt : (b : Bool) (parts : SpaceParts) → (if b then image.without_late parts else parts).ckpt ≡ parts.ckpt
counted_ckpt true parts = refl
counted_ckpt false parts = refl

pub checkpoint_of : (paths disks : List (List ℕ)) (slots : List (Option ℕ)) (whole : image.Root) (part : CkptPart) (o : Option (List ℕ)) (r : Option image.Root) (s : Option model.Saved)
    → heads.IsSaved part o → IsShownBeside disks slots whole o r → IsSaved paths disks slots r s → HasCheckpoint part s (is_discarding part)
checkpoint_of paths disks slots whole Clear None None s is beside saved = (saved, refl)
checkpoint_of paths disks slots whole Clear None (Some r) s is beside saved = absurd beside
checkpoint_of paths disks slots whole Clear (Some block) r s is beside saved = absurd is
checkpoint_of paths disks slots whole (Held txg) None r s is beside saved = absurd is
checkpoint_of paths disks slots whole (Held txg) (Some block) None s is beside saved = absurd beside
checkpoint_of paths disks slots whole (Held txg) (Some block) (Some r) None is beside saved = absurd saved
checkpoint_of paths disks slots whole (Held txg) (Some block) (Some r) (Some s) is beside saved = (refl, refl)
checkpoint_of paths disks slots whole Discarding None None s is beside saved = (saved, refl)
checkpoint_of paths disks slots whole Discarding None (Some r) s is beside saved = absurd beside
checkpoint_of paths disks slots whole Discarding (Some block) r s is beside saved = absurd is

-- ---- the pool that is shown

module _ (tells : Type 0) (told : tells) (paths disks : List (List ℕ)) (sizes : List ℕ) (sized : map length disks ≡ sizes) (u : Uber) (pool : OpenPool) (root : Root) (seen : List Seen)
    (shown : ShowsAll disks seen) (current : FindsCurrent seen (Ok u)) (slots : HasSlots (slots_of u seen) pool.table.slots) (is : IsUber u) (head : IsHead (rows_of u) root.head) (meta : List Dva)
    (saved : ShowsSaved paths disks (slots_of u seen) (told_root u root)) (ready : IsOpen sizes pool) (fresh : IsFresh u pool) (parts : HasParts root meta pool)
    (mapped : All HasMapping root.parts.devs) (stands : Stands disks pool.table.slots u root) where
  abbrev own : Objects
  own = objects tells told disks sizes sized u pool root meta is ready fresh parts mapped stands

  own_are : AreObjects (store_of (record { disks = disks; slots = slots_of u seen; devices = devices_of root.parts.devs })) root.head.dir own
  own_are =
      subst (λ (s : Stored). AreObjects s root.head.dir own) (store_same disks (slots_of u seen) pool.table.slots (devices_of root.parts.devs) slots)
      (are tells told disks sizes sized u pool root meta is ready fresh parts mapped stands)

  abbrev pub state : PoolState
  state = record { guid = u.guid; name = name_of u.name; objects = own; saved = saved.state; devs = devices_at paths (slots_of u seen) u; discarding = is_discarding root.parts.ckpt }

  pub shows_it : Shows paths disks state
  shows_it = record {
    seen = seen;
    shown = shown;
    root = told_root u root;
    current = current;
    stands = record { head = head; reads = (stands_same disks (slots_of u seen) pool.table.slots u root slots stands).reads };
    saved = saved.root;
    beside = saved.shown;
    means = record { guid = refl; name = refl; objects = own_are; saved_is = saved.is; devs = refl; discarding = refl };
  }

  pub shows : (p : PoolState) × Shows paths disks p × HoldsObjects tells disks pool p.objects
  shows = (state, shows_it, holds tells told disks sizes sized u pool root meta is ready fresh parts mapped stands)

  -- how the checkpoint stands
  pub checkpoint : HasCheckpoint pool.space.parts.ckpt state.saved state.discarding
  checkpoint =
      let parts_are : pool.space.parts.ckpt ≡ root.parts.ckpt = ap (λ (ps : SpaceParts). ps.ckpt) parts.space.parts_are in
      let told_by : root.parts.ckpt ≡ root.head.ckpt = ap (λ (ps : SpaceParts). ps.ckpt) stands.reads.counted_is ∙ (counted_ckpt (reset_of u == u.txg) stands.reads.parts ∙ stands.reads.spelled.ckpt_is) in
      subst (λ (k : CkptPart). HasCheckpoint k saved.state (is_discarding root.parts.ckpt)) (sym (parts_are ∙ told_by))
      (subst (λ (k : CkptPart). HasCheckpoint root.head.ckpt saved.state (is_discarding k)) (sym told_by)
      (checkpoint_of paths disks (slots_of u seen) (told_root u root) root.head.ckpt root.head.saved saved.root saved.state head.saved saved.shown saved.is))

  pub shows_state : (p : PoolState) × Shows paths disks p × HoldsState tells disks pool p
  shows_state = (state, shows_it, record { objects = holds tells told disks sizes sized u pool root meta is ready fresh parts mapped stands; checkpoint = checkpoint })
