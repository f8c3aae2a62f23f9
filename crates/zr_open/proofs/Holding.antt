-- What an opened pool holds: the blocks to which the directory of its root leads, and the objects that these are.
use Rattle.std.proofs.Common.{◌≡◌, ℕ, ◌<◌, ◌≤◌, Bool, true, false, List, [], ◌∷◌, map, length, Option, None, sym, ◌∙◌, ap, subst, arith}
use Rattle.std.specs.Prelude.{All, Contains}
use Rattle.std.proofs.Math.ListN.{get_or-map}
use Rattle.zr_base.specs.declared.space.DevPart.{DevPart}
use Rattle.zr_base.specs.declared.space.Dva.{Dva}
use Rattle.zr_base.specs.declared.space.SpaceParts.{SpaceParts}
use Rattle.zr_base.specs.declared.space.Extent.{Extent}
use Rattle.zr_base.specs.Extents.{has_unit}
use Rattle.zr_bptr.specs.declared.Bptr.{Bptr}
use Rattle.zr_bptr.specs.declared.Tree.{Tree}
use Rattle.zr_cache.specs.Entries.{entries}
use Rattle.zr_cache.specs.Sums.{Entry}
use Rattle.zr_cache.specs.declared.table.Cache.{Cache}
use Rattle.zr_found.proofs.Joined.{holds_found}
use Rattle.zr_found.specs.Found.{HasReached, HoldsFound}
use Rattle.zr_freed.proofs.Beside.{all_beside, in_use_beside, single_beside}
use Rattle.zr_freed.proofs.Bytes.{long_address}
use Rattle.zr_freed.proofs.Turns.{fits_spends, freed_in_use, held_blocks, in_use_held}
use Rattle.zr_freed.proofs.Whole.{freed_lead_to_all}
use Rattle.zr_freed.specs.Chains.{AreInUse, FreesInTurn, HasSingleCopies, LeavesKept}
use Rattle.zr_image.specs.Reading.{store_of}
use Rattle.zr_image.specs.Roots.{without_late}
use Rattle.zr_image.specs.StateOf.{AreObjects}
use Rattle.zr_import.specs.Directories.{IsInPlace}
use Rattle.zr_import.specs.Spending.{MarksHeld, SpendsBlock, last_group}
use Rattle.zr_import.specs.Units.{MarksAll}
use Rattle.zr_import.specs.declared.roots.Root.{Root}
use Rattle.zr_judge.specs.Parts.{HasMapping}
use Rattle.zr_objset.specs.Records.{all_reach}
use Rattle.zr_obsolete.specs.Obsolete.{Fits}
use Rattle.zr_rules.specs.Equation.{Spends, devices_in}
use Rattle.zr_rules.specs.Places.{is_held, no_part, one_if, part_of}
use Rattle.zr_rules.specs.Space.{IsLawful, Space}
use Rattle.zr_space.specs.Opens.{IsOpened}
use Rattle.zr_store.proofs.Meeting.{at_each}
use Rattle.zr_store.specs.Store.{Stored, hits}
use Rattle.zr_sync.specs.Objects.{HoldsObjects, account_of}
use Rattle.zr_sync.specs.Pools.{IsOpen}
use Rattle.zr_sync.specs.declared.open.OpenPool.{OpenPool}
use Rattle.zr_vdev.specs.Caches.{AreRead}
use Rattle.zr_vdev.specs.Runs.{view_of}
use Rattle.zr_vdev.specs.Stores.{HoldsBlocks, IsStoredAt, LeadsToAll, addresses_of}
use Rattle.zr_vdev.specs.declared.kind.Kind.TheVariants.{Block}
use Rattle.zr_view.specs.Views.{View}
use Rattle.zr_roots.proofs.Parts.{part_lawful}

-- ---- what is held

pub nothing_cached : (disks : List (List ℕ)) (slots : List (Option ℕ)) (s : Space) (c : Cache) → entries c ≡ [] → AreRead disks slots s c
nothing_cached disks slots s c none e has =
    let at : Contains [] e = subst (λ (es : List Entry). Contains es e) none has in
    let lt = at.1 in
    absurd (omega (arith, lt))

-- blocks that were marked one after another were freed so
in_turn : (txg : ℕ) (old new : Space) (bs : List Bptr) → MarksAll SpendsBlock txg old new bs → FreesInTurn last_group old new (addresses_of bs)
in_turn txg old new [] is = is
in_turn txg old new (b ∷ bs) (birth, (mid, (one, rest))) = (mid, (one.may, one.frees), in_turn txg mid new bs rest)

abbrev bare : DevPart → DevPart
bare p = record p { late1 = []; late2 = [] }

-- the space of a root has its devices, but for their late sets
start_part : (parts own : SpaceParts) (meta : List Dva) (s : Space) → without_late own ≡ without_late parts → IsOpened own meta [] s → (d : ℕ) → bare (part_of s.parts.devs d) ≡ bare (part_of parts.devs d)
start_part parts own meta s same opened d =
    ap (λ (ps : SpaceParts). bare (part_of ps.devs d)) opened.parts_are ∙ (sym (get_or-map bare own.devs d no_part) ∙ (ap (λ (ps : SpaceParts). part_of ps.devs d) same ∙ get_or-map bare parts.devs d no_part))

-- no entry of it has more obsolete units than units
start_fits : (parts : SpaceParts) → All HasMapping parts.devs → (own : SpaceParts) (meta : List Dva) (s : Space) → without_late own ≡ without_late parts → IsOpened own meta [] s
    → (d : ℕ) → Fits (part_of s.parts.devs d).entries (part_of s.parts.devs d).counts (part_of s.parts.devs d).fresh
start_fits parts mapped own meta s same opened d =
    subst (λ (p : DevPart). Fits p.entries p.counts p.fresh) (sym (start_part parts own meta s same opened d)) (part_lawful parts.devs mapped d).counts.fits

-- a lawful space has each copy once
lawful_single : (s : Space) → IsLawful s → HasSingleCopies s
lawful_single s lawful d u = let few = lawful.copies d u in let bit = bit_most (is_held s.parts.devs d u) in omega (arith, few, bit)
  where
    bit_most : (b : Bool) → one_if b ≤ 1
    bit_most true = omega arith
    bit_most false = omega arith

module _ (tells : Type 0) (told : tells) (disks : List (List ℕ)) (sizes : List ℕ) (sized : map length disks ≡ sizes) (pool : OpenPool) (root : Root) (saved : List Dva) (txg : ℕ) (ready : IsOpen sizes pool) (parts : IsOpened root.parts root.meta saved pool.space)
    (dir : pool.dir ≡ root.head.dir) (group : pool.group.objects ≡ []) (cache : entries pool.cache ≡ []) (mapped : All HasMapping root.parts.devs) where
  abbrev slots : List (Option ℕ)
  slots = pool.table.slots

  abbrev view : View
  view = view_of disks slots pool.space

  abbrev image : Stored
  image = store_of view

  module _ (held : MarksHeld txg root.parts root.meta (all_reach image root.head.dir)) (place : IsInPlace image root.head.dir) where
    abbrev blocks : List Bptr
    blocks = all_reach image root.head.dir

    -- the blocks were freed one after another
    none_spent : Spends held.start []
    none_spent = fits_spends held.start (start_fits root.parts mapped held.of_parts.own root.meta held.start held.of_parts.same held.of_parts.opened)

    used : AreInUse pool.space (addresses_of blocks)
    used =
        in_use_beside held.of_parts.own root.parts root.meta saved held.start pool.space held.of_parts.same held.of_parts.opened parts (addresses_of blocks)
        (freed_in_use last_group held.start held.left (addresses_of blocks) none_spent (in_turn txg held.start held.left blocks held.marks))

    left_kept : LeavesKept held.start held.left
    left_kept d u =
        ap (λ (es : List Extent). has_unit es u) (held.kept d)
        ∙ sym (ap (λ (p : DevPart). has_unit p.kept u) (start_part root.parts held.of_parts.own root.meta held.start held.of_parts.same held.of_parts.opened d))

    -- just what is kept was left, so they are all blocks
    led : LeadsToAll pool.space (addresses_of blocks)
    led =
        all_beside held.of_parts.own root.parts root.meta saved held.start pool.space held.of_parts.same held.of_parts.opened parts (addresses_of blocks)
        (freed_lead_to_all last_group held.start held.left (addresses_of blocks)
        (single_beside held.of_parts.own root.parts root.meta saved held.start pool.space held.of_parts.same held.of_parts.opened parts (lawful_single pool.space ready.lawful)) left_kept
        (in_turn txg held.start held.left blocks held.marks))

    abbrev stored : Stored
    stored = held_blocks slots disks pool.space blocks

    holds : HoldsBlocks Block slots tells disks pool.space None pool.cache stored
    holds = in_use_held tells disks slots pool.cache pool.space blocks told (nothing_cached disks slots pool.space pool.cache cache) used led

    met : (b : Bptr) → 0 < hits blocks b.at → IsStoredAt Block pool.space None b.at
    met b some = at_each (IsStoredAt Block pool.space None) blocks b.at holds.stored some

    reached : HasReached image stored pool.dir
    reached = record {
      pointers = ap (λ (t : Tree). all_reach image t) (sym dir);
      once = holds.alone;
      bytes = λ b some. holds.there b (met b some);
      sizes = λ b some. ap (λ (bs : List ℕ). length bs) (holds.there b (met b some)) ∙ long_address disks sizes slots (devices_in pool.space) sized ready.mounted b.at (met b some).used.resolves;
    }

    pub found : HoldsFound image stored (account_of pool)
    found = holds_found image stored (account_of pool) group (subst (IsInPlace image) (sym dir) place) reached

    pub objects_held : HoldsObjects tells disks pool found.objects
    objects_held = record { stored = stored; held = holds; has = found.has }

    pub objects_are : AreObjects image root.head.dir found.objects
    objects_are = subst (λ (t : Tree). AreObjects image t found.objects) dir found.are
