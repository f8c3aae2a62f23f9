-- The saved root as the current one, in a later group and as a reset.
use Rattle.std.proofs.Common.{◌≡◌, ℕ, zero, suc, ◌<◌, ◌≤◌, ◌^◌, Bool, true, false, List, [], ◌∷◌, map, length, take, Option, refl, sym, ◌∙◌, ap, subst, arith}
use Rattle.std.specs.Prelude.{All, ◌==◌, if◌then◌else◌, slice_index_or}
use Rattle.std.proofs.Math.Path.{fun_ext}
use Rattle.std.proofs.lemmas.List.{get_or-map, length-map}
use Rattle.std.proofs.lemmas.Bool.Decides.{nat_tests}
use Rattle.zr_base.specs.declared.space.DevPart.{DevPart}
use Rattle.zr_base.specs.declared.space.DevRow.{DevRow}
use Rattle.zr_base.specs.declared.space.Entry.{Entry}
use Rattle.zr_base.specs.declared.space.Dva.{Dva}
use Rattle.zr_base.specs.declared.space.SpaceParts.{SpaceParts}
use Rattle.zr_bptr.specs.declared.Bptr.{Bptr}
use Rattle.zr_image.specs.Current.{reset_of}
use Rattle.zr_image.specs.Reading.{bare_devices, store_of}
use Rattle.zr_image.specs.StateOf.{AreObjects}
use Rattle.zr_image.specs.Roots.{late_counted, without_late}
use Rattle.zr_import.specs.Directories.{IsInPlace}
use Rattle.zr_import.specs.Spending.{HasOlder, IsSpaceOf, MarksHeld, SpendsBlock}
use Rattle.zr_import.specs.Units.{MarksAll, young_of}
use Rattle.zr_judge.specs.Parts.{HasMapping}
use Rattle.zr_objset.specs.Records.{all_reach}
use Rattle.zr_import.specs.declared.roots.Root.{Root}
use Rattle.zr_label.specs.Blocks.{IsUber, no_row}
use Rattle.zr_label.specs.declared.root.Uber.{Uber}
use Rattle.zr_rules.specs.Devices.{Devices, devices_of}
use Rattle.zr_rules.specs.Places.{part_of}
use Rattle.zr_rules.specs.Space.{Space}
use Rattle.zr_model.specs.Objects.{Objects}
use Rattle.zr_store.specs.Store.{Stored}
use Rattle.zr_sync.specs.Objects.{HoldsObjects}
use Rattle.zr_sync.specs.Pools.{IsOpen}
use Rattle.zr_sync.specs.declared.open.OpenPool.{OpenPool}
use Rattle.zr_roots.proofs.Rows.{rows_until}
use Rattle.zr_open.proofs.Showing.{are, holds, objects}
use Rattle.zr_open.proofs.Beside.{cut_blocks, cut_there}
use Rattle.zr_open.proofs.Views.{stands_by}
use Rattle.zr_roots.proofs.Alike.{store_cut}
use Rattle.zr_roots.specs.Devices.{HasItsDisks, HasRows, IsCut}
use Rattle.zr_open.specs.Opened.{IsFresh}
use Rattle.zr_open.specs.Rewound.{rewound}
use Rattle.zr_roots.specs.Standing.{Stands, blocks_of}
use Rattle.zr_open.specs.Roots.{HasParts, IsSavedRoot}
use Rattle.zr_open.specs.declared.saved.SavedRoot.{SavedRoot}

-- ---- a later root

pub later_root : (saved : Uber) (txg : ℕ) → IsUber saved → saved.txg ≤ txg → txg < 2 ^ 64 → IsUber (rewound saved txg)
later_root saved txg is le fits =
    let h = is.head in
    record {
      head = record {
        oldest = h.oldest;
        newest = h.newest;
        txg = (let some = h.txg in omega (arith, some, le));
        guid = h.guid;
        whole = h.whole;
        least = h.least;
        most = h.most;
        some = h.some;
        devices = h.devices;
        reset = no_later (saved.reset == 0);
        txg_fits = fits;
        guid_fits = h.guid_fits;
      };
      root = is.root;
      table = record { size = is.table.size; devices = rows_until saved.version saved.txg txg (take saved.count saved.rows) le is.table.devices; on = is.table.on; rest = is.table.rest };
      name = is.name;
    }
  where
    no_later : (first : Bool) → (if first then 0 else txg) ≤ txg
    no_later true = omega arith
    no_later false = omega arith

-- ---- late sets that do not count

abbrev bare : DevPart → DevPart
bare p = record p { late1 = []; late2 = [] }

bare_twice : (ps : List DevPart) → map bare (map bare ps) ≡ map bare ps
bare_twice [] = refl
bare_twice (p ∷ ps) = ap (λ (qs : List DevPart). bare p ∷ qs) (bare_twice ps)

late_counted_bare : (u : Uber) (p : SpaceParts) → without_late (late_counted u p) ≡ without_late p
late_counted_bare u p =
    elim (reset_of u == u.txg) as (λ b. without_late (if b then without_late p else p) ≡ without_late p) [ true ↦ ap (λ (ds : List DevPart). record p { devs = ds }) (bare_twice p.devs) | false ↦ refl ]

marks_later : (txg later : ℕ) (old new : Space) (bs : List Bptr) → txg ≤ later → MarksAll SpendsBlock txg old new bs → MarksAll SpendsBlock later old new bs
marks_later txg later old new [] le is = is
marks_later txg later old new (b ∷ bs) le (birth, (mid, (one, rest))) = (omega (arith, birth, le), (mid, (one, marks_later txg later mid new bs le rest)))

-- the space is as well one of the parts without late sets
of_bare : (parts : SpaceParts) (meta : List Dva) (s : Space) → IsSpaceOf parts meta s → IsSpaceOf (without_late parts) meta s
of_bare parts meta s h = record { own = h.own; same = h.same ∙ sym (ap (λ (ds : List DevPart). record parts { devs = ds }) (bare_twice parts.devs)); opened = h.opened }

bare_kept : (ps : List DevPart) (d : ℕ) → (part_of (map bare ps) d).kept ≡ (part_of ps d).kept
bare_kept [] d = refl
bare_kept (p ∷ ps) zero = refl
bare_kept (p ∷ ps) (suc d) = bare_kept ps d

held_later : (txg later : ℕ) (parts : SpaceParts) (meta : List Dva) (bs : List Bptr) → txg ≤ later → MarksHeld txg parts meta bs → MarksHeld later (without_late parts) meta bs
held_later txg later parts meta bs le h = record {
  start = h.start;
  left = h.left;
  of_parts = of_bare parts meta h.start h.of_parts;
  marks = marks_later txg later h.start h.left bs le h.marks;
  kept = λ d. h.kept d ∙ sym (bare_kept parts.devs d);
}

-- a root in a later group counts as a reset, whether or not it names itself as one
resets_itself : (u : Uber) (txg : ℕ) → (reset_of (rewound u txg) == txg) ≡ true
resets_itself u txg = by_form (u.reset == 0)
  where
    same : (n : ℕ) → (n == n) ≡ true
    same n = grind (arith, nat_tests)

    by_reset : (b : Bool) → ((if b then txg else txg) == txg) ≡ true
    by_reset true = same txg
    by_reset false = same txg

    by_form : (first : Bool) → ((if (if first then 0 else txg) == 0 then txg else (if first then 0 else txg)) == txg) ≡ true
    by_form true = same txg
    by_form false = by_reset (txg == 0)

-- ---- the devices that it has

bare_row : (ps : List DevPart) (d : ℕ) → (part_of (map bare ps) d).row ≡ (part_of ps d).row
bare_row [] d = refl
bare_row (p ∷ ps) zero = refl
bare_row (p ∷ ps) (suc d) = bare_row ps d

bare_entries : (ps : List DevPart) (d : ℕ) → (part_of (map bare ps) d).entries ≡ (part_of ps d).entries
bare_entries [] d = refl
bare_entries (p ∷ ps) zero = refl
bare_entries (p ∷ ps) (suc d) = bare_entries ps d

pub same_devices : (ps : List DevPart) → devices_of (map bare ps) ≡ devices_of ps
same_devices ps =
    ap (λ (n : ℕ). make n (λ d. (part_of (map bare ps) d).row) (λ d. (part_of (map bare ps) d).entries)) (length-map ps bare)
    ∙ (ap (λ (r : ℕ → DevRow). make (length ps) r (λ d. (part_of (map bare ps) d).entries)) (fun_ext (bare_row ps))
    ∙ ap (λ (e : ℕ → List Entry). make (length ps) (λ d. (part_of ps d).row) e) (fun_ext (bare_entries ps)))
  where
    make : ℕ → (ℕ → DevRow) → (ℕ → List Entry) → Devices
    make count row entries = record { count = count; row = row; entries = entries }

-- what stands in the trees of the saved root stands in those of the later one, whose late sets do not count
pub stands_rewound : (disks : List (List ℕ)) (slots : List (Option ℕ)) (u : Uber) (txg : ℕ) (r : Root) → u.txg ≤ txg → Stands disks slots u r → Stands disks slots (rewound u txg) (record r { parts = without_late r.parts })
stands_rewound disks slots u txg r le h =
    let m = h.reads in
    let blocks = ap (λ (ds : Devices). store_of (record { disks = disks; slots = slots; devices = ds })) (sym (same_devices r.parts.devs)) in
    record {
      reads = record {
        head = m.head;
        words = m.words;
        streams = m.streams;
        parts = m.parts;
        spelled = m.spelled;
        counted_is = ap without_late m.counted_is ∙ late_counted_bare u m.parts ∙ sym (ap (λ (b : Bool). if b then without_late m.parts else m.parts) (resets_itself u txg));
      };
      meta = h.meta;
      held = subst (λ (s : Stored). MarksHeld txg (without_late r.parts) r.meta (all_reach s r.head.dir)) blocks (held_later u.txg txg r.parts r.meta _ le h.held);
      place = subst (λ (s : Stored). IsInPlace s r.head.dir) blocks h.place;
      older = λ since at.
          let o = h.older since at in
          subst (λ (s : Stored). HasOlder txg since (without_late r.parts) r.meta (all_reach s r.head.dir) r.older) blocks
          (record { start = o.start; of_parts = of_bare r.parts r.meta o.start o.of_parts; young = marks_later u.txg txg o.start r.older (young_of since _) le o.young });
    }

-- its mappings go together as before
pub mapped_bare : (ps : List DevPart) → All HasMapping ps → All HasMapping (map bare ps)
mapped_bare ps all k d lt =
    let long = length-map ps bare in
    let inside : k < length ps = omega (arith, lt, long) in
    let own = all k d inside in
    subst HasMapping (sym (get_or-map bare ps k d d inside)) (record { small = own.small; entries = own.entries; counts = own.counts })

-- the disks are those of the later root
pub rewound_disks : (sizes : List ℕ) (slots : List (Option ℕ)) (u : Uber) (txg : ℕ) → HasItsDisks sizes slots u → HasItsDisks sizes slots (rewound u txg)
rewound_disks sizes slots u txg h = record { disks = h.disks; apart = h.apart; sized = h.sized }

-- ---- the pool that is gone back to holds what was saved

module _ (tells : Type 0) (told : tells) (disks : List (List ℕ)) (sizes : List ℕ) (sized : map length disks ≡ sizes) (slots : List (Option ℕ)) (u : Uber) (r : Root) (block : List ℕ) (s : SavedRoot) (txg : ℕ) (pool : OpenPool)
    (h : IsSavedRoot tells disks slots u r block s) (le : s.uber.txg ≤ txg) (cut : IsCut s.uber slots pool.table.slots) (is : IsUber (rewound s.uber txg)) (ready : IsOpen sizes pool) (fresh : IsFresh (rewound s.uber txg) pool)
    (parts : HasParts (record s.root { parts = without_late s.root.parts }) [] pool) where
  abbrev pub back : Root
  back = record s.root { parts = without_late s.root.parts }

  saved_rows : HasRows s.uber s.root.parts.devs
  saved_rows = record {
    count = few_devices;
    each = λ d lt.
        sym (bare_row s.root.parts.devs d) ∙ (sym (ap (λ (ps : SpaceParts). (part_of ps.devs d).row) parts.space.parts_are)
        ∙ (ready.rows d (let n = fresh.count in omega (arith, n, lt)) ∙ ap (λ (rs : List DevRow). slice_index_or rs d no_row) fresh.rows));
  }
    where
      few_devices : length s.root.parts.devs ≡ s.uber.count
      few_devices =
          let n = ready.devices in
          let m = fresh.count in
          let same = ap (λ (ps : SpaceParts). length ps.devs) parts.space.parts_are in
          let long = length-map s.root.parts.devs bare in
          omega (arith, n, m, same, long)

  pub stands : Stands disks pool.table.slots (rewound s.uber txg) back
  stands =
      stands_rewound disks pool.table.slots s.uber txg s.root le
      (stands_by disks slots pool.table.slots s.uber s.root (sym (store_cut disks pool.table.slots slots (bare_devices s.uber) (cut_there s.uber slots pool.table.slots cut)))
      (sym (cut_blocks disks slots pool.table.slots s.uber s.root saved_rows cut)) (h.stands told))

  pub mapped : All HasMapping back.parts.devs
  mapped = mapped_bare s.root.parts.devs h.mapped

  abbrev pub saved_objects : Objects
  saved_objects = objects tells told disks sizes sized (rewound s.uber txg) pool back [] is ready fresh parts mapped stands

  pub saved_held : HoldsObjects tells disks pool saved_objects
  saved_held = holds tells told disks sizes sized (rewound s.uber txg) pool back [] is ready fresh parts mapped stands

  pub saved_are : AreObjects (blocks_of disks slots s.root) s.root.head.dir saved_objects
  saved_are =
      subst (λ (x : Stored). AreObjects x s.root.head.dir saved_objects) (cut_blocks disks slots pool.table.slots s.uber s.root saved_rows cut)
      (subst (λ (ds : Devices). AreObjects (store_of (record { disks = disks; slots = pool.table.slots; devices = ds })) s.root.head.dir saved_objects) (same_devices s.root.parts.devs)
      (are tells told disks sizes sized (rewound s.uber txg) pool back [] is ready fresh parts mapped stands))
