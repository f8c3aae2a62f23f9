-- A root that was looked at, as the current one.
use Rattle.std.proofs.Common.{◌≡◌, inl, inr, ℕ, ◌<◌, ◌≤◌, false, List, map, length, Option, Some, Ok, refl, sym, ◌∙◌, ap, subst, arith}
use Rattle.std.specs.Prelude.{All, slice_index, slice_index_or}
use Rattle.std.proofs.lemmas.Bool.{cases_lt}
use Rattle.zr_base.specs.declared.space.CkptPart.{CkptPart}
use Rattle.zr_base.specs.declared.space.DevRow.{DevRow}
use Rattle.zr_base.specs.declared.space.SpaceParts.{SpaceParts}
use Rattle.zr_image.specs.Current.{FindsCurrent, IsGroup, IsInWindow, ShowsAll, row_at, slots_of}
use Rattle.zr_image.specs.Reading.{store_of}
use Rattle.zr_image.specs.Roots.{without_late}
use Rattle.zr_image.specs.StateOf.{AreObjects, devices_at, is_discarding}
use Rattle.zr_import.specs.declared.roots.Root.{Root}
use Rattle.zr_label.specs.Blocks.{IsUber, name_of, no_row}
use Rattle.zr_label.specs.Geometry.{units_of_size}
use Rattle.zr_label.specs.declared.root.Seen.{Seen}
use Rattle.zr_label.specs.declared.root.Uber.{Uber}
use Rattle.zr_rules.specs.Devices.{Devices, devices_of}
use Rattle.zr_rules.specs.Places.{is_gone}
use Rattle.zr_store.specs.Store.{Stored}
use Rattle.zr_sync.specs.Pools.{IsOpen}
use Rattle.zr_sync.specs.States.{HasCheckpoint}
use Rattle.zr_sync.specs.declared.open.OpenPool.{OpenPool}
use Rattle.zr_view.specs.Runs.{HasDisk}
use Rattle.zr_current.specs.Current.{HasSlots}
use Rattle.zr_roots.specs.Devices.{HasItsDisks}
use Rattle.zr_open.specs.Groups.{HoldsGroup, HoldsRoot}
use Rattle.zr_open.specs.Looked.{IsLookedAt}
use Rattle.zr_open.specs.Opened.{IsFresh}
use Rattle.zr_open.specs.Rewound.{rewound}
use Rattle.zr_roots.specs.Standing.{Stands}
use Rattle.zr_open.specs.Roots.{HasParts, meta_of, told_root}
use Rattle.zr_open.specs.declared.look.Looked.{Looked}
use Rattle.zr_open.proofs.Beside.{beside_moved}
use Rattle.zr_judge.specs.Parts.{HasMapping}
use Rattle.zr_open.proofs.Rewinding.{mapped_bare, same_devices, stands_rewound}
use Rattle.zr_roots.proofs.Rows.{past_rows, some_row}
use Rattle.zr_open.proofs.Showing.{ShowsSaved, are, checkpoint_of, counted_ckpt, holds, objects, shows_saved}
use Rattle.zr_open.proofs.Views.{stands_same, store_same}

-- ---- roots with the same devices

not_more : (u v : Uber) → IsUber u → IsUber v → u.rows ≡ v.rows → u.count < v.count → ⊥
not_more u v is_u is_v rows less =
    let none : row_at u u.count ≡ no_row = past_rows u is_u u.count (omega arith) in
    let some : 1 ≤ (row_at v u.count).added = some_row v is_v u.count less in
    let added = ap (λ (r : DevRow). r.added) (sym (ap (λ (rs : List DevRow). slice_index_or rs u.count no_row) rows) ∙ none) in
    omega (arith, some, added)

pub same_count : (u v : Uber) → IsUber u → IsUber v → u.rows ≡ v.rows → u.count ≡ v.count
same_count u v is_u is_v rows = elim (cases_lt u.count v.count) [
  | inl less ↦ absurd (not_more u v is_u is_v rows less)
  | inr more ↦ elim (cases_lt v.count u.count) [
    | inl less ↦ absurd (not_more v u is_v is_u (sym rows) less)
    | inr back ↦ omega (arith, more, back)
  ]
]

-- they have the same slots
pub same_slots_of : (seen : List Seen) (u v : Uber) → u.guid ≡ v.guid → u.rows ≡ v.rows → u.count ≡ v.count → slots_of u seen ≡ slots_of v seen
same_slots_of seen u v guid rows count =
    ap (λ (n : ℕ). slots_of (record v { guid = n; rows = u.rows; count = u.count }) seen) guid
    ∙ (ap (λ (rs : List DevRow). slots_of (record v { rows = rs; count = u.count }) seen) rows ∙ ap (λ (n : ℕ). slots_of (record v { count = n }) seen) count)

-- and the same disks
pub same_disks_of : (sizes : List ℕ) (slots : List (Option ℕ)) (u v : Uber) → u.rows ≡ v.rows → u.count ≡ v.count → HasItsDisks sizes slots v → HasItsDisks sizes slots u
same_disks_of sizes slots u v rows count h =
    let row : (d : ℕ) → row_at u d ≡ row_at v d = λ d. ap (λ (rs : List DevRow). slice_index_or rs d no_row) rows in
    record {
      disks = λ d lt there. subst (λ (r : DevRow). HasDisk sizes slots d r.units) (sym (row d)) (h.disks d (omega (arith, lt, count)) (subst (λ (r : DevRow). is_gone r.state ≡ false) (row d) there));
      apart = h.apart;
      sized = λ d slot lt at. subst (λ (r : DevRow). units_of_size (slice_index sizes slot) 2 ≡ Some r.units) (sym (row d)) (h.sized d slot (omega (arith, lt, count)) at);
    }

-- ---- the pool that is opened by it

pub ckpt_is : (tells : Type 0) (told : tells) (disks : List (List ℕ)) (sizes : List ℕ) (l : Looked) → IsLookedAt sizes tells disks l → l.root.parts.ckpt ≡ l.root.head.ckpt
ckpt_is tells told disks sizes l h = let s = (h.stands told).reads in ap (λ (ps : SpaceParts). ps.ckpt) s.counted_is ∙ (counted_ckpt _ s.parts ∙ s.spelled.ckpt_is)

module _ (tells : Type 0) (told : tells) (disks : List (List ℕ)) (sizes : List ℕ) (sized : map length disks ≡ sizes) (l : Looked) (h : IsLookedAt sizes tells disks l) where
  -- as it was opened when it was looked at
  pub as_looked : HoldsRoot disks tells disks l l.pool
  as_looked =
      let u = l.found.root in
      let meta = meta_of l.saved in
      let stands = subst (λ (slots : List (Option ℕ)). Stands disks slots u l.root) (sym h.same) (h.stands told) in
      record {
        objects = objects tells told disks sizes sized u l.pool l.root meta h.uber h.ready h.fresh h.parts h.mapped stands;
        are = subst (λ (slots : List (Option ℕ)). AreObjects (store_of (record { disks = disks; slots = slots; devices = devices_of l.root.parts.devs })) l.root.head.dir (objects tells told disks sizes sized u l.pool l.root meta h.uber h.ready h.fresh h.parts h.mapped stands)) h.same
            (are tells told disks sizes sized u l.pool l.root meta h.uber h.ready h.fresh h.parts h.mapped stands);
        holds = holds tells told disks sizes sized u l.pool l.root meta h.uber h.ready h.fresh h.parts h.mapped stands;
        ckpt = ap (λ (ps : SpaceParts). ps.ckpt) h.parts.space.parts_are ∙ ckpt_is tells told disks sizes l h;
      }

  -- as it is opened in a later group, as a reset
  module _ (txg : ℕ) (le : l.found.root.txg ≤ txg) (pool : OpenPool) (is : IsUber (rewound l.found.root txg)) (ready : IsOpen sizes pool) (fresh : IsFresh (rewound l.found.root txg) pool)
      (parts : HasParts (record l.root { parts = without_late l.root.parts }) (meta_of l.saved) pool) (slots : pool.table.slots ≡ l.found.slots) where
    abbrev pub back : Root
    back = record l.root { parts = without_late l.root.parts }

    pub stands_back : Stands disks pool.table.slots (rewound l.found.root txg) back
    stands_back =
        subst (λ (ss : List (Option ℕ)). Stands disks ss (rewound l.found.root txg) back) (sym slots)
        (stands_rewound disks l.found.slots l.found.root txg l.root le (h.stands told))

    mapped_back : All HasMapping back.parts.devs
    mapped_back = mapped_bare l.root.parts.devs h.mapped

    pub as_reset : HoldsRoot disks tells disks l pool
    as_reset =
        let u = rewound l.found.root txg in
        let meta = meta_of l.saved in
        record {
          objects = objects tells told disks sizes sized u pool back meta is ready fresh parts mapped_back stands_back;
          are = subst (λ (ss : List (Option ℕ)). AreObjects (store_of (record { disks = disks; slots = ss; devices = devices_of l.root.parts.devs })) l.root.head.dir (objects tells told disks sizes sized u pool back meta is ready fresh parts mapped_back stands_back)) slots
              (subst (λ (ds : Devices). AreObjects (store_of (record { disks = disks; slots = pool.table.slots; devices = ds })) l.root.head.dir (objects tells told disks sizes sized u pool back meta is ready fresh parts mapped_back stands_back)) (same_devices l.root.parts.devs)
              (are tells told disks sizes sized u pool back meta is ready fresh parts mapped_back stands_back));
          holds = holds tells told disks sizes sized u pool back meta is ready fresh parts mapped_back stands_back;
          ckpt = ap (λ (ps : SpaceParts). ps.ckpt) parts.space.parts_are ∙ ckpt_is tells told disks sizes l h;
        }

-- ---- the state that the disks show by the root of a group

module _ (tells later : Type 0) (told : tells) (paths disks after : List (List ℕ)) (sizes : List ℕ) (seen : List Seen) (shown : ShowsAll disks seen) (current : Uber) (found : FindsCurrent seen (Ok current)) (txg : ℕ) (kept : IsInWindow seen current txg) (l : Looked)
    (h : IsLookedAt sizes tells disks l) (group : IsGroup seen current txg l.found.root) (same : HasSlots (slots_of l.found.root seen) l.found.slots) (pool : OpenPool) (own : HoldsRoot disks later after l pool) where
  abbrev these : List (Option ℕ)
  these = slots_of l.found.root seen

  pub saved_shown : ShowsSaved paths disks these (told_root l.found.root l.root)
  saved_shown = shows_saved tells told paths disks these l.found.root l.root l.saved (beside_moved tells tells disks disks these l.found.slots (λ t. t) (λ t. refl) same l.found.root l.root l.saved h.beside)

  pub objects_are : AreObjects (store_of (record { disks = disks; slots = these; devices = devices_of l.root.parts.devs })) l.root.head.dir own.objects
  objects_are = subst (λ (s : Stored). AreObjects s l.root.head.dir own.objects) (store_same disks these l.found.slots (devices_of l.root.parts.devs) same) own.are

  abbrev pub group_held : HoldsGroup paths disks txg later after pool
  group_held =
      let u = l.found.root in
      let saved = saved_shown in
      let ckpt = ckpt_is tells told disks sizes l h in
      record {
        state = record { guid = u.guid; name = name_of u.name; objects = own.objects; saved = saved.state; devs = devices_at paths these u; discarding = is_discarding l.root.parts.ckpt };
        shown = record {
          seen = seen;
          shown = shown;
          current = current;
          found = found;
          kept = kept;
          root = told_root u l.root;
          group = group;
          stands = record { head = h.head; reads = (stands_same disks these l.found.slots u l.root same (h.stands told)).reads };
          saved = saved.root;
          beside = saved.shown;
          means = record { guid = refl; name = refl; objects = objects_are; saved_is = saved.is; devs = refl; discarding = refl };
        };
        holds = record {
          objects = own.holds;
          checkpoint = subst (λ (k : CkptPart). HasCheckpoint k saved.state (is_discarding l.root.parts.ckpt)) (sym own.ckpt)
              (subst (λ (k : CkptPart). HasCheckpoint l.root.head.ckpt saved.state (is_discarding k)) (sym ckpt)
              (checkpoint_of paths disks these (told_root u l.root) l.root.head.ckpt l.root.head.saved saved.root saved.state h.head.saved saved.shown saved.is));
        };
      }
