-- A pool with a device more is open.
use Rattle.std.proofs.Common.{◌≡◌, ◌≢◌, inl, inr, ◌⊎◌, ℕ, zero, suc, ◌+◌, ◌<◌, ◌≤◌, ◌^◌, false, List, [], ◌∷◌, ◌++◌, length, set, Option, None, Some, sym, ◌∙◌, ap, subst, arith}
use Rattle.std.specs.Prelude.{All, Vec, slice_index, slice_index_or}
use Rattle.std.specs.Global.{Global}
use Rattle.std.proofs.lemmas.Bool.{cases_eq}
use Rattle.std.proofs.lemmas.List.{get_or-set_same, get_or-set_other, length-set, get_or_append_left, length-append}
use Rattle.std.proofs.Math.Seq.{get_or-append_seam}
use Rattle.zr_base.specs.declared.space.CkptPart.{CkptPart}
use Rattle.zr_base.specs.declared.space.DevPart.{DevPart}
use Rattle.zr_base.specs.declared.space.DevRow.{DevRow}
use Rattle.zr_label.specs.Blocks.{no_row}
use Rattle.zr_label.specs.Geometry.{units_of_size, unit_at}
use Rattle.zr_meta.specs.Heads.{IsSaved}
use Rattle.zr_rules.specs.Devices.{devices_of, state_at}
use Rattle.zr_rules.specs.Places.{is_gone, no_part, part_of}
use Rattle.zr_rules.specs.Space.{Space}
use Rattle.zr_rules.specs.Steps as steps
use Rattle.zr_view.specs.Runs.{HasDisk}
use Rattle.zr_view.specs.Views.{slot_of}
use Rattle.zr_vdev.specs.Mounts.{AreMounted}
use Rattle.zr_sync.specs.declared.open.DeviceStreams.{DeviceStreams}
use Rattle.zr_sync.specs.declared.open.OpenPool.{OpenPool}
use Rattle.zr_sync.specs.declared.open.Table.{Table}
use Rattle.zr_sync.specs.Pools.{AreStreams, IsPool, IsOpen, saved_block}
use Rattle.zr_create.specs.Devices.{new_row, with_device}
use Rattle.zr_create.proofs.Rows.{IsSized, rows_more}

-- ---- what is recorded of each device

abbrev pub new_part : ℕ → ℕ → DevPart
new_part units txg = record { row = new_row units txg; held = []; kept = []; entries = []; counts = []; fresh = []; late1 = []; late2 = [] }

each_part : (P : DevPart → Type 0) (parts : List DevPart) (p : DevPart) → ((d : ℕ) → P (part_of parts d)) → P p → (d : ℕ) → P (part_of (parts ++ p ∷ []) d)
each_part P [] p all one zero = one
each_part P [] p all one (suc d) = all 0
each_part P (q ∷ parts) p all one zero = all 0
each_part P (q ∷ parts) p all one (suc d) = each_part P parts p (λ e. all (suc e)) one d

-- ---- the slots

abbrev pub IsFree : List (Option ℕ) → ℕ → Type 0
IsFree slots slot = (d : ℕ) → slot_of slots d ≢ Some slot

pub at_new : (slots : List (Option ℕ)) (count slot : ℕ) → count < length slots → slot_of (set slots count (Some slot)) count ≡ Some slot
at_new slots count slot lt = get_or-set_same slots count (Some slot) None lt

pub at_other : (slots : List (Option ℕ)) (count slot d : ℕ) → d ≢ count → slot_of (set slots count (Some slot)) d ≡ slot_of slots d
at_other slots count slot d ne = get_or-set_other slots count d (Some slot) None ne

apart_more : (slots : List (Option ℕ)) (count slot : ℕ) → count < length slots → IsFree slots slot → ((d e s : ℕ) → slot_of slots d ≡ Some s → slot_of slots e ≡ Some s → d ≡ e)
    → (d e s : ℕ) → slot_of (set slots count (Some slot)) d ≡ Some s → slot_of (set slots count (Some slot)) e ≡ Some s → d ≡ e
apart_more slots count slot lt free apart d e s at also = elim (cases_eq d count) [
  | inl d_is ↦ elim (cases_eq e count) [
    | inl e_is ↦ d_is ∙ sym e_is
    | inr e_ne ↦
        let here : Some slot ≡ Some s = sym (at_new slots count slot lt) ∙ subst (λ (k : ℕ). slot_of (set slots count (Some slot)) k ≡ Some s) d_is at in
        absurd (free e (sym (at_other slots count slot e e_ne) ∙ (also ∙ sym here)))
  ]
  | inr d_ne ↦ elim (cases_eq e count) [
    | inl e_is ↦
        let here : Some slot ≡ Some s = sym (at_new slots count slot lt) ∙ subst (λ (k : ℕ). slot_of (set slots count (Some slot)) k ≡ Some s) e_is also in
        absurd (free d (sym (at_other slots count slot d d_ne) ∙ (at ∙ sym here)))
    | inr e_ne ↦ apart d e s (sym (at_other slots count slot d d_ne) ∙ at) (sym (at_other slots count slot e e_ne) ∙ also)
  ]
]

-- ---- the devices

module _ (sizes : List ℕ) (x : OpenPool) (slot units : ℕ) (o : IsPool 0 sizes x) (few : x.table.count < 32) (exists : slot < length sizes) (sized : IsSized (slice_index sizes slot) x.version units) (free : IsFree x.table.slots slot) where
  count : ℕ
  count = x.table.count

  abbrev slots : List (Option ℕ)
  slots = set x.table.slots x.table.count (Some slot)

  abbrev rows : List DevRow
  rows = set x.table.rows x.table.count (new_row units x.group.txg)

  abbrev parts : List DevPart
  parts = x.space.parts.devs ++ new_part units x.group.txg ∷ []

  room : x.table.count < length x.table.slots
  room = let n = o.slots in omega (arith, few, n)

  row_room : x.table.count < length x.table.rows
  row_room = let n = o.table.size in omega (arith, few, n)

  part_before : (d : ℕ) → d < x.table.count → part_of parts d ≡ part_of x.space.parts.devs d
  part_before d lt = get_or_append_left x.space.parts.devs (new_part units x.group.txg ∷ []) no_part d (let n = o.devices in omega (arith, lt, n))

  part_new : part_of parts x.table.count ≡ new_part units x.group.txg
  part_new = subst (λ (k : ℕ). part_of parts k ≡ new_part units x.group.txg) o.devices (get_or-append_seam x.space.parts.devs (new_part units x.group.txg) [] no_part)

  before_or_new : (d : ℕ) → d < x.table.count + 1 → (d < x.table.count) ⊎ (d ≡ x.table.count)
  before_or_new d lt = elim (cases_eq d x.table.count) [ inl is ↦ inr is | inr ne ↦ inl (omega (arith, lt, ne)) ]

  long : length parts ≡ x.table.count + 1
  long = let n = o.devices in omega (arith, n, length-append x.space.parts.devs (new_part units x.group.txg ∷ []))

  rows_are : (d : ℕ) → d < x.table.count + 1 → (part_of parts d).row ≡ slice_index_or rows d no_row
  rows_are d lt = elim (before_or_new d lt) [
    | inl less ↦ ap (λ (p : DevPart). p.row) (part_before d less) ∙ (o.rows d less ∙ sym (get_or-set_other x.table.rows x.table.count d (new_row units x.group.txg) no_row (λ is. omega (arith, less, is))))
    | inr is ↦ subst (λ (k : ℕ). (part_of parts k).row ≡ slice_index_or rows k no_row) (sym is) (ap (λ (p : DevPart). p.row) part_new ∙ sym (get_or-set_same x.table.rows x.table.count (new_row units x.group.txg) no_row row_room))
  ]

  has_disk : (d : ℕ) → d < x.table.count + 1 → is_gone (state_at (devices_of parts) d) ≡ false → HasDisk sizes slots d (part_of parts d).row.units
  has_disk d lt there = elim (before_or_new d lt) [
    | inl less ↦
        let old = o.mounted.disks d (let n = o.devices in omega (arith, less, n)) (sym (ap (λ (p : DevPart). is_gone p.row.state) (part_before d less)) ∙ there) in
        record {
          slot = old.slot;
          is = at_other x.table.slots x.table.count slot d (λ is. omega (arith, less, is)) ∙ old.is;
          exists = old.exists;
          fits = subst (λ (p : DevPart). unit_at p.row.units ≤ slice_index sizes old.slot) (sym (part_before d less)) old.fits;
        }
    | inr is ↦ record {
      slot = slot;
      is = subst (λ (k : ℕ). slot_of slots k ≡ Some slot) (sym is) (at_new x.table.slots x.table.count slot room);
      exists = exists;
      fits = subst (λ (k : ℕ). unit_at (part_of parts k).row.units ≤ slice_index sizes slot) (sym is) (subst (λ (p : DevPart). unit_at p.row.units ≤ slice_index sizes slot) (sym part_new) sized.fits);
    }
  ]

  mounted : AreMounted sizes slots (devices_of parts)
  mounted = record {
    few = omega (arith, few, long);
    disks = λ d lt there. has_disk d (omega (arith, lt, long)) there;
    small = each_part (λ p. p.row.units ≤ 2 ^ 40) x.space.parts.devs (new_part units x.group.txg) o.mounted.small (let s = sized.small in omega (arith, s));
    apart = apart_more x.table.slots x.table.count slot room free o.mounted.apart;
  }

  abbrev has_units : DevRow → Option ℕ
  has_units r = Some r.units

  row_now : (d : ℕ) → d ≡ x.table.count → slice_index_or rows d no_row ≡ new_row units x.group.txg
  row_now d is = subst (λ (k : ℕ). slice_index_or rows k no_row ≡ new_row units x.group.txg) (sym is) (get_or-set_same x.table.rows x.table.count (new_row units x.group.txg) no_row row_room)

  disk_sizes : (d s : ℕ) → d < x.table.count + 1 → slot_of slots d ≡ Some s → units_of_size (slice_index sizes s) 2 ≡ Some (slice_index_or rows d no_row).units
  disk_sizes d s lt at = elim (before_or_new d lt) [
    | inl less ↦
        o.disks d s less (sym (at_other x.table.slots x.table.count slot d (λ is. omega (arith, less, is))) ∙ at)
        ∙ ap has_units (sym (get_or-set_other x.table.rows x.table.count d (new_row units x.group.txg) no_row (λ is. omega (arith, less, is))))
    | inr is ↦
        let here : Some slot ≡ Some s = sym (at_new x.table.slots x.table.count slot room) ∙ subst (λ (k : ℕ). slot_of slots k ≡ Some s) is at in
        let same : slot ≡ s = cc in
        subst (λ (k : ℕ). units_of_size (slice_index sizes k) 2 ≡ Some (slice_index_or rows d no_row).units) same (sized.units_any ∙ ap has_units (sym (row_now d is)))
  ]

  now : (space : Space) (streams : Vec DeviceStreams Global) → steps.AddsDevice x.space space units x.group.txg → All AreStreams streams.items → length streams.items ≡ length x.streams.items + 1
      → IsOpen sizes (record x { table = with_device x.table slot (new_row units x.group.txg); space = space; streams = streams })
  now space streams adds lawful more = record {
    version = o.version;
    guid = o.guid;
    name = o.name;
    some = omega arith;
    few = omega (arith, few);
    table = rows_more x.version x.group.txg x.table.count units x.table.rows o.table few (sized.row x.group.txg o.first);
    slots = length-set x.table.slots x.table.count (Some slot) ∙ o.slots;
    first = o.first;
    after = o.after;
    group = o.group;
    limits = o.limits;
    dir = o.dir;
    head = o.head;
    streams = lawful;
    count = more ∙ ap (λ (n : ℕ). n + 1) o.count;
    cond = o.cond;
    turned = o.turned;
    saved = subst (λ (k : CkptPart). IsSaved k (saved_block x.saved)) (sym adds.ckpt) o.saved;
    checkpoint = o.checkpoint;
    spelled = adds.version ∙ o.spelled;
    devices = ap (λ (ps : List DevPart). length ps) adds.devs ∙ long;
    rows = λ d lt. ap (λ (ps : List DevPart). (part_of ps d).row) adds.devs ∙ rows_are d lt;
    lawful = adds.lawful o.lawful;
    mounted = subst (λ (ps : List DevPart). AreMounted sizes slots (devices_of ps)) (sym adds.devs) mounted;
    disks = disk_sizes;
  }

  -- on the same disks, with the group's number as it was read
  pub taken : (n : List ℕ) (txg : ℕ) (table : Table) (space : Space) (streams : Vec DeviceStreams Global) → n ≡ sizes → txg ≡ x.group.txg → table ≡ with_device x.table slot (new_row units txg) → steps.AddsDevice x.space space units txg
      → All AreStreams streams.items → length streams.items ≡ length x.streams.items + 1 → IsOpen n (record x { table = table; space = space; streams = streams })
  taken n txg table space streams same txg_is table_is adds lawful more =
      subst (λ (m : List ℕ). IsOpen m (record x { table = table; space = space; streams = streams })) (sym same)
      (subst (λ (t : Table). IsOpen sizes (record x { table = t; space = space; streams = streams })) (sym (table_is ∙ ap (λ (g : ℕ). with_device x.table slot (new_row units g)) txg_is))
      (now space streams (subst (λ (g : ℕ). steps.AddsDevice x.space space units g) txg_is adds) lawful more))
