-- Devices that are taken on one after another.
use Rattle.std.proofs.Common.{◌≡◌, ◌≢◌, inl, inr, ℕ, ◌+◌, ◌<◌, ◌≤◌, List, length, None, Some, sym, ◌∙◌, ap, subst, arith}
use Rattle.std.specs.Prelude.{slice_index, slice_index_or}
use Rattle.std.proofs.lemmas.Bool.{cases_eq}
use Rattle.std.proofs.lemmas.List.{get_or-set_same, get_or-set_other}
use Rattle.zr_label.specs.Blocks.{no_row}
use Rattle.zr_label.specs.Geometry.{units_of_size}
use Rattle.zr_view.specs.Views.{slot_of}
use Rattle.zr_sync.specs.declared.open.OpenPool.{OpenPool}
use Rattle.zr_sync.specs.declared.open.Table.{Table}
use Rattle.zr_sync.specs.Pools.{IsPool, IsOpen}
use Rattle.zr_create.specs.Devices.{new_row, TakesOn, IsDeviceIn, KeepsRest}
use Rattle.zr_create.specs.Names.{AreApart}
use Rattle.zr_create.proofs.Taken.{IsFree, at_new, at_other}

pub with_some : (sizes : List ℕ) (x : OpenPool) → IsPool 0 sizes x → 1 ≤ x.table.count → IsOpen sizes x
with_some sizes x o some = record {
  version = o.version;
  guid = o.guid;
  name = o.name;
  some = some;
  few = o.few;
  table = o.table;
  slots = o.slots;
  first = o.first;
  after = o.after;
  group = o.group;
  limits = o.limits;
  dir = o.dir;
  head = o.head;
  streams = o.streams;
  count = o.count;
  cond = o.cond;
  turned = o.turned;
  saved = o.saved;
  checkpoint = o.checkpoint;
  spelled = o.spelled;
  devices = o.devices;
  rows = o.rows;
  lawful = o.lawful;
  mounted = o.mounted;
  disks = o.disks;
}

pub with_any : (sizes : List ℕ) (x : OpenPool) → IsOpen sizes x → IsPool 0 sizes x
with_any sizes x o = record {
  version = o.version;
  guid = o.guid;
  name = o.name;
  some = omega arith;
  few = o.few;
  table = o.table;
  slots = o.slots;
  first = o.first;
  after = o.after;
  group = o.group;
  limits = o.limits;
  dir = o.dir;
  head = o.head;
  streams = o.streams;
  count = o.count;
  cond = o.cond;
  turned = o.turned;
  saved = o.saved;
  checkpoint = o.checkpoint;
  spelled = o.spelled;
  devices = o.devices;
  rows = o.rows;
  lawful = o.lawful;
  mounted = o.mounted;
  disks = o.disks;
}

-- the slots that a pool has are the first ones that are named
abbrev pub HasOnly : List ℕ → ℕ → OpenPool → Type 0
HasOnly named i x = (d slot : ℕ) → slot_of x.table.slots d ≡ Some slot → (k : ℕ) × (k < i) × (slice_index named k ≡ slot)

pub none_yet : (named : List ℕ) (x : OpenPool) → ((d : ℕ) → slot_of x.table.slots d ≡ None) → HasOnly named 0 x
none_yet named x none d slot at = let both : None ≡ Some slot = sym (none d) ∙ at in absurd cc

pub next_free : (named : List ℕ) (i : ℕ) (x : OpenPool) → AreApart named → i < length named → HasOnly named i x → IsFree x.table.slots (slice_index named i)
next_free named i x apart lt only d at =
    let own = only d (slice_index named i) at in
    let same = apart own.0 i (let k = own.1 in omega (arith, k, lt)) lt own.2 in
    let k = own.1 in
    omega (arith, same, k)

module _ (sizes named : List ℕ) (i slot units : ℕ) (x y z : OpenPool) (o : IsPool 0 sizes y) (few : y.table.count < 32) (count : y.table.count ≡ i) (named_is : slice_index named i ≡ slot) (units_are : units_of_size (slice_index sizes slot) y.version ≡ Some units) (same : KeepsRest x y) (took : TakesOn slot units y z) where
  room : y.table.count < length y.table.slots
  room = let n = o.slots in omega (arith, few, n)

  row_room : y.table.count < length y.table.rows
  row_room = let n = o.table.size in omega (arith, few, n)

  pub same_more : KeepsRest x z
  same_more = record { ckpt = took.space.ckpt ∙ same.ckpt; name = took.name ∙ same.name; guid = took.guid ∙ same.guid; version = took.version ∙ same.version; group = took.group ∙ same.group; last = took.last ∙ same.last; cache = took.cache ∙ same.cache; dir = took.dir ∙ same.dir; head = took.head ∙ same.head }

  pub count_more : z.table.count ≡ i + 1
  count_more = ap (λ (t : Table). t.count) took.table ∙ ap (λ (n : ℕ). n + 1) count

  slots_other : (d : ℕ) → d ≢ y.table.count → slot_of z.table.slots d ≡ slot_of y.table.slots d
  slots_other d ne = ap (λ (t : Table). slot_of t.slots d) took.table ∙ at_other y.table.slots y.table.count slot d ne

  slots_new : slot_of z.table.slots y.table.count ≡ Some slot
  slots_new = ap (λ (t : Table). slot_of t.slots y.table.count) took.table ∙ at_new y.table.slots y.table.count slot room

  rows_other : (d : ℕ) → d ≢ y.table.count → slice_index_or z.table.rows d no_row ≡ slice_index_or y.table.rows d no_row
  rows_other d ne = ap (λ (t : Table). slice_index_or t.rows d no_row) took.table ∙ get_or-set_other y.table.rows y.table.count d (new_row units y.group.txg) no_row ne

  rows_new : slice_index_or z.table.rows y.table.count no_row ≡ new_row units y.group.txg
  rows_new = ap (λ (t : Table). slice_index_or t.rows y.table.count no_row) took.table ∙ get_or-set_same y.table.rows y.table.count (new_row units y.group.txg) no_row row_room

  pub only_more : HasOnly named i y → HasOnly named (i + 1) z
  only_more only d s at = elim (cases_eq d y.table.count) [
    | inl is ↦
        let here : Some slot ≡ Some s = sym slots_new ∙ subst (λ (k : ℕ). slot_of z.table.slots k ≡ Some s) is at in
        let slot_is : slot ≡ s = cc in
        (i, omega arith, named_is ∙ slot_is)
    | inr ne ↦
        let own = only d s (sym (slots_other d ne) ∙ at) in
        let k = own.1 in
        (own.0, omega (arith, k), own.2)
  ]

  before : (k : ℕ) → k ≢ y.table.count → IsDeviceIn sizes x.group.txg y k (slice_index named k) → IsDeviceIn sizes x.group.txg z k (slice_index named k)
  before k ne e = record {
    slot_is = slots_other k ne ∙ e.slot_is;
    units = e.units;
    units_are = subst (λ (v : ℕ). units_of_size (slice_index sizes (slice_index named k)) v ≡ Some e.units) (sym took.version) e.units_are;
    row_is = rows_other k ne ∙ e.row_is;
  }

  new : IsDeviceIn sizes x.group.txg z y.table.count slot
  new = record {
    slot_is = slots_new;
    units = units;
    units_are = subst (λ (v : ℕ). units_of_size (slice_index sizes slot) v ≡ Some units) (sym took.version) units_are;
    row_is = rows_new ∙ ap (λ g. new_row units g.txg) same.group;
  }

  pub each_more : ((k : ℕ) → k < i → IsDeviceIn sizes x.group.txg y k (slice_index named k)) → (k : ℕ) → k < i + 1 → IsDeviceIn sizes x.group.txg z k (slice_index named k)
  each_more each k lt = elim (cases_eq k y.table.count) [
    | inl is ↦
        let at : slot ≡ slice_index named k = sym named_is ∙ ap (λ (j : ℕ). slice_index named j) (sym (is ∙ count)) in
        subst (λ (j : ℕ). IsDeviceIn sizes x.group.txg z j (slice_index named k)) (sym is) (subst (λ (s : ℕ). IsDeviceIn sizes x.group.txg z y.table.count s) at new)
    | inr ne ↦ before k ne (each k (omega (arith, lt, ne, count)))
  ]
