-- A pool of which one device has another state is open.
use Rattle.std.proofs.Common.{◌≡◌, ◌≢◌, ◌∙◌, ◌⊎◌, inl, inr, ℕ, zero, suc, ◌<◌, ◌≤◌, ◌^◌, Bool, true, false, List, [], ◌∷◌, length, set, take, drop, get_or, Option, Some, None, refl, sym, ap, subst, arith}
use Rattle.std.specs.Prelude.{IsTrue, ◌&&◌, ◌||◌, nat_le, slice_index}
use Rattle.std.specs.List.{list_all, list_any}
use Rattle.std.proofs.lemmas.Bool.{cases_eq}
use Rattle.std.proofs.lemmas.Bool.Decides.{nat_tests}
use Rattle.std.proofs.lemmas.List.{get_or-set_same, get_or-set_other, length-set}
use Rattle.zr_base.specs.declared.space.CkptPart.{CkptPart}
use Rattle.zr_base.specs.declared.space.DevPart.{DevPart}
use Rattle.zr_base.specs.declared.space.DevRow.{DevRow}
use Rattle.zr_base.specs.declared.space.DevState.{DevState}
use Rattle.zr_base.specs.declared.space.DevState.TheVariants.{On, Leaving, Gone}
use Rattle.zr_label.specs.Blocks.{is_going, is_no_row, is_row, most_units, no_row}
use Rattle.zr_label.specs.Geometry.{units_of_size}
use Rattle.zr_meta.specs.Heads.{IsSaved}
use Rattle.zr_rules.specs.Equation.{devices_in}
use Rattle.zr_rules.specs.Places.{is_gone, is_leaving, is_on, part_of, state_of_dev}
use Rattle.zr_rules.specs.Space.{IsLawful, Space}
use Rattle.zr_rules.specs.Steps.{Cancels, Finishes, Leaves}
use Rattle.zr_view.specs.Runs.{HasDisk}
use Rattle.zr_view.specs.Views.{slot_of}
use Rattle.zr_vdev.specs.Mounts.{AreMounted}
use Rattle.zr_vdev.specs.Stores.{KeepsRows}
use Rattle.zr_cache.specs.declared.table.Cache.{Cache}
use Rattle.zr_sync.specs.Pools.{AreCondStreams, IsOpen, saved_block}
use Rattle.zr_sync.specs.declared.open.CondStreams.{CondStreams}
use Rattle.zr_sync.specs.declared.open.Turned.{Turned}
use Rattle.zr_sync.specs.declared.open.OpenPool.{OpenPool}
use Rattle.zr_removal.specs.Devices.{HasOther}
use Rattle.zr_removal.specs.Rows.{IsPast, with_row, without_slot}

false_true : false ≡ true → ⊥
false_true e = cc

-- ---- rows

and_parts : (a b : Bool) → IsTrue (a && b) → IsTrue a × IsTrue b
and_parts true true h = (h, h)
and_parts true false h = absurd cc
and_parts false b h = absurd cc

both_parts : (a b : Bool) → IsTrue a → IsTrue b → IsTrue (a && b)
both_parts true true p q = p
both_parts true false p q = q
both_parts false b p q = p

or_first : (a b : Bool) → IsTrue a → IsTrue (a || b)
or_first true b h = h
or_first false b h = absurd cc

or_second : (a b : Bool) → IsTrue b → IsTrue (a || b)
or_second true b h = refl
or_second false b h = h

or_cases : (a b : Bool) → IsTrue (a || b) → IsTrue a ⊎ IsTrue b
or_cases true b h = inl refl
or_cases false b h = inr h

all_set : (P : DevRow → Bool) (rows : List DevRow) (n d : ℕ) (r : DevRow) → IsTrue (list_all P (take n rows)) → IsTrue (P r) → IsTrue (list_all P (take n (set rows d r)))
all_set P [] n d r all one = all
all_set P (q ∷ rows) zero zero r all one = refl
all_set P (q ∷ rows) zero (suc d) r all one = refl
all_set P (q ∷ rows) (suc n) zero r all one = both_parts (P r) (list_all P (take n rows)) one (and_parts (P q) (list_all P (take n rows)) all).1
all_set P (q ∷ rows) (suc n) (suc d) r all one =
    let two = and_parts (P q) (list_all P (take n rows)) all in
    both_parts (P q) (list_all P (take n (set rows d r))) two.0 (all_set P rows n d r two.1 one)

each_row : (P : DevRow → Bool) (rows : List DevRow) (n d : ℕ) → d < n → d < length rows → IsTrue (list_all P (take n rows)) → IsTrue (P (get_or rows d no_row))
each_row P [] n d lt inside all = absurd (omega (arith, inside))
each_row P (r ∷ rows) zero d lt inside all = absurd (omega (arith, lt))
each_row P (r ∷ rows) (suc n) zero lt inside all = (and_parts (P r) (list_all P (take n rows)) all).0
each_row P (r ∷ rows) (suc n) (suc d) lt inside all = each_row P rows n d (omega (arith, lt)) (omega (arith, inside)) (and_parts (P r) (list_all P (take n rows)) all).1

drop_set : (rows : List DevRow) (n d : ℕ) (r : DevRow) → d < n → drop n (set rows d r) ≡ drop n rows
drop_set [] n d r lt = refl
drop_set (q ∷ rows) zero d r lt = absurd (omega (arith, lt))
drop_set (q ∷ rows) (suc n) zero r lt = refl
drop_set (q ∷ rows) (suc n) (suc d) r lt = drop_set rows n d r (omega (arith, lt))

any_at : (P : DevRow → Bool) (rows : List DevRow) (n e : ℕ) → e < n → e < length rows → IsTrue (P (get_or rows e no_row)) → IsTrue (list_any P (take n rows))
any_at P [] n e lt inside has = absurd (omega (arith, inside))
any_at P (r ∷ rows) zero e lt inside has = absurd (omega (arith, lt))
any_at P (r ∷ rows) (suc n) zero lt inside has = or_first (P r) (list_any P (take n rows)) has
any_at P (r ∷ rows) (suc n) (suc e) lt inside has = or_second (P r) (list_any P (take n rows)) (any_at P rows n e (omega (arith, lt)) (omega (arith, inside)) has)

-- a row that passes has an index
any_index : (P : DevRow → Bool) (rows : List DevRow) (n : ℕ) → IsTrue (list_any P (take n rows)) → (e : ℕ) × (e < n) × (e < length rows) × IsTrue (P (get_or rows e no_row))
any_index P [] zero any = absurd (false_true any)
any_index P [] (suc n) any = absurd (false_true any)
any_index P (r ∷ rows) zero any = absurd (false_true any)
any_index P (r ∷ rows) (suc n) any = elim (or_cases (P r) (list_any P (take n rows)) any) [
  | inl here ↦ (0, omega arith, omega arith, here)
  | inr later ↦ let i = any_index P rows n later in let lt = i.1 in let inside = i.2 in (suc i.0, omega (arith, lt), omega (arith, inside), i.3)
]

-- the row of another state
row_turned : (version txg : ℕ) (r : DevRow) (s : DevState) (gone : ℕ) → IsTrue (is_row version txg r) → (IsTrue (is_going r.state r.added r.gone txg) → IsTrue (is_going s r.added gone txg))
    → IsTrue (is_row version txg (record r { state = s; gone = gone }))
row_turned version txg r s gone h going =
    let rest = nat_le 1 r.added && nat_le r.added txg && nat_le 896 r.units && nat_le r.units (most_units version) in
    let two = and_parts rest (is_going r.state r.added r.gone txg) h in
    both_parts rest (is_going s r.added gone txg) two.0 (going two.1)

going_gone : (added txg : ℕ) → added < txg → IsTrue (is_going Gone added txg txg)
going_gone added txg lt = grind (arith, nat_tests, lt)

-- ---- a device has another state

-- one device has another row of as many units, and the others theirs; one device at least is in service
pub record TurnsRow (x : OpenPool) (s : Space) (d : ℕ) (r : DevRow) : Type 0 where
  pub known : d < x.table.count
  pub row_is : (part_of s.parts.devs d).row ≡ r
  pub units : r.units ≡ (part_of x.space.parts.devs d).row.units
  pub lawful_row : IsTrue (is_row x.version x.group.txg r)
  pub there : is_gone r.state ≡ false → is_gone (part_of x.space.parts.devs d).row.state ≡ false
  pub on : IsTrue (list_any (λ (q : DevRow). is_on q.state) (take x.table.count (set x.table.rows d r)))
  pub version : s.parts.version ≡ x.space.parts.version
  pub ckpt : s.parts.ckpt ≡ x.space.parts.ckpt
  pub devices : length s.parts.devs ≡ length x.space.parts.devs
  pub others : (e : ℕ) → e ≢ d → (part_of s.parts.devs e).row ≡ (part_of x.space.parts.devs e).row
  pub lawful : IsLawful s

module _ (sizes : List ℕ) (x : OpenPool) (s : Space) (d : ℕ) (r : DevRow) (o : IsOpen sizes x) (t : TurnsRow x s d r) where
  abbrev rows : List DevRow
  rows = set x.table.rows d r

  room : d < length x.table.rows
  room = let k = t.known in let n = o.table.size in let f = o.few in omega (arith, k, n, f)

  here : get_or rows d no_row ≡ r
  here = get_or-set_same x.table.rows d r no_row room

  other : (e : ℕ) → e ≢ d → get_or rows e no_row ≡ get_or x.table.rows e no_row
  other e ne = get_or-set_other x.table.rows d e r no_row ne

  units_here : r.units ≡ (get_or x.table.rows d no_row).units
  units_here = t.units ∙ ap (λ (q : DevRow). q.units) (o.rows d t.known)

  rows_are : (e : ℕ) → e < x.table.count → (part_of s.parts.devs e).row ≡ get_or rows e no_row
  rows_are e lt = elim (cases_eq e d) [
    | inl is ↦ subst (λ (i : ℕ). (part_of s.parts.devs i).row ≡ get_or rows i no_row) (sym is) (t.row_is ∙ sym here)
    | inr ne ↦ t.others e ne ∙ (o.rows e lt ∙ sym (other e ne))
  ]

  units_same : (e : ℕ) → (part_of s.parts.devs e).row.units ≡ (part_of x.space.parts.devs e).row.units
  units_same e = elim (cases_eq e d) [
    | inl is ↦ subst (λ (i : ℕ). (part_of s.parts.devs i).row.units ≡ (part_of x.space.parts.devs i).row.units) (sym is) (ap (λ (q : DevRow). q.units) t.row_is ∙ t.units)
    | inr ne ↦ ap (λ (q : DevRow). q.units) (t.others e ne)
  ]

  there_before : (e : ℕ) → is_gone (part_of s.parts.devs e).row.state ≡ false → is_gone (part_of x.space.parts.devs e).row.state ≡ false
  there_before e there = elim (cases_eq e d) [
    | inl is ↦ subst (λ (i : ℕ). is_gone (part_of x.space.parts.devs i).row.state ≡ false) (sym is)
        (t.there (sym (ap (λ (q : DevRow). is_gone q.state) t.row_is) ∙ subst (λ (i : ℕ). is_gone (part_of s.parts.devs i).row.state ≡ false) is there))
    | inr ne ↦ sym (ap (λ (q : DevRow). is_gone q.state) (t.others e ne)) ∙ there
  ]

  mounted : AreMounted sizes x.table.slots (devices_in s)
  mounted = record {
    few = let f = o.mounted.few in let n = t.devices in omega (arith, f, n);
    disks = λ e lt there.
        subst (λ (n : ℕ). HasDisk sizes x.table.slots e n) (sym (units_same e))
        (o.mounted.disks e (let n = t.devices in omega (arith, lt, n)) (there_before e there));
    small = λ e. let u = units_same e in let m = o.mounted.small e in omega (arith, u, m);
    apart = o.mounted.apart;
  }

  disk_sizes : (e slot : ℕ) → e < x.table.count → slot_of x.table.slots e ≡ Some slot → units_of_size (slice_index sizes slot) 2 ≡ Some (get_or rows e no_row).units
  disk_sizes e slot lt at = elim (cases_eq e d) [
    | inl is ↦
        o.disks e slot lt at
        ∙ subst (λ (i : ℕ). Some (get_or x.table.rows i no_row).units ≡ Some (get_or rows i no_row).units) (sym is) (ap (λ (n : ℕ). Some n) (sym units_here ∙ sym (ap (λ (q : DevRow). q.units) here)))
    | inr ne ↦ o.disks e slot lt at ∙ ap (λ (q : DevRow). Some q.units) (sym (other e ne))
  ]

  pub turned_open : IsOpen sizes (record x { space = s; table = with_row x.table d r })
  turned_open = record {
    version = o.version;
    guid = o.guid;
    name = o.name;
    some = o.some;
    few = o.few;
    table = record {
      size = length-set x.table.rows d r ∙ o.table.size;
      devices = all_set (is_row x.version x.group.txg) x.table.rows x.table.count d r o.table.devices t.lawful_row;
      on = λ some. t.on;
      rest = subst (λ (rs : List DevRow). IsTrue (list_all is_no_row rs)) (sym (drop_set x.table.rows x.table.count d r t.known)) o.table.rest;
    };
    slots = o.slots;
    first = o.first;
    after = o.after;
    group = o.group;
    limits = o.limits;
    dir = o.dir;
    head = o.head;
    streams = o.streams;
    count = o.count;
    cond = o.cond;
    turned = o.turned;
    saved = subst (λ (k : CkptPart). IsSaved k (saved_block x.saved)) (sym t.ckpt) o.saved;
    checkpoint = o.checkpoint;
    spelled = t.version ∙ o.spelled;
    devices = t.devices ∙ o.devices;
    rows = rows_are;
    lawful = t.lawful;
    mounted = mounted;
    disks = disk_sizes;
  }

-- ---- each device keeps its row

-- the version, the checkpoint and each device's row are the same, and what was lawful stays so
pub record KeepsPlaces (old new : Space) : Type 0 where
  pub version : new.parts.version ≡ old.parts.version
  pub ckpt : new.parts.ckpt ≡ old.parts.ckpt
  pub devices : length new.parts.devs ≡ length old.parts.devs
  pub row : (e : ℕ) → (part_of new.parts.devs e).row ≡ (part_of old.parts.devs e).row
  pub lawful : IsLawful old → IsLawful new

pub rows_keep : (old new : Space) → KeepsRows old new → KeepsPlaces old new
rows_keep old new k = record { version = k.version; ckpt = k.ckpt; devices = k.devices; row = λ e. (k.each e).row; lawful = k.lawful }

pub still_open : (sizes : List ℕ) (x : OpenPool) (s : Space) (k : Cache) (cond : CondStreams) (turned : List Turned) → IsOpen sizes x → KeepsPlaces x.space s → AreCondStreams cond → length turned ≡ 32
    → IsOpen sizes (record x { space = s; cache = k; cond = cond; turned = turned })
still_open sizes x s k cond turned o p lawful long = record {
  version = o.version;
  guid = o.guid;
  name = o.name;
  some = o.some;
  few = o.few;
  table = o.table;
  slots = o.slots;
  first = o.first;
  after = o.after;
  group = o.group;
  limits = o.limits;
  dir = o.dir;
  head = o.head;
  streams = o.streams;
  count = o.count;
  cond = lawful;
  turned = long;
  saved = subst (λ (c : CkptPart). IsSaved c (saved_block x.saved)) (sym p.ckpt) o.saved;
  checkpoint = o.checkpoint;
  spelled = p.version ∙ o.spelled;
  devices = p.devices ∙ o.devices;
  rows = λ e lt. p.row e ∙ o.rows e lt;
  lawful = p.lawful o.lawful;
  mounted = record {
    few = let f = o.mounted.few in let n = p.devices in omega (arith, f, n);
    disks = λ e lt there.
        subst (λ (r : DevRow). HasDisk sizes x.table.slots e r.units) (sym (p.row e))
        (o.mounted.disks e (let n = p.devices in omega (arith, lt, n)) (sym (ap (λ (r : DevRow). is_gone r.state) (p.row e)) ∙ there));
    small = λ e. subst (λ (r : DevRow). r.units ≤ 2 ^ 40) (sym (p.row e)) (o.mounted.small e);
    apart = o.mounted.apart;
  };
  disks = o.disks;
}

-- ---- the three turns

module _ (sizes : List ℕ) (x : OpenPool) (s : Space) (d : ℕ) (o : IsOpen sizes x) (known : d < x.table.count) where
  row : DevRow
  row = get_or x.table.rows d no_row

  inside : d < length x.table.rows
  inside = let n = o.table.size in let f = o.few in omega (arith, known, n, f)

  lawful_row : IsTrue (is_row x.version x.group.txg (get_or x.table.rows d no_row))
  lawful_row = each_row (is_row x.version x.group.txg) x.table.rows x.table.count d known inside o.table.devices

  state_is : (st : DevState) → state_of_dev x.space.parts.devs d ≡ st → (get_or x.table.rows d no_row).state ≡ st
  state_is st is = ap (λ (q : DevRow). q.state) (sym (o.rows d known)) ∙ is

  pub leaves_turn : Leaves x.space s d → state_of_dev x.space.parts.devs d ≡ On → HasOther x.space d → TurnsRow x s d (record (get_or x.table.rows d no_row) { state = Leaving })
  leaves_turn l on has = record {
    known = known;
    row_is = l.row_is ∙ ap (λ (q : DevRow). record q { state = Leaving }) (o.rows d known);
    units = ap (λ (q : DevRow). q.units) (sym (o.rows d known));
    lawful_row = row_turned x.version x.group.txg (get_or x.table.rows d no_row) Leaving (get_or x.table.rows d no_row).gone lawful_row
        (λ g. subst (λ (st : DevState). IsTrue (is_going st (get_or x.table.rows d no_row).added (get_or x.table.rows d no_row).gone x.group.txg)) (state_is On on) g);
    there = λ there. ap is_gone on;
    on =
        let count = o.devices in
        let size = o.table.size in
        let few = o.few in
        let lt = has.known in
        let below : has.device < x.table.count = omega (arith, lt, count) in
        let long = length-set x.table.rows d (record (get_or x.table.rows d no_row) { state = Leaving }) in
        any_at (λ (q : DevRow). is_on q.state) (set x.table.rows d (record (get_or x.table.rows d no_row) { state = Leaving })) x.table.count has.device below (omega (arith, below, size, few, long))
        (ap (λ (q : DevRow). is_on q.state) (get_or-set_other x.table.rows d has.device (record (get_or x.table.rows d no_row) { state = Leaving }) no_row has.other)
        ∙ (ap (λ (q : DevRow). is_on q.state) (sym (o.rows has.device below)) ∙ ap is_on has.on));
    version = l.elsewhere.version;
    ckpt = l.elsewhere.ckpt;
    devices = l.elsewhere.devices;
    others = λ e ne. (l.elsewhere.others e ne).row;
    lawful = l.elsewhere.lawful o.lawful;
  }

  pub cancels_turn : Cancels x.space s d → state_of_dev x.space.parts.devs d ≡ Leaving → TurnsRow x s d (record (get_or x.table.rows d no_row) { state = On })
  cancels_turn l out = record {
    known = known;
    row_is = l.row_is ∙ ap (λ (q : DevRow). record q { state = On }) (o.rows d known);
    units = ap (λ (q : DevRow). q.units) (sym (o.rows d known));
    lawful_row = row_turned x.version x.group.txg (get_or x.table.rows d no_row) On (get_or x.table.rows d no_row).gone lawful_row
        (λ g. subst (λ (st : DevState). IsTrue (is_going st (get_or x.table.rows d no_row).added (get_or x.table.rows d no_row).gone x.group.txg)) (state_is Leaving out) g);
    there = λ there. ap is_gone out;
    on =
        let long = length-set x.table.rows d (record (get_or x.table.rows d no_row) { state = On }) in
        any_at (λ (q : DevRow). is_on q.state) (set x.table.rows d (record (get_or x.table.rows d no_row) { state = On })) x.table.count d known (let i = inside in omega (arith, i, long))
        (ap (λ (q : DevRow). is_on q.state) (get_or-set_same x.table.rows d (record (get_or x.table.rows d no_row) { state = On }) no_row inside));
    version = l.elsewhere.version;
    ckpt = l.elsewhere.ckpt;
    devices = l.elsewhere.devices;
    others = λ e ne. (l.elsewhere.others e ne).row;
    lawful = l.elsewhere.lawful o.lawful;
  }

  -- behind metadata that is given back
  pub finishes_turn : (given : Space) → KeepsRows x.space given → Finishes given s d x.group.txg → state_of_dev x.space.parts.devs d ≡ Leaving → IsPast x.group.txg (get_or x.table.rows d no_row) → TurnsRow x s d (record (get_or x.table.rows d no_row) { state = Gone; gone = x.group.txg })
  finishes_turn given k l out past = record {
    known = known;
    row_is = l.row_is ∙ ap (λ (q : DevRow). record q { state = Gone; gone = x.group.txg }) ((k.each d).row ∙ o.rows d known);
    units = ap (λ (q : DevRow). q.units) (sym (o.rows d known));
    lawful_row = row_turned x.version x.group.txg (get_or x.table.rows d no_row) Gone x.group.txg lawful_row (λ g. going_gone (get_or x.table.rows d no_row).added x.group.txg past.added);
    there = λ there. ap is_gone out;
    on =
        let size = o.table.size in
        let few = o.few in
        let some = o.some in
        let new : DevRow = record (get_or x.table.rows d no_row) { state = Gone; gone = x.group.txg } in
        let i = any_index (λ (q : DevRow). is_on q.state) x.table.rows x.table.count (o.table.on some) in
        let long = length-set x.table.rows d new in
        let lt = i.1 in
        let ne : i.0 ≢ d = λ is. false_true (sym (ap is_on (state_is Leaving out)) ∙ subst (λ (e : ℕ). IsTrue (is_on (get_or x.table.rows e no_row).state)) is i.3) in
        any_at (λ (q : DevRow). is_on q.state) (set x.table.rows d new) x.table.count i.0 lt (omega (arith, lt, size, few, long))
        (ap (λ (q : DevRow). is_on q.state) (get_or-set_other x.table.rows d i.0 new no_row ne) ∙ i.3);
    version = l.elsewhere.version ∙ k.version;
    ckpt = l.elsewhere.ckpt ∙ k.ckpt;
    devices = l.elsewhere.devices ∙ k.devices;
    others = λ e ne. (l.elsewhere.others e ne).row ∙ (k.each e).row;
    lawful = l.elsewhere.lawful (k.lawful o.lawful);
  }

-- ---- a device that is gone has no disk

none_some : (slot : ℕ) → None ≡ Some slot → ⊥
none_some slot e = cc

module _ (sizes : List ℕ) (x : OpenPool) (d : ℕ) (o : IsOpen sizes x) (known : d < x.table.count) (gone : is_gone (state_of_dev x.space.parts.devs d) ≡ true) where
  abbrev slots : List (Option ℕ)
  slots = set x.table.slots d None

  slot_room : d < length x.table.slots
  slot_room = let n = o.slots in let f = o.few in omega (arith, known, n, f)

  other_slot : (e : ℕ) → e ≢ d → slot_of slots e ≡ slot_of x.table.slots e
  other_slot e ne = get_or-set_other x.table.slots d e None None ne

  -- a disk that is there was there
  slot_before : (e slot : ℕ) → slot_of slots e ≡ Some slot → slot_of x.table.slots e ≡ Some slot
  slot_before e slot at = elim (cases_eq e d) [
    | inl is ↦ absurd (none_some slot (sym (get_or-set_same x.table.slots d None None slot_room) ∙ subst (λ (i : ℕ). slot_of slots i ≡ Some slot) is at))
    | inr ne ↦ sym (other_slot e ne) ∙ at
  ]

  gone_false : (e : ℕ) → is_gone (state_of_dev x.space.parts.devs e) ≡ false → e ≢ d
  gone_false e there = λ is. false_true (sym there ∙ (ap (λ (i : ℕ). is_gone (state_of_dev x.space.parts.devs i)) is ∙ gone))

  pub forgotten_open : IsOpen sizes (record x { table = without_slot x.table d })
  forgotten_open = record {
    version = o.version;
    guid = o.guid;
    name = o.name;
    some = o.some;
    few = o.few;
    table = o.table;
    slots = length-set x.table.slots d None ∙ o.slots;
    first = o.first;
    after = o.after;
    group = o.group;
    limits = o.limits;
    dir = o.dir;
    head = o.head;
    streams = o.streams;
    count = o.count;
    cond = o.cond;
    turned = o.turned;
    saved = o.saved;
    checkpoint = o.checkpoint;
    spelled = o.spelled;
    devices = o.devices;
    rows = o.rows;
    lawful = o.lawful;
    mounted = record {
      few = o.mounted.few;
      disks = λ e lt there.
          let old = o.mounted.disks e lt there in
          record { slot = old.slot; is = other_slot e (gone_false e there) ∙ old.is; exists = old.exists; fits = old.fits };
      small = o.mounted.small;
      apart = λ a b slot first second. o.mounted.apart a b slot (slot_before a slot first) (slot_before b slot second);
    };
    disks = λ e slot lt at. o.disks e slot lt (slot_before e slot at);
  }

-- ---- which devices there are

-- a device that is leaving is one of the pool's
pub leaving_there : (parts : List DevPart) (d : ℕ) → is_leaving (part_of parts d).row.state ≡ true → d < length parts
leaving_there [] zero is = absurd (false_true is)
leaving_there [] (suc d) is = absurd (false_true is)
leaving_there (p ∷ parts) zero is = omega arith
leaving_there (p ∷ parts) (suc d) is = let r = leaving_there parts d is in omega (arith, r)

-- so is one that is gone
pub gone_there : (parts : List DevPart) (d : ℕ) → is_gone (part_of parts d).row.state ≡ true → d < length parts
gone_there [] zero is = absurd (false_true is)
gone_there [] (suc d) is = absurd (false_true is)
gone_there (p ∷ parts) zero is = omega arith
gone_there (p ∷ parts) (suc d) is = let r = gone_there parts d is in omega (arith, r)

pub leaving_is : (s : DevState) → is_leaving s ≡ true → s ≡ Leaving
leaving_is On is = absurd (false_true is)
leaving_is Leaving is = refl
leaving_is Gone is = absurd (false_true is)
