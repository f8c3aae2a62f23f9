-- The disks show the last root of a pool that is opened, and what an open pool has left is found there.
use Rattle.std.proofs.Common.{◌≡◌, inl, inr, ℕ, ◌+◌, ◌<◌, ◌≤◌, Bool, true, false, List, [], ◌∷◌, map, length, take, Option, Some, None, Result, Ok, Err, refl, sym, ◌∙◌, ap, subst, arith}
use Rattle.std.specs.Prelude.{All, IfOk, if◌then◌else◌, slice_index_or}
use Rattle.std.specs.List.{enumerate_from}
use Rattle.std.proofs.lemmas.Bool.{cases_lt}
use Rattle.std.proofs.lemmas.Bool.Decides.{nat_tests}
use Rattle.std.proofs.lemmas.List.{get_or-take, length-take-le}
use Rattle.std.proofs.lemmas.List.Elements.{All-get_or, All-head, All-tail, All-cons, All-nil}
use Rattle.std.proofs.Math.ListN.{get_or-eq_default}
use Rattle.zr_base.specs.declared.space.DevPart.{DevPart}
use Rattle.zr_base.specs.declared.space.DevRow.{DevRow}
use Rattle.zr_base.specs.declared.space.DevState.{DevState}
use Rattle.zr_base.specs.declared.space.DevState.TheVariants as row
use Rattle.zr_found.proofs.Alone.{one_meaning}
use Rattle.zr_image.specs.Current.{FindsCurrent, ShowsAll, row_at, slots_of}
use Rattle.zr_image.specs.Reading.{store_of}
use Rattle.zr_image.specs.Roots.{IsRowStill, rows_of}
use Rattle.zr_image.specs.StateOf.{device_at, devices_at}
use Rattle.zr_label.specs.Blocks.{IsUber, no_row}
use Rattle.zr_label.specs.declared.root.Seen.{Seen}
use Rattle.zr_label.specs.declared.root.Uber.{Uber}
use Rattle.zr_last.proofs.Lasting.{found_last, publishes}
use Rattle.zr_last.specs.Last.{ShowsLast}
use Rattle.zr_model.specs.Objects.{Objects}
use Rattle.zr_model.specs.State.{Device, PoolState}
use Rattle.zr_newest.proofs.Newest.{above_current, devices_own, devices_seen, only_newest}
use Rattle.zr_newest.proofs.Seen.{seen_labels}
use Rattle.zr_newest.specs.Newest.{HasOwnDevices}
use Rattle.zr_roots.specs.Devices.{IsCut, is_there}
use Rattle.zr_rules.specs.Equation.{devices_in}
use Rattle.zr_rules.specs.Places.{is_gone, is_leaving, no_part, part_of}
use Rattle.zr_shelf.specs.Moments.{World}
use Rattle.zr_slots.specs.declared.pool.Found.{Found}
use Rattle.zr_sync.specs.Commits.{IsShownFrom}
use Rattle.zr_sync.specs.Pools.{IsAfter, IsOpen}
use Rattle.zr_sync.specs.declared.fault.Fault.{Fault}
use Rattle.zr_sync.specs.declared.open.OpenPool.{OpenPool}
use Rattle.zr_vdev.specs.Runs.{view_of}
use Rattle.zr_view.specs.Views.{slot_of}
use Rattle.zr_current.specs.Current.{GoesOnFrom, HasSlots}
use Rattle.zr_open.specs.Left.{LeavesObjects}
use Rattle.zr_open.specs.Looked.{IsLooked}
use Rattle.zr_open.specs.Opened.{IsFresh}
use Rattle.zr_open.specs.Rewound.{rewound}
use Rattle.zr_open.specs.Scanned.{IsScanned}
use Rattle.zr_open.specs.Shown.{Shows}
use Rattle.zr_open.specs.There.{AreThere, IsStillThere}
use Rattle.zr_open.specs.declared.find.Scanned.{Scanned}
use Rattle.zr_open.specs.declared.look.Looked.{Looked}
use Rattle.zr_open.proofs.Beside.{cut_there, same_row, within}
use Rattle.zr_open.proofs.Left.{objects_meant}
use Rattle.zr_open.proofs.Same.{shown_objects}

-- ---- a pool of the current root

pub fresh_from : (u : Uber) (pool : OpenPool) → IsFresh u pool → GoesOnFrom u pool
fresh_from u pool h = record { last = h.last; guid = h.guid; count = h.count; rows = h.rows }

pub looked_last : (sizes : List ℕ) (tells : Type 0) (told : tells) (disks : List (List ℕ)) (l : Looked) → IsLooked sizes tells disks l → ShowsLast disks l.pool
looked_last sizes tells told disks l h =
    found_last disks h.finds.seen l.found.root l.pool (h.finds.shown.shows told) h.finds.finds (fresh_from l.found.root l.pool h.at.fresh) (subst (HasSlots (slots_of l.found.root h.finds.seen)) (sym h.at.same) h.slots)

-- so where it was looked at by what was found
pub scanned_last : (sizes : List ℕ) (tells : Type 0) (told : tells) (disks : List (List ℕ)) (s : Scanned) (l : Looked) → IsScanned sizes tells disks s → l.found ≡ s.found → IsFresh l.found.root l.pool → l.pool.table.slots ≡ l.found.slots → ShowsLast disks l.pool
scanned_last sizes tells told disks s l h found fresh same =
    found_last disks s.seen s.found.root l.pool (h.shown.shows told) h.finds (fresh_from s.found.root l.pool (subst (λ (f : Found). IsFresh f.root l.pool) found fresh))
    (subst (HasSlots (slots_of s.found.root s.seen)) (sym (same ∙ ap (λ (f : Found). f.slots) found)) h.slots)

-- ---- a pool of a root that is published above the current one

module _ (sizes : List ℕ) (seen : List Seen) (current next : Uber) (slots : List (Option ℕ)) (before now : World) (sized : map length before.now.seen ≡ sizes) (shown : ShowsAll before.now.seen seen) (finds : FindsCurrent seen (Ok current)) (later : current.txg < next.txg)
    (devices : HasSlots (slots_of next seen) slots) where
  pub published_last : (pool : OpenPool) → IsOpen sizes pool → IsFresh next pool → pool.table.slots ≡ slots → IsShownFrom sizes (record pool { last = Some current }) next before now → ShowsLast now.now.seen pool
  published_last pool ready fresh placed published =
      let lawful : IsUber next = (subst (λ (o : Option Uber). IsAfter o pool.group.txg) fresh.last ready.after).0 in
      record {
        root = next;
        from = fresh_from next pool fresh;
        newest = publishes sizes pool (Some current) next before now seen ready sized lawful (sym fresh.count) (sym fresh.rows) published (above_current before.now.seen seen current next shown finds later) (seen_labels before.now.seen seen shown)
            (subst (HasSlots (slots_of next seen)) (sym placed) devices);
      }

  pub published_if : (r : Result OpenPool Fault) → IfOk r (IsOpen sizes) → IfOk r (IsFresh next) → IfOk r (λ pool. pool.table.slots ≡ slots) → IfOk r (λ pool. IsShownFrom sizes (record pool { last = Some current }) next before now) → IfOk r (ShowsLast now.now.seen)
  published_if (Ok pool) ready fresh placed published = published_last pool ready fresh placed published
  published_if (Err e) ready fresh placed published = tt

-- a saved root has its devices where the current one has them
pub saved_own : (u saved : Uber) (slots cut : List (Option ℕ)) (txg : ℕ) → IsUber u → IsUber saved → saved.guid ≡ u.guid → ((d : ℕ) → d < saved.count → IsRowStill (row_at saved d) (row_at u d)) → IsCut saved slots cut → HasOwnDevices u (rewound saved txg) slots cut
saved_own u saved slots cut txg is saved_is guid still own = record {
  guid = guid;
  there = λ d lt there. (within u saved is saved_is still d lt there, same_row u saved is saved_is still d lt there, cut_there saved slots cut own d lt there);
  gone = λ d lt gone. not_there d (let absent : is_there saved d ≡ false = grind (arith, nat_tests, lt, gone) in absent);
  past = λ d le. not_there d (let absent : is_there saved d ≡ false = grind (arith, nat_tests, le) in absent);
}
  where
    not_there : (d : ℕ) → is_there saved d ≡ false → slot_of cut d ≡ None
    not_there d absent = own d ∙ ap (λ (b : Bool). if b then slot_of slots d else None) absent

-- so they are where the labels say
pub saved_at : (u saved : Uber) (slots cut : List (Option ℕ)) (txg : ℕ) (seen : List Seen) → HasSlots (slots_of u seen) slots → HasOwnDevices u (rewound saved txg) slots cut → HasSlots (slots_of (rewound saved txg) seen) cut
saved_at u saved slots cut txg seen devices own = devices_own u (rewound saved txg) slots cut seen devices own

-- ---- devices that are there

there_row : (paths : List (List ℕ)) (state : DevState) (slot : Option ℕ) → IsStillThere (device_at paths state slot) → is_gone state ≡ false
there_row paths state None there = absurd there
there_row paths row.On (Some slot) there = refl
there_row paths row.Leaving (Some slot) there = refl
there_row paths row.Gone (Some slot) there = absurd there

abbrev placed : List (List ℕ) → List (Option ℕ) → ℕ × DevRow → Device
placed paths slots p = device_at paths p.1.state (slice_index_or slots p.0 None)

there_rows : (paths : List (List ℕ)) (slots : List (Option ℕ)) (n : ℕ) (rows : List DevRow) → All IsStillThere (map (placed paths slots) (enumerate_from n rows)) → All (λ (r : DevRow). is_gone r.state ≡ false) rows
there_rows paths slots n [] there = All-nil (λ (r : DevRow). is_gone r.state ≡ false)
there_rows paths slots n (r ∷ rows) there =
    let rest = map (placed paths slots) (enumerate_from (n + 1) rows) in
    All-cons (λ (x : DevRow). is_gone x.state ≡ false) r rows
    (there_row paths r.state (slice_index_or slots n None) (All-head IsStillThere (placed paths slots (n, r)) rest there))
    (there_rows paths slots (n + 1) rows (All-tail IsStillThere (placed paths slots (n, r)) rest there))

module _ (paths disks : List (List ℕ)) (sizes : List ℕ) (u : Uber) (pool : OpenPool) (ready : IsOpen sizes pool) (from : GoesOnFrom u pool) (slots : List (Option ℕ)) (there : All IsStillThere (devices_at paths slots u)) where
  pub all_there : AreThere (devices_in pool.space)
  all_there d = elim (cases_lt d u.count) [
    | inl lt ↦
        let n = from.count in let few = ready.few in let size = ready.table.size in
        let long = length-take-le u.count u.rows (let same = ap (λ (rs : List DevRow). length rs) from.rows in omega (arith, size, few, n, same)) in
        let at = All-get_or (λ (r : DevRow). is_gone r.state ≡ false) (rows_of u) d no_row (omega (arith, lt, long)) (there_rows paths slots 0 (rows_of u) there) in
        ap (λ (r : DevRow). is_gone r.state) (ready.rows d (omega (arith, n, lt)) ∙ (ap (λ (rs : List DevRow). slice_index_or rs d no_row) from.rows ∙ sym (get_or-take u.count u.rows d no_row lt))) ∙ at
    | inr ge ↦
        let n = from.count in let m = ready.devices in
        ap (λ (p : DevPart). is_gone p.row.state) (get_or-eq_default pool.space.parts.devs no_part {n = d} (omega (arith, n, m, ge)))
  ]

-- ---- what was left is found

pub left_found : (paths disks : List (List ℕ)) (sizes : List ℕ) (pool : OpenPool) (objects : Objects) (p : PoolState) → IsOpen sizes pool → LeavesObjects disks pool objects → Shows paths disks p → All IsStillThere p.devs → p.objects ≡ objects
left_found paths disks sizes pool objects p ready left shows there =
    let u = left.last.root in
    let newest = left.last.newest in
    let from = left.last.from in
    let same = only_newest disks u pool.table.slots shows.seen newest shows.shown shows.root.uber shows.current in
    let here = subst (λ (devs : List Device). All IsStillThere devs) shows.means.devs there in
    let own = subst (λ (v : Uber). All IsStillThere (devices_at paths (slots_of v shows.seen) v)) same here in
    let on = all_there paths disks sizes u pool ready from (slots_of u shows.seen) own in
    one_meaning (store_of (view_of disks pool.table.slots pool.space)) pool.dir p.objects objects
    (shown_objects paths disks sizes u pool p ready on from left.head shows same (devices_seen disks u pool.table.slots shows.seen newest shows.shown)) (objects_meant (Unit {0}) disks pool objects left.empty left.holds)
