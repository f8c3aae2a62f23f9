-- A device of which only changes whether it is leaving, or of which units are copied, is read as before: the disks hold the same objects, and show the last root.
use Rattle.std.proofs.Common.{◌≡◌, ◌≢◌, ◌⊎◌, inl, inr, ℕ, ◌+◌, ◌-◌, ◌<◌, ◌≤◌, Bool, true, false, List, [], ◌∷◌, ◌++◌, map, length, Option, Some, None, refl, sym, ◌∙◌, ap, subst, arith}
use Rattle.std.specs.Prelude.{IfSome, if◌then◌else◌, nat_lt, slice_index, slice_index_or, slice_set}
use Rattle.std.proofs.Math.Path.{fun_ext}
use Rattle.std.proofs.lemmas.Bool.{cases_Bool, cases_eq}
use Rattle.std.proofs.lemmas.Bool.Decides.{nat_tests}
use Rattle.std.proofs.lemmas.List.{get_or-set_same, get_or-set_other}
use Rattle.zr_base.specs.Extents.{has_unit}
use Rattle.zr_base.specs.declared.space.DevRow.{DevRow}
use Rattle.zr_base.specs.declared.space.DevState.{DevState}
use Rattle.zr_base.specs.declared.space.DevState.TheVariants.{Gone, Leaving, On}
use Rattle.zr_base.specs.declared.space.Dva.{Dva}
use Rattle.zr_base.specs.declared.space.Entry.{Entry}
use Rattle.zr_base.specs.declared.space.Extent.{Extent}
use Rattle.zr_base.specs.declared.space.Policy.{Policy}
use Rattle.zr_cache.specs.declared.table.Cache.{Cache}
use Rattle.zr_gone.proofs.Copies.{target_copy}
use Rattle.zr_label.specs.Blocks.{no_row}
use Rattle.zr_label.specs.declared.root.Seen.{Seen}
use Rattle.zr_label.specs.declared.root.Uber.{Uber}
use Rattle.zr_last.proofs.Lasting.{commit_places, follows_devices, units_last}
use Rattle.zr_last.specs.Last.{KeepsDevices, KeepsLast, ShowsLast}
use Rattle.zr_model.specs.Objects.{Objects}
use Rattle.zr_newest.proofs.Newest.{above_newest}
use Rattle.zr_newest.proofs.Seen.{slots_alike}
use Rattle.zr_newest.specs.Newest.{AreAt, HasSameDevices, IsAbove}
use Rattle.zr_rules.specs.Devices.{Devices, state_at}
use Rattle.zr_rules.specs.Equation.{Spends, devices_in, fresh_in, ways_in}
use Rattle.zr_rules.specs.Mappings.{entry_at, in_source, target}
use Rattle.zr_rules.specs.Places.{Place, count_below, in_address, is_fresh, is_gone, is_kept, is_leaving, part_of, state_of_dev, units_of_dev}
use Rattle.zr_rules.specs.Resolve.{leads_to}
use Rattle.zr_rules.specs.Roles.{Role, is_copy_role, is_held_role, is_kept_role, is_live_role}
use Rattle.zr_rules.specs.Roles.Role.{Free, FreshCopy}
use Rattle.zr_rules.specs.Space.{IsLawful, Space, role_at}
use Rattle.zr_rules.specs.Steps.{IsSameElsewhere}
use Rattle.zr_shelf.specs.Disks.{PendingWrite}
use Rattle.zr_shelf.specs.Doings.{WritesOnly}
use Rattle.zr_shelf.specs.Moments.{World}
use Rattle.zr_space.specs.Live.{IsFreeable}
use Rattle.zr_space.specs.Plans.{IsPlan, MakesCopy}
use Rattle.zr_space.specs.declared.copy.Plan.{Plan}
use Rattle.zr_store.specs.Store.{Now, Stored, Swaps}
use Rattle.zr_sync.proofs.Stays.{objects_stay}
use Rattle.zr_sync.specs.Commits.{IsNextRoot, IsShownFrom}
use Rattle.zr_sync.specs.Objects.{HoldsObjects}
use Rattle.zr_sync.specs.Pools.{IsAfter, IsOpen, IsSamePool}
use Rattle.zr_sync.specs.Writes.{WritesIntoFree}
use Rattle.zr_sync.specs.declared.open.OpenPool.{OpenPool}
use Rattle.zr_sync.specs.declared.open.Table.{Table}
use Rattle.zr_vdev.proofs.Follows.{widen}
use Rattle.zr_vdev.proofs.Frames.{run_stays}
use Rattle.zr_vdev.proofs.Held.{address_same, one_unit}
use Rattle.zr_vdev.proofs.Moves.{held_again}
use Rattle.zr_vdev.specs.Alike.{IsCopyAt}
use Rattle.zr_vdev.specs.Caches.{AreRead}
use Rattle.zr_vdev.specs.Copies.{CopiesUnits, IsWriteIntoFree}
use Rattle.zr_vdev.specs.Runs.{view_of}
use Rattle.zr_vdev.specs.Stores.{HoldsBlocks, IsWriteInto, LeadsToAll, addresses_of, is_open_role, may_write}
use Rattle.zr_vdev.specs.declared.kind.Kind.TheVariants.{Block, Meta}
use Rattle.zr_view.specs.Views.{address_bytes, slot_of}
use Rattle.zr_removal.specs.Rows.{with_row}
use Rattle.zr_removal.specs.Turns.{LeavesPool}
use Rattle.zr_removal.proofs.Alike.{bytes_same, hits_same, is_resolved_same, leads_same, live_same, unit_same, ways_same}

-- One device turns, and is there before and behind it: what is in use by blocks stays so, and nothing more is marked.
pub record TurnsOne (s t : Space) (d : ℕ) : Type 0 where
  pub was : is_gone (state_of_dev s.parts.devs d) ≡ false
  pub is : is_gone (state_of_dev t.parts.devs d) ≡ false
  pub units : (part_of t.parts.devs d).row.units ≡ (part_of s.parts.devs d).row.units
  pub fresh : (u : ℕ) → is_fresh s.parts.devs d u ≡ false → is_fresh t.parts.devs d u ≡ false
  pub live : (e u : ℕ) → is_live_role (role_at s e u) ≡ true → is_live_role (role_at t e u) ≡ true
  pub elsewhere : IsSameElsewhere s t d

-- The units in use by blocks were so before, and each copy was one before, or is of a unit that was in use.
pub record KeepsUsed (s t : Space) : Type 0 where
  pub live : (e u : ℕ) → is_live_role (role_at t e u) ≡ true → is_live_role (role_at s e u) ≡ true
  pub copied : (e u : ℕ) (p : Place) → IsCopyAt t e u p → IsCopyAt s e u p ⊎ (is_live_role (role_at s e u) ≡ true)

module _ (s t : Space) (d : ℕ) (h : TurnsOne s t d) where
  abbrev es : Devices
  es = devices_in t

  abbrev ds : Devices
  ds = devices_in s

  -- ---- the devices

  pub count : es.count ≡ ds.count
  count = h.elsewhere.devices

  pub gone_same : (e : ℕ) → is_gone (state_at es e) ≡ is_gone (state_at ds e)
  gone_same e = elim (cases_eq e d) [
    | inl here ↦ subst (λ (k : ℕ). is_gone (state_at es k) ≡ is_gone (state_at ds k)) (sym here) (h.is ∙ sym h.was)
    | inr other ↦ ap (λ (r : DevRow). is_gone r.state) (h.elsewhere.others e other).row
  ]

  pub size_same : (e : ℕ) → (es.row e).units ≡ (ds.row e).units
  size_same e = elim (cases_eq e d) [
    | inl here ↦ subst (λ (k : ℕ). (es.row k).units ≡ (ds.row k).units) (sym here) h.units
    | inr other ↦ ap (λ (r : DevRow). r.units) (h.elsewhere.others e other).row
  ]

  -- one that is gone is another
  other_gone : (e : ℕ) → is_gone (state_at ds e) ≡ true → e ≢ d
  other_gone e gone here = let no_way : false ≡ true = sym h.was ∙ subst (λ (k : ℕ). is_gone (state_at ds k) ≡ true) here gone in absurd cc

  pub maps_same : (e : ℕ) → is_gone (state_at ds e) ≡ true → es.entries e ≡ ds.entries e
  maps_same e gone = (h.elsewhere.others e (other_gone e gone)).entries

  -- ---- what may be given back

  fresh_no : (e u : ℕ) → is_fresh s.parts.devs e u ≡ false → is_fresh t.parts.devs e u ≡ false
  fresh_no e u none = elim (cases_eq e d) [
    | inl here ↦ subst (λ (k : ℕ). is_fresh t.parts.devs k u ≡ false) (sym here) (h.fresh u (subst (λ (k : ℕ). is_fresh s.parts.devs k u ≡ false) here none))
    | inr other ↦ h.elsewhere.fresh e u other ∙ none
  ]

  -- the entry of a device that is gone
  entry_same : (list : List Dva) (e i : ℕ) → e ≢ d
      → slice_index (part_of s.parts.devs e).counts i + fresh_in (part_of s.parts.devs e) (entry_at (part_of s.parts.devs e).entries i) + ways_in ds list e (entry_at (part_of s.parts.devs e).entries i) ≤ (entry_at (part_of s.parts.devs e).entries i).len
      → slice_index (part_of t.parts.devs e).counts i + fresh_in (part_of t.parts.devs e) (entry_at (part_of t.parts.devs e).entries i) + ways_in es list e (entry_at (part_of t.parts.devs e).entries i) ≤ (entry_at (part_of t.parts.devs e).entries i).len
  entry_same list e i other most =
      let part = h.elsewhere.others e other in
      let old = part_of s.parts.devs e in
      let new = part_of t.parts.devs e in
      let entry : entry_at new.entries i ≡ entry_at old.entries i = ap (λ (them : List Entry). entry_at them i) part.entries in
      let counts : slice_index new.counts i ≡ slice_index old.counts i = ap (λ (ns : List ℕ). slice_index ns i) part.counts in
      let at = entry_at old.entries i in
      let fresh : fresh_in new at ≡ fresh_in old at = ap (λ (test : ℕ → Bool). count_below at.len (λ k. test (at.src + k))) (fun_ext (λ (u : ℕ). h.elsewhere.fresh e u other)) in
      let ways : ways_in es list e at ≡ ways_in ds list e at = ap (λ (hits : ℕ → ℕ). count_below at.len (λ k. nat_lt 0 (hits (at.src + k)))) (fun_ext (λ (u : ℕ). ways_same es ds count gone_same size_same maps_same list e u)) in
      subst (λ (it : Entry). slice_index new.counts i + fresh_in new it + ways_in es list e it ≤ it.len) (sym entry) (omega (arith, counts, fresh, ways, most))

  spends_turned : (list : List Dva) → Spends s list → Spends t list
  spends_turned list sp = record {
    passed = λ e u some. fresh_no e u (sp.passed e u (let same = ways_same es ds count gone_same size_same maps_same list e u in omega (arith, same, some)));
    entries = λ e i gone lt.
        let was = sym (gone_same e) ∙ gone in
        let other = other_gone e was in
        entry_same list e i other (sp.entries e i was (let same = ap (λ (them : List Entry). length them) (h.elsewhere.others e other).entries in omega (arith, same, lt)));
  }

  freeable_turned : (a : Dva) → IsFreeable s a → IsFreeable t a
  freeable_turned a is = record {
    known = (let known = is.known in let many = count in omega (arith, known, many));
    some = is.some;
    resolves = is_resolved_same es ds count gone_same size_same maps_same a ∙ is.resolves;
    once = λ e u. (let most = is.once e u in let same = hits_same es ds count gone_same size_same maps_same a e u in omega (arith, most, same));
    used = λ e u leads. h.live e u (is.used e u (sym (leads_same es ds count gone_same size_same maps_same a e u) ∙ leads));
    spends = spends_turned (a ∷ []) is.spends;
  }

  -- some pointer leads to each unit in use still
  leads_turned : KeepsUsed s t → (list : List Dva) → LeadsToAll s list → LeadsToAll t list
  leads_turned keeps list all = record {
    used = λ e u live. (let some = all.used e u (keeps.live e u live) in let same = live_same es ds count gone_same size_same maps_same list e u in omega (arith, some, same));
    copied = λ e u p copy. h.live e u (elim (keeps.copied e u p copy) [
      | inl was ↦ all.copied e u p was
      | inr live ↦ live
    ]);
  }

  -- ---- what the disks hold

  pub reads_turned : (disks : List (List ℕ)) (slots : List (Option ℕ)) (c : Cache) → AreRead disks slots s c → AreRead disks slots t c
  reads_turned disks slots c read e among =
      let was = read e among in
      let at = e.0.pointer.at in
      record {
        runs_of = record {
          resolves = is_resolved_same es ds count gone_same size_same maps_same at ∙ was.runs_of.resolves;
          follow = was.runs_of.follow;
          targets = λ k lt. was.runs_of.targets k lt ∙ sym (unit_same es ds count gone_same size_same maps_same at.dev (at.start + k));
        };
        same = was.same ∙ sym (bytes_same es ds count gone_same size_same maps_same disks slots at);
      }

  -- what is in use has its bytes, on these disks as on those
  pub blocks_turned : KeepsUsed s t → (slots : List (Option ℕ)) (t1 t2 : Type 0) (before now : List (List ℕ)) (c k : Cache) (st : Stored) → t2 → AreRead now slots t k → ((a : Dva) → IsFreeable s a → address_bytes (view_of now slots s) a ≡ address_bytes (view_of before slots s) a)
      → HoldsBlocks Block slots t1 before s None c st → Now (HoldsBlocks Block slots t2 now t None k) (λ n. Swaps st n [] [])
  blocks_turned keeps slots t1 t2 before now c k st told read bytes held =
      held_again Block slots t1 t2 before now s t None c k st told read
      (λ a is. record { used = freeable_turned a is.used; whole = tt })
      (λ a is. bytes_same es ds count gone_same size_same maps_same now slots a ∙ bytes a is.used)
      (λ e u. (let most = held.once e u in let same = live_same es ds count gone_same size_same maps_same (addresses_of st.pointers) e u in omega (arith, most, same)))
      (leads_turned keeps (addresses_of st.pointers) held.all)
      (spends_turned (addresses_of st.pointers) held.back)
      held

-- ---- a device leaves the service

leaves_one : (x y : OpenPool) (d : ℕ) → LeavesPool x y d → state_of_dev x.space.parts.devs d ≡ On → TurnsOne x.space y.space d
leaves_one x y d h on = record {
  was = ap (λ (s : DevState). is_gone s) on;
  is = ap (λ (r : DevRow). is_gone r.state) h.leaves.row_is;
  units = ap (λ (r : DevRow). r.units) h.leaves.row_is;
  fresh = λ u none. ap (λ (list : List Extent). has_unit list u) h.leaves.fresh;
  live = λ e u is. ap (λ (r : Role). is_live_role r) (h.leaves.roles e u) ∙ is;
  elsewhere = h.leaves.elsewhere;
}

-- the device has no entries yet, so the copies are those of before
leaves_used : (x y : OpenPool) (d : ℕ) → LeavesPool x y d → KeepsUsed x.space y.space
leaves_used x y d h = record {
  live = λ e u is. ap (λ (r : Role). is_live_role r) (sym (h.leaves.roles e u)) ∙ is;
  copied = λ e u p copy. elim (cases_eq e d) [
    | inl here ↦
        let empty : (part_of y.space.parts.devs e).entries ≡ [] = ap (λ (k : ℕ). (part_of y.space.parts.devs k).entries) here ∙ h.leaves.entries in
        let no_way : None ≡ Some p = sym (ap (λ (es : List Entry). target es u) empty) ∙ copy.leads in
        absurd cc
    | inr other ↦
        let part = h.leaves.elsewhere.others e other in
        inl (record {
          leaving = sym (ap (λ (r : DevRow). is_leaving r.state) part.row) ∙ copy.leaving;
          within = subst (λ (r : DevRow). u < r.units) part.row copy.within;
          unmarked = sym (h.leaves.elsewhere.fresh e u other) ∙ copy.unmarked;
          leads = sym (ap (λ (es : List Entry). target es u) part.entries) ∙ copy.leads;
          copy = ap is_copy_role (sym (h.leaves.roles p.0 p.1)) ∙ copy.copy;
        })
  ];
}

-- the disks hold the same objects for a pool of which one device turned
pub objects_turned : (x y : OpenPool) (d : ℕ) → TurnsOne x.space y.space d → KeepsUsed x.space y.space → y.table.slots ≡ x.table.slots → y.cache ≡ x.cache → y.dir ≡ x.dir → y.group ≡ x.group → (t : Type 0) (disks : List (List ℕ)) (objects : Objects) → HoldsObjects t disks x objects → HoldsObjects t disks y objects
objects_turned x y d one keeps slots cache dir group t disks objects holds =
    let these = x.table.slots in
    let again = blocks_turned x.space y.space d one keeps these t t disks disks x.cache x.cache holds.stored holds.held.told (reads_turned x.space y.space d one disks these x.cache holds.held.read) (λ a is. refl) holds.held in
    objects_stay x y objects dir group holds
    (subst (λ (those : List (Option ℕ)). Now (HoldsBlocks Block those t disks y.space None y.cache) (λ n. Swaps holds.stored n [] [])) (sym slots)
    (subst (λ (k : Cache). Now (HoldsBlocks Block these t disks y.space None k) (λ n. Swaps holds.stored n [] [])) (sym cache) again))

pub objects_out : (x y : OpenPool) (d : ℕ) → LeavesPool x y d → state_of_dev x.space.parts.devs d ≡ On → (t : Type 0) (disks : List (List ℕ)) (objects : Objects) → HoldsObjects t disks x objects → HoldsObjects t disks y objects
objects_out x y d h on t disks objects holds =
    objects_turned x y d (leaves_one x y d h on) (leaves_used x y d h) (ap (λ (w : Table). w.slots) h.table) (ap (λ (p : OpenPool). p.cache) h.rest) (ap (λ (p : OpenPool). p.dir) h.rest) (ap (λ (p : OpenPool). p.group) h.rest) t disks objects holds

-- ---- units of it are copied

there_leaving : (s : DevState) → is_leaving s ≡ true → is_gone s ≡ false
there_leaving On is = absurd (let no_way : false ≡ true = is in cc)
there_leaving Leaving is = refl
there_leaving Gone is = absurd (let no_way : false ≡ true = is in cc)

live_else : (b : Bool) (r : Role) → is_live_role r ≡ true → (b ≡ true → r ≡ Free) → is_live_role (if b then FreshCopy else r) ≡ true
live_else true r is free = absurd (let no_way : false ≡ true = sym (ap (λ (q : Role). is_live_role q) (free refl)) ∙ is in cc)
live_else false r is free = is

pub plan_free : (old : Space) (d : ℕ) (p : Plan) → IsPlan old d p → (e u : ℕ) → in_address p.to e u ≡ true → role_at old e u ≡ Free
plan_free old d p plan e u inside =
    let dev : e ≡ p.to.dev = grind (arith, nat_tests, inside) in
    let here : in_address p.to p.to.dev u ≡ true = subst (λ (k : ℕ). in_address p.to k u ≡ true) dev inside in
    subst (λ (k : ℕ). role_at old k u ≡ Free) (sym dev) (plan.free u here)

pub copies_one : (old new : Space) (d : ℕ) (p : Plan) → IsPlan old d p → MakesCopy old new d p → TurnsOne old new d
copies_one old new d p plan m = record {
  was = there_leaving (state_of_dev old.parts.devs d) plan.leaving;
  is = ap (λ (r : DevRow). is_gone r.state) m.row_is ∙ there_leaving (state_of_dev old.parts.devs d) plan.leaving;
  units = ap (λ (r : DevRow). r.units) m.row_is;
  fresh = λ u none. ap (λ (list : List Extent). has_unit list u) m.fresh ∙ none;
  live = λ e u is.
      ap (λ (r : Role). is_live_role r) (m.roles e u)
      ∙ live_else (in_address p.to e u) (role_at old e u) is (plan_free old d p plan e u);
  elsewhere = m.elsewhere;
}

-- a unit has gone where the entries of before say, or it is one of the last
target_last : (xs : List Entry) (e : Entry) (u : ℕ) (q : Place) → target (xs ++ e ∷ []) u ≡ Some q → (target xs u ≡ Some q) ⊎ (in_source e u ≡ true)
target_last [] e u q is = elim (cases_Bool (in_source e u)) [
  | inl here ↦ inr here
  | inr out ↦
      let no_way : None ≡ Some q = sym (ap (λ (b : Bool). if b then Some (e.dev, e.dst + (u - e.src)) else None) out) ∙ is in
      absurd cc
]
target_last (x ∷ xs) e u q is = elim (cases_Bool (in_source x u)) [
  | inl here ↦
      let rest : List Entry → Option Place = λ (es : List Entry). target es u in
      inl (ap (λ (b : Bool). if b then Some (x.dev, x.dst + (u - x.src)) else rest xs) here ∙ sym (ap (λ (b : Bool). if b then Some (x.dev, x.dst + (u - x.src)) else rest (xs ++ e ∷ [])) here) ∙ is)
  | inr out ↦ elim (target_last xs e u q (sym (ap (λ (b : Bool). if b then Some (x.dev, x.dst + (u - x.src)) else target (xs ++ e ∷ []) u) out) ∙ is)) [
    | inl old ↦ inl (ap (λ (b : Bool). if b then Some (x.dev, x.dst + (u - x.src)) else target xs u) out ∙ old)
    | inr new ↦ inr new
  ]
]

not_kept : (s : Space) (d u : ℕ) → is_kept s.parts.devs d u ≡ false → is_kept_role (role_at s d u) ≡ false
unfolding role_at
not_kept s d u none = grind (arith, nat_tests, none)

live_alone : (r : Role) → is_held_role r ≡ true → is_kept_role r ≡ false → is_copy_role r ≡ false → is_live_role r ≡ true
live_alone r held kept copy = grind (arith, nat_tests, held, kept, copy)

live_before : (b : Bool) (r : Role) → is_live_role (if b then FreshCopy else r) ≡ true → is_live_role r ≡ true
live_before true r is = absurd (let no_way : false ≡ true = is in cc)
live_before false r is = is

-- what is copied is in use, where the device has no kept units and no copies
module _ (old new : Space) (d : ℕ) (p : Plan) (lawful : IsLawful old) (unkept : (u : ℕ) → is_kept old.parts.devs d u ≡ false) (none : (u : ℕ) → is_copy_role (role_at old d u) ≡ false) (plan : IsPlan old d p) (m : MakesCopy old new d p) where
  source_live : (u : ℕ) → in_source (record { src = p.from.start; dev = p.to.dev; dst = p.to.start; len = p.from.len }) u ≡ true → is_live_role (role_at old d u) ≡ true
  source_live u inside = live_alone (role_at old d u) (plan.held u (grind (arith, nat_tests, inside))) (not_kept old d u (unkept u)) (none u)

  was_there : (e u : ℕ) (q : Place) → is_leaving (state_of_dev old.parts.devs e) ≡ true → u < units_of_dev old.parts.devs e → is_fresh old.parts.devs e u ≡ false → target (part_of old.parts.devs e).entries u ≡ Some q → IsCopyAt old e u q
  was_there e u q leaving within unmarked to = record { leaving = leaving; within = within; unmarked = unmarked; leads = to; copy = target_copy old lawful e u q leaving unmarked to }

  copy_here : (u : ℕ) (q : Place) → IsCopyAt new d u q → IsCopyAt old d u q ⊎ (is_live_role (role_at old d u) ≡ true)
  copy_here u q copy =
      let within : u < units_of_dev old.parts.devs d = subst (λ (r : DevRow). u < r.units) m.row_is copy.within in
      let unmarked : is_fresh old.parts.devs d u ≡ false = sym (ap (λ (list : List Extent). has_unit list u) m.fresh) ∙ copy.unmarked in
      elim (target_last (part_of old.parts.devs d).entries (record { src = p.from.start; dev = p.to.dev; dst = p.to.start; len = p.from.len }) u q (sym (ap (λ (es : List Entry). target es u) m.entries) ∙ copy.leads)) [
        | inl to ↦ inl (was_there d u q plan.leaving within unmarked to)
        | inr inside ↦ inr (source_live u inside)
      ]

  pub copies_used : KeepsUsed old new
  copies_used = record {
    live = λ e u is. live_before (in_address p.to e u) (role_at old e u) (sym (ap (λ (r : Role). is_live_role r) (m.roles e u)) ∙ is);
    copied = λ e u q copy. elim (cases_eq e d) [
      | inl here ↦ subst (λ (k : ℕ). IsCopyAt old k u q ⊎ (is_live_role (role_at old k u) ≡ true)) (sym here) (copy_here u q (subst (λ (k : ℕ). IsCopyAt new k u q) here copy))
      | inr other ↦
          let part = m.elsewhere.others e other in
          inl (was_there e u q
          (sym (ap (λ (r : DevRow). is_leaving r.state) part.row) ∙ copy.leaving)
          (subst (λ (r : DevRow). u < r.units) part.row copy.within)
          (sym (m.elsewhere.fresh e u other) ∙ copy.unmarked)
          (sym (ap (λ (es : List Entry). target es u) part.entries) ∙ copy.leads))
    ];
  }

-- no unit may be written behind it that might not before
opened_else : (b : Bool) (r : Role) → (b ≡ true → r ≡ Free) → is_open_role (if b then FreshCopy else r) ≡ true → is_open_role r ≡ true
opened_else true r free is = ap is_open_role (free refl)
opened_else false r free is = is

pub copies_open : (policy : Policy) (slots : List (Option ℕ)) (told : Type 0) (before now : World) (old new : Space) (n : ℕ) → CopiesUnits policy slots told before now old new n → (e u : ℕ) → is_open_role (role_at new e u) ≡ true → is_open_role (role_at old e u) ≡ true
copies_open policy slots told before now old new n copies e u is =
    opened_else (in_address copies.plan.to e u) (role_at old e u) (plan_free old copies.dev copies.plan copies.plans.plan e u) (sym (ap (λ (r : Role). is_open_role r) (copies.makes.roles e u)) ∙ is)

-- what is in use is not free, so a write into free units leaves its bytes
free_writes : (slots : List (Option ℕ)) (s : Space) (before now : World) (a : Dva) → ((d e slot : ℕ) → slot_of slots d ≡ Some slot → slot_of slots e ≡ Some slot → d ≡ e) → WritesOnly (IsWriteIntoFree slots s) before now → IsFreeable s a
    → address_bytes (view_of now.now.seen slots s) a ≡ address_bytes (view_of before.now.seen slots s) a
free_writes slots s before now a apart wrote is =
    address_same slots (devices_in s) before.now.seen now.now.seen a (λ d u led. run_stays Meta slots s (one_unit d u) (omega arith) (barred d u led) apart before now wrote)
  where
    live_barred : (r : Role) → is_live_role r ≡ true → may_write Meta r ≡ false
    live_barred r live = grind (arith, nat_tests, live)

    barred : (d u : ℕ) → leads_to (devices_in s) a d u ≡ true → (e v : ℕ) → in_address (one_unit d u) e v ≡ true → may_write Meta (role_at s e v) ≡ false
    barred d u led e v inside =
        let dev : e ≡ d = grind (arith, nat_tests, inside) in
        let unit : v ≡ u = grind (arith, nat_tests, inside) in
        ap (λ (y : ℕ). may_write Meta (role_at s y v)) dev ∙ (ap (λ (w : ℕ). may_write Meta (role_at s d w)) unit ∙ live_barred (role_at s d u) (is.used d u led))

-- so the disks hold the same objects behind a copy
pub objects_copied : (policy : Policy) (x y : OpenPool) (t0 t1 t2 : Type 0) (before now : World) (n : ℕ) (objects : Objects) → ((d e slot : ℕ) → slot_of x.table.slots d ≡ Some slot → slot_of x.table.slots e ≡ Some slot → d ≡ e)
    → IsLawful x.space → ((d u : ℕ) → is_leaving (state_of_dev x.space.parts.devs d) ≡ true → is_kept x.space.parts.devs d u ≡ false) → ((d u : ℕ) → is_leaving (state_of_dev x.space.parts.devs d) ≡ true → is_copy_role (role_at x.space d u) ≡ false)
    → CopiesUnits policy x.table.slots t0 before now x.space y.space n → WritesOnly (IsWriteIntoFree x.table.slots x.space) before now → (AreRead before.now.seen x.table.slots x.space x.cache → AreRead now.now.seen x.table.slots y.space y.cache)
    → y ≡ record x { space = y.space; cache = y.cache } → t2 → HoldsObjects t1 before.now.seen x objects → HoldsObjects t2 now.now.seen y objects
objects_copied policy x y t0 t1 t2 before now n objects apart lawful unkept none copies wrote read rest told holds =
    let slots = x.table.slots in
    let d = copies.dev in
    let plan = copies.plans.plan in
    let one = copies_one x.space y.space d copies.plan plan copies.makes in
    let used = copies_used x.space y.space d copies.plan lawful (λ u. unkept d u plan.leaving) (λ u. none d u plan.leaving) plan copies.makes in
    let again = blocks_turned x.space y.space d one used slots t1 t2 before.now.seen now.now.seen x.cache y.cache holds.stored told (read holds.held.read) (λ a is. free_writes slots x.space before now a apart wrote is) holds.held in
    objects_stay x y objects (ap (λ (p : OpenPool). p.dir) rest) (ap (λ (p : OpenPool). p.group) rest) holds
    (subst (λ (w : Table). Now (HoldsBlocks Block w.slots t2 now.now.seen y.space None y.cache) (λ m. Swaps holds.stored m [] [])) (sym (ap (λ (p : OpenPool). p.table) rest)) again)

-- and where nothing was copied, since a disk failed
pub objects_tried : (x y : OpenPool) (t1 t2 : Type 0) (before now : World) (objects : Objects) → ((d e slot : ℕ) → slot_of x.table.slots d ≡ Some slot → slot_of x.table.slots e ≡ Some slot → d ≡ e) → WritesOnly (IsWriteIntoFree x.table.slots x.space) before now
    → (AreRead before.now.seen x.table.slots x.space x.cache → AreRead now.now.seen x.table.slots x.space y.cache) → y ≡ record x { cache = y.cache } → t2 → HoldsObjects t1 before.now.seen x objects → HoldsObjects t2 now.now.seen y objects
objects_tried x y t1 t2 before now objects apart wrote read rest told holds =
    let slots = x.table.slots in
    let again = held_again Block slots t1 t2 before.now.seen now.now.seen x.space x.space None x.cache y.cache holds.stored told (read holds.held.read)
    (λ a is. record { used = is.used; whole = tt }) (λ a is. free_writes slots x.space before now a apart wrote is.used) holds.held.once holds.held.all holds.held.back holds.held in
    objects_stay x y objects (ap (λ (p : OpenPool). p.dir) rest) (ap (λ (p : OpenPool). p.group) rest) holds
    (subst (λ (p : OpenPool). Now (HoldsBlocks Block p.table.slots t2 now.now.seen p.space None y.cache) (λ m. Swaps holds.stored m [] [])) (sym rest) again)

-- nothing is written but what a block may have
module _ (slots : List (Option ℕ)) (s : Space) (before now : World) where
  free_open : (r : Role) → may_write Meta r ≡ true → may_write Block r ≡ true
  free_open r is = grind (arith, nat_tests, is)

  wider : (w : PendingWrite) → IsWriteIntoFree slots s w → IsWriteInto Block slots s w
  wider w h = record { at = h.at; is = h.is; some = h.some; open_units = λ u inside. free_open (role_at s h.at.dev u) (h.open_units u inside) }

  pub into_free : WritesOnly (IsWriteIntoFree slots s) before now → WritesOnly (IsWriteInto Block slots s) before now
  into_free wrote = widen (IsWriteIntoFree slots s) (IsWriteInto Block slots s) wider before now wrote

-- and they show the last root
pub last_copied : (sizes : List ℕ) (x y : OpenPool) (before now : World) → IsOpen sizes x → map length before.now.seen ≡ sizes → WritesOnly (IsWriteIntoFree x.table.slots x.space) before now → y ≡ record x { space = y.space; cache = y.cache } → KeepsLast before now x y
last_copied sizes x y before now ready sized wrote rest =
    units_last sizes x y before now ready sized (into_free x.table.slots x.space before now wrote)
    (record { last = ap (λ (p : OpenPool). p.last) rest; guid = ap (λ (p : OpenPool). p.guid) rest; table = ap (λ (p : OpenPool). p.table) rest })

-- ---- its devices

-- One device has another state, and is gone or not as it was: each device is where it was.
module _ (sizes : List ℕ) (x y : OpenPool) (d : ℕ) (state : DevState) (table : y.table ≡ with_row x.table d (record (slice_index_or x.table.rows d no_row) { state = state })) (stays : is_gone state ≡ is_gone (state_of_dev x.space.parts.devs d)) (known : d < x.table.count) (was : IsOpen sizes x)
    (last : y.last ≡ x.last) (guid : y.guid ≡ x.guid) where
  abbrev old_row : DevRow
  old_row = slice_index_or x.table.rows d no_row

  abbrev new_row : DevRow
  new_row = record (slice_index_or x.table.rows d no_row) { state = state }

  inside : d < length x.table.rows
  inside = let lt = known in let size = was.table.size in let few = was.few in omega (arith, lt, size, few)

  rows_are : y.table.rows ≡ slice_set x.table.rows d new_row
  rows_are = ap (λ (t : Table). t.rows) table

  here : slice_index_or y.table.rows d no_row ≡ new_row
  here = ap (λ (rs : List DevRow). slice_index_or rs d no_row) rows_are ∙ get_or-set_same x.table.rows d new_row no_row inside

  elsewhere : (e : ℕ) → e ≢ d → slice_index_or y.table.rows e no_row ≡ slice_index_or x.table.rows e no_row
  elsewhere e other = ap (λ (rs : List DevRow). slice_index_or rs e no_row) rows_are ∙ get_or-set_other x.table.rows d e new_row no_row other

  field_same : {A : Type 0} (f : DevRow → A) → f new_row ≡ f old_row → (e : ℕ) → f (slice_index_or y.table.rows e no_row) ≡ f (slice_index_or x.table.rows e no_row)
  field_same f one e = elim (cases_eq e d) [
    | inl at ↦ subst (λ (k : ℕ). f (slice_index_or y.table.rows k no_row) ≡ f (slice_index_or x.table.rows k no_row)) (sym at) (ap f here ∙ one)
    | inr other ↦ ap f (elsewhere e other)
  ]

  pub turned_devices : KeepsDevices x y
  turned_devices = record {
    last = last;
    guid = guid;
    count = ap (λ (t : Table). t.count) table;
    slots = ap (λ (t : Table). t.slots) table;
    rows = λ e. record {
      added = field_same (λ (r : DevRow). r.added) refl e;
      units = field_same (λ (r : DevRow). r.units) refl e;
      gone = field_same (λ (r : DevRow). is_gone r.state) (stays ∙ ap (λ (r : DevRow). is_gone r.state) (was.rows d known)) e;
    };
  }

-- so it is where a device begins to leave
pub out_devices : (sizes : List ℕ) (x y : OpenPool) (d : ℕ) → LeavesPool x y d → state_of_dev x.space.parts.devs d ≡ On → d < x.table.count → IsOpen sizes x → KeepsDevices x y
out_devices sizes x y d left on known was = turned_devices sizes x y d Leaving left.table (sym (ap (λ (s : DevState). is_gone s) on)) known was (ap (λ (p : OpenPool). p.last) left.rest) (ap (λ (p : OpenPool). p.guid) left.rest)

-- ---- the last root

-- A commit behind which each device is where it was shows its root, where the last one was the newest: each device has the slot that it had.
module _ (sizes behind : List ℕ) (x y z : OpenPool) (before now : World) (keeps : KeepsDevices x y) (group : y.group.txg ≡ x.group.txg) (first : IsAfter x.last x.group.txg) (ready : IsOpen sizes y) (later : IsOpen behind z) (sized : map length before.now.seen ≡ sizes)
    (txg : z.group.txg ≡ y.group.txg + 1) (next : IfSome z.last (IsNextRoot y true)) (wrote : IfSome z.last (λ u. (mid : World) × WritesIntoFree y before mid × IsShownFrom sizes y u mid now)) (same : IsSamePool y z) (h : ShowsLast before.now.seen x) where
  abbrev root : Uber
  root = h.root

  module _ (u : Uber) (is : IsNextRoot y true u) where
    devices : HasSameDevices root u
    devices = follows_devices true root u x y h.from keeps is

    places : (seen : List Seen) → AreAt x.table.slots root seen → AreAt y.table.slots u seen
    places seen are e = ap (λ (slots : List (Option ℕ)). slot_of slots e) keeps.slots ∙ (are e ∙ ap (λ (slots : List (Option ℕ)). slot_of slots e) (sym (slots_alike root u seen devices)))

    above : IsAbove before.now.seen u
    above =
        above_newest before.now.seen root u x.table.slots h.newest devices.guid
        (let txgs = is.txg in let same_group = group in let after = (subst (λ (o : Option Uber). IsAfter o x.group.txg) h.from.last first).1 in omega (arith, txgs, same_group, after))

  pub turned_last : ShowsLast now.now.seen z
  turned_last = commit_places sizes behind y z true before now ready later sized txg next wrote same.guid same.table above h.newest.seen h.newest.labels (λ u is. places u is h.newest.seen h.newest.devices)

-- so it is behind the commit with which a device begins to leave
pub out_last : (sizes behind : List ℕ) (x y z : OpenPool) (d : ℕ) (before now : World) → LeavesPool x y d → state_of_dev x.space.parts.devs d ≡ On → d < x.table.count → IsOpen sizes x → IsOpen sizes y → IsOpen behind z → map length before.now.seen ≡ sizes
    → z.group.txg ≡ y.group.txg + 1 → IfSome z.last (IsNextRoot y true) → IfSome z.last (λ u. (mid : World) × WritesIntoFree y before mid × IsShownFrom sizes y u mid now) → IsSamePool y z → ShowsLast before.now.seen x → ShowsLast now.now.seen z
out_last sizes behind x y z d before now left on known was ready later sized txg next wrote same h =
    turned_last sizes behind x y z before now (out_devices sizes x y d left on known was) (ap (λ (p : OpenPool). p.group.txg) left.rest) was.after ready later sized txg next wrote same h
