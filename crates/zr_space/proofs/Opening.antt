-- The devices of a root become those of a space.
use Rattle.std.proofs.Common.{◌≡◌, ℕ, zero, suc, ◌+◌, ◌≤◌, ◌<◌, ◌^◌, ◌/◌, ◌&&◌, true, false, nat_lt, List, [], ◌∷◌, ◌++◌, map, length, refl, ◌∙◌, sym, ap, subst, arith, length-append}
use Rattle.std.specs.Prelude.{slice_index_or}
use Rattle.std.proofs.lemmas.Bool.Decides.{nat_tests}
use Rattle.zr_base.specs.declared.space.Extent.{Extent}
use Rattle.zr_base.specs.declared.space.Dva.{Dva}
use Rattle.zr_base.specs.declared.space.Entry.{Entry}
use Rattle.zr_base.specs.declared.space.LateRun.{LateRun}
use Rattle.zr_base.specs.declared.space.DevPart.{DevPart}
use Rattle.zr_base.specs.declared.space.DevRow.{DevRow}
use Rattle.zr_base.specs.Extents.{has_unit, unit_count}
use Rattle.zr_rules.specs.Places.{one_if, address_hits, is_on, part_of}
use Rattle.zr_rules.specs.Space.{Space, nothing_opened, opened_of, role_at}
use Rattle.zr_metaslab.specs.Devices.{Devices, DeviceFree, device_at, no_device, free_at, count_at, units_at, serves_at}
use Rattle.zr_metaslab.specs.Metaslabs.{is_free, slab_at}
use Rattle.zr_units.specs.Uses.{Uses, Freed, IsAccount, none_freed}
use Rattle.zr_units.specs.Changes.{saved_uses}
use Rattle.zr_indirect.specs.Mapped.{Mapped}
use Rattle.zr_space.specs.Views.{Kept, kept_of, late_runs, nothing_kept, part_in, units_there, IsMoved}
use Rattle.zr_space.specs.Reads.{AreSetsOf, HasMeta, IsRead, IsReadMapping, ReadsMeta}
use Rattle.zr_space.specs.Opens.{AddsAs, AreKept, AreReadFrom, HasAdded, IsDeviceOf, ReadsNext}
use Rattle.zr_space.proofs.Accounts.{account_as}
use Rattle.zr_space.proofs.More.{service_moved}
use Rattle.zr_space.proofs.Turning.{none_beyond}
use Rattle.zr_space.proofs.Views.{on_all}

-- ---- a device with its metadata

pub with_meta : (row : DevRow) (x y : Uses) (list : List Dva) (dev : ℕ) (used used2 : List Extent) → IsRead row x used → x.meta ≡ [] → ReadsMeta list dev x y used used2 → IsRead row y used2
with_meta row x y list dev used used2 r none m = rw m.others (record {
  row_units = r.row_units;
  small = r.small;
  born = r.born;
  kept = r.kept;
  among = r.among;
  came = r.came;
  went = r.went;
  copies = r.copies;
  freed = r.freed;
  once = λ u. let o = r.once u in let s = m.used.members u in let a = m.apart u in let n = none_has u in grind (arith, nat_tests, o, s, a, n);
  within = λ u is. let w = r.within u in let s = m.used.members u in let i = m.within u in grind (arith, nat_tests, w, s, i, is);
  count = let c = r.count in let d = m.used.count in let n = ap unit_count none in omega (arith, c, d, n);
  lists = record { held = r.lists.held; born = r.lists.born; kept = r.lists.kept; came = r.lists.came; went = r.lists.went; copies = r.lists.copies; freed = r.lists.freed; late1 = r.lists.late1; late2 = r.lists.late2; meta = m.maximal; saved = r.lists.saved };
})
  where
    none_has : (u : ℕ) → has_unit x.meta u ≡ false
    none_has u = ap (λ (es : List Extent). has_unit es u) none

-- what was read as metadata is that of the saved root
pub as_saved : (row : DevRow) (x : Uses) (used : List Extent) (spare : ℕ) → IsRead row x used → x.saved ≡ [] → IsRead row (record (saved_uses x) { spare = spare }) used
as_saved row x used spare r none = record {
  row_units = r.row_units;
  small = r.small;
  born = r.born;
  kept = r.kept;
  among = r.among;
  came = r.came;
  went = r.went;
  copies = r.copies;
  freed = r.freed;
  once = λ u. let o = r.once u in let n = ap (λ (es : List Extent). one_if (has_unit es u)) none in omega (arith, o, n);
  within = r.within;
  count = let c = r.count in let n = ap unit_count none in omega (arith, c, n);
  lists = record { held = r.lists.held; born = r.lists.born; kept = r.lists.kept; came = r.lists.came; went = r.lists.went; copies = r.lists.copies; freed = r.lists.freed; late1 = r.lists.late1; late2 = r.lists.late2; meta = tt; saved = r.lists.meta };
}

-- metadata is not in what a root records of a device
pub same_sets : (p : DevPart) (x y : Uses) (list : List Dva) (dev : ℕ) (used used2 : List Extent) → ReadsMeta list dev x y used used2 → AreSetsOf p x → AreSetsOf p y
same_sets p x y list dev used used2 m s = rw m.others (record { held = s.held; kept = s.kept; late1 = s.late1; late2 = s.late2 })

-- a device has less than 2^40 units
pub few_units : (row : DevRow) (x : Uses) (used : List Extent) → IsRead row x used → x.units < 2 ^ 40
few_units row x used r = let e = r.row_units in let m = r.small in grind (arith, nat_tests, e, m)

-- ---- one device more

module _ (s t : Devices) (devs : List Kept) (k : Kept) (used : List Extent) (all : AreKept s devs) (few : length devs < 32) (r : IsRead k.row k.uses used) (moved : IsMoved k.row k.moves) (slabs : AddsAs s t (length devs) k.uses.units (is_on k.row.state) used) where
  false_true : false ≡ true → ⊥
  false_true e = cc

  new_account : IsAccount (free_at t (length devs)) (count_at t (length devs)) k.uses
  new_account = record {
    once = λ u. let f = slabs.free (length devs) u in let o = r.once u in let w = r.within u in grind (arith, nat_tests, f, o, w);
    born = λ u is. absurd (false_true (sym (ap (λ (es : List Extent). has_unit es u) r.born) ∙ is));
    keeping = record {
      held = λ u is. r.among u is;
      settled = λ u is. ap (λ (es : List Extent). has_unit es u) r.born;
      came = λ u is. absurd (false_true (sym (ap (λ (es : List Extent). has_unit es u) r.came) ∙ is));
      went = λ u is. absurd (false_true (sym (ap (λ (es : List Extent). has_unit es u) r.went) ∙ is));
    };
    copying = record {
      held = λ u is. absurd (false_true (sym (ap (λ (es : List Extent). has_unit es u) r.copies) ∙ is));
      unkept = λ u is. absurd (false_true (sym (ap (λ (es : List Extent). has_unit es u) r.copies) ∙ is));
    };
    sum = let c = slabs.counted in let n = r.count in omega (arith, c, n);
    small = few_units k.row k.uses used r;
    lists = r.lists;
  }

  pub kept_more : AreKept t (devs ++ k ∷ [])
  kept_more = record {
    devices = let l = length-append devs (k ∷ []) in let e = all.devices in let c = slabs.devs in omega (arith, l, e, c);
    few = let l = length-append devs (k ∷ []) in omega (arith, l, few);
    units = on_all devs k (λ d x. units_at t d ≡ x.uses.units) (let u = slabs.units (length devs) in grind (arith, nat_tests, u)) (λ d ne. let u = slabs.units d in let w = all.units d in grind (arith, nat_tests, u, w, ne));
    rows = on_all devs k (λ d x. x.uses.units ≡ units_there x.row) r.row_units (λ d ne. all.rows d);
    small = on_all devs k (λ d x. x.row.units < 2 ^ 40) r.small (λ d ne. all.small d);
    moved = on_all devs k (λ d x. IsMoved x.row x.moves) moved (λ d ne. all.moved d);
    serves = on_all devs k (λ d x. serves_at t d ≡ (nat_lt d (length (devs ++ k ∷ [])) && is_on x.row.state))
        (let l = length-append devs (k ∷ []) in let v = slabs.serves (length devs) in grind (arith, nat_tests, l, v))
        (λ d ne. let l = length-append devs (k ∷ []) in let v = slabs.serves d in let w = all.serves d in grind (arith, nat_tests, l, v, w, ne));
    account = on_all devs k (λ d x. IsAccount (free_at t d) (count_at t d) x.uses) new_account
        (λ d ne. account_as (free_at s d) (free_at t d) (count_at s d) (count_at t d) (kept_of devs d).uses (λ u. let f = slabs.free d u in grind (arith, nat_tests, f, ne)) (slabs.counts d ne) (all.account d));
  }

part_from : (p : DevPart) (h k : List Extent) (es : List Entry) (cs : List ℕ) (f : List Extent) (l1 l2 : List LateRun) → h ≡ p.held → k ≡ p.kept → es ≡ p.entries → cs ≡ p.counts → f ≡ p.fresh → l1 ≡ p.late1 → l2 ≡ p.late2
    → record { row = p.row; held = h; kept = k; entries = es; counts = cs; fresh = f; late1 = l1; late2 = l2 } ≡ p
part_from p h k es cs f l1 l2 a b c d e g i =
    ap (λ x. record { row = p.row; held = x; kept = k; entries = es; counts = cs; fresh = f; late1 = l1; late2 = l2 }) a
    ∙ (ap (λ x. record { row = p.row; held = p.held; kept = x; entries = es; counts = cs; fresh = f; late1 = l1; late2 = l2 }) b
    ∙ (ap (λ x. record { row = p.row; held = p.held; kept = p.kept; entries = x; counts = cs; fresh = f; late1 = l1; late2 = l2 }) c
    ∙ (ap (λ x. record { row = p.row; held = p.held; kept = p.kept; entries = p.entries; counts = x; fresh = f; late1 = l1; late2 = l2 }) d
    ∙ (ap (λ x. record { row = p.row; held = p.held; kept = p.kept; entries = p.entries; counts = p.counts; fresh = x; late1 = l1; late2 = l2 }) e
    ∙ (ap (λ x. record { row = p.row; held = p.held; kept = p.kept; entries = p.entries; counts = p.counts; fresh = p.fresh; late1 = x; late2 = l2 }) g
    ∙ ap (λ x. record { row = p.row; held = p.held; kept = p.kept; entries = p.entries; counts = p.counts; fresh = p.fresh; late1 = p.late1; late2 = x }) i)))))

opened_from : (born : List Extent) (freed : Freed) (came went fresh_came fresh_went : List Extent) → born ≡ [] → freed ≡ none_freed → came ≡ [] → went ≡ [] → fresh_came ≡ [] → fresh_went ≡ []
    → record { born = born; deferred = freed.blocks; dropped = freed.meta; kept = record { came = came; went = went }; fresh = record { came = fresh_came; went = fresh_went } } ≡ nothing_opened
opened_from born freed came went fresh_came fresh_went a b c d e g = rw a rw b rw c rw d rw e rw g refl

-- what was read of a device is what a root records of it
pub is_device : (p : DevPart) (meta saved : List Dva) (d : ℕ) (x : Uses) (m : Mapped) (used : List Extent) → AreSetsOf p x → IsRead p.row x used → IsReadMapping p m → HasMeta meta d x.meta → HasMeta saved d x.saved → IsDeviceOf p meta saved d (record { row = p.row; uses = x; moves = m })
is_device p meta saved d x m used s r moves hits saved_hits = record {
  part = part_from p x.held x.kept m.entries m.counts m.fresh (late_runs x.late1) (late_runs x.late2) s.held s.kept moves.entries moves.counts moves.fresh s.late1 s.late2;
  opened = opened_from x.born x.freed x.came x.went m.came m.went r.born r.freed r.came r.went moves.came moves.went;
  copies = r.copies;
  mapping = moves;
  meta_is = hits;
  saved_is = saved_hits;
}

-- one device more is read
pub read_more : (s t : Devices) (devs next : List Kept) (p : DevPart) (meta saved : List Dva) (x : Uses) (m : Mapped) (n : ℕ) → n ≡ length devs → AreSetsOf p x → HasMeta meta n x.meta → HasMeta saved n x.saved → HasAdded s t n p.row x → IsReadMapping p m
    → next ≡ devs ++ record { row = p.row; uses = x; moves = m } ∷ [] → ReadsNext s t devs next p meta saved
read_more s t devs next p meta saved x m n len sets hits saved_hits added moves more = record {
  device = record { row = p.row; uses = x; moves = m };
  more = more;
  is = is_device p meta saved (length devs) x m added.used sets added.read moves (subst (λ d. HasMeta meta d x.meta) len hits) (subst (λ d. HasMeta saved d x.saved) len saved_hits);
  added = subst (λ d. HasAdded s t d p.row x) len added;
}

-- ---- all devices

-- so many devices of the root are read
pub record IsReading (parts : List DevPart) (meta saved : List Dva) (i : ℕ) (slabs : Devices) (devs : List Kept) : Type 0 where
  pub kept : AreKept slabs devs
  pub count : length devs ≡ i
  pub low : i ≤ length parts
  pub each : (d : ℕ) → d < i → IsDeviceOf (part_of parts d) meta saved d (kept_of devs d)

-- what holds of nothing holds of each device where none is
on_none : (P : ℕ → Kept → Type 0) → ((d : ℕ) → P d nothing_kept) → (d : ℕ) → P d (kept_of [] d)
on_none P none d = subst (P d) (sym (none_beyond [] d (omega arith))) (none d)

no_units : (d : ℕ) → units_at [] d ≡ 0
unfolding units_at
no_units zero = refl
no_units (suc d) = refl

no_service : (d : ℕ) → serves_at [] d ≡ false
unfolding serves_at
no_service zero = refl
no_service (suc d) = refl

no_device_at : (d : ℕ) → device_at [] d ≡ no_device
no_device_at zero = refl
no_device_at (suc d) = refl

no_slab : (n : ℕ) → slab_at [] n ≡ []
no_slab zero = refl
no_slab (suc n) = refl

no_free : (d u : ℕ) → free_at [] d u ≡ false
unfolding free_at
no_free d u = ap (λ (x : DeviceFree). is_free x.slabs u) (no_device_at d) ∙ ap (λ (es : List Extent). has_unit es u) (no_slab (u / 512))

no_count : (d : ℕ) → count_at [] d ≡ 0
unfolding count_at
no_count zero = refl
no_count (suc d) = refl

pub starts_reading : (parts : List DevPart) (meta saved : List Dva) → IsReading parts meta saved 0 [] []
starts_reading parts meta saved = record {
  kept = record {
    devices = refl;
    few = omega arith;
    units = on_none (λ d k. units_at [] d ≡ k.uses.units) no_units;
    rows = on_none (λ d k. k.uses.units ≡ units_there k.row) (λ d. refl);
    small = on_none (λ d k. k.row.units < 2 ^ 40) (λ d. omega arith);
    moved = on_none (λ d k. IsMoved k.row k.moves) (λ d. service_moved nothing_kept.row refl);
    serves = λ d. let s = no_service d in grind (arith, nat_tests, s);
    account = on_none (λ d k. IsAccount (free_at [] d) (count_at [] d) k.uses) (λ d. record {
      once = λ u. let f = no_free d u in grind (arith, nat_tests, f);
      born = λ u is. absurd (never is);
      keeping = record { held = λ u is. absurd (never is); settled = λ u is. refl; came = λ u is. absurd (never is); went = λ u is. absurd (never is) };
      copying = record { held = λ u is. absurd (never is); unkept = λ u is. refl };
      sum = let n = no_count d in omega (arith, n);
      small = omega arith;
      lists = record { held = tt; born = tt; kept = tt; came = tt; went = tt; copies = tt; freed = record { blocks = tt; meta = tt }; late1 = record { blocks = tt; meta = tt }; late2 = record { blocks = tt; meta = tt }; meta = tt; saved = tt };
    });
  };
  count = refl;
  low = omega arith;
  each = λ d lt. absurd (omega (arith, lt));
}
  where
    never : false ≡ true → ⊥
    never e = cc

pub reads_more : (parts : List DevPart) (meta saved : List Dva) (i : ℕ) (s t : Devices) (devs next : List Kept) (part : DevPart) → IsReading parts meta saved i s devs → i < 32 → i < length parts → part ≡ part_of parts i → ReadsNext s t devs next part meta saved → IsReading parts meta saved (i + 1) t next
reads_more parts meta saved i s t devs next part r few low is n = record {
  kept = subst (AreKept t) (sym n.more) (kept_more s t devs n.device n.added.used r.kept (let c = r.count in omega (arith, c, few)) n.added.read (subst (λ (row : DevRow). IsMoved row n.device.moves) (sym (ap (λ (p : DevPart). p.row) n.is.part)) n.is.mapping.moved) n.added.adds);
  count = let l = ap (λ (ks : List Kept). length ks) n.more in let e = length-append devs (n.device ∷ []) in let c = r.count in omega (arith, l, e, c);
  low = omega (arith, low);
  each = subst (λ (ks : List Kept). (d : ℕ) → d < i + 1 → IsDeviceOf (part_of parts d) meta saved d (kept_of ks d)) (sym n.more)
      (on_all devs n.device (λ d k. d < i + 1 → IsDeviceOf (part_of parts d) meta saved d k)
      (λ lt. subst (λ j. IsDeviceOf (part_of parts j) meta saved (length devs) n.device) (sym r.count) (subst (λ (p : DevPart). IsDeviceOf p meta saved (length devs) n.device) is n.is))
      (λ d ne lt. r.each d (let c = r.count in grind (arith, nat_tests, ne, lt, c))));
}

pub all_read : (parts : List DevPart) (meta saved : List Dva) (i : ℕ) (slabs : Devices) (devs : List Kept) → IsReading parts meta saved i slabs devs → length parts ≤ i → AreReadFrom parts meta saved slabs devs
all_read parts meta saved i slabs devs r end = record {
  kept = r.kept;
  count = let c = r.count in let l = r.low in omega (arith, c, l, end);
  each = λ d lt. r.each d (omega (arith, lt, end));
}

-- what a root records of the devices is what it was read from
pub same_parts : (parts : List DevPart) (devs : List Kept) → length devs ≡ length parts → ((d : ℕ) → d < length parts → part_in (kept_of devs d) ≡ part_of parts d) → map part_in devs ≡ parts
same_parts [] [] count each = refl
same_parts [] (k ∷ ks) count each = absurd (omega (arith, count))
same_parts (p ∷ ps) [] count each = absurd (omega (arith, count))
same_parts (p ∷ ps) (k ∷ ks) count each =
    let rest : map part_in ks ≡ ps = same_parts ps ks (omega (arith, count)) (λ d lt. each (suc d) (omega (arith, lt))) in
    ap (λ (x : DevPart). x ∷ map part_in ks) (each 0 (omega arith)) ∙ ap (λ (xs : List DevPart). p ∷ xs) rest

-- the role of a unit rests on the parts, on what is opened and on the metadata
pub roles_by : (a b : Space) (d u : ℕ) → a.parts ≡ b.parts → opened_of a d ≡ opened_of b d → address_hits a.meta d u ≡ address_hits b.meta d u → address_hits a.saved_meta d u ≡ address_hits b.saved_meta d u → role_at a d u ≡ role_at b d u
unfolding role_at
roles_by a b d u p o m s = rw p rw o rw m rw s refl

pub none_opened : (ps : List DevPart) (d : ℕ) → slice_index_or (map (λ (p : DevPart). nothing_opened) ps) d nothing_opened ≡ nothing_opened
none_opened [] zero = refl
none_opened [] (suc d) = refl
none_opened (p ∷ ps) zero = refl
none_opened (p ∷ ps) (suc d) = none_opened ps d
