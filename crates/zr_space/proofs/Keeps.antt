-- What the space of a pool is, and what the change of one device leaves of it.
use Rattle.std.specs.List.{sum_by}
use Rattle.std.proofs.lemmas.List.Sums.{sum_by-cons}
use Rattle.std.proofs.Common.{◌≡◌, ℕ, zero, suc, ◌+◌, ◌-◌, ◌≤◌, ◌<◌, ◌^◌, ◌&&◌, Bool, true, false, ◌==◌, nat_le, nat_lt, List, [], ◌∷◌, ◌++◌, map, length, take, refl, ◌∙◌, sym, ap, ap₂, subst, arith, ⊎_elim, if◌then◌else◌}
use Rattle.std.proofs.Math.ListN.{set}
use Rattle.std.proofs.lemmas.Bool.{cases_eq}
use Rattle.std.proofs.lemmas.Bool.Decides.{nat_tests}
use Rattle.std.proofs.lemmas.List.{length-map, length-set}
use Rattle.zr_base.specs.declared.space.CkptPart.TheVariants.{Clear}
use Rattle.zr_base.specs.declared.space.Extent.{Extent}
use Rattle.zr_base.specs.declared.space.DevPart.{DevPart}
use Rattle.zr_base.specs.declared.space.DevRow.{DevRow}
use Rattle.zr_base.specs.declared.space.CondPart.{CondPart}
use Rattle.zr_rules.specs.Condense.{condensed}
use Rattle.zr_base.specs.Extents.{has_unit, IsMaximal, IsMaximalFrom, EndsBy}
use Rattle.zr_base.specs.declared.space.Entry.{Entry}
use Rattle.zr_rules.specs.Places.{one_if, count_below, part_of, is_on, is_leaving, is_held, is_kept, hits_late, state_of_dev, units_of_dev}
use Rattle.zr_rules.specs.Roles.{is_free_role}
use Rattle.zr_rules.specs.Space.{role_at, opened_of, OpenSets, IsLawful, IsSet, HasSets, set_hits, is_born, copy_hits, is_copy_by}
use Rattle.zr_rules.specs.Columns as columns
use Rattle.zr_metaslab.specs.Devices as slab
use Rattle.zr_metaslab.specs.Devices.{Devices, free_at, count_at, units_at, serves_at, KeepsDevices}
use Rattle.zr_units.specs.Apart.{IsWithin}
use Rattle.zr_units.specs.Uses.{Uses, IsAccount, IsSameUses, use_hits}
use Rattle.zr_rules.specs.Resolve.{IsRanked}
use Rattle.zr_space.specs.Views.{Kept, kept_of, part_in, opened_in, space_of, role_in, units_there, IsMoved, IsTied, IsCondensing, IsSpace}
use Rattle.zr_space.proofs.Sums.{extent_hits, once_in, late_hits_are}
use Rattle.zr_space.proofs.Views.{part_is, opened_is, meta_is, saved_is, kept_other, kept_same}
use Rattle.zr_space.proofs.Roles.{roles_are, place_is}
use Rattle.zr_space.proofs.Accounts.{account_as, same_account, free_in}
use Rattle.zr_space.proofs.Counts.{count_as, count_beyond, absent_in, free_count, held_in, freed_blocks_in, freed_meta_in}
use Rattle.zr_space.proofs.Placing.{IsSameFree}
use Rattle.zr_space.proofs.Devs.{same_devices}
use Rattle.zr_space.specs.declared.whole.Whole.{Whole}

-- a device has no more units than its row says
pub most_units : (k : Kept) → k.uses.units ≡ units_there k.row → k.uses.units ≤ k.row.units
most_units k is = grind (arith, nat_tests, is)

-- the allocator sees what the space says
pub same_free : (whole : Whole) (slabs : Devices) (devs : List Kept) → IsSpace whole slabs devs → IsSameFree (slab.free_of slabs) (columns.free_of (space_of whole devs))
same_free whole slabs devs s = record {
  devs = length-map devs part_in ∙ sym s.devices;
  serves = λ d lt.
      let on : is_on (part_of (map part_in devs) d).row.state ≡ is_on (kept_of devs d).row.state = ap (λ (p : DevPart). is_on p.row.state) (part_is devs d) in
      let known : nat_lt d (length devs) ≡ true = let e = s.devices in grind (arith, nat_tests, lt, e) in
      let v : serves_at slabs d ≡ is_on (kept_of devs d).row.state = s.serves d ∙ rw known refl in
      on ∙ sym v;
  count = λ d.
      let x = (kept_of devs d).uses in
      let units : units_of_dev (map part_in devs) d ≡ (kept_of devs d).row.units = ap (λ (p : DevPart). p.row.units) (part_is devs d) in
      ap (λ n. count_below n (λ u. is_free_role (role_at (space_of whole devs) d u))) units
      ∙ (count_as (kept_of devs d).row.units (λ u. is_free_role (role_at (space_of whole devs) d u)) (λ u. is_free_role (role_in x u)) (λ u. ap is_free_role (roles_are whole devs d u s))
      ∙ (count_beyond (kept_of devs d).row.units x.units (λ u. is_free_role (role_in x u)) (most_units (kept_of devs d) (s.rows d)) (λ u past. ap is_free_role (absent_in x u past))
      ∙ (count_as x.units (λ u. is_free_role (role_in x u)) (free_at slabs d) (free_in (free_at slabs d) (count_at slabs d) x (s.account d))
      ∙ free_count (free_at slabs d) (count_at slabs d) x (s.account d))));
  is_free = λ d u. ap is_free_role (roles_are whole devs d u s) ∙ free_in (free_at slabs d) (count_at slabs d) (kept_of devs d).uses (s.account d) u;
}

-- what a change of one device is for the account
pub record IsChange (whole : Whole) (s t : Devices) (devs : List Kept) (d : ℕ) (x : Kept) : Type 0 where
  pub there : d < length devs
  pub row : x.row ≡ (kept_of devs d).row
  pub entries : x.moves.entries ≡ (kept_of devs d).moves.entries
  pub counts : x.moves.counts ≡ (kept_of devs d).moves.counts
  pub fresh : x.moves.fresh ≡ (kept_of devs d).moves.fresh
  pub moved : IsMoved x.row x.moves
  pub units : x.uses.units ≡ (kept_of devs d).uses.units
  pub account : IsAccount (free_at t d) (count_at t d) x.uses
  pub copies : (u : ℕ) → has_unit x.uses.copies u ≡ has_unit (kept_of devs d).uses.copies u
  pub devices : KeepsDevices s t
  pub free : (j u : ℕ) → (j == d) ≡ false → free_at t j u ≡ free_at s j u
  pub count : (j : ℕ) → (j == d) ≡ false → count_at t j ≡ count_at s j
  pub tied : is_leaving x.row.state ≡ true → IsTied whole x

-- the units of blocks are the same
pub record IsSameBlocks (x y : Uses) : Type 0 where
  pub held : y.held ≡ x.held
  pub kept : y.kept ≡ x.kept
  pub copies : y.copies ≡ x.copies

pub uses_tied : (whole : Whole) (k : Kept) (y : Uses) → IsSameBlocks k.uses y → IsTied whole k → IsTied whole (record k { uses = y })
uses_tied whole k y same t = record {
  left = λ u. t.left u ∙ ap (λ (es : List Extent). has_unit es u && nat_le k.moves.opened u) (sym same.held);
  copied = λ u is. t.copied u (ap (λ (es : List Extent). has_unit es u) (sym same.held) ∙ is);
  quiet = t.quiet;
  unkept = λ u. ap (λ (es : List Extent). has_unit es u) same.kept ∙ t.unkept u;
  uncopied = λ u. ap (λ (es : List Extent). has_unit es u) same.copies ∙ t.uncopied u;
}

-- a device of the space stays tied where the units of its blocks are the same
pub change_tied : (whole : Whole) (s : Devices) (devs : List Kept) (d : ℕ) (k : Kept) (y : Uses) → IsSpace whole s devs → k ≡ kept_of devs d → IsSameBlocks k.uses y → is_leaving k.row.state ≡ true → IsTied whole (record k { uses = y })
change_tied whole s devs d k y space here same is =
    uses_tied whole k y same (subst (IsTied whole) (sym here) (space.tied d (subst (λ (x : Kept). is_leaving x.row.state ≡ true) here is)))

-- a space with another checkpoint, where that does not matter to a device that is leaving
pub other_whole : (old new : Whole) (s : Devices) (devs : List Kept) → IsSpace old s devs → ((d : ℕ) → is_leaving (kept_of devs d).row.state ≡ true → new.ckpt ≡ Clear) → new.cond ≡ old.cond → IsSpace new s devs
other_whole old new s devs a quiet same = record {
  devices = a.devices;
  few = a.few;
  units = a.units;
  rows = a.rows;
  small = a.small;
  moved = a.moved;
  serves = a.serves;
  account = a.account;
  copies = a.copies;
  single = a.single;
  ranked = a.ranked;
  tied = λ d is. let t = a.tied d is in record { left = t.left; copied = t.copied; quiet = quiet d is; unkept = t.unkept; uncopied = t.uncopied };
  condensing = λ c is. a.condensing c (sym same ∙ is);
}

-- where no device is leaving the checkpoint may be any
pub no_leaving_space : (old new : Whole) (s : Devices) (devs : List Kept) → IsSpace old s devs → ((d : ℕ) → is_leaving (state_of_dev (map part_in devs) d) ≡ false) → new.cond ≡ old.cond → IsSpace new s devs
no_leaving_space old new s devs a stays same = other_whole old new s devs a (λ d is. absurd (false_true (sym (stays d) ∙ (ap (λ (p : DevPart). is_leaving p.row.state) (part_is devs d) ∙ is)))) same
  where
    false_true : false ≡ true → ⊥
    false_true e = cc

pub on_each : (devs : List Kept) (d : ℕ) (x : Kept) (P : ℕ → Kept → Type 0) → d < length devs → P d x → ((j : ℕ) → (j == d) ≡ false → P j (kept_of devs j)) → (j : ℕ) → P j (kept_of (set devs d x) j)
on_each devs d x P there here others j =
    ⊎_elim
    (λ same. subst (λ i. P i (kept_of (set devs d x) i)) (sym same) (subst (P d) (sym (kept_same devs d x there)) here))
    (λ other. let ne = other_is j d other in subst (P j) (sym (kept_other devs d j x ne)) (others j ne))
    (cases_eq j d)
  where
    other_is : (j d : ℕ) → (j ≡ d → ⊥) → (j == d) ≡ false
    other_is j d ne = grind (arith, nat_tests, ne)

-- the copies are those of the same entries
abbrev copies_in : DevPart → ℕ → ℕ → ℕ
copies_in p d u = if is_leaving p.row.state then sum_by (λ (e : Entry). one_if (is_copy_by p d u e)) p.entries else 0

hits_set : (devs : List Kept) (k d u : ℕ) (x : Kept) → x.row ≡ (kept_of devs k).row → x.moves.entries ≡ (kept_of devs k).moves.entries → x.moves.fresh ≡ (kept_of devs k).moves.fresh
    → copy_hits (map part_in (set devs k x)) d u ≡ copy_hits (map part_in devs) d u
hits_set [] zero d u x row entries fresh = refl
hits_set [] (suc k) d u x row entries fresh = refl
hits_set (y ∷ ys) zero d u x row entries fresh =
    let one : copies_in (part_in x) d u ≡ copies_in (part_in y) d u = rw row rw entries rw fresh refl in
    sum_by-cons (λ p. copies_in p d u) (part_in x) (map part_in ys) ∙ (ap (λ n. n + sum_by (λ p. copies_in p d u) (map part_in ys)) one ∙ sym (sum_by-cons (λ p. copies_in p d u) (part_in y) (map part_in ys)))
hits_set (y ∷ ys) (suc k) d u x row entries fresh =
    sum_by-cons (λ p. copies_in p d u) (part_in y) (map part_in (set ys k x)) ∙ (ap (λ n. copies_in (part_in y) d u + n) (hits_set ys k d u x row entries fresh) ∙ sym (sum_by-cons (λ p. copies_in p d u) (part_in y) (map part_in ys)))

-- a device that is not leaving has no entries that copy
pub hits_last : (devs : List Kept) (k : Kept) (d u : ℕ) → is_leaving k.row.state ≡ false → copy_hits (map part_in (devs ++ k ∷ [])) d u ≡ copy_hits (map part_in devs) d u
hits_last [] k d u stays =
    let one : copies_in (part_in k) d u ≡ 0 = rw stays refl in
    sum_by-cons (λ p. copies_in p d u) (part_in k) [] ∙ (let e = one in omega (arith, e))
hits_last (y ∷ ys) k d u stays =
    sum_by-cons (λ p. copies_in p d u) (part_in y) (map part_in (ys ++ k ∷ [])) ∙ (ap (λ n. copies_in (part_in y) d u + n) (hits_last ys k d u stays) ∙ sym (sum_by-cons (λ p. copies_in p d u) (part_in y) (map part_in ys)))

-- a mapping goes on being condensed where its entries and counts are the same
pub still_condensing : (c : CondPart) (k x : Kept) → x.row ≡ k.row → x.moves.entries ≡ k.moves.entries → x.moves.counts ≡ k.moves.counts → IsCondensing c k → IsCondensing c x
still_condensing c k x row entries counts h =
    let w = h.worked in
    record {
      gone = ap (λ (r : DevRow). r.state) row ∙ h.gone;
      worked = record {
        within = let l = ap (λ (es : List Entry). length es) entries in let i = w.within in omega (arith, l, i);
        kept = w.kept ∙ sym (ap₂ (λ (es : List Entry) (ns : List ℕ). condensed (take c.at es) (take c.at ns)) entries counts);
        each = w.each;
      };
    }

pub stays_space : {whole : Whole} (s t : Devices) (devs : List Kept) (d : ℕ) (x : Kept) → IsSpace whole s devs → IsChange whole s t devs d x → IsSpace whole t (set devs d x)
stays_space {whole} s t devs d x a c = record {
  devices = let e = a.devices in let k = c.devices.devs in let l = length-set devs d x in omega (arith, e, k, l);
  few = let f = a.few in let l = length-set devs d x in omega (arith, f, l);
  units = on_each devs d x (λ j y. units_at t j ≡ y.uses.units) c.there (c.devices.units d ∙ (a.units d ∙ sym c.units)) (λ j ne. c.devices.units j ∙ a.units j);
  rows = on_each devs d x (λ j y. y.uses.units ≡ units_there y.row) c.there (c.units ∙ (a.rows d ∙ ap units_there (sym c.row))) (λ j ne. a.rows j);
  small = on_each devs d x (λ j y. y.row.units < 2 ^ 40) c.there (subst (λ (r : DevRow). r.units < 2 ^ 40) (sym c.row) (a.small d)) (λ j ne. a.small j);
  moved = on_each devs d x (λ j y. IsMoved y.row y.moves) c.there c.moved (λ j ne. a.moved j);
  serves = λ j. c.devices.serves j ∙ (a.serves j ∙ ap₂ (λ (n : ℕ) (r : DevRow). nat_lt j n && is_on r.state) (sym (length-set devs d x)) (sym (same_rows j)));
  account = on_each devs d x (λ j y. IsAccount (free_at t j) (count_at t j) y.uses) c.there c.account
      (λ j ne. account_as (free_at s j) (free_at t j) (count_at s j) (count_at t j) (kept_of devs j).uses (λ u. c.free j u ne) (c.count j ne) (a.account j));
  copies = λ j u.
      on_each devs d x (λ i y. copy_hits (map part_in (set devs d x)) i u ≡ one_if (has_unit y.uses.copies u)) c.there
      (hits_set devs d d u x c.row c.entries c.fresh ∙ (a.copies d u ∙ ap one_if (sym (c.copies u))))
      (λ i ne. hits_set devs d i u x c.row c.entries c.fresh ∙ a.copies i u)
      j;
  single = λ i j one two. a.single i j (subst (λ (r : DevRow). is_leaving r.state ≡ true) (same_rows i) one) (subst (λ (r : DevRow). is_leaving r.state ≡ true) (same_rows j) two);
  ranked = subst IsRanked (sym (same_devices devs (set devs d x) (length-set devs d x) same_rows same_entries)) a.ranked;
  tied = on_each devs d x (λ j y. is_leaving y.row.state ≡ true → IsTied whole y) c.there c.tied (λ j ne. a.tied j);
  condensing = λ e is. on_each devs d x (λ j y. IsCondensing e (kept_of devs j) → IsCondensing e y) c.there (still_condensing e (kept_of devs d) x c.row c.entries c.counts) (λ j ne h. h) e.dev (a.condensing e is);
}
  where
    same_rows : (j : ℕ) → (kept_of (set devs d x) j).row ≡ (kept_of devs j).row
    same_rows = on_each devs d x (λ j y. y.row ≡ (kept_of devs j).row) c.there c.row (λ j ne. refl)

    same_entries : (j : ℕ) → (kept_of (set devs d x) j).moves.entries ≡ (kept_of devs j).moves.entries
    same_entries = on_each devs d x (λ j y. y.moves.entries ≡ (kept_of devs j).moves.entries) c.there c.entries (λ j ne. refl)

-- a device's sets are the same
pub spare_space : {whole : Whole} (s t : Devices) (devs : List Kept) (d : ℕ) (k : Kept) (y : Uses) → IsSpace whole s devs → d < length devs → k ≡ kept_of devs d → IsSameUses k.uses y → t ≡ s → IsSpace whole t (set devs d (record k { uses = y }))
spare_space {whole} s t devs d k y space there here same slabs =
    subst (λ (v : Devices). IsSpace whole v (set devs d (record k { uses = y }))) (sym slabs)
    (stays_space s s devs d (record k { uses = y }) space (record {
      there = there;
      row = ap (λ (x : Kept). x.row) here;
      entries = ap (λ (x : Kept). x.moves.entries) here;
      counts = ap (λ (x : Kept). x.moves.counts) here;
      fresh = ap (λ (x : Kept). x.moves.fresh) here;
      moved = subst (λ (x : Kept). IsMoved x.row x.moves) (sym here) (space.moved d);
      units = ap (λ (x : Uses). x.units) same ∙ ap (λ (x : Kept). x.uses.units) here;
      account = same_account (free_at s d) (count_at s d) k.uses y same (subst (λ (x : Kept). IsAccount (free_at s d) (count_at s d) x.uses) (sym here) (space.account d));
      copies = λ u. ap (λ (x : Uses). has_unit x.copies u) same ∙ ap (λ (x : Kept). has_unit x.uses.copies u) here;
      devices = record { devs = refl; units = λ j. refl; serves = λ j. refl };
      free = λ j u ne. refl;
      count = λ j ne. refl;
      tied = change_tied whole s devs d k y space here (record { held = ap (λ (x : Uses). x.held) same; kept = ap (λ (x : Uses). x.kept) same; copies = ap (λ (x : Uses). x.copies) same });
    }))

-- ---- lawful

ends_by : (low n : ℕ) (es : List Extent) → IsMaximalFrom low es → IsWithin es n → EndsBy n es
ends_by low n [] m within = tt
ends_by low n (e ∷ es) m within =
    let last : has_unit (e ∷ es) (e.start + e.len - 1) ≡ true = let some = m.1 in grind (arith, nat_tests, some) in
    let lt = within (e.start + e.len - 1) last in
    let some = m.1 in
    (omega (arith, lt, some), ends_by (e.start + e.len + 1) n es m.3 (λ u is. within u (grind (arith, nat_tests, is))))

pub set_of : (n m : ℕ) (es : List Extent) → n ≤ m → IsMaximal es → IsWithin es n → IsSet m es
set_of n m es le max within = record { maximal = max; within = ends_by 0 m es max (λ u b. let lt = within u b in omega (arith, lt, le)) }

has_sets : (f : ℕ → Bool) (n : ℕ) (k : Kept) → k.uses.units ≤ k.row.units → IsMoved k.row k.moves → IsAccount f n k.uses → HasSets (part_in k) (opened_in k)
has_sets f n k is moved a = record {
  held = set_of k.uses.units k.row.units k.uses.held is a.lists.held (held_in f n k.uses a);
  kept = set_of k.uses.units k.row.units k.uses.kept is a.lists.kept (λ u b. held_in f n k.uses a u (a.keeping.held u b));
  fresh = moved.fresh;
  born = set_of k.uses.units k.row.units k.uses.born is a.lists.born (λ u b. held_in f n k.uses a u (a.born u b));
  deferred = set_of k.uses.units k.row.units k.uses.freed.blocks is a.lists.freed.blocks (freed_blocks_in f n k.uses a);
  dropped = set_of k.uses.units k.row.units k.uses.freed.meta is a.lists.freed.meta (freed_meta_in f n k.uses a);
  kept_came = set_of k.uses.units k.row.units k.uses.came is a.lists.came (λ u b. held_in f n k.uses a u (a.keeping.held u (a.keeping.came u b)));
  kept_went = set_of k.uses.units k.row.units k.uses.went is a.lists.went (λ u b. freed_blocks_in f n k.uses a u (a.keeping.went u b));
  fresh_came = moved.came;
  fresh_went = moved.went;
}

module _ (whole : Whole) (slabs : Devices) (devs : List Kept) (s : IsSpace whole slabs devs) where
  hits_are : (d u : ℕ) → set_hits (space_of whole devs) d u ≡ use_hits (kept_of devs d).uses u
  hits_are d u =
      let x = (kept_of devs d).uses in
      let a = s.account d in
      let part = part_is devs d in
      let opened = opened_is whole devs d in
      let held : one_if (is_held (map part_in devs) d u) ≡ one_if (has_unit x.held u) = ap (λ (p : DevPart). one_if (has_unit p.held u)) part in
      let deferred : one_if (has_unit (opened_of (space_of whole devs) d).deferred u) ≡ one_if (has_unit x.freed.blocks u) = ap (λ (o : OpenSets). one_if (has_unit o.deferred u)) opened in
      let dropped : one_if (has_unit (opened_of (space_of whole devs) d).dropped u) ≡ one_if (has_unit x.freed.meta u) = ap (λ (o : OpenSets). one_if (has_unit o.dropped u)) opened in
      let late1 : hits_late (part_of (map part_in devs) d).late1 u ≡ extent_hits x.late1.blocks u + extent_hits x.late1.meta u = ap (λ (p : DevPart). hits_late p.late1 u) part ∙ late_hits_are x.late1 u in
      let late2 : hits_late (part_of (map part_in devs) d).late2 u ≡ extent_hits x.late2.blocks u + extent_hits x.late2.meta u = ap (λ (p : DevPart). hits_late p.late2 u) part ∙ late_hits_are x.late2 u in
      let meta = meta_is devs d u in
      let saved = saved_is devs d u in
      let o1 = once_in 0 u x.late1.blocks a.lists.late1.blocks in
      let o2 = once_in 0 u x.late1.meta a.lists.late1.meta in
      let o3 = once_in 0 u x.late2.blocks a.lists.late2.blocks in
      let o4 = once_in 0 u x.late2.meta a.lists.late2.meta in
      let o5 = once_in 0 u x.meta a.lists.meta in
      let o6 = once_in 0 u x.saved a.lists.saved in
      omega (arith, held, deferred, dropped, late1, late2, meta, saved, o1, o2, o3, o4, o5, o6)

  pub lawful : IsLawful (space_of whole devs)
  lawful = record {
    devices = length-map devs opened_in ∙ sym (length-map devs part_in);
    sets = λ d. subst (λ p. HasSets p (opened_of (space_of whole devs) d)) (sym (part_is devs d)) (subst (λ o. HasSets (part_in (kept_of devs d)) o) (sym (opened_is whole devs d)) (has_sets (free_at slabs d) (count_at slabs d) (kept_of devs d) (most_units (kept_of devs d) (s.rows d)) (s.moved d) (s.account d)));
    once = λ d u.
        let h = hits_are d u in
        let o = (s.account d).once u in
        let p = ap one_if (place_is whole devs d u s) in
        omega (arith, h, o, p);
    copies = λ d u.
        let c = s.copies d u in
        let k : is_kept (map part_in devs) d u ≡ has_unit (kept_of devs d).uses.kept u = ap (λ (p : DevPart). has_unit p.kept u) (part_is devs d) in
        let h : is_held (map part_in devs) d u ≡ has_unit (kept_of devs d).uses.held u = ap (λ (p : DevPart). has_unit p.held u) (part_is devs d) in
        let i = (s.account d).keeping.held u in
        let j = (s.account d).copying.held u in
        let l = (s.account d).copying.unkept u in
        grind (arith, nat_tests, c, k, h, i, j, l);
    born = λ d u b.
        let held : is_held (map part_in devs) d u ≡ has_unit (kept_of devs d).uses.held u = ap (λ (p : DevPart). has_unit p.held u) (part_is devs d) in
        let born : is_born (space_of whole devs) d u ≡ has_unit (kept_of devs d).uses.born u = ap (λ (o : OpenSets). has_unit o.born u) (opened_is whole devs d) in
        held ∙ (s.account d).born u (sym born ∙ b);
  }
