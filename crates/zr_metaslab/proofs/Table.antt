-- What the write of one device is for the account.
use Rattle.std.proofs.Common.{◌≡◌, ℕ, zero, suc, ◌+◌, ◌≤◌, ◌<◌, List, [], ◌∷◌, ◌++◌, ap, true, false, length, get_or, arith, refl, subst, sym, ◌==◌, ⊎_elim, if◌then◌else◌}
use Rattle.std.proofs.Math.ListN.{set}
use Rattle.std.proofs.lemmas.List.{get_or-set_same, get_or-set_other}
use Rattle.std.proofs.lemmas.Bool.{cases_eq, cases_lt}
use Rattle.std.proofs.lemmas.Bool.Decides.{nat_tests}
use Rattle.std.proofs.lemmas.Grind.{common_steps}
use Rattle.zr_base.specs.declared.space.Extent.{Extent}
use Rattle.std.specs.Prelude.{nat_lt, not, ◌&&◌}
use Rattle.zr_base.specs.Extents.{has_unit, unit_count}
use Rattle.zr_metaslab.specs.Metaslabs.{LosesUnits, is_free, free_count}
use Rattle.zr_metaslab.specs.Devices.{DeviceFree, device_at, no_device, IsSound, AreSound, Takes, AddsDevice, free_at, count_at, units_at, serves_at}

pub device_set_other : (devs : List DeviceFree) (k j : ℕ) (new : DeviceFree) → (j == k) ≡ false → device_at (set devs k new) j ≡ device_at devs j
device_set_other devs k j new ne = grind (arith, nat_tests, common_steps, ne, get_or-set_other devs k j new no_device)

pub device_set_same : (devs : List DeviceFree) (k : ℕ) (new : DeviceFree) → k < length devs → device_at (set devs k new) k ≡ new
device_set_same devs k new there = grind (arith, common_steps, get_or-set_same devs k new no_device)

pub read_device : (devs : List DeviceFree) (k : ℕ) (x : DeviceFree) → k < length devs → x ≡ get_or devs k x → x ≡ device_at devs k
read_device devs k x there is = grind (arith, common_steps, is)

-- a device with units is there
pub device_there : (devs : List DeviceFree) (k : ℕ) → 0 < (device_at devs k).units → k < length devs
device_there devs k some = ⊎_elim (λ lt. lt) (λ ge. absurd (grind (arith, common_steps, ge, some))) (cases_lt k (length devs))

pub sound_devices : (devs : List DeviceFree) (k : ℕ) (new : DeviceFree) → k < length devs → AreSound devs → IsSound new → AreSound (set devs k new)
sound_devices devs k new there sound here j =
    ⊎_elim
    (λ same. let P : ℕ → Type 0 = λ i. IsSound (device_at (set devs k new) i) in subst P (sym same) (subst (λ (d : DeviceFree). IsSound d) (sym (device_set_same devs k new there)) here))
    (λ other. subst (λ (d : DeviceFree). IsSound d) (sym (device_set_other devs k j new (grind (arith, nat_tests, other)))) (sound j))
    (cases_eq j k)

-- what is given out on a device is given out
pub takes_on : (devs : List DeviceFree) (d : ℕ) (new : DeviceFree) (e : Extent) → d < length devs → LosesUnits (device_at devs d).slabs new.slabs e → e.start + e.len ≤ (device_at devs d).units → new.on ≡ (device_at devs d).on → new.units ≡ (device_at devs d).units → Takes devs (set devs d new) d e
unfolding free_at count_at units_at serves_at
takes_on devs d new e there loses within on units = record {
  were_free = loses.were_free;
  within = within;
  free = λ j u. ⊎_elim
      (λ same. grind (arith, nat_tests, same, loses.free u, device_set_same devs d new there))
      (λ other. grind (arith, nat_tests, other, device_set_other devs d j new))
      (cases_eq j d);
  count = λ j. ⊎_elim
      (λ same. grind (arith, nat_tests, same, loses.count, device_set_same devs d new there))
      (λ other. grind (arith, nat_tests, other, device_set_other devs d j new))
      (cases_eq j d);
  devices = record {
    devs = grind (arith, common_steps);
    units = λ j. ⊎_elim
        (λ same. grind (arith, nat_tests, same, units, device_set_same devs d new there))
        (λ other. grind (arith, nat_tests, other, device_set_other devs d j new))
        (cases_eq j d);
    serves = λ j. ⊎_elim
        (λ same. grind (arith, nat_tests, same, on, device_set_same devs d new there))
        (λ other. grind (arith, nat_tests, other, device_set_other devs d j new))
        (cases_eq j d);
  };
}

pub takes_want : (devs : List DeviceFree) (d want : ℕ) (x new : DeviceFree) (e : Extent) → d < length devs → x ≡ device_at devs d → LosesUnits x.slabs new.slabs e → e.start + e.len ≤ x.units → new ≡ record x { slabs = new.slabs } → e.len ≡ want → Takes devs (set devs d new) d (record { start = e.start; len = want })
takes_want devs d want x new e there here loses within rest len =
    let on : new.on ≡ x.on = ap (λ (y : DeviceFree). y.on) rest in
    let units : new.units ≡ x.units = ap (λ (y : DeviceFree). y.units) rest in
    let P : DeviceFree → Type 0 = λ y. LosesUnits y.slabs new.slabs e → e.start + e.len ≤ y.units → new.on ≡ y.on → new.units ≡ y.units → Takes devs (set devs d new) d e in
    let t : Takes devs (set devs d new) d e = subst P (sym here) (takes_on devs d new e there) loses within on units in
    subst (λ (n : ℕ). Takes devs (set devs d new) d (record { start = e.start; len = n })) len t

-- a device behind the last
pub device_added : (devs : List DeviceFree) (j : ℕ) (new : DeviceFree) → device_at (devs ++ new ∷ []) j ≡ (if j == length devs then new else device_at devs j)
device_added [] zero new = refl
device_added [] (suc j) new = grind (arith, nat_tests, common_steps)
device_added (x ∷ xs) zero new = grind (arith, nat_tests, common_steps)
device_added (x ∷ xs) (suc j) new = let rest : device_at (xs ++ new ∷ []) j ≡ (if j == length xs then new else device_at xs j) = device_added xs j new in grind (arith, nat_tests, common_steps, rest)

pub device_last : (devs : List DeviceFree) (j d : ℕ) (new : DeviceFree) → length devs ≡ d → device_at (devs ++ new ∷ []) j ≡ (if j == d then new else device_at devs j)
device_last devs j d new is = rw (← is) (device_added devs j new)

pub sound_last : (devs : List DeviceFree) (new : DeviceFree) → AreSound devs → IsSound new → AreSound (devs ++ new ∷ [])
sound_last devs new sound here j =
    ⊎_elim
    (λ same. subst (λ (d : DeviceFree). IsSound d) (sym (grind (arith, nat_tests, same, device_added devs j new))) here)
    (λ other. subst (λ (d : DeviceFree). IsSound d) (sym (grind (arith, nat_tests, other, device_added devs j new))) (sound j))
    (cases_eq j (length devs))

-- a device is added behind others
pub adds_last : (devs filled : List DeviceFree) (d n : ℕ) (used : List Extent) (new : DeviceFree) → length devs ≤ d → length filled ≡ d → ((j : ℕ) → device_at filled j ≡ device_at devs j) → new.on ≡ true → new.units ≡ n → ((u : ℕ) → is_free new.slabs u ≡ (nat_lt u n && not (has_unit used u))) → free_count new.slabs + unit_count used ≡ n → AddsDevice devs (filled ++ new ∷ []) d n used
unfolding free_at count_at units_at serves_at
adds_last devs filled d n used new le is same on units free count = record {
  devs = grind (arith, common_steps, le, is);
  units = λ j. ⊎_elim
      (λ here. grind (arith, nat_tests, here, units, device_last filled j d new is))
      (λ other. grind (arith, nat_tests, other, same j, device_last filled j d new is))
      (cases_eq j d);
  serves = λ j. ⊎_elim
      (λ here. grind (arith, nat_tests, here, on, device_last filled j d new is))
      (λ other. grind (arith, nat_tests, other, same j, device_last filled j d new is))
      (cases_eq j d);
  free = λ j u. ⊎_elim
      (λ here. grind (arith, nat_tests, here, free u, device_last filled j d new is))
      (λ other. grind (arith, nat_tests, other, same j, device_last filled j d new is))
      (cases_eq j d);
  counted = grind (arith, nat_tests, count, device_last filled d d new is);
  counts = λ j ne. grind (arith, nat_tests, ne, same j, device_last filled j d new is);
}

-- a device that is not there is added
pub same_last : (devs : List DeviceFree) (j : ℕ) (new : DeviceFree) → new ≡ no_device → device_at (devs ++ new ∷ []) j ≡ device_at devs j
same_last devs j new is = ⊎_elim
    (λ here. grind (arith, nat_tests, common_steps, here, is, device_added devs j new))
    (λ other. grind (arith, nat_tests, other, device_added devs j new))
    (cases_eq j (length devs))

pub length_last : (devs : List DeviceFree) (new : DeviceFree) → length (devs ++ new ∷ []) ≡ length devs + 1
length_last devs new = grind (arith, common_steps)
