-- A run of free units in a row is a run of a metaslab, and the other way round.
use Rattle.std.proofs.Common.{◌≡◌, ℕ, zero, suc, ◌+◌, ◌-◌, ◌/◌, ◌≤◌, ◌<◌, ◌⊎◌, inl, inr, ⊎_elim, List, [], ◌∷◌, true, false, length, arith, refl, subst, sym}
use Rattle.std.proofs.lemmas.Bool.{cases_lt, cases_eq}
use Rattle.std.proofs.lemmas.Bool.Decides.{nat_tests}
use Rattle.zr_base.specs.declared.space.Extent.{Extent}
use Rattle.zr_base.specs.declared.space.Dva.{Dva}
use Rattle.zr_base.specs.declared.space.Policy.{Policy}
use Rattle.zr_base.specs.Extents.{has_unit, in_extent, extent_at, HasAll, IsMaximalFrom, longest_len}
use Rattle.zr_base.proofs.ExtentSets.{has_unit-below, has_unit-at}
use Rattle.zr_ranges.specs.Ranges.{HasRunOf}
use Rattle.zr_ranges.proofs.Longest.{longest_there}
use Rattle.zr_rules.specs.Placement.{HasRun, HasRunSomewhere, IsBefore, AreFreeRuns, IsPlacement, HasNoPlacement}
use Rattle.zr_metaslab.specs.Metaslabs.{slab_at, longest_of, TakesFirst}
use Rattle.zr_metaslab.specs.Devices.{DeviceFree, device_at, AreSound, free_of, free_at, count_at, serves_at}
use Rattle.zr_metaslab.specs.Order.{has_run, IsFirstDevice, HasLongest, free_on}
use Rattle.zr_metaslab.proofs.Places.{slab_below}

tail_all : (x : Extent) (xs : List Extent) (e : Extent) → x.start + x.len ≤ e.start → HasAll (x ∷ xs) e → HasAll xs e
tail_all x xs e le all u t = grind (arith, nat_tests, all u t)

-- an extent that is in a set is no longer than its longest run
pub within_longest : (low : ℕ) (es : List Extent) (e : Extent) → IsMaximalFrom low es → 0 < e.len → HasAll es e → e.len ≤ longest_len es
within_longest low [] e m some all = absurd (grind (arith, nat_tests, all e.start))
within_longest low (x ∷ xs) e m some all =
    ⊎_elim
    (λ inside.
    let starts : x.start ≤ e.start = ⊎_elim
    (λ lt. absurd (grind (arith, nat_tests, all e.start, has_unit-below (x.start + x.len + 1) e.start xs m.3)))
    (λ ge. ge)
    (cases_lt e.start x.start) in
    let ends : e.start + e.len ≤ x.start + x.len = ⊎_elim
    (λ lt. absurd (grind (arith, nat_tests, all (x.start + x.len), has_unit-below (x.start + x.len + 1) (x.start + x.len) xs m.3)))
    (λ ge. ge)
    (cases_lt (x.start + x.len) (e.start + e.len)) in
    omega (arith, starts, ends))
    (λ past. omega (arith, within_longest (x.start + x.len + 1) xs e m.3 some (λ u t. tail_all x xs e past all u t)))
    (cases_lt e.start (x.start + x.len))

-- free units in a row are no more than the longest run of the metaslab
pub run_fits : (devs : List DeviceFree) (want d m : ℕ) → AreSound devs → 0 < want → HasRun (free_of devs) want d m → want ≤ longest_len (slab_at (device_at devs d).slabs m)
unfolding free_at
run_fits devs want d m sound some run =
    within_longest 0 (slab_at (device_at devs d).slabs m) (record { start = run.at; len = want }) ((sound d).slabs m).maximal some
    (λ u h.
    let here : u / 512 ≡ m = grind (arith, nat_tests, h, run.from, run.to) in
    subst (λ (k : ℕ). has_unit (slab_at (device_at devs d).slabs k) u ≡ true) here (run.free u h))

-- .. so the device has it
pub run_on : (devs : List DeviceFree) (want d m : ℕ) → AreSound devs → 0 < want → HasRun (free_of devs) want d m → want ≤ longest_of (device_at devs d).slabs
run_on devs want d m sound some run = omega (arith, run_fits devs want d m sound some run, slab_below (device_at devs d).slabs m)

slab_of : (devs : List DeviceFree) (d m u : ℕ) → AreSound devs → has_unit (slab_at (device_at devs d).slabs m) u ≡ true → u / 512 ≡ m
slab_of devs d m u sound h = omega (arith, ((sound d).slabs m).inside.from u h, ((sound d).slabs m).inside.to u h)

-- a metaslab with a long run has free units in a row
pub fits_run : (devs : List DeviceFree) (want d m : ℕ) → AreSound devs → 0 < want → want ≤ longest_len (slab_at (device_at devs d).slabs m) → HasRun (free_of devs) want d m
unfolding free_at
fits_run devs want d m sound some fits =
    let s : List Extent = slab_at (device_at devs d).slabs m in
    let r : HasRunOf s (longest_len s) = longest_there s (omega (arith, some, fits)) in
    let long : want ≤ (extent_at s r.index).len = omega (arith, r.as_long, fits) in
    let has : (u : ℕ) → in_extent (record { start = (extent_at s r.index).start; len = want }) u ≡ true → has_unit s u ≡ true = λ u h. has_unit-at r.index u s (record { start = 0; len = 0 }) r.inside (grind (arith, nat_tests, h, long)) in
    record {
      at = (extent_at s r.index).start;
      from = ((sound d).slabs m).inside.from (extent_at s r.index).start (has (extent_at s r.index).start (grind (arith, nat_tests, some)));
      to = omega (arith, some, ((sound d).slabs m).inside.to ((extent_at s r.index).start + want - 1) (has ((extent_at s r.index).start + want - 1) (grind (arith, nat_tests, some))));
      free = λ u h. subst (λ (k : ℕ). has_unit (slab_at (device_at devs d).slabs k) u ≡ true) (sym (slab_of devs d m u sound (has u h))) (has u h);
    }

-- the longest run of a device is one of a metaslab
record HasLongSlab (slabs : List (List Extent)) : Type 0 where
  slab : ℕ
  longest : longest_len (slab_at slabs slab) ≡ longest_of slabs

long_slab : (slabs : List (List Extent)) → HasLongSlab slabs
long_slab [] = record { slab = zero; longest = refl }
long_slab (s ∷ ss) =
    ⊎_elim
    (λ later. let rest : HasLongSlab ss = long_slab ss in record { slab = suc rest.slab; longest = omega (arith, later, rest.longest) })
    (λ here. record { slab = zero; longest = omega (arith, here) })
    (cases_lt (longest_len s) (longest_of ss))

on_there : (devs : List DeviceFree) (d : ℕ) → (device_at devs d).on ≡ true → d < length devs
on_there [] d on = absurd (grind (arith, on))
on_there (x ∷ xs) zero on = omega arith
on_there (x ∷ xs) (suc d) on = omega (arith, on_there xs d on)

pub longest_somewhere : (devs : List DeviceFree) (n : ℕ) → AreSound devs → 0 < n → HasLongest devs n → HasRunSomewhere (free_of devs) n
unfolding serves_at
longest_somewhere devs n sound some h =
    let l : HasLongSlab (device_at devs h.dev).slabs = long_slab (device_at devs h.dev).slabs in
    record {
      dev = h.dev;
      metaslab = l.slab;
      known = on_there devs h.dev h.on;
      serves = h.on;
      run = fits_run devs n h.dev l.slab sound some (omega (arith, l.longest, h.longest));
    }

pub none_longer : (devs : List DeviceFree) (want n : ℕ) → AreSound devs → 0 < want → n < want → ((d : ℕ) → (device_at devs d).on ≡ true → longest_of (device_at devs d).slabs ≤ n) → ¬ HasRunSomewhere (free_of devs) want
unfolding serves_at
none_longer devs want n sound some less most h =
    absurd (omega (arith, most h.dev h.serves, run_on devs want h.dev h.metaslab sound some h.run, less))

-- where no device has a run there is no placement
pub no_placement : (devs : List DeviceFree) (want n : ℕ) → AreSound devs → 0 < want → ((d : ℕ) → has_run devs want d ≡ false) → ((d : ℕ) → (device_at devs d).on ≡ true → longest_of (device_at devs d).slabs ≤ n) → (0 < n → HasLongest devs n) → (n < want) × HasNoPlacement (free_of devs) want n
no_placement devs want n sound some none most has =
    let short : n < want = ⊎_elim
    (λ lt. lt)
    (λ ge. let h : HasLongest devs n = has (omega (arith, some, ge)) in absurd (grind (arith, nat_tests, none h.dev, h.on, h.longest, ge)))
    (cases_lt n want) in (
      short,
      record {
        none = λ h. none_longer devs want n sound some short most h;
        some = λ positive. longest_somewhere devs n sound positive (has positive);
        most = λ h. none_longer devs (n + 1) n sound (omega arith) (omega arith) most h;
      },
    )

-- the runs of a metaslab are its free runs
free_runs : (devs : List DeviceFree) (d m : ℕ) → AreSound devs → AreFreeRuns (free_of devs) d m (slab_at (device_at devs d).slabs m)
unfolding free_at
free_runs devs d m sound = record {
  members = λ u. ⊎_elim
      (λ same. grind (arith, nat_tests, same))
      (λ other. grind (arith, nat_tests, other, slab_of devs d m u sound))
      (cases_eq (u / 512) m);
  maximal = ((sound d).slabs m).maximal;
}

first_or_later : (devs : List DeviceFree) (want d j m : ℕ) → AreSound devs → 0 < want → IsFirstDevice devs want d → serves_at devs j ≡ true → HasRun (free_of devs) want j m → (j ≡ d) ⊎ IsBefore (free_of devs) d j
unfolding serves_at count_at
first_or_later devs want d j m sound some first serves run =
    let has : has_run devs want j ≡ true = grind (arith, nat_tests, serves, run_on devs want j m sound some run) in
    ⊎_elim
    (λ more. inr (inl more))
    (λ most. ⊎_elim
    (λ fewer. absurd (grind (arith, nat_tests, fewer, first.before j, has)))
    (λ least.
    let even : free_on devs d ≡ free_on devs j = omega (arith, most, least) in
    ⊎_elim
    (λ lower. absurd (grind (arith, nat_tests, even, lower, first.before j, has)))
    (λ higher. ⊎_elim
    (λ same. inl same)
    (λ other. inr (inr (even, omega (arith, higher, other))))
    (cases_eq j d))
    (cases_lt j d))
    (cases_lt (free_on devs d) (free_on devs j)))
    (cases_lt (free_on devs j) (free_on devs d))

-- the first run of the first device is the placement
pub is_placement : (devs : List DeviceFree) (new : List (List Extent)) (policy : Policy) (want : ℕ) (at : Dva) (e : Extent) → AreSound devs → 0 < want → IsFirstDevice devs want at.dev → TakesFirst (device_at devs at.dev).slabs new policy want e → at.start ≡ e.start → at.len ≡ want → IsPlacement (free_of devs) policy want at
unfolding serves_at
is_placement devs new policy want at e sound some first taken start len = record {
  len = len;
  known = first.there;
  serves = grind (arith, nat_tests, first.run);
  metaslab = taken.slab;
  runs = slab_at (device_at devs at.dev).slabs taken.slab;
  index = taken.taken.index;
  are_runs = free_runs devs at.dev taken.slab sound;
  inside = taken.taken.inside;
  fits = taken.taken.fits;
  named = taken.taken.named;
  front = omega (arith, start, taken.taken.start);
  first_metaslab = λ m run. ⊎_elim
      (λ lower. absurd (omega (arith, taken.before m lower, run_fits devs want at.dev m sound some run)))
      (λ ge. ge)
      (cases_lt m taken.slab);
  first_device = λ d m known serves run. first_or_later devs want at.dev d m sound some first serves run;
}
