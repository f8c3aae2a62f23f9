-- The units of an allocation, and the counts behind it.
use Rattle.std.proofs.Common.{◌≡◌, ◌≢◌, ℕ, ◌+◌, ◌-◌, ◌<◌, ◌≤◌, Bool, true, false, ◌&&◌, ◌||◌, List, length, refl, ◌∙◌, sym, ap, arith, if◌then◌else◌, ⊎_elim}
use Rattle.std.specs.List.{sum_by, range_with_len}
use Rattle.std.proofs.lemmas.Bool.{cases_lt, cases_eq}
use Rattle.std.proofs.lemmas.Bool.Decides.{nat_tests}
use Rattle.zr_base.specs.declared.space.Extent.{Extent}
use Rattle.zr_base.specs.declared.space.Dva.{Dva}
use Rattle.zr_base.specs.declared.space.Policy.{Policy}
use Rattle.zr_base.specs.declared.space.DevState.{DevState}
use Rattle.zr_base.specs.declared.space.DevState.TheVariants.{On, Leaving, Gone}
use Rattle.zr_base.specs.Extents.{in_extent, has_unit}
use Rattle.zr_base.proofs.ExtentSets.{has_unit-at}
use Rattle.zr_rules.specs.Owed.{set_words}
use Rattle.zr_rules.specs.Places.{count_below, in_address, is_on, is_leaving, part_of, state_of_dev, units_of_dev}
use Rattle.zr_rules.specs.Placement.{IsPlacement, in_metaslab}
use Rattle.zr_rules.specs.Roles.{Role, is_held_role, is_kept_role, is_free_role}
use Rattle.zr_rules.specs.Roles.Role.{Absent, Free, FreshLive, Live, FreshCopy, Copy, Kept, DeferredBlock, DeferredMeta, Late1Block, Late1Meta, Late2Block, Late2Meta, Meta, SavedMeta}
use Rattle.zr_rules.specs.Space.{Space, has_place, role_at, IsLawful}
use Rattle.zr_rules.specs.Columns.{role_count, free_of, on_devices, free_units, device_words, sizes}
use Rattle.zr_rules.specs.Frees.{Allocates, IsSameFrame}
use Rattle.zr_reckon.specs.Base.{device_base, base_words}
use Rattle.zr_reckon.specs.Sets.{IsWith}
use Rattle.zr_reckon.specs.Uses.{is_dropped_role, dropped_units}
use Rattle.zr_reckon.proofs.Bits.{is_deferred_block}
use Rattle.zr_reckon.proofs.RoleSets.{held_is}
use Rattle.zr_reckon.proofs.SetWords.{more_words, short_words}
use Rattle.zr_reckon.proofs.Counting.{count_as, count_with, sum_as, sum_grows, sum_both, sum_passing, sum_at, sum_at_most, only_at}
use Rattle.zr_reckon.proofs.Frames.{held_same, kept_same, deferred_same, fresh_same, words_move, base_moves, count_same, on_same, others_same}

pub free_is : (r : Role) → is_free_role r ≡ true → r ≡ Free
free_is Free is = refl
free_is Absent is = absurd (cc)
free_is FreshLive is = absurd (cc)
free_is Live is = absurd (cc)
free_is FreshCopy is = absurd (cc)
free_is Copy is = absurd (cc)
free_is Kept is = absurd (cc)
free_is DeferredBlock is = absurd (cc)
free_is DeferredMeta is = absurd (cc)
free_is Late1Block is = absurd (cc)
free_is Late1Meta is = absurd (cc)
free_is Late2Block is = absurd (cc)
free_is Late2Meta is = absurd (cc)
free_is Meta is = absurd (cc)
free_is SavedMeta is = absurd (cc)

abbrev pub extent_of : Dva → Extent
extent_of a = record { start = a.start; len = a.len }

-- a unit of a device that has it not is absent, so one with a role is there
pub beyond : (s : Space) (d u : ℕ) → has_place s d u ≡ false → role_at s d u ≡ Absent
unfolding role_at
beyond s d u none = rw none refl

pub within : (s : Space) (d u : ℕ) → (role_at s d u ≡ Absent → ⊥) → u < units_of_dev s.parts.devs d
within s d u used = ⊎_elim
    (λ lt. lt)
    (λ ge. absurd (used (beyond s d u (grind (arith, nat_tests, ge)))))
    (cases_lt u (units_of_dev s.parts.devs d))

module _ (s : Space) (policy : Policy) (want : ℕ) (at : Dva) (p : IsPlacement (free_of s) policy want at) where
  in_run : (u : ℕ) → at.start ≤ u → u < at.start + at.len → (is_free_role (role_at s at.dev u) && in_metaslab p.metaslab u) ≡ true
  in_run u from to =
      let len = p.len in
      let fits = p.fits in
      let front = p.front in
      let there : has_unit p.runs u ≡ true = has_unit-at p.index u p.runs (record { start = 0; len = 0 }) p.inside (grind (arith, nat_tests, from, to, len, fits, front)) in
      sym (p.are_runs.members u) ∙ there

  -- each unit was free
  pub was_free : (u : ℕ) → at.start ≤ u → u < at.start + at.len → role_at s at.dev u ≡ Free
  was_free u from to = free_is (role_at s at.dev u) (let r = in_run u from to in grind (arith, r))

  pub was_free_at : (d u : ℕ) → in_address at d u ≡ true → role_at s d u ≡ Free
  was_free_at d u is =
      let same : d ≡ at.dev = grind (arith, nat_tests, is) in
      ap (λ (k : ℕ). role_at s k u) same ∙ was_free u (grind (arith, nat_tests, is)) (grind (arith, nat_tests, is))

  -- they lie within a metaslab
  pub is_short : at.len ≤ 32768
  is_short = ⊎_elim
      (λ some.
      let a = in_run at.start (omega arith) (omega (arith, some)) in
      let b = in_run (at.start + at.len - 1) (omega (arith, some)) (omega (arith, some)) in
      grind (arith, nat_tests, a, b, some))
      (λ none. omega (arith, none))
      (cases_lt 0 at.len)

  pub fits_device : 0 < at.len → at.start + at.len ≤ units_of_dev s.parts.devs at.dev
  fits_device some =
      let f = was_free (at.start + at.len - 1) (omega (arith, some)) (omega (arith, some)) in
      let lt = within s at.dev (at.start + at.len - 1) (λ e. let x = sym f ∙ e in absurd (cc)) in
      omega (arith, lt, some)

  -- the device is in service
  pub not_leaving : is_leaving (state_of_dev s.parts.devs at.dev) ≡ false
  not_leaving = stays (state_of_dev s.parts.devs at.dev) p.serves
    where
      stays : (st : DevState) → is_on st ≡ true → is_leaving st ≡ false
      stays On is = refl
      stays Leaving is = absurd (cc)
      stays Gone is = refl

  -- units that get another role come from those that are free
  module _ (new : Space) (role : Role) (count : length new.parts.devs ≡ length s.parts.devs) (rows : (d : ℕ) → (part_of new.parts.devs d).row ≡ (part_of s.parts.devs d).row) (roles : (d u : ℕ) → role_at new d u ≡ (if in_address at d u then role else role_at s d u)) where
    module _ (kind : Role → Bool) (had : kind Free ≡ true) (other : kind role ≡ false) where
      counts : (d : ℕ) → role_count s kind d ≡ role_count new kind d + only_at at.dev at.len d
      counts d = ⊎_elim
          (λ here.
          let n = units_of_dev s.parts.devs d in
          let u : units_of_dev new.parts.devs d ≡ n = ap (λ r. r.units) (rows d) in
          let fit : 0 < at.len → at.start + at.len ≤ n = λ some. let x = fits_device some in let y : units_of_dev s.parts.devs d ≡ units_of_dev s.parts.devs at.dev = ap (units_of_dev s.parts.devs) here in omega (arith, x, y) in
          let w = count_with n (λ u. kind (role_at new d u)) (λ u. kind (role_at s d u)) (extent_of at) fit
          (λ u is. ap kind (roles d u) ∙ taken d u here is)
          (λ u lt. left d u here) in
          let m = ap (λ (k : ℕ). count_below k (λ u. kind (role_at new d u))) u in
          grind (arith, nat_tests, w, m, here))
          (λ away.
          let n = units_of_dev s.parts.devs d in
          let u : units_of_dev new.parts.devs d ≡ n = ap (λ r. r.units) (rows d) in
          let w = count_as n (λ u. kind (role_at new d u)) (λ u. kind (role_at s d u)) (λ u lt. ap kind (roles d u) ∙ stays d u away) in
          let m = ap (λ (k : ℕ). count_below k (λ u. kind (role_at new d u))) u in
          grind (arith, nat_tests, w, m, away))
          (cases_eq d at.dev)
        where
          taken : (d u : ℕ) → d ≡ at.dev → in_extent (extent_of at) u ≡ true → kind (if in_address at d u then role else role_at s d u) ≡ false
          taken d u here is = let yes : in_address at d u ≡ true = grind (arith, nat_tests, here, is) in rw yes other

          left : (d u : ℕ) → d ≡ at.dev → kind (role_at s d u) ≡ (in_extent (extent_of at) u || kind (role_at new d u))
          left d u here = by_test (in_extent (extent_of at) u) refl
            where
              by_test : (b : Bool) → in_extent (extent_of at) u ≡ b → kind (role_at s d u) ≡ (in_extent (extent_of at) u || kind (role_at new d u))
              by_test true is = let yes : in_address at d u ≡ true = grind (arith, nat_tests, here, is) in rw is (ap kind (was_free_at d u yes) ∙ had)
              by_test false is = let no : in_address at d u ≡ false = grind (arith, nat_tests, here, is) in rw is (sym (ap kind (roles d u ∙ (rw no refl))))

          stays : (d u : ℕ) → d ≢ at.dev → kind (if in_address at d u then role else role_at s d u) ≡ kind (role_at s d u)
          stays d u away = let no : in_address at d u ≡ false = grind (arith, nat_tests, away) in rw no refl

      each : (d : ℕ) → (if is_on (state_of_dev s.parts.devs d) then role_count s kind d else 0) ≡ (if is_on (state_of_dev s.parts.devs d) then role_count new kind d else 0) + only_at at.dev at.len d
      each d = by_test (is_on (state_of_dev s.parts.devs d)) refl
        where
          by_test : (b : Bool) → is_on (state_of_dev s.parts.devs d) ≡ b → (if b then role_count s kind d else 0) ≡ (if b then role_count new kind d else 0) + only_at at.dev at.len d
          by_test true is = counts d
          by_test false is =
              let away : d ≢ at.dev = λ here. let x = sym is ∙ (ap (λ (k : ℕ). is_on (state_of_dev s.parts.devs k)) here ∙ p.serves) in absurd (cc) in
              grind (arith, nat_tests, away)

      pub kind_less : sum_by (role_count new kind) (on_devices new) + want ≡ sum_by (role_count s kind) (on_devices s)
      kind_less =
          let n = length s.parts.devs in
          let on : ℕ → Bool = λ (d : ℕ). is_on (state_of_dev s.parts.devs d) in
          let devices = on_same s new count rows in
          let a = ap (λ (ds : List ℕ). sum_by (role_count new kind) ds) devices in
          let b = sum_passing (role_count new kind) on (range_with_len 0 n) in
          let c = sum_passing (role_count s kind) on (range_with_len 0 n) in
          let both = sum_both (λ (d : ℕ). if on d then role_count s kind d else 0) (λ (d : ℕ). if on d then role_count new kind d else 0) (only_at at.dev at.len) (range_with_len 0 n) each in
          let one = sum_at at.dev at.len n p.known in
          let len = p.len in
          omega (arith, a, b, c, both, one, len)

  pub frees_less : (new : Space) (role : Role) → is_free_role role ≡ false → IsSameFrame s new → ((d u : ℕ) → role_at new d u ≡ (if in_address at d u then role else role_at s d u)) → free_units new + want ≡ free_units s
  frees_less new role other f roles = kind_less new role f.devices (λ d. (f.each d).row) roles is_free_role refl other

-- ---- an allocation for a block

module _ (policy : Policy) (want : ℕ) (old new : Space) (at : Dva) (a : Allocates policy want old new at) (l : IsLawful old) where
  lawful : IsLawful new
  lawful = a.frame.lawful l

  -- kinds of roles that neither free nor fresh units have are had by the same units
  same_kind : (kind : Role → Bool) → kind Free ≡ false → kind FreshLive ≡ false → (d u : ℕ) → kind (role_at new d u) ≡ kind (role_at old d u)
  same_kind kind free fresh d u = ap kind (a.roles d u) ∙ by_test (in_address at d u) refl
    where
      by_test : (b : Bool) → in_address at d u ≡ b → kind (if in_address at d u then FreshLive else role_at old d u) ≡ kind (role_at old d u)
      by_test true is = let f = ap kind (was_free_at old policy want at a.place d u is) in rw is (fresh ∙ (sym free ∙ sym f))
      by_test false is = rw is refl

  held_away : (d : ℕ) → d ≢ at.dev → (part_of new.parts.devs d).held ≡ (part_of old.parts.devs d).held
  held_away d away = held_same old new d d l lawful (λ u. ap is_held_role (a.roles d u) ∙ (let no : in_address at d u ≡ false = grind (arith, nat_tests, away) in rw no refl))

  held_here : (d : ℕ) → d ≡ at.dev → IsWith (part_of old.parts.devs d).held (part_of new.parts.devs d).held (extent_of at)
  held_here d here = record {
    old_maximal = (l.sets d).held.maximal;
    new_maximal = (lawful.sets d).held.maximal;
    members = λ u. held_is new d u lawful ∙ (ap is_held_role (a.roles d u) ∙ (by_test u (in_extent (extent_of at) u) refl ∙ ap (λ (b : Bool). b || in_extent (extent_of at) u) (sym (held_is old d u l))));
  }
    where
      by_test : (u : ℕ) (b : Bool) → in_extent (extent_of at) u ≡ b → is_held_role (if in_address at d u then FreshLive else role_at old d u) ≡ (is_held_role (role_at old d u) || in_extent (extent_of at) u)
      by_test u true is = let yes : in_address at d u ≡ true = grind (arith, nat_tests, here, is) in rw yes rw is (or_true (is_held_role (role_at old d u)))
        where
          or_true : (b : Bool) → true ≡ (b || true)
          or_true true = refl
          or_true false = refl
      by_test u false is = let no : in_address at d u ≡ false = grind (arith, nat_tests, here, is) in rw no rw is (or_false (is_held_role (role_at old d u)))
        where
          or_false : (b : Bool) → b ≡ (b || false)
          or_false true = refl
          or_false false = refl

  held_words : (d : ℕ) → set_words old.parts.version (part_of new.parts.devs d).held ≤ set_words old.parts.version (part_of old.parts.devs d).held + only_at at.dev 1 d
  held_words d = ⊎_elim
      (λ here.
      let m = more_words old.parts.version _ _ (extent_of at) (held_here d here) in
      let s = short_words old.parts.version (extent_of at) (is_short old policy want at a.place) in
      grind (arith, nat_tests, m, s, here))
      (λ away. let m = ap (set_words old.parts.version) (held_away d away) in grind (arith, nat_tests, m, away))
      (cases_eq d at.dev)

  each_words : (d : ℕ) → device_words new d ≤ device_words old d + only_at at.dev 1 d
  each_words d =
      let v = old.parts.version in
      let m = words_move old new d a.frame.version (a.frame.each d) in
      let held = held_words d in
      let kept = ap (set_words v) (kept_same old new d d l lawful (same_kind is_kept_role refl refl d)) in
      let deferred = ap (set_words v) (deferred_same old new d d l lawful (same_kind is_deferred_block refl refl d)) in
      let fresh = ap (set_words v) (fresh_same old new d l lawful (a.fresh d)) in
      omega (arith, m, held, kept, deferred, fresh)

  pub allocation_words : (blocks objects : ℕ) → (sizes new blocks objects).words ≤ (sizes old blocks objects).words + 1
  allocation_words blocks objects =
      let n = length old.parts.devs in
      let s = ap (λ (k : ℕ). sum_by (device_words new) (range_with_len 0 k)) a.frame.devices in
      let g = sum_grows (device_words new) (device_words old) (only_at at.dev 1) (range_with_len 0 n) each_words in
      let o = sum_at_most at.dev 1 n in
      omega (arith, s, g, o)

  each_base : (d : ℕ) → device_base new d ≤ device_base old d + only_at at.dev 1 d
  each_base d =
      let v = old.parts.version in
      let m = base_moves old new d a.frame.version (a.frame.each d) in
      let held = held_words d in
      let kept = ap (set_words v) (kept_same old new d d l lawful (same_kind is_kept_role refl refl d)) in
      let fresh = ap (set_words v) (fresh_same old new d l lawful (a.fresh d)) in
      omega (arith, m, held, kept, fresh)

  pub allocation_base : base_words new ≤ base_words old + 1
  allocation_base =
      let n = length old.parts.devs in
      let s = ap (λ (k : ℕ). sum_by (device_base new) (range_with_len 0 k)) a.frame.devices in
      let g = sum_grows (device_base new) (device_base old) (only_at at.dev 1) (range_with_len 0 n) each_base in
      let o = sum_at_most at.dev 1 n in
      omega (arith, s, g, o)

  -- no metadata is given back
  pub allocation_dropped : dropped_units new ≡ dropped_units old
  allocation_dropped =
      ap (λ (k : ℕ). sum_by (role_count new is_dropped_role) (range_with_len 0 k)) a.frame.devices
      ∙ sum_as (role_count new is_dropped_role) (role_count old is_dropped_role) (range_with_len 0 (length old.parts.devs)) (λ d. count_same old new a.frame.devices (λ e. (a.frame.each e).row) is_dropped_role d (same_kind is_dropped_role refl refl d))

  pub allocation_frees : free_units new + want ≡ free_units old
  allocation_frees = frees_less old policy want at a.place new FreshLive refl a.frame a.roles

  pub allocation_others : (blocks objects : ℕ) → sizes new blocks objects ≡ record (sizes old blocks objects) { words = (sizes new blocks objects).words }
  allocation_others blocks objects = others_same old new blocks objects a.frame a.meta
      (λ d is. held_away d (λ here. let x = sym is ∙ (ap (λ (k : ℕ). is_leaving (state_of_dev old.parts.devs k)) here ∙ not_leaving old policy want at a.place) in absurd (cc)))
