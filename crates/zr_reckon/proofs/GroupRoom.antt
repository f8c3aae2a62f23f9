-- The room from the begin of a group to its end.
use Rattle.std.proofs.Common.{◌≡◌, ℕ, ◌+◌, ◌≤◌, Bool, true, false, List, [], length, refl, ◌∙◌, ap, arith, if◌then◌else◌}
use Rattle.std.specs.List.{sum_by, range_with_len}
use Rattle.std.proofs.lemmas.Bool.Decides.{nat_tests}
use Rattle.zr_base.specs.declared.space.Extent.{Extent}
use Rattle.zr_base.specs.declared.space.Dva.{Dva}
use Rattle.zr_base.specs.declared.space.Policy.{Policy}
use Rattle.zr_base.specs.Extents.{has_unit}
use Rattle.zr_rules.specs.Owed.{set_words}
use Rattle.zr_rules.specs.Places.{count_below, part_of, units_of_dev}
use Rattle.zr_rules.specs.Roles.{Role, freed, kept_of, dropped, aged, cleared, is_held_role, is_kept_role, is_free_role}
use Rattle.zr_rules.specs.Roles.Role.{Absent, Free, FreshLive, Live, FreshCopy, Copy, Kept, DeferredBlock, DeferredMeta, Late1Block, Late1Meta, Late2Block, Late2Meta, Meta, SavedMeta}
use Rattle.zr_rules.specs.Space.{Space, opened_of, role_at, IsLawful}
use Rattle.zr_rules.specs.Columns.{role_count, on_devices, free_units, device_words, sizes}
use Rattle.zr_rules.specs.Frees.{Allocates, AllocatesMeta, DropsMeta, Frees, in_any}
use Rattle.zr_rules.specs.Steps.{Commits}
use Rattle.zr_reckon.specs.Base.{device_base, base_words}
use Rattle.zr_reckon.specs.Coming.{is_coming_role, room_to_come, KeepsRecords}
use Rattle.zr_reckon.specs.Uses.{is_room_role, is_dropped_role, room}
use Rattle.zr_reckon.proofs.Bits.{IsOnce, Bits, bits, role_of, role_is, is_deferred_block}
use Rattle.zr_reckon.proofs.Counting.{count_as, count_more, sum_as, sum_less}
use Rattle.zr_reckon.proofs.Frames.{held_same, kept_same, deferred_same, fresh_same, words_move, base_moves, sized, streams_same, gone_same, uncopied_same, on_same, count_same}
use Rattle.zr_reckon.proofs.FreePieces.{by_use}
use Rattle.zr_reckon.proofs.Placed.{was_free_at, kind_less}
use Rattle.zr_reckon.proofs.RoleSets.{once}
use Rattle.zr_reckon.proofs.Turned.{Turns, kind_same}

dropped_held : (r : Role) → is_held_role (dropped r) ≡ is_held_role r
dropped_held Absent = refl
dropped_held Free = refl
dropped_held FreshLive = refl
dropped_held Live = refl
dropped_held FreshCopy = refl
dropped_held Copy = refl
dropped_held Kept = refl
dropped_held DeferredBlock = refl
dropped_held DeferredMeta = refl
dropped_held Late1Block = refl
dropped_held Late1Meta = refl
dropped_held Late2Block = refl
dropped_held Late2Meta = refl
dropped_held Meta = refl
dropped_held SavedMeta = refl

dropped_kept : (r : Role) → is_kept_role (dropped r) ≡ is_kept_role r
dropped_kept Absent = refl
dropped_kept Free = refl
dropped_kept FreshLive = refl
dropped_kept Live = refl
dropped_kept FreshCopy = refl
dropped_kept Copy = refl
dropped_kept Kept = refl
dropped_kept DeferredBlock = refl
dropped_kept DeferredMeta = refl
dropped_kept Late1Block = refl
dropped_kept Late1Meta = refl
dropped_kept Late2Block = refl
dropped_kept Late2Meta = refl
dropped_kept Meta = refl
dropped_kept SavedMeta = refl

dropped_deferred : (r : Role) → is_deferred_block (dropped r) ≡ is_deferred_block r
dropped_deferred Absent = refl
dropped_deferred Free = refl
dropped_deferred FreshLive = refl
dropped_deferred Live = refl
dropped_deferred FreshCopy = refl
dropped_deferred Copy = refl
dropped_deferred Kept = refl
dropped_deferred DeferredBlock = refl
dropped_deferred DeferredMeta = refl
dropped_deferred Late1Block = refl
dropped_deferred Late1Meta = refl
dropped_deferred Late2Block = refl
dropped_deferred Late2Meta = refl
dropped_deferred Meta = refl
dropped_deferred SavedMeta = refl

dropped_free : (r : Role) → is_free_role (dropped r) ≡ is_free_role r
dropped_free Absent = refl
dropped_free Free = refl
dropped_free FreshLive = refl
dropped_free Live = refl
dropped_free FreshCopy = refl
dropped_free Copy = refl
dropped_free Kept = refl
dropped_free DeferredBlock = refl
dropped_free DeferredMeta = refl
dropped_free Late1Block = refl
dropped_free Late1Meta = refl
dropped_free Late2Block = refl
dropped_free Late2Meta = refl
dropped_free Meta = refl
dropped_free SavedMeta = refl

dropped_coming : (r : Role) → is_coming_role r ≡ true → is_coming_role (dropped r) ≡ true
dropped_coming Absent is = absurd (cc)
dropped_coming Free is = refl
dropped_coming FreshLive is = absurd (cc)
dropped_coming Live is = absurd (cc)
dropped_coming FreshCopy is = absurd (cc)
dropped_coming Copy is = absurd (cc)
dropped_coming Kept is = absurd (cc)
dropped_coming DeferredBlock is = absurd (cc)
dropped_coming DeferredMeta is = refl
dropped_coming Late1Block is = absurd (cc)
dropped_coming Late1Meta is = refl
dropped_coming Late2Block is = absurd (cc)
dropped_coming Late2Meta is = refl
dropped_coming Meta is = refl
dropped_coming SavedMeta is = absurd (cc)

freed_coming : (r : Role) → is_coming_role r ≡ true → is_coming_role (freed r) ≡ true
freed_coming Absent is = absurd (cc)
freed_coming Free is = refl
freed_coming FreshLive is = absurd (cc)
freed_coming Live is = absurd (cc)
freed_coming FreshCopy is = absurd (cc)
freed_coming Copy is = absurd (cc)
freed_coming Kept is = absurd (cc)
freed_coming DeferredBlock is = absurd (cc)
freed_coming DeferredMeta is = refl
freed_coming Late1Block is = absurd (cc)
freed_coming Late1Meta is = refl
freed_coming Late2Block is = absurd (cc)
freed_coming Late2Meta is = refl
freed_coming Meta is = refl
freed_coming SavedMeta is = absurd (cc)

kept_coming : (r : Role) → is_coming_role r ≡ true → is_coming_role (kept_of r) ≡ true
kept_coming Absent is = absurd (cc)
kept_coming Free is = refl
kept_coming FreshLive is = absurd (cc)
kept_coming Live is = absurd (cc)
kept_coming FreshCopy is = absurd (cc)
kept_coming Copy is = absurd (cc)
kept_coming Kept is = absurd (cc)
kept_coming DeferredBlock is = absurd (cc)
kept_coming DeferredMeta is = refl
kept_coming Late1Block is = absurd (cc)
kept_coming Late1Meta is = refl
kept_coming Late2Block is = absurd (cc)
kept_coming Late2Meta is = refl
kept_coming Meta is = refl
kept_coming SavedMeta is = absurd (cc)

aged_coming : (r : Role) → is_coming_role r ≡ true → is_room_role (aged r) ≡ true
aged_coming Absent is = absurd (cc)
aged_coming Free is = refl
aged_coming FreshLive is = absurd (cc)
aged_coming Live is = absurd (cc)
aged_coming FreshCopy is = absurd (cc)
aged_coming Copy is = absurd (cc)
aged_coming Kept is = absurd (cc)
aged_coming DeferredBlock is = absurd (cc)
aged_coming DeferredMeta is = refl
aged_coming Late1Block is = absurd (cc)
aged_coming Late1Meta is = refl
aged_coming Late2Block is = absurd (cc)
aged_coming Late2Meta is = refl
aged_coming Meta is = refl
aged_coming SavedMeta is = absurd (cc)

cleared_coming : (r : Role) → is_coming_role r ≡ true → is_room_role (cleared r) ≡ true
cleared_coming Absent is = absurd (cc)
cleared_coming Free is = refl
cleared_coming FreshLive is = absurd (cc)
cleared_coming Live is = absurd (cc)
cleared_coming FreshCopy is = absurd (cc)
cleared_coming Copy is = absurd (cc)
cleared_coming Kept is = absurd (cc)
cleared_coming DeferredBlock is = absurd (cc)
cleared_coming DeferredMeta is = refl
cleared_coming Late1Block is = absurd (cc)
cleared_coming Late1Meta is = refl
cleared_coming Late2Block is = absurd (cc)
cleared_coming Late2Meta is = refl
cleared_coming Meta is = refl
cleared_coming SavedMeta is = absurd (cc)

-- units of one kind that turn into units of another, on the devices in service
module _ (old new : Space) (count : length new.parts.devs ≡ length old.parts.devs) (rows : (d : ℕ) → (part_of new.parts.devs d).row ≡ (part_of old.parts.devs d).row) (f g : Role → Bool) where
  on_grow : ((d u : ℕ) → f (role_at old d u) ≡ true → g (role_at new d u) ≡ true) → sum_by (role_count old f) (on_devices old) ≤ sum_by (role_count new g) (on_devices new)
  on_grow more =
      let a = ap (sum_by (role_count new g)) (on_same old new count rows) in
      let b = sum_less (role_count old f) (role_count new g) (on_devices old) each in
      omega (arith, a, b)
    where
      each : (d : ℕ) → role_count old f d ≤ role_count new g d
      each d =
          let x = ap (λ (n : ℕ). count_below n (λ u. g (role_at new d u))) (ap (λ r. r.units) (rows d)) in
          let y = count_more (units_of_dev old.parts.devs d) (λ u. f (role_at old d u)) (λ u. g (role_at new d u)) (λ u lt. more d u) in
          omega (arith, x, y)

-- ---- metadata is given back

module _ (old new : Space) (list : List Dva) (c : DropsMeta old new list) (k : KeepsRecords old new) where
  rows : (d : ℕ) → (part_of new.parts.devs d).row ≡ (part_of old.parts.devs d).row
  rows d = (k.each d).row

  same : (kind : Role → Bool) → ((r : Role) → kind (dropped r) ≡ kind r) → (d u : ℕ) → kind (role_at new d u) ≡ kind (role_at old d u)
  same kind is d u = ap kind (c.roles d u) ∙ choose (in_any list d u)
    where
      choose : (b : Bool) → kind (if b then dropped (role_at old d u) else role_at old d u) ≡ kind (role_at old d u)
      choose true = is (role_at old d u)
      choose false = refl

  each_words : (d : ℕ) → device_words new d ≡ device_words old d
  each_words d =
      let v = old.parts.version in
      let l = k.old_lawful in
      let m = k.new_lawful in
      let w = words_move old new d k.version (k.each d) in
      let held = ap (set_words v) (held_same old new d d l m (same is_held_role dropped_held d)) in
      let kept = ap (set_words v) (kept_same old new d d l m (same is_kept_role dropped_kept d)) in
      let deferred = ap (set_words v) (deferred_same old new d d l m (same is_deferred_block dropped_deferred d)) in
      let fresh = ap (set_words v) (fresh_same old new d l m (c.fresh d)) in
      omega (arith, w, held, kept, deferred, fresh)

  pub drop_words : (blocks objects : ℕ) → (sizes new blocks objects).words ≡ (sizes old blocks objects).words
  drop_words blocks objects =
      ap (λ (n : ℕ). sum_by (device_words new) (range_with_len 0 n)) k.devices
      ∙ sum_as (device_words new) (device_words old) (range_with_len 0 (length old.parts.devs)) each_words

  each_base : (d : ℕ) → device_base new d ≡ device_base old d
  each_base d =
      let v = old.parts.version in
      let l = k.old_lawful in
      let m = k.new_lawful in
      let w = base_moves old new d k.version (k.each d) in
      let held = ap (set_words v) (held_same old new d d l m (same is_held_role dropped_held d)) in
      let kept = ap (set_words v) (kept_same old new d d l m (same is_kept_role dropped_kept d)) in
      let fresh = ap (set_words v) (fresh_same old new d l m (c.fresh d)) in
      omega (arith, w, held, kept, fresh)

  pub drop_base : base_words new ≡ base_words old
  drop_base =
      ap (λ (n : ℕ). sum_by (device_base new) (range_with_len 0 n)) k.devices
      ∙ sum_as (device_base new) (device_base old) (range_with_len 0 (length old.parts.devs)) each_base

  pub drop_free : free_units new ≡ free_units old
  drop_free =
      ap (sum_by (role_count new is_free_role)) (on_same old new k.devices rows)
      ∙ sum_as (role_count new is_free_role) (role_count old is_free_role) (on_devices old) (λ d. count_same old new k.devices rows is_free_role d (same is_free_role dropped_free d))

  pub drop_others : (blocks objects : ℕ) → sizes new blocks objects ≡ record (sizes old blocks objects) { turning = (sizes new blocks objects).turning; past = (sizes new blocks objects).past }
  drop_others blocks objects =
      all_sizes _ _ _ _ _ _ _ _ blocks objects (sizes new blocks objects).turning (sizes new blocks objects).past
      (drop_words blocks objects)
      (ap (λ (n : ℕ). 2 + n) (streams_same old new k.devices rows))
      (gone_same old new k.devices rows)
      (uncopied_same old new k.devices rows (λ d. (k.each d).entries) (λ d is. held_same old new d d k.old_lawful k.new_lawful (same is_held_role dropped_held d)))
    where
      all_sizes : (w1 w2 s1 s2 g1 g2 u1 u2 : ℕ) (blocks objects turning past : ℕ) → w1 ≡ w2 → s1 ≡ s2 → g1 ≡ g2 → u1 ≡ u2
          → sized blocks objects w1 s1 g1 u1 turning past ≡ sized blocks objects w2 s2 g2 u2 turning past
      all_sizes w1 w2 s1 s2 g1 g2 u1 u2 blocks objects turning past w s g u = cc

  pub drop_room : room_to_come old ≤ room_to_come new
  drop_room = on_grow old new k.devices rows is_coming_role is_coming_role (λ d u is. ap is_coming_role (c.roles d u) ∙ choose d u (in_any list d u) is)
    where
      choose : (d u : ℕ) (b : Bool) → is_coming_role (role_at old d u) ≡ true → is_coming_role (if b then dropped (role_at old d u) else role_at old d u) ≡ true
      choose d u true is = dropped_coming (role_at old d u) is
      choose d u false is = is

-- ---- from the begin to the end

-- a unit that the commit gave back is in the set of these
dropped_bit : (b : Bits) → IsOnce b → is_dropped_role (role_of b) ≡ b.dropped
unfolding role_of
dropped_bit b o = let i = o.once in let k = o.kept in grind (arith, nat_tests, i, k)

pub dropped_is : (s : Space) (d u : ℕ) → IsLawful s → is_dropped_role (role_at s d u) ≡ has_unit (opened_of s d).dropped u
unfolding bits
dropped_is s d u l = ap is_dropped_role (role_is s d u) ∙ dropped_bit (bits s d u) (once s d u l)

pub begin_room : (s : Space) → IsLawful s → ((d : ℕ) → (opened_of s d).dropped ≡ []) → room_to_come s ≡ room s
begin_room s l none = sum_as (role_count s is_coming_role) (role_count s is_room_role) (on_devices s) (λ d. count_as (units_of_dev s.parts.devs d) (λ u. is_coming_role (role_at s d u)) (λ u. is_room_role (role_at s d u)) (λ u lt. each d u))
  where
    dropped_none : (d u : ℕ) → is_dropped_role (role_at s d u) ≡ false
    dropped_none d u = dropped_is s d u l ∙ ap (λ (es : List Extent). has_unit es u) (none d)

    either : (a b : Bool) → b ≡ false → (if a then true else b) ≡ a
    either true b is = refl
    either false b is = is

    each : (d u : ℕ) → is_coming_role (role_at s d u) ≡ is_room_role (role_at s d u)
    each d u = either (is_room_role (role_at s d u)) (is_dropped_role (role_at s d u)) (dropped_none d u)

pub block_room : (policy : Policy) (want : ℕ) (old new : Space) (at : Dva) → Allocates policy want old new at → room_to_come new + want ≡ room_to_come old
block_room policy want old new at a = kind_less old policy want at a.place new FreshLive a.frame.devices (λ d. (a.frame.each d).row) a.roles is_coming_role refl refl

pub metadata_room : (policy : Policy) (want : ℕ) (old new : Space) (at : Dva) → AllocatesMeta policy want old new at → room_to_come new ≡ room_to_come old
metadata_room policy want old new at a =
    let turns : Turns old new at Free Meta = record { was = λ d u is. was_free_at old policy want at a.place d u is; roles = a.roles } in
    let rows : (d : ℕ) → (part_of new.parts.devs d).row ≡ (part_of old.parts.devs d).row = λ d. (a.frame.each d).row in
    ap (sum_by (role_count new is_coming_role)) (on_same old new a.frame.devices rows)
    ∙ sum_as (role_count new is_coming_role) (role_count old is_coming_role) (on_devices old) (λ d. count_same old new a.frame.devices rows is_coming_role d (kind_same old new at Free Meta turns is_coming_role refl d))

pub freed_room : (old new : Space) (a : Dva) (birth : ℕ) → Frees old new a birth → room_to_come old ≤ room_to_come new
freed_room old new a birth f = on_grow old new f.frame.devices (λ d. (f.frame.each d).row) is_coming_role is_coming_role
    (λ d u is. ap is_coming_role (f.roles d u) ∙ by_use old new a birth f d u (λ r. is_coming_role r ≡ true) is (freed_coming (role_at old d u) is) (kept_coming (role_at old d u) is))

free_stays : (r : Role) → is_free_role r ≡ true → is_free_role (freed r) ≡ true
free_stays Free is = refl
free_stays _ is = absurd (cc)

free_stays_kept : (r : Role) → is_free_role r ≡ true → is_free_role (kept_of r) ≡ true
free_stays_kept Free is = refl
free_stays_kept _ is = absurd (cc)

-- what is free stays so
pub freed_free : (old new : Space) (a : Dva) (birth : ℕ) → Frees old new a birth → free_units old ≤ free_units new
freed_free old new a birth f = on_grow old new f.frame.devices (λ d. (f.frame.each d).row) is_free_role is_free_role
    (λ d u is. ap is_free_role (f.roles d u) ∙ by_use old new a birth f d u (λ r. is_free_role r ≡ true) is (free_stays (role_at old d u) is) (free_stays_kept (role_at old d u) is))

pub ended_room : (reset : Bool) (old new : Space) → Commits reset old new → room_to_come old ≤ room new
ended_room reset old new c = on_grow old new c.devices c.rows is_coming_role is_room_role (λ d u is. ap is_room_role (c.roles d u) ∙ by_reset reset d u is)
  where
    by_reset : (b : Bool) (d u : ℕ) → is_coming_role (role_at old d u) ≡ true → is_room_role (if b then cleared (role_at old d u) else aged (role_at old d u)) ≡ true
    by_reset true d u is = cleared_coming (role_at old d u) is
    by_reset false d u is = aged_coming (role_at old d u) is
