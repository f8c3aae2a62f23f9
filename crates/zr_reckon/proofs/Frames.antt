-- What stays of the counts where only some roles change.
use Rattle.std.proofs.Common.{◌≡◌, ℕ, ◌+◌, ◌*◌, ◌≤◌, Bool, true, false, max, List, length, refl, ◌∙◌, sym, ap, ap₂, arith, if◌then◌else◌}
use Rattle.std.specs.Prelude.{filter, count_by}
use Rattle.std.specs.List.{sum_by, range_with_len}
use Rattle.std.proofs.Math.Path.{fun_ext}
use Rattle.zr_base.specs.declared.space.Extent.{Extent}
use Rattle.zr_base.specs.declared.space.Dva.{Dva}
use Rattle.zr_base.specs.declared.space.Entry.{Entry}
use Rattle.zr_base.specs.declared.space.DevPart.{DevPart}
use Rattle.zr_base.specs.declared.space.DevRow.{DevRow}
use Rattle.zr_base.specs.declared.space.DevState.{DevState}
use Rattle.zr_base.specs.declared.space.Sizes.{Sizes}
use Rattle.zr_base.proofs.ExtentSets.{same_extents}
use Rattle.zr_rules.specs.Owed.{set_words}
use Rattle.zr_rules.specs.Places.{count_below, part_of, is_on, is_leaving, is_gone, is_fresh, state_of_dev, units_of_dev}
use Rattle.zr_rules.specs.Mappings.{end_of_last}
use Rattle.zr_rules.specs.Roles.{Role, is_held_role, is_kept_role}
use Rattle.zr_rules.specs.Space.{Space, opened_of, role_at, IsLawful}
use Rattle.zr_rules.specs.Columns.{role_count, on_devices, units_from, uncopied_units, late_blocks, late_meta_units, device_words, device_streams, units_on, late1_meta, late2_meta, on_parts, sizes}
use Rattle.zr_rules.specs.Frees.{IsSamePart, IsSameFrame}
use Rattle.zr_reckon.proofs.Bits.{is_deferred_block}
use Rattle.zr_reckon.proofs.RoleSets.{held_is, kept_is, deferred_is}
use Rattle.zr_reckon.specs.Base.{device_base}
use Rattle.zr_reckon.specs.Uses.{is_room_role, room}
use Rattle.zr_reckon.proofs.Counting.{count_as, count_more, sum_less, sum_passing, by_index}

-- ---- sets with the same units

pub held_same : (old new : Space) (d e : ℕ) → IsLawful old → IsLawful new → ((u : ℕ) → is_held_role (role_at new e u) ≡ is_held_role (role_at old d u)) → (part_of new.parts.devs e).held ≡ (part_of old.parts.devs d).held
held_same old new d e l m same = same_extents 0 0 _ _ (m.sets e).held.maximal (l.sets d).held.maximal (λ u. held_is new e u m ∙ (same u ∙ sym (held_is old d u l)))

pub kept_same : (old new : Space) (d e : ℕ) → IsLawful old → IsLawful new → ((u : ℕ) → is_kept_role (role_at new e u) ≡ is_kept_role (role_at old d u)) → (part_of new.parts.devs e).kept ≡ (part_of old.parts.devs d).kept
kept_same old new d e l m same = same_extents 0 0 _ _ (m.sets e).kept.maximal (l.sets d).kept.maximal (λ u. kept_is new e u m ∙ (same u ∙ sym (kept_is old d u l)))

pub deferred_same : (old new : Space) (d e : ℕ) → IsLawful old → IsLawful new → ((u : ℕ) → is_deferred_block (role_at new e u) ≡ is_deferred_block (role_at old d u)) → (opened_of new e).deferred ≡ (opened_of old d).deferred
deferred_same old new d e l m same = same_extents 0 0 _ _ (m.sets e).deferred.maximal (l.sets d).deferred.maximal (λ u. deferred_is new e u m ∙ (same u ∙ sym (deferred_is old d u l)))

pub fresh_same : (old new : Space) (d : ℕ) → IsLawful old → IsLawful new → ((u : ℕ) → is_fresh new.parts.devs d u ≡ is_fresh old.parts.devs d u) → (part_of new.parts.devs d).fresh ≡ (part_of old.parts.devs d).fresh
fresh_same old new d l m same = same_extents 0 0 _ _ (m.sets d).fresh.maximal (l.sets d).fresh.maximal same

pub words_same : (v w : ℕ) (es fs : List Extent) → v ≡ w → es ≡ fs → set_words v es ≡ set_words w fs
words_same v w es fs p q = ap₂ set_words p q

-- ---- words

-- the words of the sets that change without a commit
abbrev pub moving_words : ℕ → Space → ℕ → ℕ
moving_words v s d = set_words v (part_of s.parts.devs d).held + 3 * set_words v (part_of s.parts.devs d).kept + set_words v (part_of s.parts.devs d).fresh + set_words v (opened_of s d).deferred

pub words_move : (old new : Space) (d : ℕ) → new.parts.version ≡ old.parts.version → IsSamePart (part_of old.parts.devs d) (part_of new.parts.devs d) → device_words new d + moving_words old.parts.version old d ≡ device_words old d + moving_words old.parts.version new d
words_move old new d version p =
    let v = old.parts.version in
    let w = new.parts.version in
    let held = words_same w v (part_of new.parts.devs d).held _ version refl in
    let kept = words_same w v (part_of new.parts.devs d).kept _ version refl in
    let fresh = words_same w v (part_of new.parts.devs d).fresh _ version refl in
    let deferred = words_same w v (opened_of new d).deferred _ version refl in
    let entries = ap (λ (es : List Entry). length es) p.entries in
    let late1 = words_same w v _ _ version (ap late_blocks p.late1) in
    let late2 = words_same w v _ _ version (ap late_blocks p.late2) in
    omega (arith, held, kept, fresh, deferred, entries, late1, late2)

-- the same of what a reset keeps
abbrev pub lasting_words : ℕ → Space → ℕ → ℕ
lasting_words v s d = set_words v (part_of s.parts.devs d).held + 3 * set_words v (part_of s.parts.devs d).kept + set_words v (part_of s.parts.devs d).fresh

pub base_moves : (old new : Space) (d : ℕ) → new.parts.version ≡ old.parts.version → IsSamePart (part_of old.parts.devs d) (part_of new.parts.devs d) → device_base new d + lasting_words old.parts.version old d ≡ device_base old d + lasting_words old.parts.version new d
base_moves old new d version p =
    let v = old.parts.version in
    let w = new.parts.version in
    let held = words_same w v (part_of new.parts.devs d).held _ version refl in
    let kept = words_same w v (part_of new.parts.devs d).kept _ version refl in
    let fresh = words_same w v (part_of new.parts.devs d).fresh _ version refl in
    let entries = ap (λ (es : List Entry). length es) p.entries in
    omega (arith, held, kept, fresh, entries)

-- ---- the other counts

module _ (old new : Space) (count : length new.parts.devs ≡ length old.parts.devs) (rows : (d : ℕ) → (part_of new.parts.devs d).row ≡ (part_of old.parts.devs d).row) where
  pub same_states : state_of_dev new.parts.devs ≡ state_of_dev old.parts.devs
  same_states = fun_ext (λ d. ap (λ (r : DevRow). r.state) (rows d))

  -- a sum over devices by what stays
  pub sum_same : (g : DevPart → ℕ) → ((d : ℕ) → g (part_of new.parts.devs d) ≡ g (part_of old.parts.devs d)) → sum_by g new.parts.devs ≡ sum_by g old.parts.devs
  sum_same g same =
      by_index g new.parts.devs
      ∙ (ap₂ (λ (h : ℕ → ℕ) (n : ℕ). sum_by h (range_with_len 0 n)) (fun_ext same) count
      ∙ sym (by_index g old.parts.devs))

  pub streams_same : sum_by (λ (p : DevPart). device_streams p.row.state) new.parts.devs ≡ sum_by (λ (p : DevPart). device_streams p.row.state) old.parts.devs
  streams_same = sum_same (λ p. device_streams p.row.state) (λ d. ap (λ (r : DevRow). device_streams r.state) (rows d))

  pub gone_same : count_by (λ (p : DevPart). is_gone p.row.state) new.parts.devs ≡ count_by (λ (p : DevPart). is_gone p.row.state) old.parts.devs
  gone_same = sum_same (λ p. if is_gone p.row.state then 1 else 0) (λ d. ap (λ (r : DevRow). if is_gone r.state then 1 else 0) (rows d))

  pub on_same : on_devices new ≡ on_devices old
  on_same = ap₂ (λ (st : ℕ → DevState) (n : ℕ). filter (λ d. is_on (st d)) (range_with_len 0 n)) same_states count

  -- a sum over the devices in service by what stays
  pub on_sum_same : (g : DevPart → ℕ) → ((d : ℕ) → g (part_of new.parts.devs d) ≡ g (part_of old.parts.devs d)) → sum_by g (on_parts new.parts.devs) ≡ sum_by g (on_parts old.parts.devs)
  on_sum_same g same =
      sum_passing g (λ p. is_on p.row.state) new.parts.devs
      ∙ (sum_same (λ p. if is_on p.row.state then g p else 0) (λ d. ap₂ (λ (r : DevRow) (n : ℕ). if is_on r.state then n else 0) (rows d) (same d))
      ∙ sym (sum_passing g (λ p. is_on p.row.state) old.parts.devs))

  -- what is to be copied is the same where leaving devices hold the same and are copied as far
  pub uncopied_same : ((d : ℕ) → (part_of new.parts.devs d).entries ≡ (part_of old.parts.devs d).entries) → ((d : ℕ) → is_leaving (state_of_dev old.parts.devs d) ≡ true → (part_of new.parts.devs d).held ≡ (part_of old.parts.devs d).held) → uncopied_units new ≡ uncopied_units old
  uncopied_same entries held =
      ap₂ (λ (h : ℕ → ℕ) (n : ℕ). sum_by h (range_with_len 0 n)) (fun_ext left) count
    where
      left_of : DevPart → ℕ
      left_of p = if is_leaving p.row.state then sum_by (units_from (end_of_last p.entries)) p.held else 0

      by_state : (d : ℕ) (b : Bool) → is_leaving (state_of_dev old.parts.devs d) ≡ b →
          (if b then sum_by (units_from (end_of_last (part_of new.parts.devs d).entries)) (part_of new.parts.devs d).held else 0) ≡ (if b then sum_by (units_from (end_of_last (part_of old.parts.devs d).entries)) (part_of old.parts.devs d).held else 0)
      by_state d true is = ap₂ (λ (es : List Entry) (h : List Extent). sum_by (units_from (end_of_last es)) h) (entries d) (held d is)
      by_state d false is = refl

      left : (d : ℕ) → (if is_leaving (state_of_dev new.parts.devs d) then sum_by (units_from (end_of_last (part_of new.parts.devs d).entries)) (part_of new.parts.devs d).held else 0) ≡ (if is_leaving (state_of_dev old.parts.devs d) then sum_by (units_from (end_of_last (part_of old.parts.devs d).entries)) (part_of old.parts.devs d).held else 0)
      left d =
          ap (λ (r : DevRow). if is_leaving r.state then sum_by (units_from (end_of_last (part_of new.parts.devs d).entries)) (part_of new.parts.devs d).held else 0) (rows d)
          ∙ by_state d (is_leaving (state_of_dev old.parts.devs d)) refl

abbrev pub sized : ℕ → ℕ → ℕ → ℕ → ℕ → ℕ → ℕ → ℕ → Sizes
sized blocks objects words streams gone uncopied turning past =
    record { blocks = blocks; objects = objects; words = words; streams = streams; gone = gone; uncopied = uncopied; turning = turning; past = past; snaps = false }

pub same_sizes : (s1 s2 g1 g2 u1 u2 t1 t2 p1 p2 : ℕ) (blocks objects words : ℕ) → s1 ≡ s2 → g1 ≡ g2 → u1 ≡ u2 → t1 ≡ t2 → p1 ≡ p2
    → sized blocks objects words s1 g1 u1 t1 p1 ≡ sized blocks objects words s2 g2 u2 t2 p2
same_sizes s1 s2 g1 g2 u1 u2 t1 t2 p1 p2 blocks objects words s g u t p = cc

-- the counts but words, where metadata, rows, mappings and late sets stay
pub others_same : (old new : Space) (blocks objects : ℕ) → IsSameFrame old new → new.meta ≡ old.meta → ((d : ℕ) → is_leaving (state_of_dev old.parts.devs d) ≡ true → (part_of new.parts.devs d).held ≡ (part_of old.parts.devs d).held)
    → sizes new blocks objects ≡ record (sizes old blocks objects) { words = (sizes new blocks objects).words }
others_same old new blocks objects f meta held =
    let rows : (d : ℕ) → (part_of new.parts.devs d).row ≡ (part_of old.parts.devs d).row = λ d. (f.each d).row in
    let streams = streams_same old new f.devices rows in
    let gone = gone_same old new f.devices rows in
    let uncopied = uncopied_same old new f.devices rows (λ d. (f.each d).entries) held in
    let l1 : late1_meta new.parts.devs ≡ late1_meta old.parts.devs = sum_same old new f.devices rows (λ p. late_meta_units p.late1) (λ d. ap late_meta_units (f.each d).late1) in
    let l2 : late2_meta new.parts.devs ≡ late2_meta old.parts.devs = sum_same old new f.devices rows (λ p. late_meta_units p.late2) (λ d. ap late_meta_units (f.each d).late2) in
    let o1 : late1_meta (on_parts new.parts.devs) ≡ late1_meta (on_parts old.parts.devs) = on_sum_same old new f.devices rows (λ p. late_meta_units p.late1) (λ d. ap late_meta_units (f.each d).late1) in
    let o2 : late2_meta (on_parts new.parts.devs) ≡ late2_meta (on_parts old.parts.devs) = on_sum_same old new f.devices rows (λ p. late_meta_units p.late2) (λ d. ap late_meta_units (f.each d).late2) in
    let m : sum_by (units_on new.meta) (on_devices new) ≡ sum_by (units_on old.meta) (on_devices old) = ap₂ (λ ms ds. sum_by (units_on ms) ds) meta (on_same old new f.devices rows) in
    let now : sum_by (λ (a : Dva). a.len) new.meta ≡ sum_by (λ (a : Dva). a.len) old.meta = ap (sum_by (λ (a : Dva). a.len)) meta in
    let turning : (sizes new blocks objects).turning ≡ (sizes old blocks objects).turning = ap₂ (λ (x y : ℕ). x + y) (ap₂ (λ (x y : ℕ). x + y) m o1) o2 in
    let past : (sizes new blocks objects).past ≡ (sizes old blocks objects).past = ap₂ max now (ap₂ max l1 l2) in
    same_sizes _ _ _ _ _ _ _ _ _ _ blocks objects (sizes new blocks objects).words (ap (λ (n : ℕ). 2 + n) streams) gone uncopied turning past

-- ---- the room

module _ (old new : Space) (count : length new.parts.devs ≡ length old.parts.devs) (rows : (d : ℕ) → (part_of new.parts.devs d).row ≡ (part_of old.parts.devs d).row) where
  units_same : (d : ℕ) → units_of_dev new.parts.devs d ≡ units_of_dev old.parts.devs d
  units_same d = ap (λ (r : DevRow). r.units) (rows d)

  pub count_same : (kind : Role → Bool) (d : ℕ) → ((u : ℕ) → kind (role_at new d u) ≡ kind (role_at old d u)) → role_count new kind d ≡ role_count old kind d
  count_same kind d same =
      ap (λ (n : ℕ). count_below n (λ u. kind (role_at new d u))) (units_same d)
      ∙ count_as (units_of_dev old.parts.devs d) (λ u. kind (role_at new d u)) (λ u. kind (role_at old d u)) (λ u lt. same u)

  pub count_grows : (kind : Role → Bool) (d : ℕ) → ((u : ℕ) → kind (role_at old d u) ≡ true → kind (role_at new d u) ≡ true) → role_count old kind d ≤ role_count new kind d
  count_grows kind d more =
      let a = ap (λ (n : ℕ). count_below n (λ u. kind (role_at new d u))) (units_same d) in
      let b = count_more (units_of_dev old.parts.devs d) (λ u. kind (role_at old d u)) (λ u. kind (role_at new d u)) (λ u lt. more u) in
      omega (arith, a, b)

  pub room_same : ((d u : ℕ) → is_room_role (role_at new d u) ≡ is_room_role (role_at old d u)) → room new ≡ room old
  room_same same = ap₂ sum_by (fun_ext (λ d. count_same is_room_role d (same d))) (on_same old new count rows)

  pub room_grows : ((d u : ℕ) → is_room_role (role_at old d u) ≡ true → is_room_role (role_at new d u) ≡ true) → room old ≤ room new
  room_grows more =
      let a = ap (sum_by (role_count new is_room_role)) (on_same old new count rows) in
      let b = sum_less (role_count old is_room_role) (role_count new is_room_role) (on_devices old) (λ d. count_grows is_room_role d (more d)) in
      omega (arith, a, b)
