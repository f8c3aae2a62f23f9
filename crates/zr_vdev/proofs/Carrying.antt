-- What a copy of units leaves of the devices and of what is cached.
use Rattle.std.proofs.Common.{◌≡◌, ℕ, zero, suc, ◌+◌, ◌-◌, ◌<◌, ◌≤◌, ◌^◌, Bool, true, false, not, filter, ◌==◌, List, Contains, length, map, Option, Some, None, refl, sym, ◌∙◌, ap, subst, arith}
use Rattle.std.specs.Prelude.{option_and_then, is_some}
use Rattle.std.specs.List.{flat_map, list_all}
use Rattle.std.proofs.Math.Path.{fun_ext}
use Rattle.std.proofs.lemmas.Bool.{not-true}
use Rattle.std.proofs.lemmas.Bool.Decides.{nat_tests}
use Rattle.zr_base.specs.declared.space.DevRow.{DevRow}
use Rattle.zr_base.specs.declared.space.DevState.{DevState}
use Rattle.zr_base.specs.declared.space.DevState.TheVariants.{On, Leaving, Gone}
use Rattle.zr_base.specs.declared.space.Dva.{Dva}
use Rattle.zr_base.specs.declared.space.Entry.{Entry}
use Rattle.zr_base.specs.declared.space.Extent.{Extent}
use Rattle.zr_bptr.specs.declared.Bptr.{Bptr}
use Rattle.zr_shelf.specs.Moments.{World}
use Rattle.zr_shelf.specs.Doings.{WritesOnly}
use Rattle.zr_imap.specs.declared.image.Piece.{Piece}
use Rattle.zr_chain.specs.Visits.{as_part}
use Rattle.zr_rules.specs.Devices.{Devices, state_at}
use Rattle.zr_rules.specs.Equation.{devices_in}
use Rattle.zr_rules.specs.Mappings.{target}
use Rattle.zr_rules.specs.Places.{Place, is_gone, is_held, is_leaving, part_of, state_of_dev, units_of_dev, places_of}
use Rattle.zr_rules.specs.Resolve.{resolve, resolved}
use Rattle.zr_rules.specs.Roles.{is_held_role}
use Rattle.zr_rules.specs.Roles.Role.{Free}
use Rattle.zr_rules.specs.Space.{Space, role_at}
use Rattle.zr_space.specs.Plans.{IsCopied, IsLowestOf, IsPlan, MakesCopy}
use Rattle.zr_space.specs.declared.copy.Plan.{Plan}
use Rattle.zr_view.specs.Views.{slot_of, place_bytes}
use Rattle.zr_view.specs.Runs.{HasDisk, IsOnDisk}
use Rattle.zr_cache.specs.declared.table.Cache.{Cache}
use Rattle.zr_cache.specs.Entries.{entries, is_in}
use Rattle.zr_cache.proofs.Keeping.{Contains-filtered}
use Rattle.zr_vdev.specs.Caches.{IsRead, AreRead}
use Rattle.zr_vdev.specs.Copies.{run_of, IsWriteIntoFree}
use Rattle.zr_vdev.specs.Mounts.{AreMounted}
use Rattle.zr_vdev.specs.Puts.{IsWriteOf}
use Rattle.zr_vdev.specs.Runs.{AreRunsOf, view_of}
use Rattle.zr_vdev.proofs.Follows.{widen}
use Rattle.zr_vdev.proofs.Overwriting.{still_read}

false_true : false ≡ true → ⊥
false_true e = cc

-- ---- devices of which all leads where it led

-- the mappings of devices that are not gone lead nowhere yet
pub record IsAlike (ds es : Devices) : Type 0 where
  pub count : es.count ≡ ds.count
  pub row : (d : ℕ) → es.row d ≡ ds.row d
  pub entries : (d : ℕ) → is_gone (state_at ds d) ≡ true → es.entries d ≡ ds.entries d

pub alike_itself : (ds : Devices) → IsAlike ds ds
alike_itself ds = record { count = refl; row = λ d. refl; entries = λ d is. refl }

-- where a unit leads
abbrev leads_in : Devices → Place → Option Place
leads_in ds p = resolved ds p.0 p.1

module _ (ds es : Devices) (h : IsAlike ds es) where
  follow : (n : ℕ) → ((d u : ℕ) → resolve n es d u ≡ resolve n ds d u) → (o : Option Place) → option_and_then (λ (p : Place). resolve n es p.0 p.1) o ≡ option_and_then (λ (p : Place). resolve n ds p.0 p.1) o
  follow n same None = refl
  follow n same (Some p) = same p.0 p.1

  resolve_alike : (n d u : ℕ) → resolve n es d u ≡ resolve n ds d u
  resolve_alike zero d u = refl
  resolve_alike (suc n) d u = by (resolve_alike n) (is_gone (state_at ds d)) refl
    where
      state : is_gone (state_at es d) ≡ is_gone (state_at ds d)
      state = ap (λ (r : DevRow). is_gone r.state) (h.row d)

      by : ((e v : ℕ) → resolve n es e v ≡ resolve n ds e v) → (b : Bool) → is_gone (state_at ds d) ≡ b → resolve (suc n) es d u ≡ resolve (suc n) ds d u
      by rest true is =
          rw (state ∙ is) rw is
          (ap (λ (list : List Entry). option_and_then (λ (p : Place). resolve n es p.0 p.1) (target list u)) (h.entries d is) ∙ follow n rest (target (ds.entries d) u))
      by rest false is = rw (state ∙ is) rw is rw h.count rw (h.row d) refl

  pub resolved_alike : (d u : ℕ) → resolved es d u ≡ resolved ds d u
  resolved_alike d u = ap (λ n. resolve n es d u) h.count ∙ resolve_alike ds.count d u

  leads_alike : leads_in es ≡ leads_in ds
  leads_alike = fun_ext (λ (p : Place). resolved_alike p.0 p.1)

  pub runs_alike : (a : Dva) (runs : List Piece) → AreRunsOf ds a runs → AreRunsOf es a runs
  runs_alike a runs r = record {
    resolves = ap (λ (f : Place → Option Place). list_all (λ p. is_some p) (map f (places_of a))) leads_alike ∙ r.resolves;
    follow = r.follow;
    targets = λ k lt. r.targets k lt ∙ sym (resolved_alike a.dev (a.start + k));
  }

  pub mounted_alike : (sizes : List ℕ) (slots : List (Option ℕ)) → AreMounted sizes slots ds → AreMounted sizes slots es
  mounted_alike sizes slots m = record {
    few = let f = m.few in let e = h.count in omega (arith, f, e);
    disks = λ d lt there.
        subst (λ (r : DevRow). HasDisk sizes slots d r.units) (sym (h.row d)) (m.disks d (let e = h.count in omega (arith, lt, e)) (sym (ap (λ (r : DevRow). is_gone r.state) (h.row d)) ∙ there));
    small = λ d. subst (λ (r : DevRow). r.units ≤ 2 ^ 40) (sym (h.row d)) (m.small d);
    apart = m.apart;
  }

-- an entry of a device that is leaving leads nowhere yet
pub makes_alike : (old new : Space) (d : ℕ) (p : Plan) → is_leaving (state_of_dev old.parts.devs d) ≡ true → MakesCopy old new d p → IsAlike (devices_in old) (devices_in new)
makes_alike old new d p leaving m = record {
  count = m.elsewhere.devices;
  row = λ j. row j (j == d) refl;
  entries = λ j gone. list j (j == d) refl gone;
}
  where
    row : (j : ℕ) (b : Bool) → (j == d) ≡ b → (part_of new.parts.devs j).row ≡ (part_of old.parts.devs j).row
    row j true is = let same : j ≡ d = grind (arith, nat_tests, is) in subst (λ i. (part_of new.parts.devs i).row ≡ (part_of old.parts.devs i).row) (sym same) m.row_is
    row j false is = (m.elsewhere.others j (λ same. let e : (j == d) ≡ true = grind (arith, nat_tests, same) in absurd (false_true (sym is ∙ e)))).row

    stays : (st : DevState) → is_leaving st ≡ true → is_gone st ≡ false
    stays On is = absurd (false_true is)
    stays Leaving is = refl
    stays Gone is = absurd (false_true is)

    list : (j : ℕ) (b : Bool) → (j == d) ≡ b → is_gone (state_of_dev old.parts.devs j) ≡ true → (part_of new.parts.devs j).entries ≡ (part_of old.parts.devs j).entries
    list j true is gone = let same : j ≡ d = grind (arith, nat_tests, is) in absurd (false_true (sym (stays (state_of_dev old.parts.devs d) leaving) ∙ subst (λ i. is_gone (state_of_dev old.parts.devs i) ≡ true) same gone))
    list j false is gone = (m.elsewhere.others j (λ same. let e : (j == d) ≡ true = grind (arith, nat_tests, same) in absurd (false_true (sym is ∙ e)))).entries

-- ---- what is cached

module _ (disks : List (List ℕ)) (slots : List (Option ℕ)) (s t : Space) (h : IsAlike (devices_in s) (devices_in t)) where
  pub read_alike : (b : Bptr) (bytes : List ℕ) (runs : List Piece) → IsRead disks slots s b bytes runs → IsRead disks slots t b bytes runs
  read_alike b bytes runs r = record {
    runs_of = runs_alike (devices_in s) (devices_in t) h b.at runs r.runs_of;
    same = r.same ∙ sym (ap (λ (f : Place → Option Place). flat_map (place_bytes (view_of disks slots t)) (map f (places_of b.at))) (leads_alike (devices_in s) (devices_in t) h));
  }

-- what has no unit of the place has the bytes of its address, whatever was written there
pub read_over : (slots : List (Option ℕ)) (at : Dva) (apart : (d e slot : ℕ) → slot_of slots d ≡ Some slot → slot_of slots e ≡ Some slot → d ≡ e) (old new : World) → WritesOnly (IsWriteOf slots at) old new
    → (s t : Space) → IsAlike (devices_in s) (devices_in t) → (c d : Cache) → entries d ≡ filter (λ e. not (is_in (as_part at) e)) (entries c) → AreRead old.now.seen slots s c → AreRead new.now.seen slots t d
read_over slots at apart old new writes s t alike c d left read e among =
    let x = Contains-filtered (λ f. not (is_in (as_part at) f)) (entries c) e (subst (λ es. Contains es e) left among) in
    read_alike new.now.seen slots s t alike e.0.pointer e.1.bytes.items e.1.runs.items
    (still_read slots at apart old new writes s s refl e.0.pointer e.1.bytes.items e.1.runs.items (read e x.0, not-true (is_in (as_part at) e) x.1))

-- ---- the plan on disks

-- a unit with a use is one of its device
used_within : (s : Space) (d u : ℕ) → is_held_role (role_at s d u) ≡ true → (d < length s.parts.devs) × (u < units_of_dev s.parts.devs d)
unfolding role_at
used_within s d u is = (grind (arith, nat_tests, is), grind (arith, nat_tests, is))

free_within : (s : Space) (d u : ℕ) → role_at s d u ≡ Free → (d < length s.parts.devs) × (u < units_of_dev s.parts.devs d)
unfolding role_at
free_within s d u is = (grind (arith, nat_tests, is), grind (arith, nat_tests, is))

module _ (sizes : List ℕ) (slots : List (Option ℕ)) (s : Space) (d : ℕ) (p : Plan) (m : AreMounted sizes slots (devices_in s)) (h : IsPlan s d p) where
  last_used : (d < length s.parts.devs) × (p.from.start + p.from.len - 1 < units_of_dev s.parts.devs d)
  last_used = let some = h.some in used_within s d (p.from.start + p.from.len - 1) (h.held (p.from.start + p.from.len - 1) (grind (arith, nat_tests, some)))

  last_free : (p.to.dev < length s.parts.devs) × (p.to.start + p.to.len - 1 < units_of_dev s.parts.devs p.to.dev)
  last_free = let some = h.some in let len = h.len in free_within s p.to.dev (p.to.start + p.to.len - 1) (h.free (p.to.start + p.to.len - 1) (grind (arith, nat_tests, some, len)))

  stays : (st : DevState) → is_leaving st ≡ true → is_gone st ≡ false
  stays On is = absurd (false_true is)
  stays Leaving is = refl
  stays Gone is = absurd (false_true is)

  pub source_on_disk : IsOnDisk sizes slots (run_of d p.from)
  source_on_disk =
      let disk = m.disks d last_used.0 (stays (state_of_dev s.parts.devs d) h.leaving) in
      let fits = disk.fits in let last = last_used.1 in
      record { slot = disk.slot; is = disk.is; exists = disk.exists; fits = omega (arith, fits, last) }

  pub source_small : p.from.start < 2 ^ 40
  source_small = let last = last_used.1 in let small = m.small d in let some = h.some in omega (arith, last, small, some)

  pub place_has_disk : HasDisk sizes slots p.to.dev (p.to.start + p.to.len)
  place_has_disk =
      let disk = m.disks p.to.dev last_free.0 (ap is_gone h.on) in
      let fits = disk.fits in let last = last_free.1 in
      record { slot = disk.slot; is = disk.is; exists = disk.exists; fits = omega (arith, fits, last) }

  pub place_small : p.to.start < 2 ^ 40
  place_small = let last = last_free.1 in let small = m.small p.to.dev in let some = h.some in let len = h.len in omega (arith, last, small, some, len)

  pub into_free : (before now : World) → WritesOnly (IsWriteOf slots p.to) before now → WritesOnly (IsWriteIntoFree slots s) before now
  into_free before now writes =
      widen (IsWriteOf slots p.to) (IsWriteIntoFree slots s)
      (λ w is. record { at = p.to; is = is; some = let some = h.some in let len = h.len in omega (arith, some, len); open_units = λ u at. rw (h.free u at) refl })
      before now writes

-- ---- something is left

still_held : (s : Space) (d u : ℕ) → is_held_role (role_at s d u) ≡ true → is_held s.parts.devs d u ≡ true
unfolding role_at
still_held s d u is = grind (arith, nat_tests, is)

pub not_copied : (s : Space) (d : ℕ) (front : Extent) → IsLowestOf s d front → IsCopied s → ⊥
not_copied s d front low none =
    let some = low.some in
    let above = low.above in
    let held = still_held s d front.start (low.held front.start (grind (arith, nat_tests, some))) in
    let leaving = low.leaving in
    let no = none d front.start in
    grind (arith, nat_tests, held, leaving, above, no)
