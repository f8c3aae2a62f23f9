-- A pool that has nothing yet holds no objects.
use Rattle.std.proofs.Common.{◌≡◌, ◌∙◌, inl, inr, ℕ, true, false, List, [], length, Option, None, refl, sym, ap, subst, arith}
use Rattle.std.specs.Prelude.{Contains}
use Rattle.std.specs.FinMap as map
use Rattle.std.proofs.lemmas.Bool.Decides.{nat_tests}
use Rattle.std.proofs.lemmas.Bool.{cases_lt}
use Rattle.std.proofs.lemmas.List.Elements.{All-nil}
use Rattle.zr_base.specs.declared.space.DevPart.{DevPart}
use Rattle.zr_base.specs.declared.space.DevRow.{DevRow}
use Rattle.zr_base.specs.declared.space.DevState.TheVariants.{On}
use Rattle.zr_bptr.specs.declared.Bptr.{Bptr}
use Rattle.zr_cache.specs.declared.table.Cache.{Cache}
use Rattle.zr_cache.specs.Entries.{entries}
use Rattle.zr_cache.specs.Sums.{Entry}
use Rattle.zr_held.proofs.Empty as held
use Rattle.zr_rules.specs.Equation.{devices_in}
use Rattle.zr_rules.specs.Places.{is_gone, is_leaving, state_of_dev}
use Rattle.zr_rules.specs.Roles.{is_live_role}
use Rattle.zr_rules.specs.Roles.Role.{Absent}
use Rattle.zr_rules.specs.Space.{Space, role_at}
use Rattle.zr_space.specs.Paths.{AreInService}
use Rattle.zr_space.proofs.Paths.{part_past}
use Rattle.zr_store.specs.Store.{Stored}
use Rattle.zr_sync.specs.Objects.{HoldsObjects, account_of}
use Rattle.zr_sync.specs.Pools.{IsPool}
use Rattle.zr_sync.specs.declared.open.OpenPool.{OpenPool}
use Rattle.zr_create.specs.Blank.{IsBlank}
use Rattle.zr_create.specs.Devices.{HasDevicesIn}
use Rattle.zr_create.proofs.Grown.{absent, false_true}
use Rattle.zr_vdev.proofs.Moves.{bytes_now, holds_these}
use Rattle.zr_vdev.specs.Caches.{AreRead}
use Rattle.zr_vdev.specs.Stores.{IsStoredAt, LeadsToAll}
use Rattle.zr_vdev.specs.declared.kind.Kind.TheVariants.{Block}

-- what is true of all that is cached, where nothing is
pub nothing_cached : (disks : List (List ℕ)) (slots : List (Option ℕ)) (s : Space) (c : Cache) → entries c ≡ [] → AreRead disks slots s c
nothing_cached disks slots s c none e has =
    let at : Contains [] e = subst (λ (es : List Entry). Contains es e) none has in
    let lt = at.1 in
    absurd (omega (arith, lt))

-- devices that were just taken on are in service
module _ (n sizes : List ℕ) (txg : ℕ) (named : List ℕ) (x : OpenPool) (o : IsPool 0 n x) (has : HasDevicesIn sizes txg named x) where
  state_on : (d : ℕ) → state_of_dev x.space.parts.devs d ≡ On
  state_on d = elim (cases_lt d x.table.count) [
    | inl lt ↦ let count = has.count in let new = has.each d (omega (arith, lt, count)) in ap (λ (r : DevRow). r.state) (o.rows d lt ∙ new.row_is)
    | inr le ↦ let n = o.devices in ap (λ (p : DevPart). p.row.state) (part_past x.space.parts.devs d (omega (arith, le, n)))
  ]

  pub new_serve : AreInService (devices_in x.space)
  new_serve = record { there = λ d. ap is_gone (state_on d); stays = λ d. ap is_leaving (state_on d) }

-- a space without devices has no unit in use, and none that leaves
module _ (s : Space) (none : s.parts.devs ≡ []) where
  pub absent_here : (d u : ℕ) → role_at s d u ≡ Absent
  absent_here d u = let long : length s.parts.devs ≡ 0 = ap (λ (parts : List DevPart). length parts) none in absent s d u (grind (arith, nat_tests, long))

  none_serve : AreInService (devices_in s)
  none_serve = record {
    there = λ d. ap (λ (parts : List DevPart). is_gone (state_of_dev parts d)) none;
    stays = λ d. ap (λ (parts : List DevPart). is_leaving (state_of_dev parts d)) none;
  }

  none_to_lead : LeadsToAll s []
  none_to_lead = record {
    used = λ d u live. absurd (false_true (sym (ap is_live_role (absent_here d u)) ∙ live));
    copied = λ d u p c. absurd (false_true (sym (none_serve.stays d) ∙ c.leaving));
  }

-- a pool without devices holds nothing
pub none_held : (tells : Type 0) (disks : List (List ℕ)) (pool : OpenPool) → tells → IsBlank pool → HoldsObjects tells disks pool map.empty
none_held tells disks pool told blank =
    let devices : pool.space.parts.devs ≡ [] = ap (λ (s : Space). s.parts.devs) blank.space in
    let blocks =
    holds_these Block pool.table.slots tells disks pool.space None pool.cache (none_serve pool.space devices) [] told (nothing_cached disks pool.table.slots pool.space pool.cache blank.cache) refl (All-nil (λ (b : Bptr). IsStoredAt Block pool.space None b.at)) (λ d u. omega arith)
    (none_to_lead pool.space devices) in
    let none : Stored = record { pointers = []; bytes = bytes_now Block pool.table.slots disks pool.space None } in
    record {
      stored = none;
      held = blocks;
      has = held.none_held none (account_of pool) blank.dir blank.objects refl blocks.alone;
    }
