-- What giving back metadata does to the space.
use Rattle.std.proofs.Common.{◌≡◌, ◌⊎◌, inl, inr, ℕ, ◌+◌, ◌≤◌, ◌<◌, ◌^◌, true, false, List, [], ◌∷◌, map, length, refl, ◌∙◌, sym, ap, subst, arith, if◌then◌else◌}
use Rattle.std.proofs.Math.ListN.{set}
use Rattle.std.proofs.lemmas.List.{length-map}
use Rattle.std.proofs.lemmas.List.Sums.{sum_by-cons}
use Rattle.std.proofs.lemmas.Bool.Decides.{nat_tests}
use Rattle.zr_base.specs.declared.space.Dva.{Dva}
use Rattle.zr_base.specs.declared.space.DevPart.{DevPart}
use Rattle.zr_base.specs.declared.space.Extent.{Extent}
use Rattle.zr_base.specs.Extents.{in_extent, has_unit, HasAll, HasNone}
use Rattle.zr_rules.specs.Places.{in_address, units_of_dev, one_if}
use Rattle.zr_rules.specs.Roles.{Role, dropped}
use Rattle.zr_rules.specs.Roles.Role.{Meta, SavedMeta}
use Rattle.zr_rules.specs.Frees as rules
use Rattle.zr_rules.specs.Frees.{in_any}
use Rattle.zr_metaslab.specs.Devices.{Devices, free_at, count_at, KeepsDevices, extent_of}
use Rattle.zr_units.specs.Uses.{Uses, IsAccount}
use Rattle.zr_units.specs.Changes.{DropsMeta, DropsSaved}
use Rattle.zr_space.specs.Views.{Kept, kept_of, part_in, space_of, role_in, IsMoved, IsSpace}
use Rattle.zr_space.specs.Drops.{IsMeta, HasRole, KeepsParts}
use Rattle.zr_space.proofs.Sums.{extent_hits, once_in}
use Rattle.zr_space.proofs.Views.{part_is, meta_is, saved_is}
use Rattle.zr_space.proofs.Roles.{roles_are}
use Rattle.zr_space.proofs.Accounts.{drops_account, drops_roles, drops_saved_account, drops_saved_roles}
use Rattle.zr_space.proofs.Rooted.{SameUses, same_root, drops_root, drops_saved_root}
use Rattle.zr_indirect.specs.Changes.{was_fresh_in}
use Rattle.zr_space.proofs.Frames.{roles_set, same_fresh, same_part, synced_set}
use Rattle.zr_space.proofs.Keeps.{IsChange, IsSameBlocks, change_tied, on_each, stays_space, lawful}
use Rattle.std.proofs.lemmas.List.{length-set}
use Rattle.zr_space.specs.declared.whole.Whole.{Whole}

pub record IsDropped (whole : Whole) (s : Devices) (devs : List Kept) (a : Dva) (k : Kept) : Type 0 where
  pub space : IsSpace whole s devs
  pub meta : IsMeta (space_of whole devs) a
  pub kept : k ≡ kept_of devs a.dev

meta_unit : (x : Uses) (u : ℕ) → role_in x u ≡ Meta → (has_unit x.meta u ≡ true) × (has_unit x.freed.meta u ≡ false)
meta_unit x u is = (grind (arith, nat_tests, is), grind (arith, nat_tests, is))

saved_unit : (x : Uses) (u : ℕ) → role_in x u ≡ SavedMeta → (has_unit x.saved u ≡ true) × (has_unit x.freed.meta u ≡ false) × (has_unit x.meta u ≡ false)
saved_unit x u is = (grind (arith, nat_tests, is), grind (arith, nat_tests, is), grind (arith, nat_tests, is))

module _ (whole : Whole) (s : Devices) (devs : List Kept) (a : Dva) (k : Kept) (h : IsDropped whole s devs a k) where
  pub there : a.dev < length devs
  there = let l = h.meta.known in let e = length-map devs part_in in omega (arith, l, e)

  account : IsAccount (free_at s a.dev) (count_at s a.dev) k.uses
  account = subst (λ (x : Kept). IsAccount (free_at s a.dev) (count_at s a.dev) x.uses) (sym h.kept) (h.space.account a.dev)

  pub in_range : a.start + a.len ≤ 2 ^ 62
  in_range =
      let units : units_of_dev (map part_in devs) a.dev ≡ (kept_of devs a.dev).row.units = ap (λ (p : DevPart). p.row.units) (part_is devs a.dev) in
      let w = h.meta.within in
      let m = h.space.small a.dev in
      omega (arith, units, w, m)

  role_of : (r : Role) → HasRole (space_of whole devs) a r → (u : ℕ) → in_extent (extent_of a) u ≡ true → role_in k.uses u ≡ r
  role_of r has u is =
      let at : in_address a a.dev u ≡ true = grind (arith, nat_tests, is) in
      ap (λ (x : Kept). role_in x.uses u) h.kept ∙ (sym (roles_are whole devs a.dev u h.space) ∙ has u at)

  none_freed_of : (h' : HasRole (space_of whole devs) a Meta ⊎ HasRole (space_of whole devs) a SavedMeta) → HasNone k.uses.freed.meta (extent_of a)
  none_freed_of (inl has) u is = (meta_unit k.uses u (role_of Meta has u is)).1
  none_freed_of (inr has) u is = (saved_unit k.uses u (role_of SavedMeta has u is)).1

  pub none_freed : HasNone k.uses.freed.meta (extent_of a)
  none_freed = none_freed_of h.meta.used

  -- where the metadata set does not have all of it, the saved one does
  saved_of : (h' : HasRole (space_of whole devs) a Meta ⊎ HasRole (space_of whole devs) a SavedMeta) → (HasAll k.uses.meta (extent_of a) → ⊥) → HasAll k.uses.saved (extent_of a)
  saved_of (inl has) not_all u is = absurd (not_all (λ v at. (meta_unit k.uses v (role_of Meta has v at)).0))
  saved_of (inr has) not_all u is = (saved_unit k.uses u (role_of SavedMeta has u is)).0

  pub all_saved : (HasAll k.uses.meta (extent_of a) → ⊥) → HasAll k.uses.saved (extent_of a)
  all_saved = saved_of h.meta.used

  same_devices : KeepsDevices s s
  same_devices = record { devs = refl; units = λ d. refl; serves = λ d. refl }

  change : (y : Uses) → y.units ≡ k.uses.units → IsSameBlocks k.uses y → IsAccount (free_at s a.dev) (count_at s a.dev) y → IsChange whole s s devs a.dev (record k { uses = y })
  change y units blocks b = record {
    there = there;
    row = ap (λ (x : Kept). x.row) h.kept;
    entries = ap (λ (x : Kept). x.moves.entries) h.kept;
    counts = ap (λ (x : Kept). x.moves.counts) h.kept;
    fresh = ap (λ (x : Kept). x.moves.fresh) h.kept;
    moved = subst (λ (x : Kept). IsMoved x.row x.moves) (sym h.kept) (h.space.moved a.dev);
    units = units ∙ ap (λ (x : Kept). x.uses.units) h.kept;
    account = b;
    copies = λ u. ap (λ (es : List Extent). has_unit es u) blocks.copies ∙ ap (λ (x : Kept). has_unit x.uses.copies u) h.kept;
    devices = same_devices;
    free = λ j u ne. refl;
    count = λ j ne. refl;
    tied = change_tied whole s devs a.dev k y h.space h.kept blocks;
  }

  pub meta_space : (y : Uses) → DropsMeta k.uses y (extent_of a) → HasAll k.uses.meta (extent_of a) → IsSpace whole s (set devs a.dev (record k { uses = y }))
  meta_space y d all = stays_space s s devs a.dev (record k { uses = y }) h.space (change y (ap (λ (x : Uses). x.units) d.others) (record { held = ap (λ (x : Uses). x.held) d.others; kept = ap (λ (x : Uses). x.kept) d.others; copies = ap (λ (x : Uses). x.copies) d.others }) (drops_account (free_at s a.dev) (count_at s a.dev) k.uses y (extent_of a) account d all))

  pub saved_space : (y : Uses) → DropsSaved k.uses y (extent_of a) → HasAll k.uses.saved (extent_of a) → IsSpace whole s (set devs a.dev (record k { uses = y }))
  saved_space y d all = stays_space s s devs a.dev (record k { uses = y }) h.space (change y (ap (λ (x : Uses). x.units) d.others) (record { held = ap (λ (x : Uses). x.held) d.others; kept = ap (λ (x : Uses). x.kept) d.others; copies = ap (λ (x : Uses). x.copies) d.others }) (drops_saved_account (free_at s a.dev) (count_at s a.dev) k.uses y (extent_of a) account d all))

  -- the sums of what either root has, device by device
  fewer : (y : Uses) → ((u : ℕ) → extent_hits y.meta u + extent_hits y.saved u + one_if (in_extent (extent_of a) u) ≡ extent_hits k.uses.meta u + extent_hits k.uses.saved u) → (j u : ℕ)
      → extent_hits (kept_of (set devs a.dev (record k { uses = y })) j).uses.meta u + extent_hits (kept_of (set devs a.dev (record k { uses = y })) j).uses.saved u + one_if (in_address a j u)
      ≡ extent_hits (kept_of devs j).uses.meta u + extent_hits (kept_of devs j).uses.saved u
  fewer y here j u =
      on_each devs a.dev (record k { uses = y }) (λ i z. extent_hits z.uses.meta u + extent_hits z.uses.saved u + one_if (in_address a i u) ≡ extent_hits (kept_of devs i).uses.meta u + extent_hits (kept_of devs i).uses.saved u) there
      (let was = ap (λ (z : Kept). extent_hits z.uses.meta u + extent_hits z.uses.saved u) h.kept in
      let e = here u in
      grind (arith, nat_tests, was, e))
      (λ i ne. grind (arith, nat_tests, ne))
      j

  gives_back : (y : Uses) (new : IsSpace whole s (set devs a.dev (record k { uses = y })))
      → ((u : ℕ) → role_in y u ≡ (if in_extent (extent_of a) u then dropped (role_in k.uses u) else role_in k.uses u))
      → ((u : ℕ) → extent_hits y.meta u + extent_hits y.saved u + one_if (in_extent (extent_of a) u) ≡ extent_hits k.uses.meta u + extent_hits k.uses.saved u)
      → rules.DropsMeta (space_of whole devs) (space_of whole (set devs a.dev (record k { uses = y }))) (a ∷ [])
  gives_back y new roles hits =
      let x : Kept = record k { uses = y } in
      let was : (kept_of devs a.dev).uses ≡ k.uses = ap (λ (z : Kept). z.uses) (sym h.kept) in
      record {
        roles = λ d u.
            let r = roles_set whole s s devs a.dev x h.space new there dropped a refl (λ v. rw was (roles v)) d u in
            grind (arith, nat_tests, r);
        fresh = same_fresh whole s s devs a.dev x h.space new there (ap (λ (z : Kept). z.moves) h.kept);
        meta = λ d u.
            let m = meta_is devs d u in let n = meta_is (set devs a.dev x) d u in
            let p = saved_is devs d u in let q = saved_is (set devs a.dev x) d u in
            let f = fewer y hits d u in
            let one = sum_by-cons (λ (b : Dva). one_if (in_address b d u)) a [] in
            omega (arith, m, n, p, q, f, one);
      }

  pub drops_meta : (y : Uses) → DropsMeta k.uses y (extent_of a) → HasAll k.uses.meta (extent_of a) → rules.DropsMeta (space_of whole devs) (space_of whole (set devs a.dev (record k { uses = y }))) (a ∷ [])
  drops_meta y d all =
      let after = drops_account (free_at s a.dev) (count_at s a.dev) k.uses y (extent_of a) account d all in
      gives_back y (meta_space y d all) (drops_roles (free_at s a.dev) (count_at s a.dev) k.uses y (extent_of a) account d all)
      (λ u.
      let o = once_in 0 u k.uses.meta account.lists.meta in let n = once_in 0 u y.meta after.lists.meta in
      let m = d.meta.members u in let t = all u in let e : extent_hits y.saved u ≡ extent_hits k.uses.saved u = ap (λ (z : Uses). extent_hits z.saved u) d.others in
      grind (arith, nat_tests, o, n, m, t, e))

  pub drops_saved : (y : Uses) → DropsSaved k.uses y (extent_of a) → HasAll k.uses.saved (extent_of a) → rules.DropsMeta (space_of whole devs) (space_of whole (set devs a.dev (record k { uses = y }))) (a ∷ [])
  drops_saved y d all =
      let after = drops_saved_account (free_at s a.dev) (count_at s a.dev) k.uses y (extent_of a) account d all in
      gives_back y (saved_space y d all) (drops_saved_roles (free_at s a.dev) (count_at s a.dev) k.uses y (extent_of a) account d all)
      (λ u.
      let o = once_in 0 u k.uses.saved account.lists.saved in let n = once_in 0 u y.saved after.lists.saved in
      let m = d.saved.members u in let t = all u in let e : extent_hits y.meta u ≡ extent_hits k.uses.meta u = ap (λ (z : Uses). extent_hits z.meta u) d.others in
      grind (arith, nat_tests, o, n, m, t, e))

  keeps : (y : Uses) → IsSpace whole s (set devs a.dev (record k { uses = y })) → y.late1 ≡ k.uses.late1 → y.late2 ≡ k.uses.late2 → SameUses k.uses y → KeepsParts (space_of whole devs) (space_of whole (set devs a.dev (record k { uses = y })))
  keeps y new late1 late2 root =
      let x : Kept = record k { uses = y } in
      let was : (kept_of devs a.dev).uses ≡ k.uses = ap (λ (z : Kept). z.uses) (sym h.kept) in
      record {
        version = refl;
        cond = refl;
        ckpt = refl;
        synced = synced_set devs a.dev x (ap (λ (z : Kept). z.moves.synced) h.kept);
        devices = length-map (set devs a.dev x) part_in ∙ (length-set devs a.dev x ∙ sym (length-map devs part_in));
        each = same_part whole s s devs a.dev x h.space new there (ap (λ (z : Kept). z.moves) h.kept) (ap (λ (z : Kept). z.row) h.kept) (late1 ∙ ap (λ (z : Kept). z.uses.late1) h.kept) (late2 ∙ ap (λ (z : Kept). z.uses.late2) h.kept);
        root = same_root whole devs a.dev x there (rw was root) (λ u. ap (λ (z : Kept). was_fresh_in z.moves u) h.kept);
        lawful = lawful whole s (set devs a.dev x) new;
      }

  pub meta_keeps : (y : Uses) → DropsMeta k.uses y (extent_of a) → HasAll k.uses.meta (extent_of a) → KeepsParts (space_of whole devs) (space_of whole (set devs a.dev (record k { uses = y })))
  meta_keeps y d all = keeps y (meta_space y d all) (ap (λ (z : Uses). z.late1) d.others) (ap (λ (z : Uses). z.late2) d.others) (drops_root k.uses y (extent_of a) d)

  pub saved_keeps : (y : Uses) → DropsSaved k.uses y (extent_of a) → HasAll k.uses.saved (extent_of a) → KeepsParts (space_of whole devs) (space_of whole (set devs a.dev (record k { uses = y })))
  saved_keeps y d all = keeps y (saved_space y d all) (ap (λ (z : Uses). z.late1) d.others) (ap (λ (z : Uses). z.late2) d.others) (drops_saved_root k.uses y (extent_of a) d)

pub never : false ≡ true → ⊥
never e = cc
