-- What an allocation does to the space.
use Rattle.std.proofs.Common.{◌≡◌, ℕ, ◌+◌, ◌<◌, ◌&&◌, true, false, not, List, length, refl, ◌∙◌, sym, ap, subst, arith}
use Rattle.std.proofs.Math.ListN.{set}
use Rattle.std.proofs.lemmas.Bool.Decides.{nat_tests}
use Rattle.zr_base.specs.declared.space.Dva.{Dva}
use Rattle.zr_base.specs.declared.space.Policy.{Policy}
use Rattle.zr_base.specs.declared.space.Extent.{Extent}
use Rattle.zr_base.specs.Extents.{in_extent, has_unit}
use Rattle.zr_rules.specs.Columns as columns
use Rattle.zr_rules.specs.Placement.{IsPlacement, HasNoPlacement}
use Rattle.zr_rules.specs.Roles.Role.{FreshLive, Meta}
use Rattle.zr_rules.specs.Frees.{Allocates, AllocatesMeta}
use Rattle.zr_metaslab.specs.Devices as slab
use Rattle.zr_metaslab.specs.Devices.{Devices, free_at, count_at, serves_at, Takes, Gives, extent_of}
use Rattle.zr_units.specs.Uses.{Uses, IsAccount, IsSameUses}
use Rattle.zr_units.specs.Changes.{Holds, HoldsMeta}
use Rattle.zr_space.specs.Views.{Kept, kept_of, space_of, IsMoved, IsSpace}
use Rattle.zr_space.proofs.Accounts.{account_as, same_account, holds_account, holds_roles, holds_meta_account, holds_meta_roles}
use Rattle.zr_space.proofs.Rooted.{holds_root, holds_meta_root}
use Rattle.zr_space.proofs.Frames.{roles_set, same_fresh, same_frame, meta_set}
use Rattle.zr_space.proofs.Keeps.{IsChange, on_each, stays_space, same_free}
use Rattle.zr_space.proofs.Sums.{extent_hits, once_in}
use Rattle.zr_space.proofs.Views.{meta_is}
use Rattle.zr_rules.specs.Places.{one_if, is_on, is_leaving, in_address}
use Rattle.zr_space.proofs.Placing.{placed, not_placed}
use Rattle.zr_space.proofs.Leads.{on_stays}
use Rattle.zr_space.specs.declared.whole.Whole.{Whole}

false_true : false ≡ true → ⊥
false_true e = cc

pub serving_stays : (whole : Whole) (s : Devices) (devs : List Kept) (d : ℕ) (k : Kept) → IsSpace whole s devs → k ≡ kept_of devs d → serves_at s d ≡ true → is_leaving k.row.state ≡ false
serving_stays whole s devs d k space here serves =
    let v = space.serves d in
    let on : is_on (kept_of devs d).row.state ≡ true = grind (arith, nat_tests, v, serves) in
    ap (λ (x : Kept). is_leaving x.row.state) here ∙ on_stays (kept_of devs d).row.state on

-- units of a device were taken from the allocator
pub record IsTaken (whole : Whole) (s t : Devices) (devs : List Kept) (a : Dva) (k : Kept) : Type 0 where
  pub space : IsSpace whole s devs
  pub takes : Takes s t a.dev (extent_of a)
  pub known : a.dev < length s
  pub serves : serves_at s a.dev ≡ true
  pub kept : k ≡ kept_of devs a.dev

module _ (whole : Whole) (s t : Devices) (devs : List Kept) (a : Dva) (k : Kept) (h : IsTaken whole s t devs a k) where
  there : a.dev < length devs
  there = let l = h.known in let e = h.space.devices in omega (arith, l, e)

  account : IsAccount (free_at s a.dev) (count_at s a.dev) k.uses
  account = subst (λ (x : Kept). IsAccount (free_at s a.dev) (count_at s a.dev) x.uses) (sym h.kept) (h.space.account a.dev)

  taken : (u : ℕ) → free_at t a.dev u ≡ (free_at s a.dev u && not (in_extent (extent_of a) u))
  taken u = let f = h.takes.free a.dev u in grind (arith, nat_tests, f)

  fewer : count_at t a.dev + a.len ≡ count_at s a.dev
  fewer = let c = h.takes.count a.dev in grind (arith, nat_tests, c)

  -- a device that leaves gives out no units
  stays : is_leaving k.row.state ≡ false
  stays = serving_stays whole s devs a.dev k h.space h.kept h.serves

  change : (y : Uses) → y.units ≡ k.uses.units → y.copies ≡ k.uses.copies → IsAccount (free_at t a.dev) (count_at t a.dev) y → IsChange whole s t devs a.dev (record k { uses = y })
  change y units copies a' = record {
    there = there;
    row = ap (λ (x : Kept). x.row) h.kept;
    entries = ap (λ (x : Kept). x.moves.entries) h.kept;
    counts = ap (λ (x : Kept). x.moves.counts) h.kept;
    fresh = ap (λ (x : Kept). x.moves.fresh) h.kept;
    moved = subst (λ (x : Kept). IsMoved x.row x.moves) (sym h.kept) (h.space.moved a.dev);
    units = units ∙ ap (λ (x : Kept). x.uses.units) h.kept;
    account = a';
    copies = λ u. ap (λ (es : List Extent). has_unit es u) copies ∙ ap (λ (x : Kept). has_unit x.uses.copies u) h.kept;
    devices = h.takes.devices;
    free = λ j u ne. let f = h.takes.free j u in grind (arith, nat_tests, f, ne);
    count = λ j ne. let c = h.takes.count j in grind (arith, nat_tests, c, ne);
    tied = λ is. absurd (false_true (sym stays ∙ is));
  }

  pub block_space : (y : Uses) → Holds k.uses y (extent_of a) → IsSpace whole t (set devs a.dev (record k { uses = y }))
  block_space y holds =
      stays_space s t devs a.dev (record k { uses = y }) h.space
      (change y (ap (λ (x : Uses). x.units) holds.others) (ap (λ (x : Uses). x.copies) holds.others) (holds_account (free_at s a.dev) (free_at t a.dev) (count_at s a.dev) (count_at t a.dev) k.uses y (extent_of a) account holds h.takes.were_free taken fewer))

  pub meta_space : (y : Uses) → HoldsMeta k.uses y (extent_of a) → IsSpace whole t (set devs a.dev (record k { uses = y }))
  meta_space y holds =
      stays_space s t devs a.dev (record k { uses = y }) h.space
      (change y (ap (λ (x : Uses). x.units) holds.others) (ap (λ (x : Uses). x.copies) holds.others) (holds_meta_account (free_at s a.dev) (free_at t a.dev) (count_at s a.dev) (count_at t a.dev) k.uses y (extent_of a) account holds h.takes.were_free taken fewer))

  pub allocates : (want : ℕ) (policy : Policy) (y : Uses) → Holds k.uses y (extent_of a) → IsPlacement (slab.free_of s) policy want a → Allocates policy want (space_of whole devs) (space_of whole (set devs a.dev (record k { uses = y }))) a
  allocates want policy y holds place =
      let x : Kept = record k { uses = y } in
      let new = block_space y holds in
      let was : (kept_of devs a.dev).uses ≡ k.uses = ap (λ (z : Kept). z.uses) (sym h.kept) in
      record {
        place = placed (slab.free_of s) (columns.free_of (space_of whole devs)) policy want a (same_free whole s devs h.space) place;
        roles = roles_set whole s t devs a.dev x h.space new there (λ r. FreshLive) a refl (λ u. rw was (holds_roles (free_at s a.dev) (count_at s a.dev) k.uses y (extent_of a) account holds h.takes.were_free u));
        fresh = same_fresh whole s t devs a.dev x h.space new there (ap (λ (z : Kept). z.moves) h.kept);
        meta = meta_set 0 a.dev devs x (ap (λ (z : Uses). z.meta) holds.others ∙ ap (λ (z : Uses). z.meta) (sym was));
        frame = same_frame whole s t devs a.dev x h.space new there (ap (λ (z : Kept). z.moves) h.kept) (ap (λ (z : Kept). z.row) h.kept)
            (ap (λ (z : Uses). z.late1) holds.others ∙ ap (λ (z : Uses). z.late1) (sym was))
            (ap (λ (z : Uses). z.late2) holds.others ∙ ap (λ (z : Uses). z.late2) (sym was))
            (ap (λ (z : Uses). z.saved) holds.others ∙ ap (λ (z : Uses). z.saved) (sym was))
            (rw was (holds_root (free_at s a.dev) (count_at s a.dev) k.uses y (extent_of a) account holds h.takes.were_free));
      }

  -- ---- metadata

  meta_more : (y : Uses) → HoldsMeta k.uses y (extent_of a) → IsAccount (free_at t a.dev) (count_at t a.dev) y → (j u : ℕ)
      → extent_hits (kept_of (set devs a.dev (record k { uses = y })) j).uses.meta u ≡ extent_hits (kept_of devs j).uses.meta u + one_if (in_address a j u)
  meta_more y holds after j u =
      on_each devs a.dev (record k { uses = y }) (λ i z. extent_hits z.uses.meta u ≡ extent_hits (kept_of devs i).uses.meta u + one_if (in_address a i u)) there
      (let was : extent_hits (kept_of devs a.dev).uses.meta u ≡ extent_hits k.uses.meta u = ap (λ (z : Kept). extent_hits z.uses.meta u) (sym h.kept) in
      let old = once_in 0 u k.uses.meta account.lists.meta in
      let new = once_in 0 u y.meta after.lists.meta in
      let members = holds.meta.members u in
      let free = h.takes.were_free u in
      let o = account.once u in
      grind (arith, nat_tests, was, old, new, members, free, o))
      (λ i ne. grind (arith, nat_tests, ne))
      j

  pub allocates_meta : (want : ℕ) (policy : Policy) (y : Uses) → HoldsMeta k.uses y (extent_of a) → IsPlacement (slab.free_of s) policy want a → AllocatesMeta policy want (space_of whole devs) (space_of whole (set devs a.dev (record k { uses = y }))) a
  allocates_meta want policy y holds place =
      let x : Kept = record k { uses = y } in
      let new = meta_space y holds in
      let was : (kept_of devs a.dev).uses ≡ k.uses = ap (λ (z : Kept). z.uses) (sym h.kept) in
      let after : IsAccount (free_at t a.dev) (count_at t a.dev) y = holds_meta_account (free_at s a.dev) (free_at t a.dev) (count_at s a.dev) (count_at t a.dev) k.uses y (extent_of a) account holds h.takes.were_free taken fewer in
      record {
        place = placed (slab.free_of s) (columns.free_of (space_of whole devs)) policy want a (same_free whole s devs h.space) place;
        roles = roles_set whole s t devs a.dev x h.space new there (λ r. Meta) a refl (λ u. rw was (holds_meta_roles (free_at s a.dev) (count_at s a.dev) k.uses y (extent_of a) account holds h.takes.were_free u));
        fresh = same_fresh whole s t devs a.dev x h.space new there (ap (λ (z : Kept). z.moves) h.kept);
        meta = λ d u. let m = meta_is devs d u in let n = meta_is (set devs a.dev x) d u in let e = meta_more y holds after d u in omega (arith, m, n, e);
        frame = same_frame whole s t devs a.dev x h.space new there (ap (λ (z : Kept). z.moves) h.kept) (ap (λ (z : Kept). z.row) h.kept)
            (ap (λ (z : Uses). z.late1) holds.others ∙ ap (λ (z : Uses). z.late1) (sym was))
            (ap (λ (z : Uses). z.late2) holds.others ∙ ap (λ (z : Uses). z.late2) (sym was))
            (ap (λ (z : Uses). z.saved) holds.others ∙ ap (λ (z : Uses). z.saved) (sym was))
            (rw was (holds_meta_root k.uses y (extent_of a) holds));
      }

-- units that were taken are given back, and the sets are as they were
pub given_back : {whole : Whole} (s t v : Devices) (devs : List Kept) (a : Dva) (k : Kept) (y : Uses) → IsTaken whole s t devs a k → IsSameUses k.uses y → Gives t v a.dev (extent_of a) → IsSpace whole v (set devs a.dev (record k { uses = y }))
given_back {whole} s t v devs a k y h same g =
    let x : Kept = record k { uses = y } in
    stays_space s v devs a.dev x h.space (record {
      there = there whole s t devs a k h;
      row = ap (λ (z : Kept). z.row) h.kept;
      entries = ap (λ (z : Kept). z.moves.entries) h.kept;
      counts = ap (λ (z : Kept). z.moves.counts) h.kept;
      fresh = ap (λ (z : Kept). z.moves.fresh) h.kept;
      moved = subst (λ (z : Kept). IsMoved z.row z.moves) (sym h.kept) (h.space.moved a.dev);
      units = ap (λ (z : Uses). z.units) same ∙ ap (λ (z : Kept). z.uses.units) h.kept;
      account = same_account (free_at v a.dev) (count_at v a.dev) k.uses y same (again (account whole s t devs a k h));
      copies = λ u. ap (λ (z : Uses). has_unit z.copies u) same ∙ ap (λ (z : Kept). has_unit z.uses.copies u) h.kept;
      devices = record {
        devs = g.devices.devs ∙ h.takes.devices.devs;
        units = λ d. g.devices.units d ∙ h.takes.devices.units d;
        serves = λ d. g.devices.serves d ∙ h.takes.devices.serves d;
      };
      free = λ j u ne. let f = h.takes.free j u in let r = g.free j u in grind (arith, nat_tests, f, r, ne);
      count = λ j ne. let c = h.takes.count j in let r = g.count j in grind (arith, nat_tests, c, r, ne);
      tied = λ is. absurd (false_true (sym (stays whole s t devs a k h) ∙ is));
    })
  where
    again : IsAccount (free_at s a.dev) (count_at s a.dev) k.uses → IsAccount (free_at v a.dev) (count_at v a.dev) k.uses
    again was = account_as (free_at s a.dev) (free_at v a.dev) (count_at s a.dev) (count_at v a.dev) k.uses
        (λ u. let f = h.takes.free a.dev u in let r = g.free a.dev u in let w = h.takes.were_free u in grind (arith, nat_tests, f, r, w))
        (let c = h.takes.count a.dev in let r = g.count a.dev in grind (arith, nat_tests, c, r)) was

pub no_run : (whole : Whole) (s : Devices) (devs : List Kept) (want longest : ℕ) → IsSpace whole s devs → HasNoPlacement (slab.free_of s) want longest → HasNoPlacement (columns.free_of (space_of whole devs)) want longest
no_run whole s devs want longest a none = not_placed (slab.free_of s) (columns.free_of (space_of whole devs)) want longest (same_free whole s devs a) none
