-- What giving up kept units does to the space.
use Rattle.std.proofs.Common.{◌≡◌, ◌⊎◌, inl, inr, ℕ, ◌+◌, ◌-◌, ◌≤◌, ◌<◌, ◌^◌, Bool, true, false, List, [], ◌∷◌, length, refl, ◌∙◌, sym, ap, subst, arith, if◌then◌else◌}
use Rattle.std.proofs.Common.{Result, Ok, Err}
use Rattle.std.specs.Prelude.{OnErr}
use Rattle.std.proofs.Math.ListN.{set}
use Rattle.std.proofs.lemmas.Bool.Decides.{nat_tests}
use Rattle.zr_base.specs.declared.space.Dva.{Dva}
use Rattle.zr_base.specs.declared.space.Extent.{Extent}
use Rattle.zr_base.specs.Extents.{has_unit, in_extent, HasAll}
use Rattle.zr_rules.specs.Places.{is_leaving}
use Rattle.zr_rules.specs.Roles.{Role, discarded, is_kept_role}
use Rattle.zr_rules.specs.Space.{Space, role_at}
use Rattle.zr_rules.specs.Frees.{IsSameFrame}
use Rattle.zr_rules.specs.Steps.{Discards, is_among}
use Rattle.zr_metaslab.specs.Devices.{Devices, free_at, count_at, KeepsDevices}
use Rattle.zr_units.specs.Apart.{AreSetsApart}
use Rattle.zr_units.specs.Uses.{Uses, IsAccount, IsSameUses}
use Rattle.zr_units.specs.Changes.{DiscardsUnits, DiscardsFront}
use Rattle.zr_space.specs.Views.{Kept, kept_of, space_of, role_in, IsMoved, IsSpace}
use Rattle.zr_space.specs.Discards.{DiscardsPart}
use Rattle.zr_space.proofs.Accounts.{same_account, discards_account, discards_roles}
use Rattle.zr_space.proofs.Rooted.{discards_root}
use Rattle.zr_space.proofs.Frames.{roles_set, same_fresh, same_frame, meta_set, space_itself}
use Rattle.zr_space.proofs.Keeps.{IsChange, stays_space}
use Rattle.zr_space.proofs.Counts.{held_in}
use Rattle.zr_space.specs.declared.whole.Whole.{Whole}

-- kept units of a device, and what is kept of it
pub record IsGivenUp (whole : Whole) (s : Devices) (devs : List Kept) (d : ℕ) (e : Extent) (k : Kept) : Type 0 where
  pub space : IsSpace whole s devs
  pub known : d < length devs
  pub some : 0 < e.len
  pub here : k ≡ kept_of devs d
  pub all : HasAll k.uses.kept e

abbrev pub at_of : ℕ → Extent → Dva
at_of d e = record { dev = d; start = e.start; len = e.len }

pub on_err : {T E : Type 0} (r : Result T E) (P : Type 0) → P → OnErr r P
on_err (Ok x) P p = tt
on_err (Err e) P p = p

false_true : false ≡ true → ⊥
false_true e = cc

pub kept_unit : (x : Uses) (u : ℕ) → is_kept_role (role_in x u) ≡ true → has_unit x.kept u ≡ true
kept_unit x u is = grind (arith, nat_tests, is)

-- nothing is changed
pub frame_itself : (s : Space) → IsSameFrame s s
frame_itself s = record {
  version = refl;
  cond = refl;
  ckpt = refl;
  synced = refl;
  saved_meta = refl;
  devices = refl;
  each = λ d. record { row = refl; entries = refl; counts = refl; late1 = refl; late2 = refl };
  root = record { held = λ d u. refl; kept = λ d u. refl; fresh = λ d u. refl };
  lawful = λ l. l;
}

pub part_itself : (s : Space) → DiscardsPart s s
part_itself s = record { roles = λ d u. inl refl; meta = refl; frame = frame_itself s }

either : (b : Bool) (r t : Role) → t ≡ (if b then discarded r else r) → (t ≡ r) ⊎ (t ≡ discarded r)
either true r t is = inr is
either false r t is = inl is

pub part_of_all : (old new : Space) (es : List (ℕ × Extent)) → Discards old new es → DiscardsPart old new
part_of_all old new es g = record { roles = λ d u. either (is_among es d u) (role_at old d u) (role_at new d u) (g.roles d u); meta = g.meta; frame = g.frame }

module _ (whole : Whole) (s : Devices) (devs : List Kept) (d : ℕ) (e : Extent) (k : Kept) (h : IsGivenUp whole s devs d e k) where
  pub account : IsAccount (free_at s d) (count_at s d) k.uses
  account = subst (λ (x : Kept). IsAccount (free_at s d) (count_at s d) x.uses) (sym h.here) (h.space.account d)

  pub ends : e.start + e.len ≤ k.uses.units
  ends =
      let some = h.some in
      let last : in_extent e (e.start + e.len - 1) ≡ true = grind (arith, nat_tests, some) in
      let lt = held_in (free_at s d) (count_at s d) k.uses account (e.start + e.len - 1) (account.keeping.held (e.start + e.len - 1) (h.all (e.start + e.len - 1) last)) in
      omega (arith, lt, some)

  pub in_range : e.start + e.len ≤ 2 ^ 62
  in_range = let n = ends in let m = account.small in omega (arith, n, m)

  pub short : e.len < 2 ^ 40
  short = let n = ends in let m = account.small in omega (arith, n, m)

  pub apart : AreSetsApart k.uses.held k.uses.freed.blocks
  apart u is = let o = account.once u in grind (arith, nat_tests, o, is)

  same_devices : KeepsDevices s s
  same_devices = record { devs = refl; units = λ d. refl; serves = λ d. refl }

  -- nothing is kept of a device that is leaving
  none_leaves : is_leaving k.row.state ≡ true → ⊥
  none_leaves is =
      let some = h.some in
      let at : in_extent e e.start ≡ true = grind (arith, nat_tests, some) in
      let none = (h.space.tied d (subst (λ (x : Kept). is_leaving x.row.state ≡ true) h.here is)).unkept e.start in
      let all : has_unit (kept_of devs d).uses.kept e.start ≡ true = subst (λ (x : Kept). has_unit x.uses.kept e.start ≡ true) h.here (h.all e.start at) in
      false_true (sym none ∙ all)

  change : (y : Uses) → DiscardsUnits k.uses y e → IsChange whole s s devs d (record k { uses = y })
  change y g = record {
    there = h.known;
    row = ap (λ (x : Kept). x.row) h.here;
    entries = ap (λ (x : Kept). x.moves.entries) h.here;
    counts = ap (λ (x : Kept). x.moves.counts) h.here;
    fresh = ap (λ (x : Kept). x.moves.fresh) h.here;
    moved = subst (λ (x : Kept). IsMoved x.row x.moves) (sym h.here) (h.space.moved d);
    units = ap (λ (x : Uses). x.units) g.others ∙ ap (λ (x : Kept). x.uses.units) h.here;
    account = discards_account (free_at s d) (count_at s d) k.uses y e account g h.all;
    copies = λ u. ap (λ (x : Uses). has_unit x.copies u) g.others ∙ ap (λ (x : Kept). has_unit x.uses.copies u) h.here;
    devices = same_devices;
    free = λ j u ne. refl;
    count = λ j ne. refl;
    tied = λ is. absurd (none_leaves is);
  }

  pub discarded_space : (y : Uses) → DiscardsUnits k.uses y e → IsSpace whole s (set devs d (record k { uses = y }))
  discarded_space y g = stays_space s s devs d (record k { uses = y }) h.space (change y g)

  pub discards : (y : Uses) → DiscardsUnits k.uses y e → Discards (space_of whole devs) (space_of whole (set devs d (record k { uses = y }))) ((d, e) ∷ [])
  discards y g =
      let x : Kept = record k { uses = y } in
      let new = discarded_space y g in
      let was : (kept_of devs d).uses ≡ k.uses = ap (λ (z : Kept). z.uses) (sym h.here) in
      record {
        roles = λ j u.
            let r = roles_set whole s s devs d x h.space new h.known discarded (at_of d e) refl (λ v. rw was (discards_roles (free_at s d) (count_at s d) k.uses y e account g h.all v)) j u in
            grind (arith, nat_tests, r);
        fresh = same_fresh whole s s devs d x h.space new h.known (ap (λ (z : Kept). z.moves) h.here);
        meta = meta_set 0 d devs x (ap (λ (z : Uses). z.meta) g.others ∙ ap (λ (z : Uses). z.meta) (sym was));
        frame = same_frame whole s s devs d x h.space new h.known (ap (λ (z : Kept). z.moves) h.here) (ap (λ (z : Kept). z.row) h.here)
            (ap (λ (z : Uses). z.late1) g.others ∙ ap (λ (z : Uses). z.late1) (sym was))
            (ap (λ (z : Uses). z.late2) g.others ∙ ap (λ (z : Uses). z.late2) (sym was))
            (ap (λ (z : Uses). z.saved) g.others ∙ ap (λ (z : Uses). z.saved) (sym was))
            (rw was (discards_root (free_at s d) (count_at s d) k.uses y e account g h.all));
      }

  front_all : (n : ℕ) → n ≤ e.len → HasAll k.uses.kept (record { start = e.start; len = n })
  front_all n le u is = h.all u (grind (arith, nat_tests, le, is))

  front_of : (n : ℕ) → 0 < n → n ≤ e.len → IsGivenUp whole s devs d (record { start = e.start; len = n }) k
  front_of n some le = record { space = h.space; known = h.known; some = some; here = h.here; all = front_all n le }

  same_change : (y : Uses) → IsSameUses k.uses y → IsChange whole s s devs d (record k { uses = y })
  same_change y same = record {
    there = h.known;
    row = ap (λ (x : Kept). x.row) h.here;
    entries = ap (λ (x : Kept). x.moves.entries) h.here;
    counts = ap (λ (x : Kept). x.moves.counts) h.here;
    fresh = ap (λ (x : Kept). x.moves.fresh) h.here;
    moved = subst (λ (x : Kept). IsMoved x.row x.moves) (sym h.here) (h.space.moved d);
    units = ap (λ (x : Uses). x.units) same ∙ ap (λ (x : Kept). x.uses.units) h.here;
    account = same_account (free_at s d) (count_at s d) k.uses y same account;
    copies = λ u. ap (λ (x : Uses). has_unit x.copies u) same ∙ ap (λ (x : Kept). has_unit x.uses.copies u) h.here;
    devices = same_devices;
    free = λ j u ne. refl;
    count = λ j ne. refl;
    tied = λ is. absurd (none_leaves is);
  }

  pub same_space : (y : Uses) → IsSameUses k.uses y → IsSpace whole s (set devs d (record k { uses = y }))
  same_space y same = stays_space s s devs d (record k { uses = y }) h.space (same_change y same)

pub front_space : (whole : Whole) (s : Devices) (devs : List Kept) (d : ℕ) (e : Extent) (k : Kept) (h : IsGivenUp whole s devs d e k) (y : Uses) → DiscardsFront k.uses y e → IsSpace whole s (set devs d (record k { uses = y }))
front_space whole s devs d e k h y (inl same) = same_space whole s devs d e k h y same
front_space whole s devs d e k h y (inr some) = discarded_space whole s devs d (record { start = e.start; len = some.0 }) k (front_of whole s devs d e k h some.0 some.1 some.2) y some.3

pub front_part : (whole : Whole) (s : Devices) (devs : List Kept) (d : ℕ) (e : Extent) (k : Kept) (h : IsGivenUp whole s devs d e k) (y : Uses) → DiscardsFront k.uses y e → DiscardsPart (space_of whole devs) (space_of whole (set devs d (record k { uses = y })))
front_part whole s devs d e k h y (inl same) = subst (λ (t : Space). DiscardsPart (space_of whole devs) t) (sym (space_itself whole devs d k y h.here same)) (part_itself (space_of whole devs))
front_part whole s devs d e k h y (inr some) =
    let f : Extent = record { start = e.start; len = some.0 } in
    part_of_all (space_of whole devs) (space_of whole (set devs d (record k { uses = y }))) ((d, f) ∷ [])
    (discards whole s devs d f k (front_of whole s devs d e k h some.0 some.1 some.2) y some.3)
