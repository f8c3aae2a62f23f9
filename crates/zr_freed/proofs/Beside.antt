-- The spaces of one root: whatever their late sets are, and whatever metadata of another root lies beside, the same blocks are in use.
use Rattle.std.proofs.Common.{◌≡◌, inl, inr, ℕ, ◌+◌, ◌≤◌, Bool, true, not, ◌&&◌, nat_lt, List, [], ◌∷◌, length, map, refl, sym, ◌∙◌, ap, subst, arith}
use Rattle.std.specs.Prelude.{if◌then◌else◌}
use Rattle.std.specs.List.{sum_by}
use Rattle.std.proofs.lemmas.Bool.{cases_Bool}
use Rattle.std.proofs.lemmas.List.{length-map}
use Rattle.std.proofs.lemmas.List.Sums.{sum_by-cons}
use Rattle.std.proofs.Math.ListN.{get_or-map}
use Rattle.zr_base.specs.declared.space.DevPart.{DevPart}
use Rattle.zr_base.specs.declared.space.Dva.{Dva}
use Rattle.zr_base.specs.declared.space.SpaceParts.{SpaceParts}
use Rattle.zr_base.specs.Extents.{has_unit}
use Rattle.zr_freed.proofs.Whole.{copy_held, live_held}
use Rattle.zr_freed.specs.Chains.{AreInUse, HasSingleCopies}
use Rattle.zr_image.specs.Roots.{without_late}
use Rattle.zr_rules.specs.Devices.{Devices}
use Rattle.zr_rules.specs.Equation.{devices_in, live_hits}
use Rattle.zr_rules.specs.Places.{no_part, part_of, is_fresh, is_gone, is_held, is_kept, is_leaving}
use Rattle.zr_rules.specs.Roles.{Role, is_copy_role, is_live_role}
use Rattle.zr_rules.specs.Roles.Role.{Absent, FreshLive, Live, FreshCopy, Copy, Kept}
use Rattle.zr_rules.specs.Space.{Space, OpenSets, copy_hits, has_place, held_role, is_born, is_copy_by, opened_of, other_role, role_at}
use Rattle.zr_space.proofs.Devs.{devices_as}
use Rattle.zr_space.specs.Live.{IsFreeable}
use Rattle.zr_space.specs.Opens.{IsOpened}
use Rattle.zr_vdev.proofs.Alike.{AreNoNewCopies}
use Rattle.zr_vdev.proofs.Back.{spends_same}
use Rattle.zr_vdev.proofs.Uses.{use_along}
use Rattle.zr_vdev.proofs.Whole.{all_same}
use Rattle.zr_vdev.specs.Stores.{LeadsToAll}
use Rattle.zr_vdev.specs.declared.kind.Kind.TheVariants.{Block}

-- ---- parts that differ in their late sets

abbrev bare : DevPart → DevPart
bare p = record p { late1 = []; late2 = [] }

bare_at : (ps : List DevPart) (d : ℕ) → part_of (map bare ps) d ≡ bare (part_of ps d)
bare_at ps d = get_or-map bare ps d no_part

abbrev own_copies : ℕ → ℕ → DevPart → ℕ
own_copies d u p = if is_leaving p.row.state then sum_by (λ e. if is_copy_by p d u e then 1 else 0) p.entries else 0

copies_bare : (ps : List DevPart) (d u : ℕ) → copy_hits (map bare ps) d u ≡ copy_hits ps d u
copies_bare [] d u = refl
copies_bare (p ∷ ps) d u =
    let rest = copies_bare ps d u in
    let one = sum_by-cons (own_copies d u) (bare p) (map bare ps) in
    let other = sum_by-cons (own_copies d u) p ps in
    let alike : own_copies d u (bare p) ≡ own_copies d u p = refl in
    one ∙ (ap (λ (n : ℕ). n + copy_hits (map bare ps) d u) alike ∙ (ap (λ (n : ℕ). own_copies d u p + n) rest ∙ sym other))

module _ (own parts : SpaceParts) (meta saved : List Dva) (s t : Space) (same : without_late own ≡ without_late parts) (so : IsOpened own meta [] s) (to : IsOpened parts meta saved t) where
  bares : map bare s.parts.devs ≡ map bare t.parts.devs
  bares =
      ap (λ (ps : SpaceParts). map bare ps.devs) so.parts_are ∙ (ap (λ (ps : SpaceParts). ps.devs) same ∙ sym (ap (λ (ps : SpaceParts). map bare ps.devs) to.parts_are))

  part : (d : ℕ) → bare (part_of t.parts.devs d) ≡ bare (part_of s.parts.devs d)
  part d = sym (bare_at t.parts.devs d) ∙ (sym (ap (λ (ps : List DevPart). part_of ps d) bares) ∙ bare_at s.parts.devs d)

  count : length t.parts.devs ≡ length s.parts.devs
  count = sym (length-map t.parts.devs bare) ∙ (sym (ap (λ (ps : List DevPart). length ps) bares) ∙ length-map s.parts.devs bare)

  pub devices : devices_in t ≡ devices_in s
  devices = devices_as (devices_in t) (devices_in s) count (λ d. ap (λ (p : DevPart). p.row) (part d)) (λ d. ap (λ (p : DevPart). p.entries) (part d))

  copies : (d u : ℕ) → copy_hits t.parts.devs d u ≡ copy_hits s.parts.devs d u
  copies d u = sym (copies_bare t.parts.devs d u) ∙ (sym (ap (λ (ps : List DevPart). copy_hits ps d u) bares) ∙ copies_bare s.parts.devs d u)

  fresh : (d u : ℕ) → is_fresh t.parts.devs d u ≡ is_fresh s.parts.devs d u
  fresh d u = ap (λ (p : DevPart). has_unit p.fresh u) (part d)

  counts : (d : ℕ) → (part_of t.parts.devs d).counts ≡ (part_of s.parts.devs d).counts
  counts d = ap (λ (p : DevPart). p.counts) (part d)

  opened : (d : ℕ) → opened_of t d ≡ opened_of s d
  opened d = to.opened d ∙ sym (so.opened d)

  place : (d u : ℕ) → has_place t d u ≡ has_place s d u
  place d u =
      ap (λ (n : ℕ). nat_lt d n && (not (is_gone (part_of t.parts.devs d).row.state) && nat_lt u (part_of t.parts.devs d).row.units)) count
      ∙ ap (λ (p : DevPart). nat_lt d (length s.parts.devs) && (not (is_gone p.row.state) && nat_lt u p.row.units)) (part d)

  held : (d u : ℕ) → is_held t.parts.devs d u ≡ is_held s.parts.devs d u
  held d u = ap (λ (p : DevPart). has_unit p.held u) (part d)

  born : (d u : ℕ) → is_born t d u ≡ is_born s d u
  born d u = ap (λ (o : OpenSets). has_unit o.born u) (opened d)

  abbrev of_held : Bool → ℕ → Bool → Role
  of_held kept hits fresh = if kept then Kept else (if nat_lt 0 hits then (if fresh then FreshCopy else Copy) else (if fresh then FreshLive else Live))

  own_role : (d u : ℕ) → held_role t d u ≡ held_role s d u
  own_role d u =
      ap (λ (p : DevPart). of_held (has_unit p.kept u) (copy_hits t.parts.devs d u) (is_born t d u)) (part d)
      ∙ (ap (λ (n : ℕ). of_held (is_kept s.parts.devs d u) n (is_born t d u)) (copies d u) ∙ ap (λ (b : Bool). of_held (is_kept s.parts.devs d u) (copy_hits s.parts.devs d u) b) (born d u))

  -- a unit that is held has the same role
  held_same : (d u : ℕ) → is_held s.parts.devs d u ≡ true → role_at t d u ≡ role_at s d u
  unfolding role_at
  held_same d u is =
      ap (λ (b : Bool). if not b then Absent else (if is_held t.parts.devs d u then held_role t d u else other_role t d u)) (place d u)
      ∙ (ap (λ (b : Bool). if not (has_place s d u) then Absent else (if b then held_role t d u else other_role t d u)) (held d u ∙ is)
      ∙ (ap (λ (r : Role). if not (has_place s d u) then Absent else r) (own_role d u)
      ∙ ap (λ (b : Bool). if not (has_place s d u) then Absent else (if b then held_role s d u else other_role s d u)) (sym is)))

  -- and so has one that is in use
  role : (d u : ℕ) → is_live_role (role_at s d u) ≡ true → role_at t d u ≡ role_at s d u
  role d u live = held_same d u (live_held s d u live)

  one : (a : Dva) → IsFreeable s a → IsFreeable t a
  one a h = use_along Block s t a devices (λ sp. spends_same s t (a ∷ []) devices counts fresh sp) (λ d u led. role d u (h.used d u led)) h

  pub in_use_beside : (list : List Dva) → AreInUse s list → AreInUse t list
  in_use_beside list h = record {
    each = λ i e lt. one _ (h.each i e lt);
    once = λ d u. subst (λ (ds : Devices). live_hits ds list d u ≤ 1) (sym devices) (h.once d u);
    spends = spends_same s t list devices counts fresh h.spends;
  }

  live_same : (d u : ℕ) → is_live_role (role_at t d u) ≡ is_live_role (role_at s d u)
  live_same d u = elim (cases_Bool (is_live_role (role_at s d u))) [
    | inl live ↦ ap is_live_role (role d u live)
    | inr dead ↦ elim (cases_Bool (is_live_role (role_at t d u))) [
      | inl live ↦ ap is_live_role (held_same d u (sym (held d u) ∙ live_held t d u live))
      | inr none ↦ none ∙ sym dead
    ]
  ]

  -- no copy is there alone
  no_new_copies : AreNoNewCopies s t
  no_new_copies = record {
    row = λ d. ap (λ (p : DevPart). p.row) (part d);
    entries = λ d. ap (λ (p : DevPart). p.entries) (part d);
    marks = λ d u is. fresh d u ∙ is;
    copy = λ d u is. sym (ap is_copy_role (held_same d u (sym (held d u) ∙ copy_held t d u is))) ∙ is;
  }

  pub all_beside : (list : List Dva) → LeadsToAll s list → LeadsToAll t list
  all_beside list h = all_same s t list devices live_same no_new_copies h

  pub single_beside : HasSingleCopies t → HasSingleCopies s
  single_beside h d u = let same_hits = copies d u in let one = h d u in omega (arith, same_hits, one)
