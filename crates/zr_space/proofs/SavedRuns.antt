-- The saved root's metadata, and what is left of it.
use Rattle.std.proofs.Common.{◌≡◌, ℕ, zero, suc, ◌+◌, ◌≤◌, ◌<◌, true, List, [], ◌∷◌, ◌++◌, length, sum_by, refl, ◌∙◌, sym, ap, subst, arith}
use Rattle.std.proofs.Math.ListN.{set}
use Rattle.std.proofs.lemmas.Bool.Decides.{nat_tests}
use Rattle.std.proofs.lemmas.List.Sums.{sum_by-append, sum_by-cons}
use Rattle.zr_base.specs.declared.space.Dva.{Dva}
use Rattle.zr_base.specs.declared.space.Extent.{Extent}
use Rattle.zr_base.specs.Extents.{in_extent, has_unit, unit_count, HasAll, IsMaximal}
use Rattle.zr_rules.specs.Places.{in_address}
use Rattle.zr_rules.specs.Roles.Role.{SavedMeta}
use Rattle.zr_metaslab.specs.Devices.{Devices, extent_of}
use Rattle.zr_units.specs.Uses.{Uses}
use Rattle.zr_units.specs.Changes.{DropsSaved}
use Rattle.zr_space.specs.Views.{Kept, kept_of, space_of, role_in, IsSpace, addresses, saved_from}
use Rattle.zr_space.specs.Drops.{HasRole}
use Rattle.zr_space.specs.Saved.{IsSavedMeta, saved_left}
use Rattle.zr_space.proofs.Roles.{roles_are}
use Rattle.zr_space.proofs.Counts.{saved_in}
use Rattle.zr_space.proofs.InUse.{saved_covered}
use Rattle.zr_space.specs.declared.whole.Whole.{Whole}

-- ---- what is left

pub count_addresses : (d : ℕ) (es : List Extent) → sum_by (λ (a : Dva). a.len) (addresses d es) ≡ unit_count es
count_addresses d [] = refl
count_addresses d (e ∷ es) = sum_by-cons (λ (a : Dva). a.len) (record { dev = d; start = e.start; len = e.len }) (addresses d es) ∙ ap (λ (n : ℕ). e.len + n) (count_addresses d es)

left_from : (i : ℕ) (devs : List Kept) (d : ℕ) (x : Kept) → d < length devs
    → sum_by (λ (a : Dva). a.len) (saved_from i (set devs d x)) + unit_count (kept_of devs d).uses.saved ≡ sum_by (λ (a : Dva). a.len) (saved_from i devs) + unit_count x.uses.saved
left_from i [] d x lt = absurd (omega (arith, lt))
left_from i (k ∷ ks) zero x lt =
    let a = sum_by-append (λ (b : Dva). b.len) (addresses i x.uses.saved) (saved_from (i + 1) ks) in
    let b = sum_by-append (λ (b : Dva). b.len) (addresses i k.uses.saved) (saved_from (i + 1) ks) in
    let c = count_addresses i x.uses.saved in
    let e = count_addresses i k.uses.saved in
    omega (arith, a, b, c, e)
left_from i (k ∷ ks) (suc d) x lt =
    let a = sum_by-append (λ (b : Dva). b.len) (addresses i k.uses.saved) (saved_from (i + 1) (set ks d x)) in
    let b = sum_by-append (λ (b : Dva). b.len) (addresses i k.uses.saved) (saved_from (i + 1) ks) in
    let r = left_from (i + 1) ks d x (omega (arith, lt)) in
    omega (arith, a, b, r)

-- less is left once a run is given back
pub less_left : (whole : Whole) (devs : List Kept) (a : Dva) (k : Kept) (y : Uses) → a.dev < length devs → 0 < a.len → k ≡ kept_of devs a.dev → DropsSaved k.uses y (extent_of a)
    → saved_left (space_of whole (set devs a.dev (record k { uses = y }))) < saved_left (space_of whole devs)
less_left whole devs a k y there some is d =
    let l = left_from 0 devs a.dev (record k { uses = y }) there in
    let c = d.saved.count in
    let e = ap (λ (z : Kept). unit_count z.uses.saved) is in
    omega (arith, l, c, e, some)

-- ---- the lowest run

-- the devices below this one have none
pub none_from : (i : ℕ) (devs : List Kept) → ((d : ℕ) → d < length devs → (kept_of devs d).uses.saved ≡ []) → saved_from i devs ≡ []
none_from i [] none = refl
none_from i (k ∷ ks) none =
    ap (λ (es : List Extent). addresses i es ++ saved_from (i + 1) ks) (none 0 (omega arith))
    ∙ none_from (i + 1) ks (λ d lt. none (suc d) (omega (arith, lt)))

saved_unit : (x : Uses) (u : ℕ) → role_in x u ≡ SavedMeta → has_unit x.saved u ≡ true
saved_unit x u is = grind (arith, nat_tests, is)

-- the saved set has all units of such an address
pub saved_covers : (whole : Whole) (s : Devices) (devs : List Kept) (a : Dva) (k : Kept) → IsSpace whole s devs → k ≡ kept_of devs a.dev → HasRole (space_of whole devs) a SavedMeta → HasAll k.uses.saved (extent_of a)
saved_covers whole s devs a k space is has = λ u at.
    let on : in_address a a.dev u ≡ true = grind (arith, nat_tests, at) in
    saved_unit k.uses u (ap (λ (x : Kept). role_in x.uses u) is ∙ (sym (roles_are whole devs a.dev u space) ∙ has u on))

-- a front of the first extent of the saved set is such an address
pub front_saved : (whole : Whole) (s : Devices) (devs : List Kept) (a : Dva) (e : Extent) (es : List Extent) → IsSpace whole s devs → a.dev < length devs → (kept_of devs a.dev).uses.saved ≡ e ∷ es
    → a.start ≡ e.start → 0 < a.len → a.len ≤ e.len → IsSavedMeta (space_of whole devs) a
front_saved whole s devs a e es space there is start some most =
    let x = (kept_of devs a.dev).uses in
    let all : HasAll x.saved (extent_of a) = λ u at.
    let first : in_extent e u ≡ true = grind (arith, nat_tests, at, start, most) in
    let has : has_unit (e ∷ es) u ≡ true = grind (arith, nat_tests, first) in
    subst (λ (ls : List Extent). has_unit ls u ≡ true) (sym is) has in
    record {
      is = saved_covered whole s devs a space there some all;
      saved = λ u at.
          let inside : in_extent (extent_of a) u ≡ true = grind (arith, nat_tests, at) in
          let has = all u inside in
          let acc = space.account a.dev in
          let once = acc.once u in
          let lt : u < x.units = saved_in _ _ x acc u has in
          let role : role_in x u ≡ SavedMeta = grind (arith, nat_tests, once, lt, has) in
          roles_are whole devs a.dev u space ∙ role;
    }

-- an extent of a set is not empty
pub first_some : (es : List Extent) (e : Extent) (rest : List Extent) → IsMaximal es → es ≡ e ∷ rest → 0 < e.len
first_some es e rest m is = let n = subst IsMaximal is m in n.1
