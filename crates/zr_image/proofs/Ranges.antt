-- The units of a root are the bytes that its pointers read.
use Rattle.std.proofs.Common.{◌≡◌, ◌<◌, ◌≤◌, ◌+◌, ℕ, zero, suc, Bool, true, false, ◌||◌, inl, inr, List, [], ◌∷◌, ◌++◌, Option, Some, None, refl, sym, ap, subst, ◌∙◌, arith}
use Rattle.std.specs.Prelude.{map, slice_index_or, sum_by, if◌then◌else◌}
use Rattle.std.specs.List.{Contains, flat_map, list_any, range_with_len}
use Rattle.std.proofs.lemmas.Bool.Decides.{nat_tests}
use Rattle.std.proofs.lemmas.List.Sums.{sum_by-cons}
use Rattle.std.proofs.lemmas.List.Elements.{Contains-append_right}
use Rattle.zr_base.specs.declared.space.Dva.{Dva}
use Rattle.zr_bptr.specs.declared.Bptr.{Bptr}
use Rattle.zr_label.specs.Geometry.{unit_at}
use Rattle.zr_label.specs.declared.root.Uber.{Uber}
use Rattle.zr_rules.specs.Places.{Place, one_if, in_address, address_hits, is_gone}
use Rattle.zr_rules.specs.Devices.{Devices, devices_of, state_at}
use Rattle.zr_rules.specs.Resolve.{resolve, resolved, resolved_units, is_at, is_there, leads_to}
use Rattle.zr_shelf.specs.Disks.{disk, part}
use Rattle.zr_shelf.specs.Protected.{IsSameIn}
use Rattle.zr_store.specs.Store.{hits}
use Rattle.zr_view.specs.Views.{View, unit_bytes, place_bytes}
use Rattle.zr_image.specs.Reading.{bare_devices}
use Rattle.zr_image.specs.Walks.{addresses}
use Rattle.zr_image.specs.Roots.{Root, has_live}
use Rattle.zr_image.specs.Frame.{HasOwnUnit, IsUnitOf}
use Rattle.zr_image.proofs.Opening.{SameRoot, hits_found}

-- ---- lists

or_true : (x : Bool) → x || true ≡ true
or_true true = refl
or_true false = refl

any_of : {A : Type 0} (test : A → Bool) (xs : List A) (x : A) → Contains xs x → test x ≡ true → list_any test xs ≡ true
any_of test [] x (k, lt, is) passes = absurd (omega (arith, lt))
any_of test (y ∷ ys) x (zero, lt, is) passes = rw is (rw passes refl)
any_of test (y ∷ ys) x (suc k, lt, is) passes = rw (any_of test ys x (k, omega (arith, lt), is) passes) (or_true (test y))

any_mapped : {A B : Type 0} (f : A → B) (test : B → Bool) (xs : List A) (x : A) → Contains xs x → test (f x) ≡ true → list_any test (map f xs) ≡ true
any_mapped f test [] x (k, lt, is) passes = absurd (omega (arith, lt))
any_mapped f test (y ∷ ys) x (zero, lt, is) passes = rw is (rw passes refl)
any_mapped f test (y ∷ ys) x (suc k, lt, is) passes = rw (any_mapped f test ys x (k, omega (arith, lt), is) passes) (or_true (test (f y)))

counted : {A B : Type 0} (f : A → B) (weight : B → ℕ) (xs : List A) (x : A) → Contains xs x → 0 < weight (f x) → 0 < sum_by weight (map f xs)
counted f weight [] x (k, lt, is) some = absurd (omega (arith, lt))
counted f weight (y ∷ ys) x (zero, lt, is) some = let e = ap (λ z. weight (f z)) is in omega (arith, e, some, sum_by-cons weight (f y) (map f ys))
counted f weight (y ∷ ys) x (suc k, lt, is) some = let rest = counted f weight ys x (k, omega (arith, lt), is) some in omega (arith, rest, sum_by-cons weight (f y) (map f ys))

in_range : (start len k : ℕ) → Contains (range_with_len start len) k → (start ≤ k) × (k < start + len)
in_range start zero k (j, lt, is) = absurd (omega (arith, lt))
in_range start (suc n) k (zero, lt, is) = (omega (arith, is), omega (arith, is))
in_range start (suc n) k (suc j, lt, is) = let rest = in_range (start + 1) n k (j, omega (arith, lt), is) in (omega (arith, rest.0), omega (arith, rest.1))

-- ---- one place

module _ (a b : List (List ℕ)) (slots : List (Option ℕ)) where
  unit_same : (d u : ℕ) (found : Option ℕ) → slice_index_or slots d None ≡ found
      → ((slot : ℕ) → slice_index_or slots d None ≡ Some slot → part (disk b slot) (unit_at u) 4096 ≡ part (disk a slot) (unit_at u) 4096) → unit_bytes b found u ≡ unit_bytes a found u
  unit_same d u None is same = refl
  unit_same d u (Some slot) is same = same slot is

  module _ (ds : Devices) where
    abbrev va : View
    va = record { disks = a; slots = slots; devices = ds }

    abbrev vb : View
    vb = record { disks = b; slots = slots; devices = ds }

    places_same : (ps : List (Option Place))
        → ((d u : ℕ) → Contains ps (Some (d, u)) → (slot : ℕ) → slice_index_or slots d None ≡ Some slot → part (disk b slot) (unit_at u) 4096 ≡ part (disk a slot) (unit_at u) 4096)
        → flat_map (place_bytes vb) ps ≡ flat_map (place_bytes va) ps
    places_same [] same = refl
    places_same (None ∷ ps) same = places_same ps (λ d u has slot is. same d u (Contains-append_right (None ∷ []) ps (Some (d, u)) has) slot is)
    places_same (Some p ∷ ps) same =
        ap (λ (xs : List ℕ). xs ++ flat_map (place_bytes vb) ps) (unit_same p.0 p.1 (slice_index_or slots p.0 None) refl (λ slot is. same p.0 p.1 (0, omega arith, refl) slot is))
        ∙ ap (λ (ys : List ℕ). place_bytes va (Some p) ++ ys) (places_same ps (λ d u has slot is. same d u (Contains-append_right (Some p ∷ []) ps (Some (d, u)) has) slot is))

-- ---- what pointers lead to

itself : (d u : ℕ) → is_at (Some (d, u)) d u ≡ true
itself d u = grind (arith, nat_tests)

-- a place to which the address of a pointer leads is live
lives : (r : Root) (q : Bptr) (d u : ℕ) → 0 < hits r.live q.at → Contains (resolved_units (devices_of r.parts.devs) q.at) (Some (d, u)) → has_live r d u ≡ true
lives r q d u met has =
    let x = hits_found r.live q.at met in
    let leads : leads_to (devices_of r.parts.devs) q.at d u ≡ true = any_of (λ (p : Option Place). is_at p d u) (resolved_units (devices_of r.parts.devs) q.at) (Some (d, u)) has (itself d u) in
    any_mapped (λ (b : Bptr). b.at) (λ (at : Dva). leads_to (devices_of r.parts.devs) at d u) r.live x.0 x.1 (subst (λ (at : Dva). leads_to (devices_of r.parts.devs) at d u ≡ true) (sym x.2) leads)

some_same : (q p : Place) → Some q ≡ Some p → q ≡ p
some_same q p is = cc

chosen : (gone there : Bool) (d x : ℕ) (p : Place) → (if gone then None else (if there then Some (d, x) else None)) ≡ Some p → (p.0 ≡ d) × (p.1 ≡ x)
chosen true there d x p is = absurd (cc)
chosen false true d x p is = let e = some_same (d, x) p is in (sym (ap (λ (q : Place). q.0) e), sym (ap (λ (q : Place). q.1) e))
chosen false false d x p is = absurd (cc)

-- without mappings a unit leads to itself, if anywhere
bare_leads : (u : Uber) (hops d x : ℕ) (p : Place) → resolve hops (bare_devices u) d x ≡ Some p → (p.0 ≡ d) × (p.1 ≡ x)
bare_leads u zero d x p is = absurd (cc)
bare_leads u (suc hops) d x p is = chosen (is_gone (state_at (bare_devices u) d)) (is_there (bare_devices u) d x) d x p is

bare_places : (u : Uber) (dev : ℕ) (xs : List ℕ) (d unit : ℕ)
    → Contains (map (λ (p : Place). resolved (bare_devices u) p.0 p.1) (map (λ x. (dev, x)) xs)) (Some (d, unit)) → (d ≡ dev) × Contains xs unit
bare_places u dev [] d unit (k, lt, is) = absurd (omega (arith, lt))
bare_places u dev (x ∷ xs) d unit (zero, lt, is) = let here = bare_leads u u.count dev x (d, unit) is in (here.0, (0, omega arith, sym here.1))
bare_places u dev (x ∷ xs) d unit (suc k, lt, is) = let rest = bare_places u dev xs d unit (k, omega (arith, lt), is) in (rest.0, Contains-append_right (x ∷ []) xs unit rest.1)

in_itself : (at : Dva) (d unit : ℕ) → d ≡ at.dev → at.start ≤ unit → unit < at.start + at.len → 0 < one_if (in_address at d unit)
in_itself at d unit dev low high = grind (arith, nat_tests)

-- a place of the address of a block of metadata is one of its own
owns : (u : Uber) (meta : List Bptr) (q : Bptr) (d unit : ℕ) → 0 < hits meta q.at → Contains (resolved_units (bare_devices u) q.at) (Some (d, unit)) → 0 < address_hits (addresses meta) d unit
owns u meta q d unit met has =
    let x = hits_found meta q.at met in
    let at = bare_places u q.at.dev (range_with_len q.at.start q.at.len) d unit has in
    let bounds = in_range q.at.start q.at.len unit at.1 in
    counted (λ (b : Bptr). b.at) (λ (a : Dva). one_if (in_address a d unit)) meta x.0 x.1 (subst (λ (a : Dva). 0 < one_if (in_address a d unit)) (sym x.2) (in_itself q.at d unit at.0 bounds.0 bounds.1))

-- where the units of a root have their bytes, its pointers read the same
pub ranges_same : (a b : List (List ℕ)) (slots : List (Option ℕ)) (u : Uber) (r : Root) → IsSameIn (IsUnitOf HasOwnUnit slots r) a b → SameRoot a b slots u r
ranges_same a b slots u r same = record {
  meta = λ q met. places_same a b slots (bare_devices u) (resolved_units (bare_devices u) q.at)
      (λ d unit has slot is. same slot (unit_at unit) 4096 (record { device = d; unit = unit; has = inr (owns u r.meta q d unit met has); slot_is = is; at_is = refl; n_is = refl }));
  live = λ q met. places_same a b slots (devices_of r.parts.devs) (resolved_units (devices_of r.parts.devs) q.at)
      (λ d unit has slot is. same slot (unit_at unit) 4096 (record { device = d; unit = unit; has = inl (lives r q d unit met has); slot_is = is; at_is = refl; n_is = refl }));
}
