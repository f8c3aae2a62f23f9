-- Blocks whose addresses have each unit of the current root's metadata just once are all that a store of metadata holds.
use Rattle.std.proofs.Common.{◌≡◌, ◌⊎◌, inl, inr, ℕ, ◌+◌, ◌-◌, ◌<◌, ◌≤◌, Bool, true, false, List, [], ◌∷◌, Option, None, refl, sym, ◌∙◌, ap, arith}
use Rattle.std.specs.Prelude.{All, nat_lt, if◌then◌else◌}
use Rattle.std.specs.List.{sum_by}
use Rattle.std.proofs.lemmas.Bool.Decides.{nat_tests}
use Rattle.std.proofs.lemmas.List.Sums.{sum_by-cons}
use Rattle.std.proofs.lemmas.List.Elements.{All-cons, All-head, All-nil, All-tail}
use Rattle.zr_base.specs.declared.space.Dva.{Dva}
use Rattle.zr_bptr.specs.declared.Bptr.{Bptr}
use Rattle.zr_cache.specs.declared.table.Cache.{Cache}
use Rattle.zr_reckon.proofs.Bits.{is_current_meta}
use Rattle.zr_reckon.proofs.RoleSets.{meta_is}
use Rattle.zr_rules.specs.Equation.{devices_in, live_hits}
use Rattle.zr_rules.specs.Places.{address_hits, in_address, one_if}
use Rattle.zr_rules.specs.Resolve.{resolve_hits}
use Rattle.zr_rules.specs.Roles.{Role}
use Rattle.zr_rules.specs.Roles.Role.{Meta as OfMeta}
use Rattle.zr_rules.specs.Space.{Space, IsLawful, has_place, role_at}
use Rattle.zr_space.specs.Drops.{IsMeta}
use Rattle.zr_vdev.proofs.Leading.{leads_some, own_hits, own_leads}
use Rattle.zr_vdev.proofs.Moves.{bytes_now, holds_all}
use Rattle.zr_vdev.proofs.Uses.{meta_stays, use_resolves}
use Rattle.zr_vdev.specs.Caches.{AreRead}
use Rattle.zr_vdev.specs.Stores.{HoldsBlocks, IsStoredAt, LeadsToMeta, addresses_of, is_current}
use Rattle.zr_vdev.specs.declared.kind.Kind.TheVariants.{Meta}

cases_bool : (b : Bool) → (b ≡ true) ⊎ (b ≡ false)
cases_bool true = inl refl
cases_bool false = inr refl

-- the block has a unit
abbrev pub HasUnits : Bptr → Type 0
HasUnits b = 0 < b.at.len

current_is : (r : Role) → is_current_meta r ≡ true → r ≡ OfMeta
current_is r is = grind (arith, nat_tests, is)

same_test : (r : Role) → is_current_meta r ≡ is_current r
same_test r = grind (arith, nat_tests)

some_units : (n : ℕ) → nat_lt 0 n ≡ true → 0 < n
some_units n is = grind (arith, nat_tests, is)

one_most : (b : Bool) → one_if b ≤ 1
one_most true = omega arith
one_most false = omega arith

module _ (s : Space) (lawful : IsLawful s) where
  placed : (d u : ℕ) → 0 < address_hits s.meta d u → has_place s d u ≡ true
  placed d u some = let o = lawful.once d u in by (has_place s d u) (omega (arith, o, some))
    where
      by : (b : Bool) → 0 < one_if b → b ≡ true
      by true is = refl
      by false is = absurd (omega (arith, is))

  meta_here : (d u : ℕ) → 0 < address_hits s.meta d u → role_at s d u ≡ OfMeta
  meta_here d u some =
      let counted : nat_lt 0 (address_hits s.meta d u) ≡ true = grind (arith, nat_tests, some) in
      current_is (role_at s d u) (sym (meta_is s d u lawful) ∙ counted)

  one_meta : (a : Dva) → 0 < a.len → ((u : ℕ) → in_address a a.dev u ≡ true → 0 < address_hits s.meta a.dev u) → IsMeta s a
  one_meta a some hit =
      let first = placed a.dev a.start (hit a.start (grind (arith, nat_tests, some))) in
      let last = placed a.dev (a.start + (a.len - 1)) (hit (a.start + (a.len - 1)) (grind (arith, nat_tests, some))) in
      record {
        known = grind (arith, nat_tests, first);
        some = some;
        within = grind (arith, nat_tests, last, some);
        used = inl (λ u is. meta_here a.dev u (hit u is));
      }

  abbrev There : Bptr → Type 0
  There b = IsStoredAt Meta s None b.at

  all_meta : (ps : List Bptr) → ((d u : ℕ) → address_hits (addresses_of ps) d u ≤ address_hits s.meta d u) → All HasUnits ps → All There ps
  all_meta [] most long = All-nil There
  all_meta (p ∷ ps) most long =
      let sum = λ (d u : ℕ). sum_by-cons (λ (a : Dva). one_if (in_address a d u)) p.at (addresses_of ps) in
      All-cons There p ps
      (record {
        used = one_meta p.at (All-head HasUnits p ps long) (λ u is. let one = ap one_if is in let m = most p.at.dev u in let e = sum p.at.dev u in omega (arith, one, m, e));
        whole = tt;
      })
      (all_meta ps (λ d u. let m = most d u in let e = sum d u in omega (arith, m, e)) (All-tail HasUnits p ps long))

  led_most : (ps : List Bptr) → All There ps → (d u : ℕ) → live_hits (devices_in s) (addresses_of ps) d u ≤ address_hits (addresses_of ps) d u
  led_most [] all d u = omega arith
  led_most (p ∷ ps) all d u =
      let own = own_hits (devices_in s) p.at (meta_stays s p.at (All-head There p ps all).used) d u in
      let rest = led_most ps (All-tail There p ps all) d u in
      let led = sum_by-cons (λ (a : Dva). resolve_hits (devices_in s) a d u) p.at (addresses_of ps) in
      let hit = sum_by-cons (λ (a : Dva). one_if (in_address a d u)) p.at (addresses_of ps) in
      omega (arith, own, rest, led, hit)

  -- a unit of an address is one to which it leads
  led_least : (ps : List Bptr) → All There ps → (d u : ℕ) → 0 < address_hits (addresses_of ps) d u → 0 < live_hits (devices_in s) (addresses_of ps) d u
  led_least [] all d u some = absurd (omega (arith, some))
  led_least (p ∷ ps) all d u some =
      let used = (All-head There p ps all).used in
      let led = sum_by-cons (λ (a : Dva). resolve_hits (devices_in s) a d u) p.at (addresses_of ps) in
      let hit = sum_by-cons (λ (a : Dva). one_if (in_address a d u)) p.at (addresses_of ps) in
      elim (cases_bool (in_address p.at d u)) [
        | inl is ↦
            let more = leads_some (devices_in s) p.at d u (own_leads (devices_in s) p.at (meta_stays s p.at used) (use_resolves Meta s p.at used) d u is) in
            omega (arith, more, led)
        | inr out ↦
            let none = ap one_if out in
            let rest = led_least ps (All-tail There p ps all) d u (omega (arith, some, none, hit)) in
            omega (arith, rest, led)
      ]

  module _ (ps : List Bptr) (same : (d u : ℕ) → address_hits (addresses_of ps) d u ≡ address_hits s.meta d u) (long : All HasUnits ps) where
    pub all_there : All There ps
    all_there = all_meta ps (λ d u. let e = same d u in omega (arith, e)) long

    pub led_once : (d u : ℕ) → live_hits (devices_in s) (addresses_of ps) d u ≤ 1
    led_once d u =
        let most = led_most ps all_there d u in
        let e = same d u in
        let o = lawful.once d u in
        let p = one_most (has_place s d u) in
        omega (arith, most, e, o, p)

    pub lead_to_meta : LeadsToMeta s (addresses_of ps)
    lead_to_meta = record {
      used = λ d u is.
          let counted = some_units (address_hits s.meta d u) (meta_is s d u lawful ∙ (same_test (role_at s d u) ∙ is)) in
          let e = same d u in
          led_least ps all_there d u (omega (arith, counted, e));
      current = λ d u some.
          let most = led_most ps all_there d u in
          let e = same d u in
          ap is_current (meta_here d u (omega (arith, some, most, e)));
    }

-- ---- all metadata of a space, by made-up pointers

abbrev some_block : Dva → Bptr
some_block a = record { at = a; level = 0; birth = 0; fill = 0; sum = [] }

-- a pointer to each address of metadata that has a unit
abbrev pub blocks_at : List Dva → List Bptr
blocks_at [] = []
blocks_at (a ∷ more) = if nat_lt 0 a.len then some_block a ∷ blocks_at more else blocks_at more

none_in : (a : Dva) (d u : ℕ) → nat_lt 0 a.len ≡ false → in_address a d u ≡ false
none_in a d u none = grind (arith, nat_tests, none)

if_yes : {A : Type 0} (b : Bool) (x y : A) → b ≡ true → (if b then x else y) ≡ x
if_yes true x y h = refl
if_yes false x y h = cc

if_no : {A : Type 0} (b : Bool) (x y : A) → b ≡ false → (if b then x else y) ≡ y
if_no true x y h = cc
if_no false x y h = refl

same_hits : (list : List Dva) (d u : ℕ) → address_hits (addresses_of (blocks_at list)) d u ≡ address_hits list d u
same_hits [] d u = refl
same_hits (a ∷ more) d u =
    let rest = same_hits more d u in
    let hit = sum_by-cons (λ (x : Dva). one_if (in_address x d u)) a more in
    elim (cases_bool (nat_lt 0 a.len)) [
      | inl some ↦
          let is = ap (λ (ps : List Bptr). address_hits (addresses_of ps) d u) (if_yes (nat_lt 0 a.len) (some_block a ∷ blocks_at more) (blocks_at more) some) in
          let first = sum_by-cons (λ (x : Dva). one_if (in_address x d u)) a (addresses_of (blocks_at more)) in
          omega (arith, rest, hit, is, first)
      | inr none ↦
          let is = ap (λ (ps : List Bptr). address_hits (addresses_of ps) d u) (if_no (nat_lt 0 a.len) (some_block a ∷ blocks_at more) (blocks_at more) none) in
          let out = ap one_if (none_in a d u none) in
          omega (arith, rest, hit, is, out)
    ]

all_long : (list : List Dva) → All HasUnits (blocks_at list)
all_long [] = All-nil HasUnits
all_long (a ∷ more) = (elim (nat_lt 0 a.len) as (λ (b : Bool). nat_lt 0 a.len ≡ b → All HasUnits (if b then some_block a ∷ blocks_at more else blocks_at more)) [
  | true ↦ λ is. All-cons HasUnits (some_block a) (blocks_at more) (some_units a.len is) (all_long more)
  | false ↦ λ is. all_long more
]) refl

-- a store of metadata that holds all that there is, to begin with
pub all_held : (slots : List (Option ℕ)) (tells : Type 0) (disks : List (List ℕ)) (space : Space) (cache : Cache) → IsLawful space → tells → AreRead disks slots space cache
    → HoldsBlocks Meta slots tells disks space None cache (record { pointers = blocks_at space.meta; bytes = bytes_now Meta slots disks space None })
all_held slots tells disks space cache lawful told read =
    let ps = blocks_at space.meta in
    let same = λ (d u : ℕ). same_hits space.meta d u in
    let long = all_long space.meta in
    holds_all Meta slots tells disks space None cache ps told read refl (all_there space lawful ps same long) (led_once space lawful ps same long) (lead_to_meta space lawful ps same long) tt
