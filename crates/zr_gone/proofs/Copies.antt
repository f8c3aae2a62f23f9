-- What a unit in use of a device that is leaving has, once all is copied: a copy of its own, which is no unit in use.
use Rattle.std.proofs.Common.{◌≡◌, inl, inr, ℕ, zero, suc, ◌+◌, ◌-◌, ◌<◌, ◌≤◌, ◌==◌, ◌||◌, not, Bool, true, false, nat_lt, nat_le, List, [], ◌∷◌, Option, Some, None, refl, sym, ◌∙◌, ap, arith}
use Rattle.std.specs.Prelude.{if◌then◌else◌}
use Rattle.std.specs.List.{sum_by}
use Rattle.std.proofs.lemmas.List.Sums.{sum_by-cons}
use Rattle.std.proofs.lemmas.Bool.Decides.{nat_tests}
use Rattle.zr_base.specs.Extents.{has_unit}
use Rattle.zr_base.specs.declared.space.DevPart.{DevPart}
use Rattle.zr_base.specs.declared.space.Entry.{Entry}
use Rattle.zr_chain.proofs.Ways.{cases_bool}
use Rattle.zr_rules.specs.Mappings.{has_source, in_source, target}
use Rattle.zr_rules.specs.Places.{Place, address_hits, is_fresh, is_held, is_kept, is_leaving, one_if, part_of, state_of_dev, units_of_dev}
use Rattle.zr_rules.specs.Roles.{is_copy_role, is_live_role}
use Rattle.zr_rules.specs.Roles.Role.{Absent, Free, FreshLive, Live, FreshCopy, Copy, Kept, DeferredBlock, DeferredMeta, Late1Block, Late1Meta, Late2Block, Late2Meta, Meta, SavedMeta}
use Rattle.zr_rules.specs.Space.{IsLawful, Space, copy_hits, frontier, has_late, has_place, is_born, is_copy_by, opened_of, role_at}
use Rattle.zr_space.specs.Plans.{IsCopied}
use Rattle.zr_gone.specs.Order.{AreInOrder}
use Rattle.zr_gone.proofs.Going.{false_true}

-- ---- roles

live_only : (p h k c b x1 x2 x3 x4 x5 x6 x7 x8 : Bool)
    → is_live_role (if not p then Absent else (if h then (if k then Kept else (if c then (if b then FreshCopy else Copy) else (if b then FreshLive else Live)))
    else (if x1 then DeferredBlock else (if x2 then DeferredMeta else (if x3 then Late1Block else (if x4 then Late1Meta else (if x5 then Late2Block else (if x6 then Late2Meta else (if x7 then Meta else (if x8 then SavedMeta else Free)))))))))) ≡ true
    → (h ≡ true) × (c ≡ false)
live_only false h k c b x1 x2 x3 x4 x5 x6 x7 x8 is = absurd (false_true is)
live_only true true true c b x1 x2 x3 x4 x5 x6 x7 x8 is = absurd (false_true is)
live_only true true false true true x1 x2 x3 x4 x5 x6 x7 x8 is = absurd (false_true is)
live_only true true false true false x1 x2 x3 x4 x5 x6 x7 x8 is = absurd (false_true is)
live_only true true false false b x1 x2 x3 x4 x5 x6 x7 x8 is = (refl, refl)
live_only true false k c b true x2 x3 x4 x5 x6 x7 x8 is = absurd (false_true is)
live_only true false k c b false true x3 x4 x5 x6 x7 x8 is = absurd (false_true is)
live_only true false k c b false false true x4 x5 x6 x7 x8 is = absurd (false_true is)
live_only true false k c b false false false true x5 x6 x7 x8 is = absurd (false_true is)
live_only true false k c b false false false false true x6 x7 x8 is = absurd (false_true is)
live_only true false k c b false false false false false true x7 x8 is = absurd (false_true is)
live_only true false k c b false false false false false false true x8 is = absurd (false_true is)
live_only true false k c b false false false false false false false true is = absurd (false_true is)
live_only true false k c b false false false false false false false false is = absurd (false_true is)

-- a unit in use is held, and no copy
live_held : (s : Space) (d u : ℕ) → is_live_role (role_at s d u) ≡ true → (is_held s.parts.devs d u ≡ true) × (nat_lt 0 (copy_hits s.parts.devs d u) ≡ false)
unfolding role_at
live_held s d u is =
    live_only (has_place s d u) (is_held s.parts.devs d u) (is_kept s.parts.devs d u) (nat_lt 0 (copy_hits s.parts.devs d u)) (is_born s d u) (has_unit (opened_of s d).deferred u) (has_unit (opened_of s d).dropped u)
    (has_late false (part_of s.parts.devs d).late1 u) (has_late true (part_of s.parts.devs d).late1 u) (has_late false (part_of s.parts.devs d).late2 u) (has_late true (part_of s.parts.devs d).late2 u)
    (nat_lt 0 (address_hits s.meta d u)) (nat_lt 0 (address_hits s.saved_meta d u)) is

-- and lies within its device
held_within : (s : Space) → IsLawful s → (d u : ℕ) → is_held s.parts.devs d u ≡ true → u < units_of_dev s.parts.devs d
held_within s l d u held = let o = l.once d u in grind (arith, nat_tests, o, held)

copy_role : (b : Bool) → is_copy_role (if b then FreshCopy else Copy) ≡ true
copy_role true = refl
copy_role false = refl

-- what an entry has put somewhere is a copy
is_copy : (s : Space) → IsLawful s → (e u : ℕ) → 0 < copy_hits s.parts.devs e u → is_copy_role (role_at s e u) ≡ true
unfolding role_at
is_copy s l e u some =
    let c = l.copies e u in
    let o = l.once e u in
    let held : is_held s.parts.devs e u ≡ true = grind (arith, nat_tests, c, some) in
    let none : is_kept s.parts.devs e u ≡ false = grind (arith, nat_tests, c, some) in
    let there : has_place s e u ≡ true = grind (arith, nat_tests, o, held) in
    let hit : nat_lt 0 (copy_hits s.parts.devs e u) ≡ true = grind (arith, nat_tests, some) in
    rw there rw held rw none rw hit (copy_role (is_born s e u))

-- ---- the copies of an entry

-- how many of the entries have put an unmarked unit there
abbrev pub copies_by : DevPart → ℕ → ℕ → List Entry → ℕ
copies_by p x y es = sum_by (λ (e : Entry). one_if (is_copy_by p x y e)) es

-- a device that is leaving has no more copies than all
hits_least : (parts : List DevPart) (d x y : ℕ) → is_leaving (state_of_dev parts d) ≡ true → copies_by (part_of parts d) x y (part_of parts d).entries ≤ copy_hits parts x y
hits_least [] zero x y is = absurd (false_true is)
hits_least [] (suc d) x y is = absurd (false_true is)
hits_least (p ∷ ps) zero x y is =
    let sum = sum_by-cons (λ (q : DevPart). if is_leaving q.row.state then copies_by q x y q.entries else 0) p ps in
    let own : (if is_leaving p.row.state then copies_by p x y p.entries else 0) ≡ copies_by p x y p.entries = rw is refl in
    omega (arith, sum, own)
hits_least (p ∷ ps) (suc d) x y is =
    let sum = sum_by-cons (λ (q : DevPart). if is_leaving q.row.state then copies_by q x y q.entries else 0) p ps in
    let rest = hits_least ps d x y is in
    omega (arith, sum, rest)

-- the first unmarked unit that was put there
abbrev pub first_source : DevPart → List Entry → ℕ → ℕ → Option ℕ
first_source p [] x y = None
first_source p (e ∷ es) x y = if is_copy_by p x y e then Some (e.src + (y - e.dst)) else first_source p es x y

target_first : (e : Entry) (es : List Entry) (w : ℕ) (q : Place) → in_source e w ≡ true → target (e ∷ es) w ≡ Some q → (e.dev ≡ q.0) × (e.dst + (w - e.src) ≡ q.1)
target_first e es w q got is =
    let step : (if in_source e w then Some (e.dev, e.dst + (w - e.src)) else target es w) ≡ Some (e.dev, e.dst + (w - e.src)) = rw got refl in
    let same : Some (e.dev, e.dst + (w - e.src)) ≡ Some q = sym step ∙ is in
    let device : e.dev ≡ q.0 = cc in
    let place : e.dst + (w - e.src) ≡ q.1 = cc in
    (device, place)

target_rest : (e : Entry) (es : List Entry) (w : ℕ) (o : Option Place) → in_source e w ≡ false → target (e ∷ es) w ≡ o → target es w ≡ o
target_rest e es w o not_it is =
    let step : (if in_source e w then Some (e.dev, e.dst + (w - e.src)) else target es w) ≡ target es w = rw not_it refl in
    sym step ∙ is

source_back : (e : Entry) (w y : ℕ) → in_source e w ≡ true → e.dst + (w - e.src) ≡ y → e.src + (y - e.dst) ≡ w
source_back e w y got place = grind (arith, nat_tests, got, place)

copies_it : (p : DevPart) (e : Entry) (w : ℕ) (q : Place) → in_source e w ≡ true → e.dev ≡ q.0 → e.dst + (w - e.src) ≡ q.1 → has_unit p.fresh w ≡ false → is_copy_by p q.0 q.1 e ≡ true
copies_it p e w q got device place unmarked =
    let back = source_back e w q.1 got place in
    let mark : has_unit p.fresh (e.src + (q.1 - e.dst)) ≡ false = ap (has_unit p.fresh) back ∙ unmarked in
    let low : nat_le e.dst q.1 ≡ true = grind (arith, nat_tests, place) in
    let high : nat_lt q.1 (e.dst + e.len) ≡ true = grind (arith, nat_tests, got, place) in
    let dev : (e.dev == q.0) ≡ true = grind (arith, nat_tests, device) in
    rw dev rw low rw high rw mark refl

target_hit : (p : DevPart) (es : List Entry) (w : ℕ) (q : Place) → target es w ≡ Some q → has_unit p.fresh w ≡ false → 0 < copies_by p q.0 q.1 es
target_hit p [] w q is unmarked = absurd (cc)
target_hit p (e ∷ es) w q is unmarked =
    let sum = sum_by-cons (λ (x : Entry). one_if (is_copy_by p q.0 q.1 x)) e es in
    elim (cases_bool (in_source e w)) [
      | inl got ↦
          let at = target_first e es w q got is in
          let one = ap one_if (copies_it p e w q got at.0 at.1 unmarked) in
          omega (arith, sum, one)
      | inr not_it ↦ let rest = target_hit p es w q (target_rest e es w (Some q) not_it is) unmarked in omega (arith, sum, rest)
    ]

-- where an unmarked unit of a device that is leaving was put there is its copy
pub target_copy : (s : Space) → IsLawful s → (d w : ℕ) (q : Place) → is_leaving (state_of_dev s.parts.devs d) ≡ true → is_fresh s.parts.devs d w ≡ false → target (part_of s.parts.devs d).entries w ≡ Some q → is_copy_role (role_at s q.0 q.1) ≡ true
target_copy s l d w q leaving unmarked to =
    let hit = target_hit (part_of s.parts.devs d) (part_of s.parts.devs d).entries w q to unmarked in
    let few = hits_least s.parts.devs d q.0 q.1 leaving in
    is_copy s l q.0 q.1 (omega (arith, hit, few))

one_none : (b : Bool) → one_if b ≡ 0 → b ≡ false
one_none true is = absurd (omega (arith, is))
one_none false is = refl

-- where one unit alone was put it is the first
first_is : (p : DevPart) (es : List Entry) (w : ℕ) (q : Place) → target es w ≡ Some q → has_unit p.fresh w ≡ false → copies_by p q.0 q.1 es ≤ 1 → first_source p es q.0 q.1 ≡ Some w
first_is p [] w q is unmarked one = absurd (cc)
first_is p (e ∷ es) w q is unmarked one =
    let sum = sum_by-cons (λ (x : Entry). one_if (is_copy_by p q.0 q.1 x)) e es in
    elim (cases_bool (in_source e w)) [
      | inl got ↦
          let at = target_first e es w q got is in
          let mine = copies_it p e w q got at.0 at.1 unmarked in
          ap (λ (b : Bool). if b then Some (e.src + (q.1 - e.dst)) else first_source p es q.0 q.1) mine ∙ ap (λ (n : ℕ). Some n) (source_back e w q.1 got at.1)
      | inr not_it ↦
          let behind = target_rest e es w (Some q) not_it is in
          let hit = target_hit p es w q behind unmarked in
          let none = one_none (is_copy_by p q.0 q.1 e) (omega (arith, sum, hit, one)) in
          ap (λ (b : Bool). if b then Some (e.src + (q.1 - e.dst)) else first_source p es q.0 q.1) none ∙ first_is p es w q behind unmarked (omega (arith, sum, one))
    ]

first_none : (p : DevPart) (es : List Entry) (x y : ℕ) → copies_by p x y es ≡ 0 → first_source p es x y ≡ None
first_none p [] x y none = refl
first_none p (e ∷ es) x y none =
    let sum = sum_by-cons (λ (z : Entry). one_if (is_copy_by p x y z)) e es in
    let not_it = one_none (is_copy_by p x y e) (omega (arith, sum, none)) in
    ap (λ (b : Bool). if b then Some (e.src + (y - e.dst)) else first_source p es x y) not_it ∙ first_none p es x y (omega (arith, sum, none))

source_target : (es : List Entry) (u : ℕ) → has_source es u ≡ true → (q : Place) × (target es u ≡ Some q)
source_target [] u is = absurd (false_true is)
source_target (e ∷ es) u is = elim (cases_bool (in_source e u)) [
  | inl got ↦ ((e.dev, e.dst + (u - e.src)), rw got refl)
  | inr not_it ↦
      let rest = source_target es u (sym (ap (λ (b : Bool). b || has_source es u) not_it) ∙ is) in
      (rest.0, ap (λ (b : Bool). if b then Some (e.dev, e.dst + (u - e.src)) else target es u) not_it ∙ rest.1)
]

-- ---- a unit in use

-- the place has the copy of the unit, and of no other
pub record IsCopiedTo (s : Space) (d w : ℕ) (q : Place) : Type 0 where
  pub to : target (part_of s.parts.devs d).entries w ≡ Some q
  pub within : w < units_of_dev s.parts.devs d
  pub unmarked : is_fresh s.parts.devs d w ≡ false
  pub copy : is_copy_role (role_at s q.0 q.1) ≡ true
  pub source : first_source (part_of s.parts.devs d) (part_of s.parts.devs d).entries q.0 q.1 ≡ Some w

module _ (s : Space) (d : ℕ) (order : AreInOrder s d) (all : IsCopied s) where
  abbrev mine : DevPart
  mine = part_of s.parts.devs d

  below : (w : ℕ) → is_held s.parts.devs d w ≡ true → w < frontier s d
  below w held =
      let none = all d w in
      let leaves = order.leaving in
      grind (arith, nat_tests, none, leaves, held)

  pub copied_to : (w : ℕ) → is_live_role (role_at s d w) ≡ true → (q : Place) × IsCopiedTo s d w q
  copied_to w live =
      let held = (live_held s d w live).0 in
      let low = below w held in
      let to = source_target mine.entries w (order.copied w held low) in
      let q = to.0 in
      let unmarked = order.unmarked w held low in
      let hit = target_hit mine mine.entries w q to.1 unmarked in
      let few = hits_least s.parts.devs d q.0 q.1 order.leaving in
      let most = order.lawful.copies q.0 q.1 in
      let one : one_if (is_held s.parts.devs q.0 q.1) ≤ 1 = one_most (is_held s.parts.devs q.0 q.1) in (
        q,
        record {
          to = to.1;
          within = held_within s order.lawful d w held;
          unmarked = unmarked;
          copy = is_copy s order.lawful q.0 q.1 (omega (arith, hit, few));
          source = first_is mine mine.entries w q to.1 unmarked (omega (arith, few, most, one));
        },
      )
    where
      one_most : (b : Bool) → one_if b ≤ 1
      one_most true = omega arith
      one_most false = omega arith

  -- a unit in use is no copy
  pub no_source : (x y : ℕ) → is_live_role (role_at s x y) ≡ true → first_source mine mine.entries x y ≡ None
  no_source x y live =
      let none = (live_held s x y live).1 in
      let few = hits_least s.parts.devs d x y order.leaving in
      first_none mine mine.entries x y (grind (arith, nat_tests, none, few))
