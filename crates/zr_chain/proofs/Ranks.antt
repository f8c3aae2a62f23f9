-- Each mapping leads to devices that are there or went later, so the devices that come after get fewer on the way.
use Rattle.std.proofs.Common.{◌≡◌, ℕ, zero, suc, ◌<◌, ◌≤◌, Bool, true, false, ◌&&◌, ◌||◌, not, ◌⊎◌, nat_lt, List, [], ◌∷◌, length, map, inl, inr, refl, ap, subst, ◌∙◌, arith, ⊎_elim}
use Rattle.std.proofs.lemmas.List.{length-map}
use Rattle.std.proofs.lemmas.Bool.{cases_lt}
use Rattle.std.proofs.lemmas.Bool.Decides.{nat_tests}
use Rattle.zr_base.specs.declared.space.DevPart.{DevPart}
use Rattle.zr_base.specs.declared.space.Entry.{Entry}
use Rattle.zr_rules.specs.Places.{one_if, count_below, is_gone, no_part, part_of}
use Rattle.zr_rules.specs.Devices.{Devices, state_at, devices_of}
use Rattle.zr_rules.specs.Resolve.{IsDestination}
use Rattle.zr_chain.specs.Chains.{DevMap, recorded, dev_at, devices_in}

-- ---- devices by their places

pub dev_past : (devs : List DevMap) (d : ℕ) → length devs ≤ d → dev_at devs d ≡ recorded no_part
dev_past [] d le = refl
dev_past (x ∷ xs) zero le = absurd (omega arith)
dev_past (x ∷ xs) (suc d) le = dev_past xs d (omega arith)

recorded_at : (parts : List DevPart) (d : ℕ) → dev_at (map recorded parts) d ≡ recorded (part_of parts d)
recorded_at [] d = refl
recorded_at (p ∷ ps) zero = refl
recorded_at (p ∷ ps) (suc d) = recorded_at ps d

-- what was recorded of the parts are the devices of the parts
pub devices_recorded : (devs : List DevMap) (parts : List DevPart) → devs ≡ map recorded parts → devices_in devs ≡ devices_of parts
devices_recorded devs parts is = ap devices_in is ∙ same parts
  where
    same : (parts : List DevPart) → devices_in (map recorded parts) ≡ devices_of parts
    same parts = λ i. record { count = length-map parts recorded i; row = λ d. (recorded_at parts d i).row; entries = λ d. (recorded_at parts d i).entries }

-- ---- counts

one_le : (a b : Bool) → (a ≡ true → b ≡ true) → one_if a ≤ one_if b
one_le false b h = omega arith
one_le true b h = rw (h refl) (omega arith)

count_le : (n : ℕ) (f g : ℕ → Bool) → ((k : ℕ) → f k ≡ true → g k ≡ true) → count_below n f ≤ count_below n g
count_le zero f g h = omega arith
count_le (suc n) f g h = omega (arith, count_le n f g h, one_le (f n) (g n) (h n))

pub count_less : (n t : ℕ) (f g : ℕ → Bool) → ((k : ℕ) → f k ≡ true → g k ≡ true) → t < n → f t ≡ false → g t ≡ true → count_below n f < count_below n g
count_less zero t f g h lt out in_it = absurd (omega arith)
count_less (suc n) t f g h lt out in_it = ⊎_elim
    (λ below. omega (arith, count_less n t f g h below out in_it, one_le (f n) (g n) (h n)))
    (λ from.
    let same : t ≡ n = omega arith in
    let f_is : one_if (f n) ≡ 0 = subst (λ (k : ℕ). one_if (f k) ≡ 0) same (ap one_if out) in
    let g_is : one_if (g n) ≡ 1 = subst (λ (k : ℕ). one_if (g k) ≡ 1) same (ap one_if in_it) in
    omega (arith, count_le n f g h))
    (cases_lt t n)

count_all : (n : ℕ) → count_below n (λ k. true) ≡ n
count_all zero = refl
count_all (suc n) = omega (arith, count_all n)

-- ---- ranks

-- the device is gone, and the other one is there or went later
abbrev pub comes_after : Devices → ℕ → ℕ → Bool
comes_after ds d to = is_gone (state_at ds d) && (not (is_gone (state_at ds to)) || nat_lt (ds.row d).gone (ds.row to).gone)

-- how many devices come after it
abbrev pub later_count : Devices → ℕ → ℕ
later_count ds d = count_below ds.count (comes_after ds d)

after_twice : (x y z : Bool) (a b c : ℕ) → (x && (not y || nat_lt a b)) ≡ true → (y && (not z || nat_lt b c)) ≡ true → (x && (not z || nat_lt a c)) ≡ true
after_twice false y z a b c h k = absurd (cc)
after_twice true false z a b c h k = absurd (cc)
after_twice true true false a b c h k = refl
after_twice true true true a b c h k = grind (arith, nat_tests)

not_after_itself : (x : Bool) (a : ℕ) → (x && (not x || nat_lt a a)) ≡ false
not_after_itself false a = refl
not_after_itself true a = grind (arith, nat_tests)

pub fewer_after : (ds : Devices) (d t : ℕ) → t < ds.count → comes_after ds d t ≡ true → later_count ds t < later_count ds d
fewer_after ds d t known after =
    count_less ds.count t (comes_after ds t) (comes_after ds d)
    (λ k next. after_twice (is_gone (state_at ds d)) (is_gone (state_at ds t)) (is_gone (state_at ds k)) (ds.row d).gone (ds.row t).gone (ds.row k).gone after next)
    known (not_after_itself (is_gone (state_at ds t)) (ds.row t).gone) after

pub few_after : (ds : Devices) (d : ℕ) → d < ds.count → later_count ds d < ds.count
few_after ds d known =
    let most = count_less ds.count d (comes_after ds d) (λ k. true) (λ k _. refl) known (not_after_itself (is_gone (state_at ds d)) (ds.row d).gone) refl in
    omega (arith, most, count_all ds.count)

-- a destination of a device that is gone comes after it
pub destination_after : (ds : Devices) (d : ℕ) (e : Entry) → is_gone (state_at ds d) ≡ true → IsDestination ds d e → comes_after ds d e.dev ≡ true
destination_after ds d e gone to = after (is_gone (state_at ds d)) (is_gone (state_at ds e.dev)) (ds.row d).gone (ds.row e.dev).gone gone to.later
  where
    after : (x y : Bool) (a b : ℕ) → x ≡ true → (y ≡ false) ⊎ ((x ≡ true) × (a < b)) → (x && (not y || nat_lt a b)) ≡ true
    after false y a b h later = absurd (cc)
    after true false a b h later = refl
    after true true a b h (inl there) = absurd (cc)
    after true true a b h (inr later) = let lt : a < b = later.1 in grind (arith, nat_tests)
